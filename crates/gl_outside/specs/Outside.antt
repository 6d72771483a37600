-- What is said of the world outside: words, bytes that may be told, and counts of faults.
use Rattle.std.specs.Prelude.{◌≡◌, ℕ, ◌-◌, ◌^◌, ◌<◌, ◌≤◌, ◌⊎◌, List, ◌++◌, length, take}
use Rattle.std.specs.Prelude.{Option, Some, None, map, String, string_bytes}

-- the bytes of each word
abbrev pub texts_of : {Z : Type 0} → List (String Z) → List (List ℕ)
texts_of words = map string_bytes words

-- the value at which a count of faults stays
abbrev pub last_count : ℕ
last_count = 2 ^ 64 - 1

-- A count of faults rose in a call. At its last value a count can rise no more, and counts as risen.
abbrev pub HasRisen : ℕ → ℕ → Type 0
HasRisen before after = (before < after) ⊎ (last_count ≤ after)

-- what was written before and after these bytes were appended, where it is told
abbrev pub Appends : Option (List ℕ) → List ℕ → Option (List ℕ) → Type 0
Appends (Some old) bytes new = new ≡ Some (old ++ bytes)
Appends None bytes new = new ≡ None

-- some front of these bytes was appended
abbrev pub AppendsFront : Option (List ℕ) → List ℕ → Option (List ℕ) → Type 0
AppendsFront old bytes new = (n : ℕ) × (n ≤ length bytes) × Appends old (take n bytes) new

-- A text was put, and the answer is the usual one: or some front of it was, a fault came, and the answer is the other.
abbrev pub Puts : {A : Type 0} → Option (List ℕ) → List ℕ → Option (List ℕ) → ℕ → ℕ → A → A → A → Type 0
Puts old text new before after usual failed answer =
    ((answer ≡ usual) × Appends old text new × (after ≡ before))
    ⊎ ((answer ≡ failed) × AppendsFront old text new × HasRisen before after)
