-- Numbers as they are written.
use Rattle.std.specs.Prelude.{◌≡◌, ◌≤◌, ◌==◌, ℕ, Bool, false, [], ◌∷◌, Option, Some, None}
use Rattle.std.specs.Str.Parse.{IsNumeral, digits_value}
use Rattle.goeland_words.specs.Table.{Text}

-- a zero before other digits
abbrev pub leads_with_zero : Text → Bool
leads_with_zero [] = false
leads_with_zero (c ∷ []) = false
leads_with_zero (c ∷ d ∷ ds) = c == 48

-- decimal digits, at least one, with no sign and no leading zero
abbrev pub IsNumber : Text → ℕ → Type 0
IsNumber text n = IsNumeral 10 text × (leads_with_zero text ≡ false) × (n ≡ digits_value 10 text)

-- and from the least to the most
abbrev pub IsNumberIn : ℕ → ℕ → Text → ℕ → Type 0
IsNumberIn least most text n = IsNumber text n × (least ≤ n) × (n ≤ most)

-- where it may be left out
abbrev pub IsNumberOr : ℕ → ℕ → ℕ → Option Text → ℕ → Type 0
IsNumberOr default least most None n = n ≡ default
IsNumberOr default least most (Some text) n = IsNumberIn least most text n
