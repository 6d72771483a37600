-- The list of a segment, and how its occurrences are found from the newest one back.
use Rattle.std.specs.Prelude.{◌≡◌, ℕ, zero, suc, Bool, true, false, List, [], ◌∷◌, Option, Some, None}
use Rattle.std.specs.Prelude.{take, map, reverse, slice_get}
use Rattle.std.specs.declared.hash.FoldHasher.{FoldHasher}
use Rattle.std.specs.declared.hash.BuildHasherDefault.{BuildHasherDefault}
use Rattle.std.specs.HashMap.{get, HashMap}
use Rattle.lit_index.specs.Occurrences.{Occurrence, occurrence, is_literal, places_of}
use Rattle.lit_index.specs.declared.segment.Held.{Held}
use Rattle.lit_index.specs.declared.segment.Literal.{Literal}

abbrev pub occurrence_of : Held → Occurrence
occurrence_of h = occurrence h.place h.literal.negated h.literal.predicate

abbrev pub own_of : List Held → List Occurrence
own_of hs = map occurrence_of hs

abbrev pub last_or : Option ℕ → Bool → Option ℕ
last_or (Some i) here = Some (suc i)
last_or None true = Some zero
last_or None false = None

-- where in the list the last occurrence stands that passes a test
abbrev pub last_at : (Occurrence → Bool) → List Occurrence → Option ℕ
last_at test [] = None
last_at test (o ∷ os) = last_or (last_at test os) (test o)

abbrev pub test_of : Literal → Occurrence → Bool
test_of x = is_literal x.negated x.predicate

-- the places of a literal, the newest first
abbrev pub places_back : Literal → List Occurrence → List ℕ
places_back x os = reverse (places_of x.negated x.predicate os)

-- each occurrence leads to the last one before it of the same literal
abbrev pub AreLinked : List Held → Type 0
AreLinked hs =
    (i : ℕ) (h : Held) → slice_get hs i ≡ Some h → h.earlier ≡ last_at (test_of h.literal) (take i (own_of hs))

abbrev pub Newest : Type 0
Newest = HashMap Literal ℕ (BuildHasherDefault FoldHasher)

abbrev pub is_same : Literal → Literal → Bool
is_same x y = test_of y (occurrence zero x.negated x.predicate)

-- the map has the last occurrence of each literal
abbrev pub AreNewest : List Occurrence → Newest → Type 0
AreNewest os newest = (x : Literal) → get is_same newest x ≡ last_at (test_of x) os
