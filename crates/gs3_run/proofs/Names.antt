-- Two words as the names of a problem and of a proof.
use Rattle.std.proofs.Common.{◌≡◌, ℕ, List, [], ◌∷◌, ◌∙◌, sym}
use Rattle.gs3_run.specs.Run.{AreNoNames, standard_input}

first_same : (a b c d : List ℕ) → a ∷ b ∷ [] ≡ c ∷ d ∷ [] → a ≡ c
first_same a b c d e = cc

second_same : (a b c d : List ℕ) → a ∷ b ∷ [] ≡ c ∷ d ∷ [] → b ≡ d
second_same a b c d e = cc

-- the standard input can't be both
pub not_twice : (words : List (List ℕ)) (a b : List ℕ) → words ≡ a ∷ b ∷ [] → a ≡ standard_input → b ≡ standard_input → AreNoNames words
not_twice words a b pair first second problem proof names =
    names.not_both (first_same problem proof a b (sym names.two ∙ pair) ∙ first) (second_same problem proof a b (sym names.two ∙ pair) ∙ second)
