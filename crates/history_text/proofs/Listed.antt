-- A list of offers, the first of which is written apart.
use Rattle.std.proofs.Common.{◌≡◌, ℕ, ◌≤◌, List, [], ◌∷◌, ◌++◌, ◌-◌, take, drop, length, length-drop, get_or, ap, ◌∙◌, append_assoc, arith}
use Rattle.std.specs.Prelude.{codes}
use Rattle.std.proofs.lemmas.List.{take_all}
use Rattle.std.specs.List.{join_by, flat_map}
use Rattle.history_text.specs.Words.{offers_text}

abbrev pub more_text : {X : Type 0} → (X → List ℕ) → List X → List ℕ
more_text text offers = flat_map (λ s. codes "," ++ text s) offers

joined : {X : Type 0} (text : X → List ℕ) (offers : List X) (first : X) → 1 ≤ length offers → first ≡ get_or offers 0 first
    → text first ++ more_text text (drop 1 offers) ≡ join_by text (codes ",") offers
joined text [] first some is = absurd (omega arith)
joined text (x ∷ xs) first some is = ap (λ s. text s ++ more_text text xs) is

-- all but the first, as a slice pattern takes them
rest : {X : Type 0} (offers : List X) → take (length offers - 1) (drop 1 offers) ≡ drop 1 offers
rest offers = take_all (length offers - 1) (drop 1 offers) (omega (arith, length-drop 1 offers))

regroup : (old x y z w : List ℕ) → ((old ++ (x ++ y)) ++ z) ++ w ≡ old ++ ((x ++ (y ++ z)) ++ w)
regroup old x y z w = simp append_assoc

pub listed : {X : Type 0} (text : X → List ℕ) (offers : List X) (first : X) (old one two new : List ℕ) → 1 ≤ length offers → first ≡ get_or offers 0 first
    → one ≡ old ++ (codes "[" ++ text first) → two ≡ one ++ more_text text (take (length offers - 1) (drop 1 offers)) → new ≡ two ++ codes "]" → new ≡ old ++ offers_text text offers
listed text offers first old one two new some is a b c =
    c ∙ ap (λ w. w ++ codes "]") (b ∙ ap (λ w. one ++ more_text text w) (rest offers) ∙ ap (λ w. w ++ more_text text (drop 1 offers)) a)
    ∙ regroup old (codes "[") (text first) (more_text text (drop 1 offers)) (codes "]")
    ∙ ap (λ w. old ++ ((codes "[" ++ w) ++ codes "]")) (joined text offers first some is)
