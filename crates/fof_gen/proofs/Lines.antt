-- The text of a problem, line by line.
use Rattle.std.proofs.Common.{◌≡◌, ℕ, suc, ◌+◌, List, [], ◌∷◌, ◌++◌, ap, sym, ◌∙◌, append-nil, append_assoc, arith}
use Rattle.std.specs.Prelude.{codes, decimal}
use Rattle.std.proofs.lemmas.Grind.{flat_map-append}
use Rattle.fof_gen.specs.Generated.{first_line, rule_line, rule_lines, last_line, text_of_lines, problem_text}

-- the text of the first lines
abbrev pub begun : ℕ → List ℕ
begun i = text_of_lines (first_line ∷ rule_lines i)

one_line : (lines : List (List ℕ)) (line : List ℕ) → text_of_lines lines ++ (line ++ 10 ∷ []) ≡ text_of_lines (lines ++ line ∷ [])
one_line lines line =
    ap (λ x. text_of_lines lines ++ x) (sym (append-nil (line ++ 10 ∷ []))) ∙ sym (flat_map-append (λ l. l ++ 10 ∷ []) lines (line ∷ []))

after_one : (i : ℕ) → suc i ≡ i + 1
after_one i = omega arith

pub one_more : (i : ℕ) → begun i ++ (rule_line i ++ 10 ∷ []) ≡ begun (i + 1)
one_more i = one_line (first_line ∷ rule_lines i) (rule_line i) ∙ ap begun (after_one i)

pub ended : (n : ℕ) → begun n ++ (last_line n ++ 10 ∷ []) ≡ problem_text n
ended n = one_line (first_line ∷ rule_lines n) (last_line n)

-- what is appended piece by piece
pub last_put : (n : ℕ) (old mid new : List ℕ) → mid ≡ old ++ (codes "fof(g,conjecture,p" ++ decimal n) → new ≡ mid ++ codes "(a)).\n"
    → new ≡ old ++ (last_line n ++ 10 ∷ [])
last_put n old mid new e f =
    f ∙ ap (λ x. x ++ codes "(a)).\n") e ∙ append_assoc old (codes "fof(g,conjecture,p" ++ decimal n) (codes "(a)).\n")
    ∙ ap (λ x. old ++ (codes "fof(g,conjecture,p" ++ x)) (sym (append_assoc (decimal n) (codes "(a)).") (10 ∷ [])))

glued : (old x y z : List ℕ) → (old ++ x) ++ (y ++ z) ≡ old ++ ((x ++ y) ++ z)
glued old x y z = append_assoc old x (y ++ z) ∙ ap (λ w. old ++ w) (sym (append_assoc x y z))

pub rule_put : (i : ℕ) (old one two three new : List ℕ) → one ≡ old ++ (codes "fof(r" ++ decimal i) → two ≡ one ++ (codes ",axiom,![X]:(p" ++ decimal i)
    → three ≡ two ++ (codes "(X)=>p" ++ decimal (i + 1)) → new ≡ three ++ codes "(X))).\n" → new ≡ old ++ (rule_line i ++ 10 ∷ [])
rule_put i old one two three new e f g h =
    let x : List ℕ = codes "fof(r" ++ decimal i in
    let y : List ℕ = (x ++ codes ",axiom,![X]:(p") ++ decimal i in
    let z : List ℕ = (y ++ codes "(X)=>p") ++ decimal (i + 1) in
    let second : two ≡ old ++ y = f ∙ ap (λ w. w ++ (codes ",axiom,![X]:(p" ++ decimal i)) e ∙ glued old x (codes ",axiom,![X]:(p") (decimal i) in
    let third : three ≡ old ++ z = g ∙ ap (λ w. w ++ (codes "(X)=>p" ++ decimal (i + 1))) second ∙ glued old y (codes "(X)=>p") (decimal (i + 1)) in
    h ∙ ap (λ w. w ++ codes "(X))).\n") third ∙ glued old z (codes "(X))).") (10 ∷ [])
