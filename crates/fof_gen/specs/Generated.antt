-- The problems of the bench.
use Rattle.std.specs.Prelude.{ℕ, zero, suc, ◌+◌, List, [], ◌∷◌, ◌++◌, codes, decimal}
use Rattle.std.specs.List.{flat_map}

-- a constant has the first property
abbrev pub first_line : List ℕ
first_line = codes "fof(s,axiom,p0(a))."

-- what has the one property has the next one
abbrev pub rule_line : ℕ → List ℕ
rule_line i =
    codes "fof(r" ++ decimal i ++ codes ",axiom,![X]:(p" ++ decimal i ++ codes "(X)=>p" ++ decimal (i + 1)
    ++ codes "(X)))."

abbrev pub rule_lines : ℕ → List (List ℕ)
rule_lines zero = []
rule_lines (suc i) = rule_lines i ++ rule_line i ∷ []

-- so the constant has the last property
abbrev pub last_line : ℕ → List ℕ
last_line n = codes "fof(g,conjecture,p" ++ decimal n ++ codes "(a))."

abbrev pub problem_lines : ℕ → List (List ℕ)
problem_lines n = (first_line ∷ rule_lines n) ++ last_line n ∷ []

-- each line ends with a line feed
abbrev pub text_of_lines : List (List ℕ) → List ℕ
text_of_lines lines = flat_map (λ line. line ++ 10 ∷ []) lines

-- the text of problem n
abbrev pub problem_text : ℕ → List ℕ
problem_text n = text_of_lines (problem_lines n)
