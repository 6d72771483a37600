-- How a refusal is told.
use Rattle.std.specs.Prelude.{◌≡◌, ◌⊎◌, ℕ, List, [], ◌∷◌, ◌++◌, codes, decimal}
use Rattle.fof_parse.specs.declared.refusal.BadKind.{BadKind}
use Rattle.fof_parse.specs.declared.refusal.BadKind.TheVariants.{Include, Language, TooDeep, Syntax, Equality, Number}
use Rattle.fof_parse.specs.declared.refusal.BadKind.TheVariants.{Distinct, Dollar, Role, FreeVariable, SecondConjecture}
use Rattle.fof_parse.specs.TheProblem.{IsNoText, IsBadText}

abbrev pub kind_word : BadKind → List ℕ
kind_word Include = codes "Include"
kind_word Language = codes "Language"
kind_word TooDeep = codes "TooDeep"
kind_word Syntax = codes "Syntax"
kind_word Equality = codes "Equality"
kind_word Number = codes "Number"
kind_word Distinct = codes "Distinct"
kind_word Dollar = codes "Dollar"
kind_word Role = codes "Role"
kind_word FreeVariable = codes "FreeVariable"
kind_word SecondConjecture = codes "SecondConjecture"

-- the line, with its line feed
abbrev pub refusal_line : List ℕ → ℕ → List ℕ
refusal_line word offset = codes "% refused " ++ word ++ codes " at " ++ decimal offset ++ 10 ∷ []

-- the line tells why and where the text is refused
abbrev pub IsRefusal : List ℕ → List ℕ → Type 0
IsRefusal bytes line =
    ((offset : ℕ) × IsNoText bytes offset × (line ≡ refusal_line (codes "Lex") offset))
    ⊎ ((offset : ℕ) × (kind : BadKind) × IsBadText bytes offset kind × (line ≡ refusal_line (kind_word kind) offset))
