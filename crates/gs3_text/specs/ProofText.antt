-- The text of a GS3 proof over the function symbols of a problem.
use Rattle.std.specs.Prelude.{◌≡◌, ◌⊎◌, ℕ, suc, ◌<◌, ◌≤◌, ◌^◌, Bool, true, false, ◌||◌, eqb, if◌then◌else◌}
use Rattle.std.specs.Prelude.{codes, decimal, List, [], ◌∷◌, ◌++◌, map, length, take, drop}
use Rattle.std.specs.List.{AllByRecursion, filter, flat_map}
use Rattle.fol_core.specs.Symbol.{Symbol}
use Rattle.fol_core.specs.Spelling.{spelled, spelled_param, IsOver, depth}
use Rattle.gs3_rules.specs.Rules.{Rule, close, false_at, not_true, alpha, beta, delta, gamma}
use Rattle.gs3_rules.specs.Refutes.{ProofTree, preorder, HasShape}

-- A step's line: the step's name, its places from 0, and the parameter or the term, one blank between the parts.
abbrev pub line_of : List Symbol → Rule → List ℕ
line_of functions (close i j) = codes "close " ++ decimal i ++ codes " " ++ decimal j
line_of functions (false_at i) = codes "false " ++ decimal i
line_of functions (not_true i) = codes "nottrue " ++ decimal i
line_of functions (alpha i) = codes "alpha " ++ decimal i
line_of functions (beta i) = codes "beta " ++ decimal i
line_of functions (delta i n) = codes "delta " ++ decimal i ++ codes " " ++ spelled_param n
line_of functions (gamma i t) = codes "gamma " ++ decimal i ++ codes " " ++ spelled functions t

abbrev pub heading : List ℕ
heading = codes "gs3 1"

-- the lines of a proof: the heading, and a line for each step in preorder
abbrev pub proof_lines : List Symbol → List Rule → List (List ℕ)
proof_lines functions rules = heading ∷ map (line_of functions) rules

-- A text can spell a closed term of the function symbols that nests at most 4,096 deep.
abbrev pub IsSpellableTerm : List Symbol → Rule → Type 0
IsSpellableTerm functions (gamma i t) = IsOver functions t × (depth t ≤ 4096)
IsSpellableTerm functions (close i j) = Unit {0}
IsSpellableTerm functions (false_at i) = Unit {0}
IsSpellableTerm functions (not_true i) = Unit {0}
IsSpellableTerm functions (alpha i) = Unit {0}
IsSpellableTerm functions (beta i) = Unit {0}
IsSpellableTerm functions (delta i n) = Unit {0}

abbrev pub IsPlace : ℕ → Type 0
IsPlace i = i < 2 ^ 32

-- a text has places below 2 ^ 32 and parameters below 2 ^ 64
abbrev pub HasSmallNumbers : Rule → Type 0
HasSmallNumbers (close i j) = IsPlace i × IsPlace j
HasSmallNumbers (false_at i) = IsPlace i
HasSmallNumbers (not_true i) = IsPlace i
HasSmallNumbers (alpha i) = IsPlace i
HasSmallNumbers (beta i) = IsPlace i
HasSmallNumbers (delta i n) = IsPlace i × (n < 2 ^ 64)
HasSmallNumbers (gamma i t) = IsPlace i

-- a text can spell the step
abbrev pub IsSpellable : List Symbol → Rule → Type 0
IsSpellable functions rule = HasSmallNumbers rule × IsSpellableTerm functions rule

abbrev pub has_feed : List ℕ → Bool
has_feed [] = false
has_feed (c ∷ cs) = eqb c 10 || has_feed cs

-- a line holds no line feed
abbrev pub IsLine : List ℕ → Type 0
IsLine line = has_feed line ≡ false

-- each line ended by a line feed
abbrev pub text_of : List (List ℕ) → List ℕ
text_of lines = flat_map (λ line. line ++ 10 ∷ []) lines

-- A line that begins with `%` says nothing.
abbrev pub says : List ℕ → Bool
says [] = true
says (c ∷ cs) = if eqb c 37 then false else true

-- The lines are those of the tree, with any lines that begin with `%` before, between and after them.
pub record AreLinesOf (functions : List Symbol) (lines : List (List ℕ)) (tree : ProofTree) : Type 0 where
  pub whole : AllByRecursion IsLine lines
  pub said : filter says lines ≡ proof_lines functions (preorder tree)
  pub shaped : HasShape tree
  pub spellable : AllByRecursion (IsSpellable functions) (preorder tree)

-- The bytes are a text of the tree.
pub record ProofText (functions : List Symbol) (bytes : List ℕ) (tree : ProofTree) : Type 0 where
  pub lines : List (List ℕ)
  pub text : bytes ≡ text_of lines
  pub of_tree : AreLinesOf functions lines tree

-- The numbers of the lines that do not begin with `%`, where the first of the lines has this number.
abbrev pub numbers_from : ℕ → List (List ℕ) → List ℕ
numbers_from n [] = []
numbers_from n (line ∷ lines) = if says line then n ∷ numbers_from (suc n) lines else numbers_from (suc n) lines

-- The number of each step's line, the lines counted from 1: the first line that says something is the heading.
abbrev pub step_lines : List (List ℕ) → List ℕ
step_lines lines = drop 1 (numbers_from 1 lines)

-- Some proof's text begins with these lines.
abbrev pub CanGoOn : List Symbol → List (List ℕ) → Type 0
CanGoOn functions lines = (more : List (List ℕ)) × (tree : ProofTree) × AreLinesOf functions (lines ++ more) tree

-- The number of the first line that cannot go on, the lines counted from 1. Bytes after the last line feed are
-- such a line, and where the text ends before the proof is whole it is the line after the last.
pub record IsMalformedAt (functions : List Symbol) (bytes : List ℕ) (line : ℕ) : Type 0 where
  pub lines : List (List ℕ)
  pub rest : List ℕ
  pub text : bytes ≡ text_of lines ++ rest
  pub whole : AllByRecursion IsLine lines
  pub rest_is_line : IsLine rest
  -- the lines before go on
  pub good : ℕ
  pub at : line ≡ suc good
  pub within : good ≤ length lines
  pub goes_on : CanGoOn functions (take good lines)
  -- this one does not
  pub stops : good < length lines → CanGoOn functions (take (suc good) lines) → ⊥
  pub ends : good ≡ length lines → (0 < length rest) ⊎ ((tree : ProofTree) → AreLinesOf functions lines tree → ⊥)

-- The bytes are a text of the proof tree with these steps, and of no other tree; each step stands in the line with its
-- number.
pub record IsReading (functions : List Symbol) (bytes : List ℕ) (steps : List Rule) (numbers : List ℕ) : Type 0 where
  pub tree : ProofTree
  pub text : ProofText functions bytes tree
  pub only : (other : ProofTree) → ProofText functions bytes other → other ≡ tree
  pub are : preorder tree ≡ steps
  pub stand : numbers ≡ step_lines text.lines
