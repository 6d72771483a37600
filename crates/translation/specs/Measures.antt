-- A closed tableau's proof with the length of its text and the depth of its terms, by which it is refused.
use Rattle.std.specs.Prelude.{◌≡◌, ℕ, max, List, [], ◌∷◌, length}
use Rattle.fol_core.specs.Symbol.{Symbol}
use Rattle.fol_core.specs.Spelling.{depth}
use Rattle.gs3_rules.specs.Rules.{Rule, close, false_at, not_true, alpha, beta, delta, gamma}
use Rattle.gs3_rules.specs.Refutes.{ProofTree, preorder}
use Rattle.gs3_text.specs.ProofText.{proof_lines, text_of}
use Rattle.unify.specs.Offers.{Offer}
use Rattle.branch_rules.specs.Branch.{Branch}
use Rattle.tab_tree.specs.Tableau.{Tableau}
use Rattle.tab_tree.specs.Segments.{all_segments}
use Rattle.tab_tree.specs.ClosedTree.{ClosedTree, IsClosedTree}
use Rattle.translation.specs.Translation.{proof_of}

-- how deep the term of a step nests: a parameter nests 1 deep, and a step without a term 0
abbrev pub term_depth : Rule → ℕ
term_depth (close i j) = 0
term_depth (false_at i) = 0
term_depth (not_true i) = 0
term_depth (alpha i) = 0
term_depth (beta i) = 0
term_depth (delta i n) = 1
term_depth (gamma i t) = depth t

-- the greatest nesting of a term in the steps
abbrev pub nesting_of : List Rule → ℕ
nesting_of [] = 0
nesting_of (rule ∷ rules) = max (term_depth rule) (nesting_of rules)

-- how many bytes the text of the steps has, from its heading on
abbrev pub text_length : List Symbol → List Rule → ℕ
text_length functions rules = length (text_of (proof_lines functions rules))

-- A proof with the number of bytes of its text and the greatest nesting of its terms.
pub record MeasuredProof : Type 0 where
  pub tree : ProofTree
  pub bytes : ℕ
  pub nesting : ℕ

abbrev pub measured_proof : List Symbol → ProofTree → MeasuredProof
measured_proof functions tree =
    record { tree = tree; bytes = text_length functions (preorder tree); nesting = nesting_of (preorder tree) }

-- The translation of the closed tree that the offer has in the tableau below the branch.
abbrev pub Translates : List Symbol → Offer → Branch → Tableau → MeasuredProof → Type 0
Translates functions s b t found =
    (c : ClosedTree) × IsClosedTree s (all_segments b t) c × (found ≡ measured_proof functions (proof_of s b c))
