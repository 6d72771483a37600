-- That the translation of a closed tree is a proof.
use Rattle.std.specs.Prelude.{◌≡◌, ℕ, ◌<◌, ◌≤◌, ◌^◌, Bool, List, map}
use Rattle.std.specs.List.{AllByRecursion}
use Rattle.fof_parse.specs.Problem.{PlainProblem, Start}
use Rattle.fof_parse.specs.Kept.{IsKept}
use Rattle.gs3_rules.specs.Refutes.{Refutes, preorder}
use Rattle.gs3_text.specs.ProofText.{IsSpellableTerm}
use Rattle.free_terms.specs.Free.{lift}
use Rattle.unify.specs.Offers.{Offer, IsOffer}
use Rattle.rewrite_rules.specs.Rules.{RewriteRule, RulesOf}
use Rattle.branch_rules.specs.Branch.{Branch, root}
use Rattle.tab_tree.specs.Tableau.{Tableau, IsTableau, AllClosed}
use Rattle.tab_tree.specs.Segments.{all_segments}
use Rattle.tab_tree.specs.ClosedTree.{ClosedTree, IsClosedTree}
use Rattle.tab_tree.specs.Round.{IsOfRound}
use Rattle.translation.specs.Translation.{proof_of}
use Rattle.translation.specs.Measures.{MeasuredProof, measured_proof, Translates}

-- the branch with which the tableau of a problem begins
abbrev pub beginning : PlainProblem → List RewriteRule → Branch
beginning problem rules = root (map lift (Start problem)) rules

-- A problem's tableau of some depth, with an offer of the round and the translation of the offer's closed tree.
pub record IsTranslation (problem : PlainProblem) (rules : List RewriteRule) (depth : ℕ) (s : Offer)
    (found : MeasuredProof) : Type 0 where
  pub on : Bool
  pub of_problem : RulesOf on problem.axioms rules
  pub tableau : Tableau
  pub is_tableau : IsTableau depth (beginning problem rules) tableau
  pub offer : IsOffer s
  pub of_round : IsOfRound problem.symbols.functions (beginning problem rules) tableau s
  pub is_translation : Translates problem.symbols.functions s (beginning problem rules) tableau found

-- A problem's tableau of some depth, with the closed tree in it of an offer of the round.
pub record IsClosedRound (problem : PlainProblem) (rules : List RewriteRule) (depth : ℕ) (s : Offer)
    (c : ClosedTree) : Type 0 where
  pub on : Bool
  pub of_problem : RulesOf on problem.axioms rules
  pub tableau : Tableau
  pub is_tableau : IsTableau depth (beginning problem rules) tableau
  pub offer : IsOffer s
  pub of_round : IsOfRound problem.symbols.functions (beginning problem rules) tableau s
  pub closed : IsClosedTree s (all_segments (beginning problem rules) tableau) c

-- the translation of a closed tree of the problem's tableau, with its length and its nesting
abbrev pub translation : PlainProblem → List RewriteRule → Offer → ClosedTree → MeasuredProof
translation problem rules s c = measured_proof problem.symbols.functions (proof_of s (beginning problem rules) c)

-- It refutes the start list.
abbrev pub IsSound : Type 0
IsSound = (problem : PlainProblem) (rules : List RewriteRule) (depth : ℕ) (s : Offer) (found : MeasuredProof)
    → IsKept problem → IsTranslation problem rules depth s found → Refutes (Start problem) found.tree

-- A translation of fewer than 2 ^ 64 bytes whose terms nest no deeper than a text allows can be spelled.
abbrev pub IsTextual : Type 0
IsTextual = (problem : PlainProblem) (rules : List RewriteRule) (depth : ℕ) (s : Offer) (found : MeasuredProof)
    → IsKept problem → IsTranslation problem rules depth s found → found.bytes < 2 ^ 64 → found.nesting ≤ 4096
    → AllByRecursion (IsSpellableTerm problem.symbols.functions) (preorder found.tree)

-- Each offer that closes a problem's tableau has a translation there, and has one alone.
abbrev pub HaveTranslations : Type 0
HaveTranslations = (problem : PlainProblem) (rules : List RewriteRule) (depth : ℕ) (t : Tableau) (s : Offer)
    → IsTableau depth (beginning problem rules) t → AllClosed s (beginning problem rules) t
    → (found : MeasuredProof) × Translates problem.symbols.functions s (beginning problem rules) t found
    × ((other : MeasuredProof) → Translates problem.symbols.functions s (beginning problem rules) t other
    → other ≡ found)
