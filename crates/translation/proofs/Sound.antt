-- The laws of translations, for a problem.
use Rattle.std.proofs.Common.{◌<◌, ◌≤◌, ◌^◌, List, [], ◌∷◌, ◌++◌, map, length, Option, Some, None, option_to_list, IfSome, sym, subst, arith, ◌≡◌, ℕ, refl}
use Rattle.std.specs.List.{AllByRecursion}
use Rattle.std.proofs.lemmas.List.Elements.{recursion_from_All}
use Rattle.fol_core.specs.Syntax as syntax
use Rattle.fol_core.specs.Syntax.{PlainFormula}
use Rattle.fol_core.specs.Symbol.{SymbolTable}
use Rattle.fof_parse.specs.Problem.{PlainProblem, Start}
use Rattle.fof_parse.specs.Kept.{IsKept}
use Rattle.fof_parse.specs.WellFormed.{IsClosedOver}
use Rattle.gs3_rules.specs.Rules.{Rule}
use Rattle.gs3_rules.specs.Refutes.{preorder, RefutedBy}
use Rattle.gs3_text.specs.ProofText.{IsSpellableTerm}
use Rattle.unify.specs.Offers.{Offer}
use Rattle.rewrite_rules.specs.Rules.{RewriteRule}
use Rattle.tab_tree.specs.ClosedTree.{ClosedTree}
use Rattle.branch_rules.specs.Branch.{entries}
use Rattle.translation.specs.StepTree.{step_tree}
use Rattle.translation.specs.Translation.{skolems, run_of, proof_of}
use Rattle.translation.specs.Laws.{beginning, IsTranslation, IsClosedRound, translation, IsSound, IsTextual}
use Rattle.translation.proofs.Counted.{few_steps}
use Rattle.translation.proofs.FewParameters.{few_symbols}
use Rattle.translation.proofs.Refuted.{AreClosedOver, translation_refutes, translation_spellable}

both_closed : (table : SymbolTable) (xs ys : List PlainFormula) → AreClosedOver table xs → AreClosedOver table ys → AreClosedOver table (xs ++ ys)
both_closed table [] ys h k = k
both_closed table (x ∷ xs) ys h k = (h.0, both_closed table xs ys h.1 k)

negated_closed : (table : SymbolTable) (o : Option PlainFormula) → IfSome o (IsClosedOver table) → AreClosedOver table (map syntax.not (option_to_list o))
negated_closed table None h = tt
negated_closed table (Some a) h = (h, tt)

start_closed : (problem : PlainProblem) → IsKept problem → AreClosedOver problem.symbols (Start problem)
start_closed problem kept =
    both_closed problem.symbols problem.axioms (map syntax.not (option_to_list problem.conjecture))
    (recursion_from_All (IsClosedOver problem.symbols) problem.axioms kept.axioms) (negated_closed problem.symbols problem.conjecture kept.conjecture)

pub of_closed_round : (problem : PlainProblem) (rules : List RewriteRule) (depth : ℕ) (s : Offer) (c : ClosedTree) → IsClosedRound problem rules depth s c
    → IsTranslation problem rules depth s (translation problem rules s c)
of_closed_round problem rules depth s c h = record {
  on = h.on;
  of_problem = h.of_problem;
  tableau = h.tableau;
  is_tableau = h.is_tableau;
  offer = h.offer;
  of_round = h.of_round;
  is_translation = (c, h.closed, refl);
}

pub is_sound : IsSound
is_sound problem rules depth s found kept h =
    translation_refutes problem.symbols problem.axioms (map syntax.not (option_to_list problem.conjecture)) h.on rules depth h.tableau s found
    (start_closed problem kept) h.of_problem h.is_tableau h.offer h.of_round h.is_translation

pub is_textual : IsTextual
is_textual problem rules depth s found kept h small le =
    let b = beginning problem rules in
    let c = h.is_translation.0 in
    let steps = step_tree b c in
    let same = h.is_translation.2 in
    let short = subst (λ m. m.bytes < 2 ^ 64) same small in
    let shallow = subst (λ m. m.nesting ≤ 4096) same le in
    let few = few_symbols s (skolems steps) steps b (run_of 0 (length (entries b))) (length (entries b)) in
    let fits = few_steps problem.symbols.functions (preorder (proof_of s b c)) in
    subst (λ m. AllByRecursion (IsSpellableTerm problem.symbols.functions) (preorder m.tree)) (sym same)
    (translation_spellable problem.symbols problem.axioms (map syntax.not (option_to_list problem.conjecture)) h.on rules depth h.tableau s c
    (start_closed problem kept) h.of_problem h.is_tableau h.offer h.of_round h.is_translation.1 (omega (arith, few, fits, short)) shallow)

-- What the translation answers with its steps: they refute the start list and have a text.
pub steps_refute : (problem : PlainProblem) (rules : List RewriteRule) (depth : ℕ) (s : Offer) (c : ClosedTree) (steps : List Rule) → IsKept problem → IsClosedRound problem rules depth s c
    → steps ≡ preorder (translation problem rules s c).tree → RefutedBy (Start problem) steps
steps_refute problem rules depth s c steps kept h e =
    let found = translation problem rules s c in
    (found.tree, sym e, is_sound problem rules depth s found kept (of_closed_round problem rules depth s c h))

pub steps_spell : (problem : PlainProblem) (rules : List RewriteRule) (depth : ℕ) (s : Offer) (c : ClosedTree) (steps : List Rule) → IsKept problem → IsClosedRound problem rules depth s c
    → steps ≡ preorder (translation problem rules s c).tree → (translation problem rules s c).bytes < 2 ^ 64 → (translation problem rules s c).nesting ≤ 4096
    → AllByRecursion (IsSpellableTerm problem.symbols.functions) steps
steps_spell problem rules depth s c steps kept h e small le =
    subst (AllByRecursion (IsSpellableTerm problem.symbols.functions)) (sym e)
    (is_textual problem rules depth s (translation problem rules s c) kept (of_closed_round problem rules depth s c h) small le)
