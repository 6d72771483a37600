-- The translation computed on worked examples.
use Rattle.std.specs.Fmt.{digits}
use Rattle.std.proofs.Common.{◌≡◌, ℕ, List, [], ◌∷◌, map, length, refl, Some, None, true, false}
use Rattle.fol_core.specs.Syntax as plain
use Rattle.fol_core.specs.Syntax.{PlainTerms, PlainFormula, atom, not, and, or, imp, iff, all, ex}
use Rattle.gs3_rules.specs.Rules as gs3
use Rattle.gs3_rules.specs.Refutes.{preorder}
use Rattle.free_terms.specs.Free.{Name, metavar, skolem, app, no_terms, terms, fill_all, lift}
use Rattle.unify.specs.Offers.{Offer}
use Rattle.rewrite_rules.specs.Rewriting.{Rewriting}
use Rattle.branch_rules.specs.Branch.{Branch, root, expand, rewrite, skolemize, instantiate, go_left, go_right, entries, after}
use Rattle.tab_tree.specs.Items.{pair}
use Rattle.tab_tree.specs.Segments.{Segment}
use Rattle.tab_tree.specs.ClosedTree.{closed, forked}
use Rattle.translation.specs.StepTree.{StepTree, closes, goes_on, forks, step_tree}
use Rattle.translation.specs.Translation.{proof_below, skolems, run_of}
use Rattle.translation.specs.Measures.{text_length, nesting_of}

abbrev x1 : Name
x1 = record { segment = 1; count = 1 }

abbrev x2 : Name
x2 = record { segment = 1; count = 2 }

abbrev var : PlainTerms
var = plain.terms (plain.bound 0) plain.no_terms

abbrev const : ℕ → PlainTerms
const n = plain.terms (plain.app n plain.no_terms) plain.no_terms

abbrev begin : List PlainFormula → Branch
begin fs = root (map lift fs) []

abbrev rules_of : Offer → Branch → StepTree → List gs3.Rule
rules_of s b c = preorder (proof_below s (skolems c) b (run_of 0 (length (entries b))) (length (entries b)) c)

-- ![X]:(~p(X)|~q(X)), p(a), p(b), q(b), at depth 1: one offer closes both sides
abbrev one_offer : Branch
one_offer = begin (all (or (not (atom 0 var)) (not (atom 1 var))) ∷ atom 0 (const 0) ∷ atom 0 (const 1) ∷ atom 1 (const 1) ∷ [])

abbrev b_for_x : Offer
b_for_x = record { name = x1; term = app 1 no_terms } ∷ []

one_offer_proof : rules_of b_for_x one_offer (goes_on (instantiate 0 x1) (forks 4 (closes (pair 2 5)) (closes (pair 3 5))))
    ≡ gs3.gamma 0 (plain.app 1 plain.no_terms) ∷ gs3.beta 4 ∷ gs3.close 2 5 ∷ gs3.close 3 5 ∷ []
one_offer_proof = refl

-- ~?[X]:(d(X)=>![Y]:d(Y)), at depth 2
abbrev drinker : Branch
drinker = begin (not (ex (imp (atom 0 var) (all (atom 0 var)))) ∷ [])

abbrev drinker_offer : Offer
drinker_offer = record { name = x2; term = skolem x1 (terms (metavar x1) no_terms) } ∷ []

abbrev drinker_tree : StepTree
drinker_tree =
    goes_on (instantiate 0 x1) (goes_on (expand 1) (goes_on (skolemize 3 x1) (goes_on (instantiate 0 x2) (goes_on (expand 5) (closes (pair 6 4))))))

drinker_proof : rules_of drinker_offer drinker drinker_tree
    ≡ gs3.gamma 0 (plain.param 0) ∷ gs3.alpha 1 ∷ gs3.delta 3 1 ∷ gs3.gamma 0 (plain.param 1) ∷ gs3.alpha 5 ∷ gs3.close 6 4 ∷ []
drinker_proof = refl

drinker_bytes : text_length [] (rules_of drinker_offer drinker drinker_tree) ≡ 65
unfolding digits
drinker_bytes = refl

drinker_nesting : nesting_of (rules_of drinker_offer drinker drinker_tree) ≡ 1
drinker_nesting = refl

-- ![X]:(s(X)<=>(p(X)&q(X))), p(a), q(a), ~s(a), at depth 1, with rewriting
abbrev defined : Branch
defined = begin (all (iff (atom 0 var) (and (atom 1 var) (atom 2 var))) ∷ atom 1 (const 0) ∷ atom 2 (const 0) ∷ not (atom 0 (const 0)) ∷ [])

abbrev by_equivalence : Rewriting
by_equivalence = record {
  axiom_place = 0;
  head_left = true;
  fills = Some (app 0 no_terms) ∷ [];
  result = not (fill_all (Some (app 0 no_terms) ∷ []) (lift (and (atom 1 var) (atom 2 var))));
}

defined_proof : rules_of [] defined (goes_on (rewrite 3 by_equivalence) (forks 4 (closes (pair 1 5)) (closes (pair 2 5))))
    ≡ gs3.gamma 0 (plain.app 0 plain.no_terms) ∷ gs3.beta 4 ∷ gs3.close 5 3 ∷ gs3.beta 6 ∷ gs3.close 1 7 ∷ gs3.close 2 7 ∷ []
defined_proof = refl

-- the same without rewriting: the equivalence's instance is split on the branch
abbrev split_tree : StepTree
split_tree = goes_on (instantiate 0 x1) (forks 4 (closes (pair 5 3)) (forks 6 (closes (pair 1 7)) (closes (pair 2 7))))

abbrev a_for_x : Offer
a_for_x = record { name = x1; term = app 0 no_terms } ∷ []

split_proof : rules_of a_for_x defined split_tree
    ≡ gs3.gamma 0 (plain.app 0 plain.no_terms) ∷ gs3.beta 4 ∷ gs3.close 5 3 ∷ gs3.beta 6 ∷ gs3.close 1 7 ∷ gs3.close 2 7 ∷ []
split_proof = refl

-- (p&q)<=>r, r, ~q, at depth 1: the rule's atom is the right side, and what is rewritten is positive
abbrev reversed : Branch
reversed = begin (iff (and (atom 0 plain.no_terms) (atom 1 plain.no_terms)) (atom 2 plain.no_terms) ∷ atom 2 plain.no_terms ∷ not (atom 1 plain.no_terms) ∷ [])

abbrev by_right_side : Rewriting
by_right_side = record {
  axiom_place = 0;
  head_left = false;
  fills = [];
  result = fill_all [] (lift (and (atom 0 plain.no_terms) (atom 1 plain.no_terms)));
}

reversed_proof : rules_of [] reversed (goes_on (rewrite 1 by_right_side) (goes_on (expand 3) (closes (pair 5 2))))
    ≡ gs3.beta 0 ∷ gs3.alpha 3 ∷ gs3.close 6 2 ∷ gs3.close 1 4 ∷ []
reversed_proof = refl

-- the segments of the first tableau, which splits
abbrev one_offer_above : Segment
one_offer_above =
    record { name = 1; from = 0; branch = after one_offer (instantiate 0 x1); steps = instantiate 0 x1 ∷ []; splits_at = Some 4 }

abbrev one_offer_left : Segment
one_offer_left =
    record { name = 2; from = 5; branch = after (after one_offer (instantiate 0 x1)) (go_left 4); steps = []; splits_at = None }

abbrev one_offer_right : Segment
one_offer_right =
    record { name = 3; from = 5; branch = after (after one_offer (instantiate 0 x1)) (go_right 4); steps = []; splits_at = None }

one_offer_unfolded : step_tree one_offer (forked one_offer_above (closed one_offer_left (pair 2 5)) (closed one_offer_right (pair 3 5)))
    ≡ goes_on (instantiate 0 x1) (forks 4 (closes (pair 2 5)) (closes (pair 3 5)))
one_offer_unfolded = refl

-- the one segment of the second tableau, in which a step comes after the item is there
abbrev drinker_segment : Segment
drinker_segment = record {
  name = 1;
  from = 0;
  branch = drinker;
  steps = instantiate 0 x1 ∷ expand 1 ∷ skolemize 3 x1 ∷ instantiate 0 x2 ∷ expand 5 ∷ skolemize 7 x2 ∷ [];
  splits_at = None;
}

drinker_unfolded : step_tree drinker (closed drinker_segment (pair 6 4)) ≡ drinker_tree
drinker_unfolded = refl
