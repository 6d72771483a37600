-- Worked examples, computed.
use Rattle.std.proofs.Common.{◌≡◌, ℕ, Bool, true, false, List, [], ◌∷◌, Some, None, refl, sym, subst, inl, if◌then◌else◌}
use Rattle.std.specs.Prelude.{map}
use Rattle.std.specs.List.{IsDistinct}
use Rattle.fol_core.specs.Syntax as plain
use Rattle.fol_core.specs.Syntax.{PlainTerms, PlainFormula, atom, not, or, all}
use Rattle.free_terms.specs.Free.{Name, metavar, app, no_terms, terms, lift}
use Rattle.unify.specs.Offers.{Offer, IsOffer, Chain, link, links, OccursIn, same_name}
use Rattle.branch_rules.specs.Branch.{Branch, instantiate, root}
use Rattle.tab_tree.specs.Tableau.{leaf, step, split}
use Rattle.tab_tree.specs.Segments.{Segments, all_segments}
use Rattle.tab_tree.specs.declared.words.OpenAnswer.TheVariants as answer
use Rattle.open_walk.specs.Walk.{open_leaf, other, stops, is_open, goes_on, IsWalkAnswer}
use Rattle.unify.proofs.Extend.{no_bindings}

abbrev begin : List PlainFormula → Branch
begin fs = root (map lift fs) []

-- no formula at all: the root is an open leaf
nothing : IsWalkAnswer (all_segments (begin []) leaf) (answer.Branch 1)
nothing = (open_leaf 1 ∷ [], is_open _ (λ u. u.2), refl)

-- p | q and ~p: the left part is closed, the right one is open
abbrev choice : Segments
choice = all_segments (begin (or (atom 0 plain.no_terms) (atom 1 plain.no_terms) ∷ not (atom 0 plain.no_terms) ∷ [])) (split 0 leaf leaf)

right_is_open : IsWalkAnswer choice (answer.Branch 3)
right_is_open = (
  other 1 ∷ other 2 ∷ open_leaf 3 ∷ [],
  goes_on _ _ _ (other 2 ∷ []) (open_leaf 3 ∷ []) (λ u. u.2) (stops _ ([], no_bindings, inl (0, no_terms, no_terms, refl, refl, refl))) (is_open _ (λ u. u.2)),
  refl,
)

-- p(a), q(b), ![X]:(~p(X)|~q(X)), at depth 1: each leaf is closed by an offer of its own
abbrev x1 : Name
x1 = record { segment = 1; count = 1 }

abbrev var : PlainTerms
var = plain.terms (plain.bound 0) plain.no_terms

abbrev const : ℕ → PlainTerms
const n = plain.terms (plain.app n plain.no_terms) plain.no_terms

abbrev alone : Segments
alone =
    all_segments (begin (atom 0 (const 0) ∷ atom 1 (const 1) ∷ all (or (not (atom 0 var)) (not (atom 1 var))) ∷ []))
    (step (instantiate 2 x1) (split 3 leaf leaf))

abbrev bound_to : ℕ → Offer
bound_to n = record { name = x1; term = app n no_terms } ∷ []

no_chain : (n : ℕ) (x y : Name) → Chain (bound_to n) x y → ⊥
no_chain n x y (link _ _ t e o) = by_case (same_name x1 x) e where
  none_is_some : None ≡ Some t → ⊥
  none_is_some z = cc

  same : Some (app n no_terms) ≡ Some t → app n no_terms ≡ t
  same z = cc

  by_case : (q : Bool) → (if q then Some (app n no_terms) else None) ≡ Some t → ⊥
  by_case true z = subst (OccursIn y) (sym (same z)) o
  by_case false z = none_is_some z
no_chain n x y (links _ z _ c d) = no_chain n x z c

is_offer : (n : ℕ) → IsOffer (bound_to n)
unfolding IsDistinct
is_offer n = record { distinct = (tt, tt); acyclic = λ x c. no_chain n x x c }

each_alone : IsWalkAnswer alone answer.Conflict
each_alone = (
  other 1 ∷ other 2 ∷ other 3 ∷ [],
  goes_on _ _ _ (other 2 ∷ []) (other 3 ∷ []) (λ u. u.2)
      (stops _ (bound_to 0, is_offer 0, inl (0, terms (app 0 no_terms) no_terms, terms (metavar x1) no_terms, refl, refl, refl)))
      (stops _ (bound_to 1, is_offer 1, inl (1, terms (app 1 no_terms) no_terms, terms (metavar x1) no_terms, refl, refl, refl))),
  refl,
)
