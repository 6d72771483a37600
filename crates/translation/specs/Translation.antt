-- The GS3 proof of a closed tree under its offer.
use Rattle.std.specs.Prelude.{ℕ, zero, suc, ◌+◌, ◌-◌, Bool, true, false, if◌then◌else◌, List, [], ◌∷◌, ◌++◌, map}
use Rattle.std.specs.Prelude.{length, reverse, slice_get, Option, Some, None}
use Rattle.fol_core.specs.Syntax as plain
use Rattle.fol_core.specs.Syntax.{PlainTerm, PlainTerms, atom, not}
use Rattle.gs3_rules.specs.Rules as gs3
use Rattle.gs3_rules.specs.Refutes.{ProofTree, by, no_premises, premise}
use Rattle.rewrite_expand.specs.Expansion.{one, rewriting}
use Rattle.free_terms.specs.Free.{Name, FreeTerm, FreeTerms, FreeFormula, bound, metavar, skolem, app, no_terms, terms}
use Rattle.unify.specs.Offers.{Offer, same_name, resolved}
use Rattle.branch_rules.specs.Branch.{Branch, Done, Entry, expand, rewrite, skolemize, instantiate, go_left, go_right}
use Rattle.branch_rules.specs.Branch.{entries, after}
use Rattle.tab_tree.specs.Items.{Item, pair, false_at, not_true}
use Rattle.tab_tree.specs.ClosedTree.{ClosedTree}
use Rattle.translation.specs.StepTree.{StepTree, closes, goes_on, forks, or_zero, step_tree}

-- the Skolem symbols of the tree's steps, in the proof's order
abbrev pub skolems : StepTree → List Name
skolems (closes item) = []
skolems (goes_on (skolemize i x) c) = x ∷ skolems c
skolems (goes_on s c) = skolems c
skolems (forks i c c') = skolems c ++ skolems c'

-- A Skolem symbol's parameter: its number in the list, from 1, or 0 where it is not there.
abbrev pub parameter_of : ℕ → List Name → Name → ℕ
parameter_of n [] x = 0
parameter_of n (y ∷ ys) x = if same_name y x then suc n else parameter_of (suc n) ys x

-- the closed term: a Skolem term by its symbol's parameter, and an unbound metavariable by #0
abbrev mutual
  pub closed_of : List Name → FreeTerm → PlainTerm
  closed_of ys (bound n) = plain.bound n
  closed_of ys (metavar x) = plain.param 0
  closed_of ys (skolem x us) = plain.param (parameter_of 0 ys x)
  closed_of ys (app f us) = plain.app f (closed_all ys us)

  pub closed_all : List Name → FreeTerms → PlainTerms
  closed_all ys no_terms = plain.no_terms
  closed_all ys (terms u us) = plain.terms (closed_of ys u) (closed_all ys us)

abbrev pub term_under : Offer → List Name → FreeTerm → PlainTerm
term_under s ys t = closed_of ys (resolved s t)

abbrev pub fill_under : Offer → List Name → Option FreeTerm → PlainTerm
fill_under s ys None = plain.param 0
fill_under s ys (Some t) = term_under s ys t

-- where the tableau's entry stands in the proof
abbrev pub place_in : List ℕ → ℕ → ℕ
place_in places i = or_zero (slice_get places i)

-- whether a literal is an atom
abbrev pub is_positive : FreeFormula → Bool
is_positive (not a) = false
is_positive a = true

abbrev pub is_positive_at : Option Entry → Bool
is_positive_at None = true
is_positive_at (Some e) = is_positive e.formula

abbrev pub run_of : ℕ → ℕ → List ℕ
run_of from zero = []
run_of from (suc n) = from ∷ run_of (suc from) n

abbrev pub closing : List ℕ → Item → gs3.Rule
closing places (pair i j) = gs3.close (place_in places i) (place_in places j)
closing places (false_at i) = gs3.false_at (place_in places i)
closing places (not_true i) = gs3.not_true (place_in places i)

-- how many entries a step appends
abbrev pub growth : Branch → Done → ℕ
growth b step = length (entries (after b step)) - length (entries b)

-- The proof below a branch: places says where each entry of the branch stands in the proof's list, which
-- has len formulas.
abbrev pub proof_below : Offer → List Name → Branch → List ℕ → ℕ → StepTree → ProofTree
proof_below s ys b places len (closes item) = by (closing places item) no_premises
proof_below s ys b places len (goes_on (expand i) c) =
    let n = growth b (expand i) in
    one (gs3.alpha (place_in places i)) (proof_below s ys (after b (expand i)) (places ++ run_of len n) (len + n) c)
proof_below s ys b places len (goes_on (skolemize i x) c) =
    one (gs3.delta (place_in places i) (parameter_of 0 ys x))
    (proof_below s ys (after b (skolemize i x)) (places ++ len ∷ []) (suc len) c)
proof_below s ys b places len (goes_on (instantiate i x) c) =
    one (gs3.gamma (place_in places i) (term_under s ys (metavar x)))
    (proof_below s ys (after b (instantiate i x)) (places ++ len ∷ []) (suc len) c)
proof_below s ys b places len (goes_on (rewrite i r) c) =
    let us = reverse (map (fill_under s ys) r.fills) in
    rewriting len (place_in places r.axiom_place) (place_in places i)
    (is_positive_at (slice_get (entries b) i)) r.head_left us
    (λ body_at. proof_below s ys (after b (rewrite i r)) (places ++ body_at ∷ []) (2 + (len + length us)) c)
proof_below s ys b places len (goes_on (go_left i) c) = proof_below s ys (after b (go_left i)) places len c
proof_below s ys b places len (goes_on (go_right i) c) = proof_below s ys (after b (go_right i)) places len c
proof_below s ys b places len (forks i c c') =
    let m = growth b (go_left i) in
    let n = growth b (go_right i) in
    by (gs3.beta (place_in places i))
    (premise (proof_below s ys (after b (go_left i)) (places ++ run_of len m) (len + m) c)
    (premise (proof_below s ys (after b (go_right i)) (places ++ run_of len n) (len + n) c') no_premises))

-- The proof of a closed tree from the branch on at which its first segment begins, where each entry of the branch
-- stands at its own place in the proof's list.
abbrev pub proof_of : Offer → Branch → ClosedTree → ProofTree
proof_of s b c =
    let steps = step_tree b c in let n = length (entries b) in proof_below s (skolems steps) b (run_of 0 n) n steps
