-- The closed tree of a round's offer, and its translation.
use Rattle.std.proofs.Common.{◌≡◌, ℕ, List, Some, None, Ok, sym, refl, subst}
use Rattle.std.specs.List.{AllByRecursion}
use Rattle.fof_parse.specs.ProblemView.{plain_problem}
use Rattle.gs3_rules.specs.declared.step.Step.{Step}
use Rattle.gs3_text.specs.ProofText.{IsSpellableTerm}
use Rattle.unify.specs.Offers.{Offer}
use Rattle.unify.specs.View.{offer_of}
use Rattle.unify.specs.declared.bindings.Binding.{Binding}
use Rattle.rewrite_rules.specs.RuleView.{rules_in}
use Rattle.tab_tree.specs.Tableau.{Tableau, IsTableau}
use Rattle.tab_tree.specs.Segments.{all_segments}
use Rattle.tab_tree.specs.ClosedTree as spec
use Rattle.tab_tree.specs.Round.{IsOfRound}
use Rattle.tab_tree.specs.RoundValue.{RoundValue, root_of, HasRulesOfProblem}
use Rattle.tab_tree.specs.ClosingView.{closed_tree_of}
use Rattle.closing_tree.specs.Answer.{IsAnswer}
use Rattle.tab_tree.specs.declared.closed.ClosedTree.{ClosedTree}
use Rattle.tab_tree.proofs.Exists.{one_tableau, tableau_below}
use Rattle.tab_tree.proofs.Solving.{closes_where_solved}
use Rattle.round_offers.specs.RoundOffer.{RoundOffer, IsOfItsRound}
use Rattle.round_offers.specs.RoundTableau.{tableau_of, ClosesRound, IsOfferOf}
use Rattle.translation.specs.Laws.{IsClosedRound, translation}
use Rattle.translation.proofs.Sound.{is_sound, of_closed_round}
use Rattle.deskolem.specs.Answer.{Answers}
use Rattle.deepening.specs.RoundEnds.{EndsWith, EndsClosed}
use Rattle.deepening.specs.declared.endings.Ending.{Ending}
use Rattle.deepening.specs.declared.endings.Ending.TheVariants.{Found}

-- the round's tableau is any one below its first branch
same_tableau : (r : RoundValue) (t : Tableau) → IsTableau r.depth (root_of r) t → tableau_of r ≡ t
same_tableau r t whole = one_tableau r.depth (root_of r) (tableau_of r) t (tableau_below r.depth (root_of r)).1 whole

pub closed_round : (r : RoundValue) (t : RoundOffer) (c : ClosedTree) → HasRulesOfProblem r → t.round ≡ r → IsOfItsRound t.bindings t.round
    → IsAnswer r (offer_of t.bindings) (Some c)
    → IsClosedRound (plain_problem r.problem) (rules_in r.rules) r.depth (offer_of t.bindings) (closed_tree_of c)
closed_round r t c rules of terms answer =
    let of_round : IsOfferOf r (offer_of t.bindings) = subst (λ (q : RoundValue). IsOfferOf q (offer_of t.bindings)) of terms in
    record {
      on = rules.0;
      of_problem = rules.1;
      tableau = answer.0;
      is_tableau = answer.1;
      offer = t.is_offer;
      of_round =
          subst (λ (x : Tableau). IsOfRound (plain_problem r.problem).symbols.functions (root_of r) x (offer_of t.bindings))
          (same_tableau r answer.0 answer.1) of_round;
      closed = answer.2;
    }

pub some_tree : (r : RoundValue) (t : RoundOffer) → ClosesRound r (offer_of t.bindings) → IsAnswer r (offer_of t.bindings) None → ⊥
some_tree r t closes answer =
    answer.2 ((closes_where_solved (root_of r).start (root_of r).rules r.depth (offer_of t.bindings) answer.0 answer.1 t.is_offer).0 closes)

pub ends_closed : (r : RoundValue) (t : RoundOffer) (c : ClosedTree) (limit : ℕ) (bindings : List Binding) (tree : ClosedTree) (ending : Ending)
    → bindings ≡ t.bindings → tree ≡ c → IsAnswer r (offer_of t.bindings) (Some c)
    → EndsWith (plain_problem r.problem) limit (translation (plain_problem r.problem) (rules_in r.rules) (offer_of bindings) (closed_tree_of tree)) ending
    → EndsClosed r t limit ending
ends_closed r t c limit bindings tree ending same also answer ends =
    let at : List Binding → ClosedTree → Type 0 =
    λ bs x. EndsWith (plain_problem r.problem) limit (translation (plain_problem r.problem) (rules_in r.rules) (offer_of bs) (closed_tree_of x)) ending in
    let closed = subst (λ (x : Tableau). spec.IsClosedTree (offer_of t.bindings) (all_segments (root_of r) x) (closed_tree_of c))
    (sym (same_tableau r answer.0 answer.1)) answer.2 in (
      translation (plain_problem r.problem) (rules_in r.rules) (offer_of t.bindings) (closed_tree_of c),
      (closed_tree_of c, closed, refl),
      subst (λ (x : ClosedTree). at t.bindings x) also (subst (λ (bs : List Binding). at bs tree) same ends),
    )

-- the steps of a translation within the limits
pub ends_found : (r : RoundValue) (s : Offer) (c : spec.ClosedTree) (limit : ℕ) (steps : List Step)
    → IsClosedRound (plain_problem r.problem) (rules_in r.rules) r.depth s c
    → Answers (plain_problem r.problem) limit (translation (plain_problem r.problem) (rules_in r.rules) s c) (Ok steps)
    → EndsWith (plain_problem r.problem) limit (translation (plain_problem r.problem) (rules_in r.rules) s c) (Found steps)
ends_found r s c limit steps closed a =
    let problem = plain_problem r.problem in
    let rules = rules_in r.rules in
    let found = translation problem rules s c in
    let refutes = is_sound problem rules r.depth s found r.problem.kept (of_closed_round problem rules r.depth s c closed) in
    let spells = subst (AllByRecursion (IsSpellableTerm problem.symbols.functions)) a.steps a.spells in
    (a.steps, a.fits.0, a.fits.1, refutes, spells)
