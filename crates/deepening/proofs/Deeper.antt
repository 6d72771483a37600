-- From one round to the next.
use Rattle.std.proofs.Common.{◌≡◌, ◌∙◌, ℕ, ◌<◌, ◌≤◌, ◌+◌, Bool, true, false, inl, inr, List, Option, Some, None, refl, sym, subst, arith}
use Rattle.std.specs.Prelude.{is_some}
use Rattle.std.proofs.lemmas.Bool.{cases_eq}
use Rattle.fof_parse.specs.Problem.{PlainProblem}
use Rattle.fof_parse.specs.ProblemView.{plain_problem}
use Rattle.fof_parse.specs.declared.problem.Problem.{Problem}
use Rattle.unify.specs.Offers.{Offer}
use Rattle.rewrite_rules.specs.Rules.{RewriteRule}
use Rattle.rewrite_rules.specs.RuleView.{rules_in}
use Rattle.rewrite_rules.specs.declared.rule.Rule.{Rule}
use Rattle.tab_tree.specs.RoundValue.{RoundValue}
use Rattle.nego_plain.specs.declared.settling.Verdict.TheVariants.{Open}
use Rattle.round_offers.specs.RoundTableau.{ClosesRound}
use Rattle.deepening.specs.Depths.{ClosesAt, NoneCloses, NoneBefore}
use Rattle.deepening.specs.RoundEnds.{AreLimits, MayEnd, EndsRound, IsEndOf}
use Rattle.deepening.specs.Endings.{EndsSo}
use Rattle.deepening.specs.declared.order.Way.{Way}
use Rattle.deepening.specs.declared.endings.Ending.{Ending}
use Rattle.deepening.specs.declared.kept.Kept.{Kept}
use Rattle.deepening.specs.declared.limits.Limits.{Limits}
use Rattle.deepening.specs.declared.searching.Searched.{Searched}
use Rattle.deepening.specs.declared.settled.SettledRound.{SettledRound}
use Rattle.nego_node.proofs.Sides.{none-some}
use Rattle.deepening.proofs.LastOffers.{false-true}
use Rattle.deepening.proofs.Ends.{ends-so, ends-open}
use Rattle.deepening.proofs.Verdicts.{settles}

one_more : (problem : PlainProblem) (rules : List RewriteRule) (d : ℕ) → NoneBefore problem rules d → NoneCloses problem rules d → NoneBefore problem rules (d + 1)
one_more problem rules d before none e s first less closes =
    elim (cases_eq e d) [
      | inl same ↦ none s (subst (λ (x : ℕ). ClosesAt problem rules x s) same closes)
      | inr away ↦ before e s first (omega (arith, less, away)) closes
    ]

module _ (problem : Problem) (rules : List Rule) (d : ℕ) where
  abbrev pub round_at : RoundValue
  round_at = record { problem = problem; rules = rules; depth = d }

  -- where a round has no ending, no offer closes a tableau before the next round
  pub goes_deeper : (way : Way) (limits : Limits) (r : RoundValue) (kept : Kept) (ending : Option Ending) → r ≡ round_at
      → EndsRound way limits r kept ending → ending ≡ None → NoneBefore (plain_problem problem) (rules_in rules) d
      → NoneBefore (plain_problem problem) (rules_in rules) (d + 1)
  goes_deeper way limits r kept ending is ends none before =
      let open_ = subst (EndsRound way limits r kept) none ends in
      one_more (plain_problem problem) (rules_in rules) d before
      (subst (λ (x : RoundValue). (s : Offer) → ClosesRound x s → ⊥) is (settles way limits r kept (Open open_.task) open_.settled))

  ends-as : (way : Way) (limits : Limits) (r : RoundValue) (last : SettledRound) (s : Searched) (ending : Option Ending)
      → AreLimits limits → MayEnd r limits → (ending ≡ None → r.depth ≡ limits.depth) → last.ending ≡ ending
      → EndsRound way limits r last.kept last.ending → IsEndOf r last s
      → EndsSo (plain_problem r.problem) (rules_in r.rules) limits way s.kept s.ending
  ends-as way limits r last s None are may whole is ends (end, same) =
      subst (λ (k : Kept). EndsSo (plain_problem r.problem) (rules_in r.rules) limits way k s.ending) (sym same)
      (ends-open r limits way last.kept may s.ending (whole refl) (subst (EndsRound way limits r last.kept) is ends) (rw is at end))
  ends-as way limits r last s (Some ending) are may whole is ends (end, same) =
      subst (λ (k : Kept). EndsSo (plain_problem r.problem) (rules_in r.rules) limits way k s.ending) (sym same)
      (subst (EndsSo (plain_problem r.problem) (rules_in r.rules) limits way last.kept) (sym (rw is at end))
      (ends-so r limits way last.kept may ending are (subst (EndsRound way limits r last.kept) is ends)))

  -- a round that has an ending, or is the last one, ends the search
  pub ends_search : (way : Way) (limits : Limits) (r : RoundValue) (last : SettledRound) (s : Searched) → r ≡ round_at
      → AreLimits limits → NoneBefore (plain_problem problem) (rules_in rules) d → 1 ≤ d → d ≤ limits.depth
      → (last.ending ≡ None → d ≡ limits.depth) → EndsRound way limits r last.kept last.ending → IsEndOf r last s
      → EndsSo (plain_problem problem) (rules_in rules) limits way s.kept s.ending
  ends_search way limits r last s is are before first within whole ends end =
      let at = subst (λ (x : RoundValue). EndsRound way limits x last.kept last.ending) is ends in
      let ended = subst (λ (x : RoundValue). IsEndOf x last s) is end in
      ends-as way limits round_at last s last.ending are (record { none_before = before; first = first; within = within }) whole refl at ended

-- an ending that is there, and one that is not
pub some-ending : (o : Option Ending) (b : Bool) → b ≡ is_some o → b ≡ true → o ≡ None → ⊥
some-ending None b is there none = false-true (sym is ∙ there)
some-ending (Some e) b is there none = none-some none refl

pub no-ending : (o : Option Ending) (b : Bool) → b ≡ is_some o → b ≡ false → o ≡ None
no-ending None b is away = refl
no-ending (Some e) b is away = absurd (false-true (sym away ∙ is))
