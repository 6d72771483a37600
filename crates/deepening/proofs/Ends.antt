-- How a search ends with its last round.
use Rattle.std.proofs.Common.{◌≡◌, ◌≢◌, ◌∙◌, ℕ, ◌<◌, ◌≤◌, ◌^◌, ◌-◌, ◌⊎◌, inl, inr, true, List, Option, Some, None, sym, ap, refl, subst, arith}
use Rattle.std.specs.Prelude.{IfSome}
use Rattle.std.specs.Option.{unwrap_or}
use Rattle.std.proofs.lemmas.Bool.{cases_eq}
use Rattle.fof_parse.specs.ProblemView.{plain_problem}
use Rattle.unify.specs.Offers.{Offer}
use Rattle.unify.specs.View.{offer_of}
use Rattle.rewrite_rules.specs.RuleView.{rules_in}
use Rattle.tab_tree.specs.RoundValue.{RoundValue}
use Rattle.tab_tree.specs.declared.words.Engine.{Engine}
use Rattle.tab_tree.specs.declared.words.Engine.TheVariants as engine
use Rattle.nego_node.specs.Proposed.{Proposed}
use Rattle.nego_plain.specs.declared.settling.Verdict.{Verdict}
use Rattle.nego_plain.specs.declared.settling.Verdict.TheVariants as verdict
use Rattle.round_offers.specs.RoundOffer.{RoundOffer}
use Rattle.round_offers.specs.RoundTableau.{ClosesRound}
use Rattle.translation.specs.Measures.{MeasuredProof}
use Rattle.deepening.specs.Depths.{ClosesAt, LeastUpTo, NoneBefore}
use Rattle.deepening.specs.Kept.{attempts_in}
use Rattle.deepening.specs.Rounds.{IsPlainRound, IsByEngine, IsByPlain, IsSettledSo, IsLastRound, IsClosed, IsTranslationOf}
use Rattle.deepening.specs.RoundEnds.{AreLimits, MayEnd, EndsRound, EndsByOffer, EndsByTries, IsOpenRound, EndsClosed, EndsWith, EndsLast}
use Rattle.deepening.specs.Endings.{EndsSo, HasFound, IsFound, IsExhausted, IsSpent, IsLong, IsDeep}
use Rattle.deepening.specs.declared.order.Way.{Way}
use Rattle.deepening.specs.declared.endings.Ending.{Ending}
use Rattle.deepening.specs.declared.endings.Ending.TheVariants.{Found, Exhausted, Spent, Long, Deep}
use Rattle.deepening.specs.declared.kept.Kept.{Kept}
use Rattle.deepening.specs.declared.limits.Limits.{Limits}
use Rattle.deepening.proofs.Tried.{stopped-at}
use Rattle.deepening.proofs.Verdicts.{settles, root-offer}

module _ (r : RoundValue) (limits : Limits) (way : Way) (kept : Kept) (may : MayEnd r limits) where
  last-round : (v : Verdict RoundOffer) → IsSettledSo way limits r kept v → (d : ℕ) → r.depth ≡ d
      → IsLastRound (plain_problem r.problem) (rules_in r.rules) limits way kept d v
  last-round v w d e = record { round = r; of_problem = refl; of_rules = refl; of_depth = e; ended = w }

  module _ (p : Proposed RoundOffer) (w : IsSettledSo way limits r kept (verdict.Closed p)) where
    closes : ClosesRound r (offer_of p.offer.bindings)
    closes = (settles way limits r kept (verdict.Closed p) w).1

    least : LeastUpTo (plain_problem r.problem) (rules_in r.rules) limits.depth (Some kept.depth)
    least =
        subst (λ (d : ℕ). LeastUpTo (plain_problem r.problem) (rules_in r.rules) limits.depth (Some d)) (sym w.0)
        (may.first, may.within, (offer_of p.offer.bindings, closes), may.none_before)

    is-closed : (e : (found : MeasuredProof) × IsTranslationOf r (offer_of p.offer.bindings) found)
        → IsClosed (plain_problem r.problem) (rules_in r.rules) limits way kept kept.depth e.0
    unfolding last-round
    is-closed e =
        record {
          proposal = p;
          last = last-round (verdict.Closed p) w kept.depth (sym w.0);
          of_root = root-offer way limits r kept p w;
          translated = e.1;
        }

  ends-by-offer : (ending : Ending) → EndsByOffer way limits r kept ending
      → EndsSo (plain_problem r.problem) (rules_in r.rules) limits way kept ending
  ends-by-offer (Found steps) w =
      let q = w.ends.2 in
      record {
        found = w.ends.0;
        is_found =
            record {
              least = least w.proposal w.settled;
              closed = is-closed w.proposal w.settled (w.ends.0, w.ends.1);
              short = q.1;
              flat = q.2;
              refutes = q.3;
            };
        are_steps = q.0;
        spells = q.4;
      }
  ends-by-offer (Exhausted answer) w = absurd w.ends.2
  ends-by-offer (Spent made) w = absurd w.ends.2
  ends-by-offer Long w =
      record {
        found = w.ends.0;
        least = least w.proposal w.settled;
        closed = is-closed w.proposal w.settled (w.ends.0, w.ends.1);
        long = w.ends.2;
        engine = w.by;
      }
  ends-by-offer Deep w =
      record {
        found = w.ends.0;
        least = least w.proposal w.settled;
        closed = is-closed w.proposal w.settled (w.ends.0, w.ends.1);
        short = w.ends.2.0;
        deep = w.ends.2.1;
        engine = w.by;
      }

  plain-spent : (e : Option Engine) → IsByEngine way limits r kept verdict.Spent e
      → (e ≡ Some engine.Plain) × IsByPlain way limits r kept verdict.Spent
  plain-spent None w = absurd w
  plain-spent (Some engine.Plain) w = (refl, w)
  plain-spent (Some engine.Board) w = absurd w.ended.answers
  plain-spent (Some engine.Agents) w = absurd (w.serves refl)

  spent-at : (tries : Option ℕ) → limits.tries ≡ tries → IfSome limits.tries (λ most. most < 2 ^ 64 - 1)
      → (w : IsPlainRound limits.tries r kept.nodes verdict.Spent)
      → (most : ℕ) × (limits.tries ≡ Some most) × (attempts_in kept.nodes ≡ most)
  spent-at None is small w = absurd (w.settled.unlimited (w.limit ∙ is) refl)
  spent-at (Some most) is small w =
      let fits : most < 2 ^ 64 - 1 = subst (λ (o : Option ℕ). IfSome o (λ m. m < 2 ^ 64 - 1)) is small in
      let made : w.settled.made ≡ most =
      stopped-at w.before w.after w.settled.made most w.settled.counts w.none_made (w.limit ∙ is) fits w.settled.verdict.3 in
      (most, is, w.settled.tried ∙ made)

  ends-by-tries : (made : ℕ) → AreLimits limits → EndsByTries way limits r kept made
      → EndsSo (plain_problem r.problem) (rules_in r.rules) limits way kept (Spent made)
  ends-by-tries made are w =
      let plain = plain-spent kept.engine w.settled.1 in
      let most = spent-at limits.tries refl are.tries plain.1.ended in
      let told : made ≡ most.0 = w.most ∙ ap (λ (o : Option ℕ). unwrap_or o 0) most.1 in
      record {
        allowed = most.1 ∙ ap Some (sym told);
        first = omega (arith, may.first, w.settled.0);
        within = omega (arith, may.within, w.settled.0);
        none_before = subst (λ (d : ℕ). NoneBefore (plain_problem r.problem) (rules_in r.rules) d) (sym w.settled.0) may.none_before;
        last = last-round verdict.Spent w.settled kept.depth (sym w.settled.0);
        engine = plain.0;
        attempts = most.2 ∙ sym told;
      }

  -- A round with an ending ends the search so.
  pub ends-so : (ending : Ending) → AreLimits limits → EndsRound way limits r kept (Some ending)
      → EndsSo (plain_problem r.problem) (rules_in r.rules) limits way kept ending
  ends-so (Found steps) are w = ends-by-offer (Found steps) w
  ends-so (Exhausted answer) are w = absurd w
  ends-so (Spent made) are w = ends-by-tries made are w
  ends-so Long are w = ends-by-offer Long w
  ends-so Deep are w = ends-by-offer Deep w

  -- The last round, with no ending, ends it with the walk of its tableau.
  pub ends-open : (ending : Ending) → r.depth ≡ limits.depth → IsOpenRound way limits r kept → EndsLast r None ending
      → EndsSo (plain_problem r.problem) (rules_in r.rules) limits way kept ending
  unfolding last-round
  ends-open ending whole w e =
      subst (EndsSo (plain_problem r.problem) (rules_in r.rules) limits way kept) (sym e.1)
      (record { none = none; task = w.task; last = last-round (verdict.Open w.task) w.settled limits.depth whole; walked = e.2 })
    where
      none : LeastUpTo (plain_problem r.problem) (rules_in r.rules) limits.depth None
      none d s first within closed =
          elim (cases_eq d r.depth) [
            | inl same ↦
                settles way limits r kept (verdict.Open w.task) w.settled s
                (subst (λ (x : ℕ). ClosesAt (plain_problem r.problem) (rules_in r.rules) x s) same closed)
            | inr away ↦ may.none_before d s first (omega (arith, within, whole, away)) closed
          ]
