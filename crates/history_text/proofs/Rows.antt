-- The lines of a worked history, computed.
use Rattle.std.proofs.Common.{◌≡◌, ℕ, List, [], ◌∷◌, refl}
use Rattle.std.specs.Prelude.{codes}
use Rattle.std.specs.Fmt.{digits}
use Rattle.fol_core.specs.Symbol.{Symbol}
use Rattle.free_terms.specs.Free.{app, no_terms}
use Rattle.unify.specs.Offers.{Offer}
use Rattle.nego_node.specs.declared.tasks.Task.{Task}
use Rattle.nego_node.specs.declared.tasks.Side.TheVariants.{Left, Right}
use Rattle.nego_node.specs.declared.answers.Answer.{Answer}
use Rattle.nego_node.specs.declared.answers.Answer.TheVariants as answer
use Rattle.nego_node.specs.declared.events.Outcome.TheVariants as outcome
use Rattle.nego_node.specs.declared.events.Event.TheVariants.{Received, Tried, Split, Asked, Posted, Adopted, Agreed, Forbidden, Refused}
use Rattle.nego_node.specs.declared.events.Event.TheVariants as event
use Rattle.offer_text.specs.Text.{offer_text}
use Rattle.history_text.specs.Lines.{NodeHistory, event_line, history_lines}

-- ![X]:(~p(X)|~q(X)), p(a), p(b), q(b), at depth 1

abbrev symbols : List Symbol
symbols = (codes "a", 0) ∷ (codes "b", 0) ∷ []

abbrev free : Offer
free = []

abbrev bound : ℕ → Offer
bound constant = record { name = record { segment = 1; count = 1 }; term = app constant no_terms } ∷ []

abbrev a : Offer
a = bound 0

abbrev b : Offer
b = bound 1

abbrev task : ℕ → ℕ → Offer → List Offer → Task Offer
task node generation given ban = record { round = 1; node = node; generation = generation; given = given; ban = ban }

abbrev proposal : Task Offer → Offer → Answer Offer
proposal t s = answer.Proposal (record { task = t; offer = s })

abbrev node_1 : NodeHistory Offer
node_1 =
    record {
      name = 1;
      events =
          Received (task 1 1 free []) ∷ Split ∷ Asked Left (task 2 1 free []) ∷ Posted Left (proposal (task 2 1 free []) a) ∷ Adopted Left 1 a
          ∷ Asked Right (task 3 1 a []) ∷ Posted Right (answer.Exhausted (task 3 1 a [])) ∷ Forbidden Left 1 a ∷ Asked Left (task 2 2 free (a ∷ []))
          ∷ Posted Left (proposal (task 2 2 free (a ∷ [])) b) ∷ Adopted Left 2 b ∷ Asked Right (task 3 2 b [])
          ∷ Posted Right (proposal (task 3 2 b []) b) ∷ Agreed Right 2 b ∷ [];
    }

abbrev node_2 : NodeHistory Offer
node_2 =
    record {
      name = 2;
      events = Received (task 2 1 free []) ∷ Tried 0 (outcome.Offer a) ∷ Received (task 2 2 free (a ∷ [])) ∷ Tried 1 (outcome.Offer b) ∷ [];
    }

abbrev node_3 : NodeHistory Offer
node_3 =
    record {
      name = 3;
      events =
          Received (task 3 1 a []) ∷ Tried 0 outcome.None ∷ event.Exhausted ∷ Received (task 3 2 b []) ∷ Tried 0 (outcome.Offer b) ∷ [];
    }

history : history_lines (offer_text symbols) (node_1 ∷ node_2 ∷ node_3 ∷ [])
    ≡ codes "% node 1 received 1 given {} ban []"
    ∷ codes "% node 1 split"
    ∷ codes "% node 1 asked left 1 given {} ban []"
    ∷ codes "% node 1 posted left 1 proposal {?1.1=a}"
    ∷ codes "% node 1 adopted left 1 {?1.1=a}"
    ∷ codes "% node 1 asked right 1 given {?1.1=a} ban []"
    ∷ codes "% node 1 posted right 1 exhausted"
    ∷ codes "% node 1 forbidden left 1 {?1.1=a}"
    ∷ codes "% node 1 asked left 2 given {} ban [{?1.1=a}]"
    ∷ codes "% node 1 posted left 2 proposal {?1.1=b}"
    ∷ codes "% node 1 adopted left 2 {?1.1=b}"
    ∷ codes "% node 1 asked right 2 given {?1.1=b} ban []"
    ∷ codes "% node 1 posted right 2 proposal {?1.1=b}"
    ∷ codes "% node 1 agreed right 2 {?1.1=b}"
    ∷ codes "% node 2 received 1 given {} ban []"
    ∷ codes "% node 2 tried 0 offer {?1.1=a}"
    ∷ codes "% node 2 received 2 given {} ban [{?1.1=a}]"
    ∷ codes "% node 2 tried 1 offer {?1.1=b}"
    ∷ codes "% node 3 received 1 given {?1.1=a} ban []"
    ∷ codes "% node 3 tried 0 none"
    ∷ codes "% node 3 exhausted"
    ∷ codes "% node 3 received 2 given {?1.1=b} ban []"
    ∷ codes "% node 3 tried 0 offer {?1.1=b}"
    ∷ []
unfolding digits
history = refl

-- the events that do not stand there
banned : event_line (offer_text symbols) 6 (Tried 17 (outcome.Banned b)) ≡ codes "% node 6 tried 17 banned {?1.1=b}"
unfolding digits
banned = refl

refused : event_line (offer_text symbols) 6 (Refused Left 3) ≡ codes "% node 6 refused left 3"
unfolding digits
refused = refl

two_banned : event_line (offer_text symbols) 13 (Received (task 13 4 b (a ∷ free ∷ [])))
    ≡ codes "% node 13 received 4 given {?1.1=b} ban [{?1.1=a},{}]"
unfolding digits
two_banned = refl
