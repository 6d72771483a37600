-- The words of an event, over a spelling of offers.
use Rattle.std.specs.Prelude.{ℕ, List, ◌++◌, codes, decimal}
use Rattle.std.specs.List.{join_by}
use Rattle.nego_node.specs.declared.tasks.Task.{Task}
use Rattle.nego_node.specs.declared.tasks.Side.{Side}
use Rattle.nego_node.specs.declared.tasks.Side.TheVariants.{Left, Right}
use Rattle.nego_node.specs.declared.answers.Answer.{Answer}
use Rattle.nego_node.specs.declared.answers.Answer.TheVariants as answer
use Rattle.nego_node.specs.declared.events.Outcome.{Outcome}
use Rattle.nego_node.specs.declared.events.Outcome.TheVariants as outcome
use Rattle.nego_node.specs.declared.events.Event.{Event}
use Rattle.nego_node.specs.declared.events.Event.TheVariants.{Received, Tried, Split, Asked, Posted, Adopted, Agreed}
use Rattle.nego_node.specs.declared.events.Event.TheVariants.{Forbidden, Refused}
use Rattle.nego_node.specs.declared.events.Event.TheVariants as event

abbrev pub side_word : Side → List ℕ
side_word Left = codes "left"
side_word Right = codes "right"

-- a part, and the generation of its task
abbrev pub part_words : Side → ℕ → List ℕ
part_words side generation = side_word side ++ (codes " " ++ decimal generation)

module _ {O : Type 0} (text : O → List ℕ) where
  abbrev pub offers_text : List O → List ℕ
  offers_text offers = codes "[" ++ join_by text (codes ",") offers ++ codes "]"

  -- the generation, what the answer must entail, and what it must not entail
  abbrev pub task_words : Task O → List ℕ
  task_words task =
      decimal task.generation ++ (codes " given " ++ text task.given) ++ codes " ban " ++ offers_text task.ban

  abbrev pub outcome_words : Outcome O → List ℕ
  outcome_words outcome.None = codes " none"
  outcome_words (outcome.Banned offer) = codes " banned " ++ text offer
  outcome_words (outcome.Offer offer) = codes " offer " ++ text offer

  -- what a part answers, and to which of its tasks
  abbrev pub answer_words : Side → Answer O → List ℕ
  answer_words side (answer.Proposal p) =
      codes "posted " ++ part_words side p.task.generation ++ (codes " proposal " ++ text p.offer)
  answer_words side (answer.Exhausted task) = codes "posted " ++ part_words side task.generation ++ codes " exhausted"

  -- a verb, and an offer of a part with the generation of its task
  abbrev pub decision_words : List ℕ → Side → ℕ → O → List ℕ
  decision_words verb side generation offer = verb ++ part_words side generation ++ (codes " " ++ text offer)

  abbrev pub event_words : Event O → List ℕ
  event_words (Received task) = codes "received " ++ task_words task
  event_words (Tried item result) = codes "tried " ++ decimal item ++ outcome_words result
  event_words Split = codes "split"
  event_words (Asked side task) = codes "asked " ++ side_word side ++ (codes " " ++ task_words task)
  event_words (Posted side a) = answer_words side a
  event_words (Adopted side generation offer) = decision_words (codes "adopted ") side generation offer
  event_words (Agreed side generation offer) = decision_words (codes "agreed ") side generation offer
  event_words (Forbidden side generation offer) = decision_words (codes "forbidden ") side generation offer
  event_words (Refused side generation) = codes "refused " ++ part_words side generation
  event_words event.Exhausted = codes "exhausted"
