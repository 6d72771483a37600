use Rattle.std.proofs.Common.{List, [], ◌∷◌}
use Rattle.nego_laws.specs.Tree.{Tree}
use Rattle.nego_node.specs.Machine.{State, after}
use Rattle.nego_node.specs.Lawful.{Lawful, IsRun}
use Rattle.nego_node.specs.Histories.{TakesAllowed, AllAllowed}
use Rattle.nego_node.specs.declared.events.Event.{Event}
use Rattle.nego_node.specs.declared.events.Event.TheVariants.{Received, Tried, Split, Asked, Posted, Adopted, Agreed, Forbidden, Refused, Exhausted}

-- what a run takes of its parts is allowed
module _ {O : Type 0} (tree : O → Tree O) (t : Tree O) where
  takes-allowed : (s : State O) (e : Event O) → Lawful tree t s e → TakesAllowed t s e
  takes-allowed s (Received task) may = tt
  takes-allowed s (Tried item outcome) may = tt
  takes-allowed s Split may = tt
  takes-allowed s (Asked side task) may = tt
  takes-allowed s (Posted side a) may = tt
  takes-allowed s (Adopted side g x) may =
      record { task = may.task; held = may.seeks.held; no_ban = may.is_allowed; not_forbidden = may.is_not_forbidden }
  takes-allowed s (Agreed side g x) may =
      record { task = may.task; held = may.seeks.held; no_ban = may.is_allowed; not_forbidden = may.is_not_forbidden }
  takes-allowed s (Forbidden side g x) may = tt
  takes-allowed s (Refused side g) may = tt
  takes-allowed s Exhausted may = tt

  pub run-allowed : (s : State O) (h : List (Event O)) → IsRun tree t s h → AllAllowed t s h
  run-allowed s [] run = tt
  run-allowed s (e ∷ h) run = (takes-allowed s e run.0, run-allowed (after t s e) h run.1)
