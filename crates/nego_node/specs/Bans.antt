use Rattle.std.specs.Prelude.{Bool, ◌&&◌}
use Rattle.nego_laws.specs.Tree.{Tree}
use Rattle.nego_node.specs.Truth.{entails_some}
use Rattle.nego_node.specs.Machine.{all_entail_some}
use Rattle.nego_node.specs.declared.tasks.Task.{Task}

-- what was found for the held task, of which the offer is the answer, serves the new task too
abbrev pub serves_too : {O : Type 0} → Tree O → Task O → O → Task O → Bool
serves_too t held offer task =
    t.same held.given task.given && (all_entail_some t held.ban task.ban && entails_some t offer task.ban)
