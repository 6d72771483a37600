-- In what way the rounds of a search are settled.
use Rattle.std.specs.Prelude.{◌<◌}
use Rattle.deepening.specs.declared.order.Way.{Way}
use Rattle.deepening.specs.declared.order.Way.TheVariants.{Alone, Agents}

-- there is somebody to settle them
abbrev pub HasWorkers : Way → Type 0
HasWorkers (Alone order) = Unit {0}
HasWorkers (Agents workers) = 0 < workers
