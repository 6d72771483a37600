use Rattle.std.specs.Prelude.{ℕ, Option, Some, None}
use Rattle.nego_laws.specs.Tree.{Tree}
use Rattle.nego_lock.specs.Visits.{MessageBelongs}
use Rattle.nego_lock.specs.declared.visit.Message.{Message}

-- what contracts see of an entry: the node to visit, and what is brought to it
pub record EntryValue (F O S : Type 0) : Type 0 where
  pub node : ℕ
  pub message : Message F O S

-- what is brought belongs to the key's tree
abbrev pub IsOfKey : {F O S : Type 0} → (O → Tree O) → Option (Tree O) → Message F O S → Type 0
IsOfKey tree None m = Unit {0}
IsOfKey tree (Some t) m = MessageBelongs tree t m
