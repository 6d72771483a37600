use Rattle.std.proofs.Common.{◌≡◌, subst}
use Rattle.nego_laws.specs.Tree.{Tree}
use Rattle.nego_node.specs.Machine.{State}
use Rattle.nego_node.specs.Lawful.{CanTry}
use Rattle.nego_node.specs.Moves.{MayMove}
use Rattle.nego_node.specs.declared.moves.Move.{Move}
use Rattle.nego_node.specs.declared.moves.Move.TheVariants.{Try}

-- to try is lawful where the move that is to try is
pub try-lawful : {O : Type 0} (t : Tree O) (s : State O) (m : Move) → MayMove t s m → m ≡ Try → CanTry t s
try-lawful t s m may is = subst (λ (x : Move). MayMove t s x) is may
