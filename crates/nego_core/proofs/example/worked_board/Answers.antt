use Rattle.nego_core.proofs.Worked.{worked}
use Rattle.nego_core.proofs.example.worked_board.Goals as goal

pub returns : goal.returns
returns c = worked
