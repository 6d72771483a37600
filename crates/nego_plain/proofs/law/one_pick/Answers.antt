use Rattle.nego_plain.proofs.OnePick.{one-pick}
use Rattle.nego_plain.proofs.law.one_pick.Goals as goal

pub returns : goal.returns
returns g c = λ ns. one-pick _ ns
