use Rattle.unify.proofs.tests.measures_a_value.Goals as goal

pub measure-requires : goal.measure-requires
measure-requires g c = c.no_extents-noted.ensures _ _ _
