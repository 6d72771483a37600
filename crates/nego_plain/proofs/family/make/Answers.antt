use Rattle.nego_plain.proofs.Joining.{did-move}
use Rattle.nego_plain.specs.Views.{board_node}
use Rattle.nego_plain.proofs.family.make.Goals as goal

pub advance-requires-clause-lawful : goal.advance-requires-clause-lawful
advance-requires-clause-lawful g c κs within = rw c.requires.tree c.requires.lawful

pub returns-clause-did : goal.returns-clause-did
returns-clause-did g c =
    did-move _ _ (board_node c.args.node.now) (board_node c.advance.new.self) c.args.step c.args.tries.now c.requires.next c.requires.no_wait c.requires.no_split c.requires.no_try (rw (← c.requires.tree) c.in_ok-advance.ensures.did)
