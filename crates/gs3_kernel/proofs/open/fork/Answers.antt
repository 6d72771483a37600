use Rattle.std.proofs.Common.{rules}
use Rattle.gs3_kernel.proofs.Cuts.{forked}
use Rattle.gs3_kernel.proofs.open.fork.Goals as goal

pub returns-clause-left : goal.returns-clause-left
returns-clause-left c =
    (forked c.args.state.list c.args.left c.args.right c.append.new.self c.args.above c.push.new.self.items c.args.state.cuts.items
    (record { keep = c.len-keep.result; more = c.args.right; above = c.args.above }) (search rules) (search rules) (search rules) (search rules) (search rules)
    c.requires.left c.requires.right c.requires.sound.cuts).left

pub returns-clause-sound : goal.returns-clause-sound
returns-clause-sound c =
    let now = forked c.args.state.list c.args.left c.args.right c.append.new.self c.args.above c.push.new.self.items c.args.state.cuts.items
    (record { keep = c.len-keep.result; more = c.args.right; above = c.args.above }) (search rules) (search rules) (search rules) (search rules) (search rules)
    c.requires.left c.requires.right c.requires.sound.cuts in
    record { bounded = now.bounded; cuts = now.sound }
