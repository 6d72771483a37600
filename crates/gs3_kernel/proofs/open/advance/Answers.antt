use Rattle.std.proofs.Common.{◌≡◌, Ok, rules}
use Rattle.gs3_rules.specs.declared.step.Premises.TheVariants.{One, Two}
use Rattle.gs3_kernel.proofs.Cuts.{below_after}
use Rattle.gs3_kernel.proofs.open.advance.Goals as goal

pub grow-requires-clause-below : goal.grow-requires-clause-below
grow-requires-clause-below c =
    let is : c.apply_below.result ≡ Ok (One c.in-Ok-One.more) = search rules in
    (below_after c.args.state.list _ c.apply_below.result (One c.in-Ok-One.more) _ c.args.state.above is c.apply_below.ensures c.bound_after-above.ensures c.requires.bounded).0

pub fork-requires-clause-left : goal.fork-requires-clause-left
fork-requires-clause-left c =
    let is : c.apply_below.result ≡ Ok (Two c.in-Ok-Two.left c.in-Ok-Two.right) = search rules in
    (below_after c.args.state.list _ c.apply_below.result (Two c.in-Ok-Two.left c.in-Ok-Two.right) _ c.args.state.above is c.apply_below.ensures c.bound_after-above.ensures c.requires.bounded).0

pub fork-requires-clause-right : goal.fork-requires-clause-right
fork-requires-clause-right c =
    let is : c.apply_below.result ≡ Ok (Two c.in-Ok-Two.left c.in-Ok-Two.right) = search rules in
    (below_after c.args.state.list _ c.apply_below.result (Two c.in-Ok-Two.left c.in-Ok-Two.right) _ c.args.state.above is c.apply_below.ensures c.bound_after-above.ensures c.requires.bounded).1.0
