use Rattle.std.proofs.Common.{arith}
use Rattle.gs3_text.proofs.Numbers.{value_from}
use Rattle.gs3_text.proofs.word.value.Goals as goal

pub returns-in_default : goal.returns-in_default
returns-in_default c =
    let large = value_from c.loop-d.n c.args.digits.now c.loop-d.d-index c.loop-d-test.true in
    omega (arith, large, c.loop-d.invariant, c.in_default.ensures)

pub returns-in_default-checked_add : goal.returns-in_default-checked_add
returns-in_default-checked_add c =
    let large = value_from c.loop-d.n c.args.digits.now c.loop-d.d-index c.loop-d-test.true in
    let a = c.in_default-checked_add.ensures in
    let b = c.in-Some.ensures in
    let s = c.saturating_sub.ensures in let f = c.from.ensures in omega (arith, large, c.loop-d.invariant, a, b, s, f)
