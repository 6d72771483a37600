use Rattle.std.proofs.Common.{◌+◌, length, arith, sym}
use Rattle.deskolem.proofs.Numbered.{numbers_kept, numbers_with}
use Rattle.deskolem.proofs.parameters.enter.Goals as goal

pub returns-in-Some : goal.returns-in-Some
returns-in-Some c = numbers_kept c.args.names.now c.args.name c.args.numbers.now _ c.requires (sym c.in-Some.ensures.value)

pub returns : goal.returns
returns c =
    numbers_with c.args.names.now c.args.name c.args.numbers.now c.insert.new.self (length c.args.names.now + 1) c.requires (sym c.in_default.ensures.value) (omega arith)
    c.in_ok-insert.ensures.updates
