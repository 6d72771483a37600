use Rattle.std.proofs.Common.{sym}
use Rattle.deskolem.proofs.Numbered.{number_found, number_missing}
use Rattle.deskolem.proofs.parameters.Parameters.number.Goals as goal

pub returns-in-Some : goal.returns-in-Some
returns-in-Some c =
    rw (← c.self.view_is) (number_found c.self.inside.names.items c.self.inside.numbers c.args.name.now c.in-Some.number.now c.self.invariant (sym c.in-Some.ensures.value))

pub returns-in-None : goal.returns-in-None
returns-in-None c =
    rw (← c.self.view_is) (number_missing c.self.inside.names.items c.self.inside.numbers c.args.name.now c.self.invariant (sym c.in-None.ensures.value))
