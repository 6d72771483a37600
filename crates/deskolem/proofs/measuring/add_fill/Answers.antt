use Rattle.deskolem.proofs.measuring.add_fill.Goals as goal

pub returns-in-Given-clause-sum : goal.returns-in-Given-clause-sum
returns-in-Given-clause-sum c = rw c.in-Given.is c.add_gamma.ensures.sum
