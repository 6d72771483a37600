use Rattle.std.proofs.Common.{rules, arith, ap, sym, ◌∙◌}
use Rattle.std.proofs.lemmas.Grind.{common_steps}
use Rattle.fol_core.specs.View.{terms_of_list}
use Rattle.unify.specs.View.{offer_of}
use Rattle.deskolem.specs.View.{names_of}
use Rattle.deskolem.proofs.Valued.{closed_each, part_size}
use Rattle.deskolem.proofs.value.+grounded.Goals as goal

pub all_grounded-grounded-requires : goal.all_grounded-grounded-requires
all_grounded-grounded-requires t c =
    (omega (arith, part_size (offer_of c.args.s.now) c.args.us.now c.loop-u.u-index c.u-item.result (search rules) (search rules)), search rules)

pub all_grounded-returns-clause-terms : goal.all_grounded-returns-clause-terms
all_grounded-returns-clause-terms t c =
    ap terms_of_list (grind (arith, common_steps)) ∙ sym (closed_each (offer_of c.args.s.now) (names_of c.args.names.now) c.args.us.now)
