use Rattle.std.proofs.Common.{arith, ap, sym, ◌∙◌}
use Rattle.std.proofs.lemmas.Grind.{common_steps}
use Rattle.free_terms.specs.Free.{terms_of_list}
use Rattle.free_terms.proofs.Filled.{shared_is}
use Rattle.free_terms.proofs.Params.{lift_terms_of}
use Rattle.free_terms.proofs.lifting.+lifted_term.Goals as goal

pub lifted_terms-returns : goal.lifted_terms-returns
lifted_terms-returns t c =
    shared_is c.new.result _ _ c.new.ensures (ap terms_of_list (grind (arith, common_steps)) ∙ sym (lift_terms_of c.args.us.now))
