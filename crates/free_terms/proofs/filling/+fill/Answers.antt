use Rattle.std.proofs.Common.{arith, ap, sym, ◌∙◌}
use Rattle.std.proofs.lemmas.Grind.{common_steps}
use Rattle.free_terms.specs.Free.{terms_of_list}
use Rattle.free_terms.proofs.Filled.{fill_terms_of}
use Rattle.free_terms.proofs.filling.+fill.Goals as goal

pub filled_terms-returns-in_ok-new-in-Some : goal.filled_terms-returns-in_ok-new-in-Some
filled_terms-returns-in_ok-new-in-Some t c =
    ap terms_of_list (grind (arith, common_steps)) ∙ sym (fill_terms_of _ c.args.level c.args.us.now)

pub filled_terms-returns-in-None : goal.filled_terms-returns-in-None
filled_terms-returns-in-None t c =
    ap terms_of_list (grind (arith, common_steps)) ∙ sym (fill_terms_of _ c.args.level c.args.us.now)
