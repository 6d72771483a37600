use Rattle.std.proofs.Common.{◌≡◌, map, ap, sym, ◌∙◌, subst}
use Rattle.free_terms.specs.Free.{skolem, HoldsNoBound, HoldNoBound}
use Rattle.free_terms.specs.View.{name_of, terms_of}
use Rattle.free_terms.proofs.Trees.{term_of_skolem}
use Rattle.branch_rules.proofs.Works.{metavars_closed}
use Rattle.branch_rules.proofs.choosing.skolem_over.Goals as goal

pub returns-clause-closed : goal.returns-clause-closed
returns-clause-closed c =
    subst HoldsNoBound (sym (term_of_skolem c.args.name c.in_ok-new.field-0))
    (subst HoldNoBound (sym (ap terms_of c.in_ok-new.ensures ∙ c.in_ok-args.ensures)) (metavars_closed (map name_of c.args.names.now.items)))
