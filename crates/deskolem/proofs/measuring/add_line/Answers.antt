use Rattle.std.proofs.Common.{[], ◌∷◌, subst}
use Rattle.gs3_rules.specs.Rules.{gamma}
use Rattle.unify.specs.View.{offer_of}
use Rattle.translation.specs.Translation.{term_under}
use Rattle.deskolem.specs.Sums.{Adds}
use Rattle.deskolem.specs.View.{names_of}
use Rattle.deskolem.proofs.measuring.add_line.Goals as goal

pub returns-in-Gamma-clause-sum : goal.returns-in-Gamma-clause-sum
returns-in-Gamma-clause-sum c fs are =
    let s = offer_of c.args.offer.now in
    let ys = names_of c.args.names.now in
    rw c.in-Gamma.is
    (subst (λ t. Adds fs c.args.so_far (gamma c.in-Gamma.place (term_under s ys t) ∷ []) c.args.limit c.add_gamma.result) c.metavariable-term.ensures
    (c.add_gamma.ensures.sum fs ys are))

pub returns-in-Rewrite-clause-sum : goal.returns-in-Rewrite-clause-sum
returns-in-Rewrite-clause-sum c fs are = rw c.in-Rewrite.is (c.add_rewriting.ensures.sum fs (names_of c.args.names.now) are)
