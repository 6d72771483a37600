use Rattle.std.proofs.Common.{ap, subst, ◌∙◌}
use Rattle.free_terms.specs.View.{name_of, term_of}
use Rattle.free_terms.proofs.Trees.{term_of_meta}
use Rattle.unify.specs.View.{offer_of}
use Rattle.unify.specs.Work.{IsHead, pairs_of}
use Rattle.unify.proofs.Steps.{if_ok, left_goes, right_goes, split_goes}
use Rattle.unify.proofs.Variants.{not_metavar}
use Rattle.unify.proofs.step.compared.Goals as goal

pub returns-in-Meta : goal.returns-in-Meta
returns-in-Meta c =
    let l = subst (IsHead (offer_of c.args.s.now) (term_of c.args.pair.now.left)) (ap term_of c.in-Meta.is ∙ term_of_meta c.in-Meta.x) c.head-left.ensures in
    if_ok c.against.result (λ st p. left_goes _ (pairs_of c.args.work.now.items) _ _ (name_of c.in-Meta.x) _ st l c.head-right.ensures p) c.against.ensures

pub returns-in-Meta-right : goal.returns-in-Meta-right
returns-in-Meta-right c =
    let l = subst (IsHead (offer_of c.args.s.now) (term_of c.args.pair.now.right)) (ap term_of c.in-Meta-right.is ∙ term_of_meta c.in-Meta-right.x) c.head-right.ensures in
    if_ok c.against-in-Meta-right.result (λ st p. right_goes _ (pairs_of c.args.work.now.items) _ _ (name_of c.in-Meta-right.x) _ st c.head-left.ensures l p) c.against-in-Meta-right.ensures

pub returns : goal.returns
returns c =
    if_ok c.split.result (λ st p. split_goes _ (pairs_of c.args.work.now.items) _ _ _ _ _ st c.head-left.ensures c.head-right.ensures
    (not_metavar c.head-left.result.now c.in_default.not-Meta) (not_metavar c.head-right.result.now c.in_default-right.not-Meta) p) c.split.ensures
