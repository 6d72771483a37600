use Rattle.std.proofs.Common.{ap, ◌∙◌, sym, subst, ◌<◌, Some, None}
use Rattle.free_terms.specs.View.{terms_of}
use Rattle.round_offers.specs.RoundOffer.{IsOfItsRound}
use Rattle.tab_field.proofs.InRound.{item_count, alone, nothing, found, found_of_round, unified}
use Rattle.tab_field.proofs.field.TabFieldField.attempt.Goals as goal

pub arguments-requires : goal.arguments-requires
arguments-requires c =
    subst (λ k. c.args.item < k)
    (sym (item_count c.args.self.now.round c.args.site.now c.site.result.now c.requires.site c.site.ensures.name c.site.ensures.stands))
    c.requires.item

pub returns-in-None : goal.returns-in-None
returns-in-None c =
    alone c.args.self.now.round c.args.site.now c.site.result.now c.requires.site c.site.ensures.name c.site.ensures.stands
    c.args.item c.args.given.now c.requires.given c.in_ok-copy-in-None.field-0 c.in-None.ensures c.in_ok-copy-in-None.ensures

pub new-requires-clause-of_round : goal.new-requires-clause-of_round
new-requires-clause-of_round c =
    let told = unified c.bindings.result.now c.args.given.now.bindings c.in-Some.two.atom.now c.in-Some.two.negated.now c.in_ok-made_equal.field-0 (Some c.in-Some-2.bindings)
    c.bindings.ensures.bindings c.in-Some-2.is c.in_ok-made_equal.ensures in
    subst (IsOfItsRound c.in-Some-2.bindings) (sym c.in_ok-copy-in-Some-2.ensures)
    (found_of_round c.args.self.now.round c.args.site.now c.site.result.now c.requires.site c.site.ensures.name c.site.ensures.stands
    c.args.item (terms_of c.in-Some.two.atom.now) (terms_of c.in-Some.two.negated.now) c.in-Some.ensures c.args.given.now c.requires.given c.bindings.ensures.of_round
    c.in-Some-2.bindings told)

pub returns-in-None-2 : goal.returns-in-None-2
returns-in-None-2 c =
    let told = unified c.bindings.result.now c.args.given.now.bindings c.in-Some.two.atom.now c.in-Some.two.negated.now c.in_ok-made_equal.field-0 (None)
    c.bindings.ensures.bindings c.in-None-2.is c.in_ok-made_equal.ensures in
    nothing c.args.self.now.round c.args.site.now c.site.result.now c.requires.site c.site.ensures.name c.site.ensures.stands
    c.args.item c.args.given.now c.requires.given (terms_of c.in-Some.two.atom.now) (terms_of c.in-Some.two.negated.now) c.in-Some.ensures told

pub returns-in_ok-copy-in-Some-2 : goal.returns-in_ok-copy-in-Some-2
returns-in_ok-copy-in-Some-2 c =
    let told = unified c.bindings.result.now c.args.given.now.bindings c.in-Some.two.atom.now c.in-Some.two.negated.now c.in_ok-made_equal.field-0 (Some c.new.result.bindings)
    c.bindings.ensures.bindings (c.in-Some-2.is ∙ ap Some (sym c.new.ensures.bindings)) c.in_ok-made_equal.ensures in
    found c.args.self.now.round c.args.site.now c.site.result.now c.requires.site c.site.ensures.name c.site.ensures.stands
    c.args.item c.args.given.now c.requires.given (terms_of c.in-Some.two.atom.now) (terms_of c.in-Some.two.negated.now) c.in-Some.ensures c.new.result
    (c.new.ensures.round ∙ c.in_ok-copy-in-Some-2.ensures) told
