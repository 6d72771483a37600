use Rattle.std.proofs.Common.{refl, sym, ◌∙◌}
use Rattle.std.proofs.lemmas.List.{length-map}
use Rattle.unify.specs.Memo.{with_names}
use Rattle.unify.specs.View.{offer_of}
use Rattle.unify.specs.Work.{pair_of, pairs_of}
use Rattle.unify.proofs.Remembered.{always, met_before, one_left, remembers_met}
use Rattle.unify.proofs.step.compared_names.Goals as goal

pub returns-then-contains-clause-step : goal.returns-then-contains-clause-step
returns-then-contains-clause-step c =
    let now = c.in_ok-settle.ensures (offer_of c.args.s.now) (with_names (pairs_of c.args.work.now.items) c.args.x c.args.y)
    (one_left c.args.work.now.items c.args.x c.args.y c.len.result c.len.ensures.value) c.requires.memo in
    met_before (offer_of c.args.s.now) (pairs_of c.args.work.now.items) c.args.x c.args.y c.settle.new.memo.done now.done (sym c.contains.ensures ∙ c.if-contains.true)

pub returns-then-contains-clause-memo : goal.returns-then-contains-clause-memo
returns-then-contains-clause-memo c =
    c.in_ok-settle.ensures (offer_of c.args.s.now) (with_names (pairs_of c.args.work.now.items) c.args.x c.args.y)
    (one_left c.args.work.now.items c.args.x c.args.y c.len.result c.len.ensures.value) c.requires.memo

pub returns-clause-memo : goal.returns-clause-memo
returns-clause-memo c =
    let now = c.in_ok-settle.ensures (offer_of c.args.s.now) (with_names (pairs_of c.args.work.now.items) c.args.x c.args.y)
    (one_left c.args.work.now.items c.args.x c.args.y c.len.result c.len.ensures.value) c.requires.memo in
    always c.compared-2.result
    (remembers_met (offer_of c.args.s.now) (pairs_of c.args.work.now.items) c.args.x c.args.y c.settle.new.memo
    (record { waiting = c.push.new.self; done = c.settle.new.memo.done })
    (record { left = c.args.x; right = c.args.y; below = c.len-below.result }) now c.in_ok-push.ensures.items refl refl refl
    (c.len-below.ensures.value ∙ sym (length-map c.args.work.now.items pair_of)))
