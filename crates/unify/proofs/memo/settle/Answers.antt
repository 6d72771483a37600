use Rattle.std.proofs.Common.{◌++◌, append-nil, refl, ap, sym, ◌∙◌, arith}
use Rattle.std.specs.Option.{option_to_list}
use Rattle.unify.proofs.Remembered.{keeps_settled, keeps_put_back}
use Rattle.unify.proofs.memo.settle.Goals as goal

pub returns-then-met-left : goal.returns-then-met-left
returns-then-met-left c =
    keeps_put_back c.args.left c.args.memo.now c.loop-met.memo (record { waiting = c.push.new.self; done = c.loop-met.memo.done }) c.loop-met.invariant
    (c.in_ok-push.ensures.items ∙ sym c.in-Some.ensures.items) refl

pub loop-met-preserved : goal.loop-met-preserved
loop-met-preserved c =
    keeps_settled c.args.left c.args.memo.now c.loop-met.memo (record { waiting = c.pop.new.self; done = c.insert.new.self }) c.pop.new.self.items c.in-Some.met
    c.loop-met.invariant c.in-Some.ensures.items refl (omega (arith, c.if-met-left.false)) c.in_ok-insert.ensures.updates

pub returns : goal.returns
returns c =
    keeps_put_back c.args.left c.args.memo.now c.loop-met.memo (record { waiting = c.pop.new.self; done = c.loop-met.memo.done }) c.loop-met.invariant
    (sym (c.pop.ensures.items ∙ ap (λ o. c.pop.new.self.items ++ option_to_list o) c.in_default.is ∙ append-nil c.pop.new.self.items)) refl
