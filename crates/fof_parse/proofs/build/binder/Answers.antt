use Rattle.std.proofs.Common.{◌≡◌, suc, ◌-◌, drop, None, sym, subst, ◌∙◌, arith}
use Rattle.fof_parse.specs.Problem.{binder}
use Rattle.fof_parse.specs.Reader.Building.{names}
use Rattle.fof_parse.proofs.Binders.{innermost}
use Rattle.fof_parse.proofs.build.binder.Goals as goal

pub returns-then-eq : goal.returns-then-eq
returns-then-eq c =
    let e : suc (c.loop-i.i - 1) ≡ c.loop-i.i = omega (arith, c.loop-i-test.true) in
    innermost c.args.scope.now c.args.word.now (c.loop-i.i - 1) _ (omega (arith, c.loop-i-test.true, c.loop-i.auto.i)) (sym c.eq.ensures ∙ c.if-eq.true)
    (subst (λ n. binder (names (drop n c.args.scope.now)) c.args.word.now ≡ None) (sym e) c.loop-i.invariant)
