use Rattle.std.proofs.Common.{◌≡◌, ℕ, refl, subst, arith}
use Rattle.std.proofs.lemmas.Result.{IfOk-weaker}
use Rattle.fof_parse.specs.ProblemView.{plain_problem}
use Rattle.rewrite_rules.specs.RuleView.{rules_in}
use Rattle.deepening.specs.Depths.{NoneBefore}
use Rattle.deepening.specs.declared.order.Way.TheVariants.{Alone}
use Rattle.deepening.proofs.Deeper.{ends_search, goes_deeper, some-ending, no-ending}
use Rattle.deepening.proofs.searching.search_alone.Goals as goal

pub returns-then-is_some : goal.returns-then-is_some
returns-then-is_some c =
    let settled = c.in_ok-settled.settled in
    IfOk-weaker c.ended.result _ _
    (λ s h.
    ends_search c.args.problem.now c.args.rules.now c.loop-depth.depth (Alone c.args.order) c.args.limits c.in_ok-round.round settled s
    c.in_ok-round.ensures c.requires.limits c.loop-depth.invariant.none_before c.loop-depth.invariant.first
    (omega (arith, c.loop-depth-test.true))
    (λ none. absurd (some-ending settled.ending c.is_some.result c.is_some.ensures c.if-is_some.true none))
    c.in_ok-settled.ensures (rw c.get.ensures at h))
    c.ended.ensures

pub loop-depth-preserved : goal.loop-depth-preserved
loop-depth-preserved c =
    let settled = c.in_ok-settled.settled in
    record {
      first = omega (arith, c.loop-depth.invariant.first);
      none_before =
          goes_deeper c.args.problem.now c.args.rules.now c.loop-depth.depth (Alone c.args.order) c.args.limits c.in_ok-round.round settled.kept
          settled.ending c.in_ok-round.ensures c.in_ok-settled.ensures
          (no-ending settled.ending c.is_some.result c.is_some.ensures c.if-is_some.false) c.loop-depth.invariant.none_before;
    }

pub returns : goal.returns
returns c =
    let whole : c.loop-depth.depth ≡ c.args.limits.depth =
    omega (arith, c.loop-depth-test.false, c.loop-depth.invariant.first, c.requires.limits.depth) in
    let before =
    subst (λ (d : ℕ). NoneBefore (plain_problem c.args.problem.now) (rules_in c.args.rules.now) d) whole c.loop-depth.invariant.none_before in
    IfOk-weaker c.ended-2.result _ _
    (λ s h.
    ends_search c.args.problem.now c.args.rules.now c.args.limits.depth (Alone c.args.order) c.args.limits c.in_ok-round-2.round c.in_ok-last.last s
    c.in_ok-round-2.ensures c.requires.limits before c.requires.limits.depth (omega arith) (λ none. refl) c.in_ok-last.ensures
    (rw c.get-2.ensures at h))
    c.ended-2.ensures
