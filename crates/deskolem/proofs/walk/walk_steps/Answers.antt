use Rattle.std.proofs.Common.{slice_get, rules, arith, ap, subst, ◌∙◌}
use Rattle.branch_rules.specs.Branch.{entries}
use Rattle.branch_rules.specs.BranchValue.{branch_of}
use Rattle.deskolem.specs.Walking.{IsStep, closing_for}
use Rattle.deskolem.proofs.Walks.{walks_further, walks_refused, walks_there, walks_end, kept_more}
use Rattle.deskolem.proofs.walk.walk_steps.Goals as goal

pub returns-then-is_there-clause-walked : goal.returns-then-is_there-clause-walked
returns-then-is_there-clause-walked c =
    walks_there c.args.walk.now c.loop-step.walk c.loop-step.closings (branch_of c.args.site.now.branch) c.args.site.now.steps c.loop-step.step-index c.args.newest c.loop-step.invariant.on
    (search rules)

pub returns-in-Err-clause-walked : goal.returns-in-Err-clause-walked
returns-in-Err-clause-walked c =
    walks_refused c.args.walk.now c.loop-step.walk c.loop-step.closings (branch_of c.args.site.now.branch) c.args.site.now.steps c.loop-step.step-index c.args.newest c.loop-step.invariant.on
    c.walk_step.new.walk c.step-item.result c.in-Err.e (search rules) (search rules) (search rules) c.in-Err.ensures.refused

pub loop-step-preserved : goal.loop-step-preserved
loop-step-preserved c = record {
  standing = c.in-Ok.ensures.standing;
  kept = kept_more c.args.walk.now.places.items c.loop-step.walk.places.items c.walk_step.new.walk.places.items _ c.loop-step.invariant.kept c.in-Ok.ensures.step.places;
  left = omega (arith, c.in-Ok.ensures.step.left, c.loop-step.invariant.left);
  on = walks_further c.args.walk.now c.loop-step.walk c.loop-step.closings (branch_of c.args.site.now.branch) c.args.site.now.steps c.loop-step.step-index c.args.newest c.loop-step.invariant.on
      c.walk_step.new.walk c.note.new.closings c.in-Ok.found c.step-item.result (search rules) (search rules) (search rules)
      (subst (λ b. IsStep (slice_get (entries (branch_of b)) c.step-item.result.place) c.step-item.result.place c.step-item.result.kind c.loop-step.walk c.walk_step.new.walk) c.branch-site.ensures c.in-Ok.ensures.step)
      (c.in-Ok.ensures.closing ∙ ap (λ b. closing_for (slice_get (entries (branch_of b)) c.step-item.result.place) c.step-item.result.place c.step-item.result.kind c.loop-step.walk.places.items c.loop-step.walk.len) c.branch-site.ensures)
      c.in_ok-note-in-Ok.ensures;
  items = c.loop-step.invariant.items;
}

pub returns-clause-walked : goal.returns-clause-walked
returns-clause-walked c =
    walks_end c.args.walk.now c.loop-step.walk c.loop-step.closings (branch_of c.args.site.now.branch) c.args.site.now.steps c.loop-step.step-index c.args.newest c.loop-step.invariant.on
    (search rules)
