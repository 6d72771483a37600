-- From a plan and its step to what came of the search.
use Rattle.std.proofs.Common.{◌≡◌, ℕ, ◌+◌, length, refl, ap, sym, ◌∙◌, subst}
use Rattle.branch_rules.specs.Branch.{Branch, Done, go_left, after, entries}
use Rattle.branch_rules.specs.Next.{ComesNext, IsLeaf}
use Rattle.branch_rules.specs.BranchView.{branch_in, HoldSame}
use Rattle.branch_rules.specs.Steps.{done_by}
use Rattle.branch_rules.specs.Plans.{PlanMeans, done_in}
use Rattle.branch_rules.specs.Taken.{IsTaken}
use Rattle.branch_rules.specs.Outcomes.{IsOutcome}
use Rattle.branch_rules.specs.declared.branch.Lists.{Lists}
use Rattle.branch_rules.specs.declared.step.TabStep.{TabStep}
use Rattle.branch_rules.specs.declared.work.Work.{Work}
use Rattle.branch_rules.specs.declared.work.Plan as plan
use Rattle.branch_rules.specs.declared.work.Outcome.TheVariants as came
use Rattle.branch_rules.proofs.Same.{same_branch}

pub leaf_outcome : (l m : Lists) (d : ℕ) (p : plan.Plan) → HoldSame l m → p ≡ plan.TheVariants.Done → PlanMeans (branch_in m) d p → IsOutcome l m d came.Done
leaf_outcome l m d p same is means = (same, subst (λ b. IsLeaf b d) (same_branch l m same) (subst (PlanMeans (branch_in m) d) is means))

pub split_outcome : (l m : Lists) (d i : ℕ) (p : plan.Plan) → HoldSame l m → p ≡ plan.TheVariants.Split i → PlanMeans (branch_in m) d p → IsOutcome l m d (came.Splits i)
split_outcome l m d i p same is means = (same, subst (λ b. ComesNext b d (go_left i)) (same_branch l m same) (subst (PlanMeans (branch_in m) d) is means))

pub step_means : (b : Branch) (d g : ℕ) (w : Work) (p : plan.Plan) → g ≡ d → p ≡ plan.TheVariants.Step w → PlanMeans b d p → PlanMeans b g (plan.TheVariants.Step w)
step_means b d g w p depth is means = subst (λ z. PlanMeans b z (plan.TheVariants.Step w)) (sym depth) (subst (PlanMeans b d) is means)

pub step_outcome : (l k m : Lists) (d : ℕ) (w : Work) (s : TabStep) (p : plan.Plan) → HoldSame l k → p ≡ plan.TheVariants.Step w → PlanMeans (branch_in k) d p → IsTaken k m w s → IsOutcome l m d (came.One s)
step_outcome l k m d w s p same is means taken = (
  subst (λ b. ComesNext b d (done_by s)) become (subst (ComesNext (branch_in k) d) (sym taken.step) (subst (PlanMeans (branch_in k) d) is means).0),
  taken.branch ∙ ap (after (branch_in k)) (sym taken.step) ∙ ap (λ b. after b (done_by s)) become,
  taken.rules ∙ same.rules,
  taken.many ∙ ap (λ b. length (entries b) + s.appended) become,
) where
  become : branch_in k ≡ branch_in l
  become = same_branch l k same
