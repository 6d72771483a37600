use Rattle.std.proofs.Common.{◌≡◌, ◌++◌, map, refl, ap, sym, ◌∙◌}
use Rattle.fof_parse.specs.Problem.{Start}
use Rattle.fof_parse.specs.ProblemView.{plain_problem}
use Rattle.free_terms.specs.Free.{lift}
use Rattle.branch_rules.specs.Branch.{root}
use Rattle.branch_rules.specs.ListsGrown.{held_at}
use Rattle.branch_rules.specs.declared.branch.Lists.{Lists}
use Rattle.rewrite_rules.specs.RuleView.{rules_in}
use Rattle.branch_rules.proofs.Started.{IsStart, no_agenda, start_left, start_branch}
use Rattle.branch_rules.proofs.starting.start.Goals as goal

pub invariant_of-result : goal.invariant_of-result
invariant_of-result c =
    let l : Lists = record {
      rules = c.in_ok-copy.field-0;
      start = c.in_ok-start.start;
      entries = c.push_entries.new.entries;
      steps = c.empty.result;
      metavars = c.empty-2.result;
      counts = record { segment = 1; metavars = 0; skolems = 0; splits = 0 };
    } in
    let h : IsStart l c.in_ok-formulas.formulas = record {
      start = c.in_ok-start.ensures.value ∙ c.len.ensures;
      entries = c.in_ok-push_entries.ensures.ok ∙ ap (λ e. e.items ++ held_at 0 0 c.as_slice.result.now) c.empty-entries.ensures ∙ ap (held_at 0 0) c.as_slice.ensures;
      steps = ap (λ e. e.items) c.empty.ensures;
      metavars = ap (λ e. e.items) c.empty-2.ensures;
      counts = refl;
      few = c.in_ok-start.ensures.few;
    } in
    let left = start_left l c.in_ok-formulas.formulas no_agenda c.empty-3.result.items h refl (ap (λ e. e.items) c.empty-3.ensures) in
    record { reads = left.0; agenda = left.1; ready = tt }

pub returns-clause-branch : goal.returns-clause-branch
returns-clause-branch c =
    let l : Lists = record {
      rules = c.in_ok-copy.field-0;
      start = c.in_ok-start.start;
      entries = c.push_entries.new.entries;
      steps = c.empty.result;
      metavars = c.empty-2.result;
      counts = record { segment = 1; metavars = 0; skolems = 0; splits = 0 };
    } in
    let h : IsStart l c.in_ok-formulas.formulas = record {
      start = c.in_ok-start.ensures.value ∙ c.len.ensures;
      entries = c.in_ok-push_entries.ensures.ok ∙ ap (λ e. e.items ++ held_at 0 0 c.as_slice.result.now) c.empty-entries.ensures ∙ ap (held_at 0 0) c.as_slice.ensures;
      steps = ap (λ e. e.items) c.empty.ensures;
      metavars = ap (λ e. e.items) c.empty-2.ensures;
      counts = refl;
      few = c.in_ok-start.ensures.few;
    } in
    start_branch l c.in_ok-formulas.formulas h ∙ ap (λ s. root s (rules_in c.in_ok-copy.field-0)) c.in_ok-formulas.ensures ∙ ap (λ r. root (map lift (Start (plain_problem c.args.problem.now))) (rules_in r)) c.in_ok-copy.ensures
