use Rattle.std.proofs.Common.{refl}
use Rattle.branch_rules.proofs.growing.extend.Goals as goal

pub returns-in_err-metavars-clause-longer : goal.returns-in_err-metavars-clause-longer
returns-in_err-metavars-clause-longer c = record {
  rules = refl;
  start = refl;
  counts = refl;
  entries = c.push_entries-entries.ensures.longer;
  steps = c.push-steps.ensures.longer;
  metavars = c.push_name-metavars.ensures.longer;
  queue = c.push_turn-queue.ensures.longer;
}

pub returns-in_err-queue-clause-longer : goal.returns-in_err-queue-clause-longer
returns-in_err-queue-clause-longer c = record {
  rules = refl;
  start = refl;
  counts = refl;
  entries = c.push_entries-entries.ensures.longer;
  steps = c.push-steps.ensures.longer;
  metavars = c.push_name-metavars.ensures.longer;
  queue = c.push_turn-queue.ensures.longer;
}

pub returns-in_err-entries-clause-longer : goal.returns-in_err-entries-clause-longer
returns-in_err-entries-clause-longer c = record {
  rules = refl;
  start = refl;
  counts = refl;
  entries = c.push_entries-entries.ensures.longer;
  steps = c.push-steps.ensures.longer;
  metavars = c.push_name-metavars.ensures.longer;
  queue = c.push_turn-queue.ensures.longer;
}

pub returns-clause-longer : goal.returns-clause-longer
returns-clause-longer c = record {
  rules = refl;
  start = refl;
  counts = refl;
  entries = c.push_entries-entries.ensures.longer;
  steps = c.push-steps.ensures.longer;
  metavars = c.push_name-metavars.ensures.longer;
  queue = c.push_turn-queue.ensures.longer;
}
