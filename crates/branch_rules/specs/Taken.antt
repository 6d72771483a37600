-- What a step within a segment does to the lists and to the agenda.
use Rattle.std.specs.Prelude.{◌≡◌, ℕ, suc, ◌+◌, max, length}
use Rattle.branch_rules.specs.Branch.{Branch, after, entries, times_taken}
use Rattle.branch_rules.specs.BranchView.{branch_in}
use Rattle.branch_rules.specs.Steps.{done_by}
use Rattle.branch_rules.specs.Plans.{done_in}
use Rattle.branch_rules.specs.declared.step.TabKind.{TabKind}
use Rattle.branch_rules.specs.declared.step.TabKind.TheVariants.{Alpha, Rewrite, Skolem, Instance}
use Rattle.branch_rules.specs.declared.step.TabStep.{TabStep}
use Rattle.branch_rules.specs.declared.branch.Agenda.{Agenda}
use Rattle.branch_rules.specs.declared.branch.Counts.{Counts}
use Rattle.branch_rules.specs.declared.branch.Lists.{Lists}
use Rattle.branch_rules.specs.declared.work.Work.{Work}

-- the counts after a step of the kind
abbrev pub counts_by : Counts → TabKind → Counts
counts_by c Alpha = c
counts_by c (Rewrite r) = c
counts_by c (Skolem x) = record { segment = c.segment; metavars = c.metavars; skolems = x.count; splits = c.splits }
counts_by c (Instance x) = record { segment = c.segment; metavars = x.count; skolems = c.skolems; splits = c.splits }

-- the agenda after a conjunctive step or a rewriting at the place: the search goes on behind it
abbrev pub past_conjunctive : Agenda → ℕ → Agenda
past_conjunctive g place = record g { conjunctive = place + 1; untaken = max g.untaken (place + 1) }

abbrev pub past_existential : Agenda → ℕ → Agenda
past_existential g place = record g { existential = place + 1 }

abbrev pub past_disjunctive : Agenda → ℕ → Agenda
past_disjunctive g place = record g { disjunctive = place + 1 }

-- the agenda after the use of the entry whose turn it is
abbrev pub past_turn : Agenda → Agenda
past_turn g = record g { turn = g.turn + 1; waiting = max g.waiting (g.turn + 1) }

abbrev pub agenda_by : Agenda → TabKind → ℕ → Agenda
agenda_by g Alpha place = past_conjunctive g place
agenda_by g (Rewrite r) place = past_conjunctive g place
agenda_by g (Skolem x) place = past_existential g place
agenda_by g (Instance x) place = past_turn g

-- where the step uses an entry, the number says how often it will have been used
abbrev pub CountsUses : Branch → TabKind → ℕ → ℕ → Type 0
CountsUses b Alpha place n = Unit {0}
CountsUses b (Rewrite r) place n = Unit {0}
CountsUses b (Skolem x) place n = Unit {0}
CountsUses b (Instance x) place n = n ≡ suc (times_taken b place)

pub record IsTaken (l m : Lists) (w : Work) (s : TabStep) : Type 0 where
  pub step : done_by s ≡ done_in w
  pub branch : branch_in m ≡ after (branch_in l) (done_in w)
  pub rules : m.rules ≡ l.rules
  pub many : length (entries (branch_in m)) ≡ length (entries (branch_in l)) + s.appended
