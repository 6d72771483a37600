use Rattle.std.proofs.Common.{◌≡◌, ℕ, length, arith, ap, sym, ◌∙◌, None, Some}
use Rattle.std.proofs.lemmas.Bool.{false≢true}
use Rattle.rewrite_rules.specs.RuleView.{rules_in}
use Rattle.branch_rules.specs.Next.{conjunctive, IsPending}
use Rattle.branch_rules.specs.BranchValue.{entry_of}
use Rattle.branch_rules.specs.BranchView.{branch_in}
use Rattle.branch_rules.proofs.Chosen.{passed, pending_within, pending_candidate, conjunctive_found, conjunctive_not, answered_at}
use Rattle.branch_rules.proofs.conjunct.find_conjunctive.Goals.{then-is_candidate+in_ok-work+in_default, else-is_candidate}
use Rattle.branch_rules.proofs.conjunct.find_conjunctive.Goals as goal

pub returns-in-Some : goal.returns-in-Some
returns-in-Some c =
    let b = branch_in c.args.lists.now in
    conjunctive_found b c.args.from c.loop-i.i c.args.depth (entry_of c.entry_at-entry.result.now) c.in-Some.work c.entry_at-entry.ensures
    (c.is_candidate.ensures.0 c.if-is_candidate.true)
    (answered_at (rules_in c.args.rules.now) b.rules c.loop-i.i c.args.depth (entry_of c.entry_at-entry.result.now) c.in_ok-work.field-0 (Some c.in-Some.work) (ap rules_in c.requires.rules) c.in-Some.is c.in_ok-work.ensures)
    c.loop-i.invariant

pub loop-i-preserved : goal.loop-i-preserved
loop-i-preserved c =
    let b = branch_in c.args.lists.now in
    passed (IsPending b c.args.depth conjunctive) c.args.from c.loop-i.i c.loop-i.invariant
    (elim c.if-is_candidate.branch [
      | then-is_candidate+in_ok-work+in_default w ↦
          conjunctive_not b c.loop-i.i c.args.depth (entry_of w.entry_at-entry.result.now) w.entry_at-entry.ensures
          (answered_at (rules_in c.args.rules.now) b.rules c.loop-i.i c.args.depth (entry_of w.entry_at-entry.result.now) w.in_ok-work.field-0 None (ap rules_in c.requires.rules) w.in_default.is w.in_ok-work.ensures)
      | else-is_candidate w ↦
          λ p. false≢true (sym w.if-is_candidate.false ∙ c.is_candidate.ensures.1 (pending_candidate b c.args.depth c.loop-i.i p))
    ])

pub returns : goal.returns
returns c = λ j le p.
    let w = pending_within (branch_in c.args.lists.now) c.args.lists.now c.args.depth j c.requires.reads p in
    c.loop-i.invariant j le (omega (arith, w, c.len-i-end.ensures.value)) p
