use Rattle.std.proofs.Common.{◌≡◌, ℕ, length, arith, ap, sym, ◌∙◌}
use Rattle.std.proofs.lemmas.Bool.{false≢true}
use Rattle.branch_rules.specs.BranchView.{branch_in}
use Rattle.branch_rules.specs.Plans.{IsFree}
use Rattle.branch_rules.proofs.Chosen.{passed, free_within}
use Rattle.branch_rules.proofs.finding.find.Goals as goal

pub loop-i-preserved : goal.loop-i-preserved
loop-i-preserved c =
    passed (IsFree (branch_in c.args.lists.now) c.args.kind) c.args.from c.loop-i.i c.loop-i.invariant (λ f. false≢true (sym c.if-is_free.false ∙ c.is_free.ensures.1 f))

pub returns : goal.returns
returns c = λ j le f.
    let w = free_within (branch_in c.args.lists.now) c.args.lists.now c.args.kind j c.requires.reads f in
    c.loop-i.invariant j le (omega (arith, w, c.len-i-end.ensures.value)) f
