use Rattle.free_terms.specs.View.{term_of}
use Rattle.branch_rules.specs.BranchView.{branch_in}
use Rattle.branch_rules.proofs.Works.{existential_works}
use Rattle.branch_rules.proofs.choosing.existential.Goals as goal
use Rattle.std.proofs.Common.{refl}

pub returns : goal.returns
returns c =
    let b = branch_in c.args.lists.now in
    existential_works b c.args.lists.now c.args.place c.entry_at-entry.result.now c.in_ok-name.name (term_of c.in_ok-term.term) c.args.lists.now.metavars.items c.in_ok-parts.parts c.requires.reads
    c.in_ok-name.ensures refl c.in_ok-term.ensures.value c.entry_at-entry.ensures c.in_ok-parts.ensures
