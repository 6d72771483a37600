use Rattle.free_terms.specs.View.{term_of}
use Rattle.free_terms.specs.declared.term.FTerm.TheVariants.{Meta}
use Rattle.free_terms.proofs.Trees.{term_of_meta}
use Rattle.branch_rules.specs.BranchView.{branch_in}
use Rattle.branch_rules.proofs.Works.{universal_works}
use Rattle.branch_rules.proofs.choosing.universal.Goals as goal

pub returns : goal.returns
returns c =
    let b = branch_in c.args.lists.now in
    universal_works b c.args.lists.now c.args.place c.entry_at-entry.result.now c.in_ok-name.name (term_of (Meta c.in_ok-name.name)) c.in_ok-parts.parts c.requires.reads
    c.in_ok-name.ensures (term_of_meta c.in_ok-name.name) c.entry_at-entry.ensures c.in_ok-parts.ensures
