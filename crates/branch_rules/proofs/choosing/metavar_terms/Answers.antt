use Rattle.std.proofs.Common.{◌≡◌, ◌+◌, map, length, arith}
use Rattle.free_terms.specs.View.{term_of}
use Rattle.free_terms.specs.declared.term.FTerm.TheVariants.{Meta}
use Rattle.free_terms.proofs.Trees.{term_of_meta}
use Rattle.branch_rules.proofs.Works.{all_metavars, next_metavar_term}
use Rattle.branch_rules.proofs.choosing.metavar_terms.Goals as goal

pub loop-i-preserved : goal.loop-i-preserved
loop-i-preserved c =
    next_metavar_term c.loop-i.out c.push.new.self c.args.names.now.items c.loop-i.i (c.loop-i.i + 1) c.item_at.result.now (Meta c.item_at.result.now) (omega arith)
    c.item_at.ensures (term_of_meta c.item_at.result.now) c.in_ok-push.ensures.ok c.loop-i.invariant

pub returns : goal.returns
returns c = all_metavars c.args.names.now.items (map term_of c.loop-i.out) c.loop-i.i (omega (arith, c.len-i-end.ensures.value)) c.loop-i.invariant
