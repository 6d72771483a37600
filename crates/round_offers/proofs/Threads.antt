-- That rounds and offers cross threads, type by type: all at once is more than one search may take.
use denote.RattleType.{RattleType}
use denote.Param.Send.{IsSync, IsSend, sendable}
use Rattle.std.proofs.Crossing.{crosses}
use Rattle.std.proofs.MapsCrossing.{crosses as maps_cross}
use Rattle.fol_core.proofs.term.Term.TheLaws.TheKnot.{both_send-Term, both_sync-Term}
use Rattle.fol_core.proofs.formula.Formula.TheLaws.TheKnot.{crosses as formula_crosses, crosses_both as formula_both}
use Rattle.fol_core.proofs.term.Term.TheLaws.TheKnot.{crosses as term_crosses, crosses_both as term_both}
use Rattle.free_terms.proofs.term.FTerm.TheLaws.TheKnot.{both_send-FTerm, both_sync-FTerm}
use Rattle.free_terms.proofs.term.FTerm.TheLaws.TheKnot.{crosses as fterm_crosses, crosses_both as fterm_both}
use Rattle.fol_core.specs.contracts.term.Term as term
use Rattle.free_terms.specs.contracts.term.FTerm as fterm
use Rattle.fol_core.specs.contracts.symbols.Symbols as symbols
use Rattle.fof_parse.specs.contracts.problem.Statement as statement
use Rattle.fof_parse.specs.contracts.problem.Problem as problem
use Rattle.rewrite_rules.specs.contracts.rule.Rule as rule
use Rattle.rewrite_rules.specs.contracts.rules.Rules as rules
use Rattle.unify.specs.contracts.subst.Subst as subst
use Rattle.unify.specs.contracts.bindings.Binding as binding
use Rattle.seg_list.proofs.segment.Segment.TheLaws.TheKnot.{crosses as segment_crosses, both_send-Segment as segment_send, both_sync-Segment as segment_sync}
use Rattle.lit_index.proofs.segment.Segment.TheLaws.TheKnot.{crosses as indexed_crosses, both_send-Segment as indexed_send, both_sync-Segment as indexed_sync}
use Rattle.seg_list.specs.contracts.list.SegList as list
use Rattle.branch_rules.specs.contracts.held.Entry as entry
use Rattle.branch_rules.specs.contracts.held.Held as held
use Rattle.branch_rules.specs.contracts.step.Done as done
use Rattle.branch_rules.specs.contracts.step.TabStep as step
use Rattle.branch_rules.specs.contracts.branch.Branch as branch
use Rattle.rewrite_rules.specs.contracts.rule.Rewritten as rewritten
use Rattle.lit_index.specs.contracts.index.LitIndex as index
use Rattle.tab_tree.specs.contracts.site.Site as site
use Rattle.tab_tree.specs.contracts.round.Round as round
use Rattle.round_offers.specs.contracts.offer.TabOffer as offer

pub term_sync : IsSync term.the_row
term_sync = search (both_sync-Term, sendable, crosses) depth 40 fits 20000

pub term_send : IsSend term.the_row
term_send = search (both_send-Term, sendable, crosses) depth 40 fits 20000

pub fterm_sync : IsSync fterm.the_row
fterm_sync = search (both_sync-FTerm, sendable, crosses) depth 40 fits 20000

pub fterm_send : IsSend fterm.the_row
fterm_send = search (both_send-FTerm, sendable, crosses) depth 40 fits 20000

symbols_sync : IsSync symbols.the_row
symbols_sync = search (sendable, crosses) depth 40 fits 20000

symbols_send : IsSend symbols.the_row
symbols_send = search (sendable, crosses) depth 40 fits 20000

statement_sync : IsSync statement.the_row
statement_sync = search (sendable, crosses) depth 40 fits 20000

statement_send : IsSend statement.the_row
statement_send = search (sendable, crosses) depth 40 fits 20000

pub problem_sync : IsSync problem.the_row
problem_sync = search (symbols_sync, statement_sync, formula_crosses, formula_both, term_crosses, term_both, sendable, crosses) depth 60 fits 400000

pub problem_send : IsSend problem.the_row
problem_send = search (symbols_send, statement_send, formula_crosses, formula_both, term_crosses, term_both, sendable, crosses) depth 60 fits 400000

rule_sync : IsSync rule.the_row
rule_sync = search (formula_crosses, formula_both, term_crosses, term_both, fterm_crosses, fterm_both, sendable, crosses) depth 60 fits 400000

rule_send : IsSend rule.the_row
rule_send = search (formula_crosses, formula_both, term_crosses, term_both, fterm_crosses, fterm_both, sendable, crosses) depth 60 fits 400000

pub rules_sync : IsSync rules.the_row
rules_sync = search (rule_sync, rule_send, sendable, crosses) depth 60 fits 400000

pub rules_send : IsSend rules.the_row
rules_send = search (rule_sync, rule_send, sendable, crosses) depth 60 fits 400000

pub round_sync : IsSync round.the_row
round_sync = search (problem_sync, problem_send, rules_sync, rules_send, sendable, crosses) depth 40 fits 20000

pub round_send : IsSend round.the_row
round_send = search (problem_sync, problem_send, rules_sync, rules_send, sendable, crosses) depth 40 fits 20000

binding_sync : IsSync binding.the_row
binding_sync = search (fterm_crosses, fterm_both, both_sync-FTerm, sendable, crosses) depth 60 fits 400000

binding_send : IsSend binding.the_row
binding_send = search (fterm_crosses, fterm_both, both_send-FTerm, sendable, crosses) depth 60 fits 400000

subst_sync : IsSync subst.the_row
subst_sync = search (binding_sync, sendable, crosses, maps_cross) depth 60 fits 400000

subst_send : IsSend subst.the_row
subst_send = search (binding_send, sendable, crosses, maps_cross) depth 60 fits 400000

pub offer_sync : IsSync offer.the_row
offer_sync = search (subst_sync, round_sync, round_send, sendable, crosses) depth 40 fits 20000

pub offer_send : IsSend offer.the_row
offer_send = search (subst_send, round_sync, round_send, sendable, crosses) depth 40 fits 20000

entry_sync : IsSync entry.the_row
entry_sync = search (formula_crosses, formula_both, fterm_crosses, fterm_both, sendable, crosses) depth 60 fits 400000

entry_send : IsSend entry.the_row
entry_send = search (formula_crosses, formula_both, fterm_crosses, fterm_both, sendable, crosses) depth 60 fits 400000

rewritten_sync : IsSync rewritten.the_row
rewritten_sync = search (formula_crosses, formula_both, fterm_crosses, fterm_both, sendable, crosses) depth 60 fits 400000

rewritten_send : IsSend rewritten.the_row
rewritten_send = search (formula_crosses, formula_both, fterm_crosses, fterm_both, sendable, crosses) depth 60 fits 400000

list_send : (R : RattleType) → IsSend R → IsSync R → IsSend (list.the_row R)
list_send R x y = search (segment_crosses, segment_send, segment_sync, sendable, crosses) depth 60 fits 400000

held_send : IsSend held.the_row
held_send = search (formula_crosses, formula_both, fterm_crosses, fterm_both, sendable, crosses) depth 60 fits 400000

held_sync : IsSync held.the_row
held_sync = search (formula_crosses, formula_both, fterm_crosses, fterm_both, sendable, crosses) depth 60 fits 400000

done_send : IsSend done.the_row
done_send = search (rewritten_sync, rewritten_send, sendable, crosses) depth 60 fits 400000

done_sync : IsSync done.the_row
done_sync = search (rewritten_sync, rewritten_send, sendable, crosses) depth 60 fits 400000

branch_send : IsSend branch.the_row
branch_send = search (list_send, held_send, held_sync, done_send, done_sync, rules_sync, rules_send, sendable, crosses) depth 60 fits 400000

step_send : IsSend step.the_row
step_send = search (rewritten_sync, rewritten_send, sendable, crosses) depth 60 fits 400000

index_send : IsSend index.the_row
index_send = search (indexed_crosses, indexed_send, indexed_sync, sendable, crosses, maps_cross) depth 60 fits 400000

pub site_send : IsSend site.the_row
site_send = search (branch_send, step_send, index_send, sendable, crosses) depth 40 fits 20000

pub ruleset threads = (term_sync, term_send, fterm_sync, fterm_send, problem_sync, problem_send, rules_sync, rules_send, round_sync, round_send, offer_sync, offer_send, sendable, crosses)
