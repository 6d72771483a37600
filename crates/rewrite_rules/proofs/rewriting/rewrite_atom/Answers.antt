use Rattle.std.proofs.Common.{Some, arith}
use Rattle.free_terms.specs.View.{terms_of}
use Rattle.rewrite_rules.specs.Firing.{Answers, literal_of}
use Rattle.rewrite_rules.specs.RuleView.{rule_of, rewriting_of}
use Rattle.rewrite_rules.proofs.Groups.{group_end, group_found}
use Rattle.rewrite_rules.proofs.rewriting.rewrite_atom.Goals as goal

pub returns-in-Some : goal.returns-in-Some
returns-in-Some c =
    let fires : Answers (rule_of c.rule-item.result) (literal_of c.args.negated c.rule-item.result.predicate (terms_of c.args.args.now)) (Some (rewriting_of c.in-Some.rewritten)) = grind (arith, c.in_ok-rewritten.ensures, c.in-Some.is, c.get.ensures) in
    group_found c.args.rules.now c.for_predicate-rule-items.result.now c.args.negated c.args.predicate (terms_of c.args.args.now) c.loop-rule.rule-index c.rule-item.result (rewriting_of c.in-Some.rewritten)
    c.for_predicate-rule-items.ensures (omega arith) c.rule-item.is fires c.loop-rule.invariant

pub returns : goal.returns
returns c =
    group_end c.args.rules.now c.for_predicate-rule-items.result.now c.args.negated c.args.predicate (terms_of c.args.args.now) c.loop-rule.rule-index
    c.for_predicate-rule-items.ensures (omega arith) c.loop-rule.invariant
