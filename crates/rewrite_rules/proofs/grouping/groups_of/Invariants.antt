use Rattle.std.proofs.Common.{take}
use Rattle.rewrite_rules.specs.Groups.{AreGroups}
use Rattle.rewrite_rules.proofs.grouping.groups_of.Given as goal

abbrev pub invariant-loop-rule : goal.invariant-loop-rule
invariant-loop-rule l = AreGroups (take l.rule-index l.rules) l.groups.items
