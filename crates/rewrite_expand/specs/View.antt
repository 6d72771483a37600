-- What the program's expansion stands for.
use Rattle.gs3_rules.specs.Apply.{rule_of, rules_of}
use Rattle.rewrite_expand.specs.Expansion.{Expansion}
use Rattle.rewrite_expand.specs.declared.expanding.Expanded.{Expanded}

abbrev pub expansion_of : Expanded → Expansion
expansion_of e = record {
  before = rules_of e.before;
  closing = rule_of e.close;
  result = e.result_place;
  close_first = e.close_first;
}
