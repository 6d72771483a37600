use Rattle.gs3_text.proofs.Names.{names_are_lines}
use Rattle.round_text.proofs.spelling.RoundSpelling.new.Goals as goal

pub invariant_of-result : goal.invariant_of-result
invariant_of-result c = record { names = names_are_lines c.args.symbols.now.functions c.keeps.ensures.functions }
