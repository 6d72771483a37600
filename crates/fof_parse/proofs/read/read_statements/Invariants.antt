use Rattle.std.proofs.Common.{length}
use Rattle.fof_parse.specs.ProblemView.{plain_contents}
use Rattle.fof_parse.specs.Reader.Chunks.{ReadUpTo}
use Rattle.fof_parse.proofs.read.read_statements.Given as goal

abbrev pub invariant-statements : goal.invariant-statements
invariant-statements l = ReadUpTo l.bytes l.lexer (plain_contents l.contents)

abbrev pub decreases-statements : goal.decreases-statements
decreases-statements l = length l.lexer.rest
