use Rattle.std.proofs.Common.{length}
use Rattle.fof_lex.specs.Tokens.{LexesUpTo}
use Rattle.fof_lex.specs.Lexer.{place}
use Rattle.fof_lex.proofs.text.lex.Given as goal

abbrev pub invariant-tokens : goal.invariant-tokens
invariant-tokens l = LexesUpTo 0 l.bytes l.tokens (place l.lexer) l.lexer.rest

abbrev pub decreases-tokens : goal.decreases-tokens
decreases-tokens l = length l.lexer.rest
