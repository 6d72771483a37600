use Rattle.std.proofs.Common.{◌≡◌, List, length}
use Rattle.fof_lex.specs.Tokens.{LexesUpTo}
use Rattle.fof_lex.specs.Lexer.{place}
use Rattle.fof_lex.specs.declared.token.Token.{Token}
use Rattle.fof_lex.proofs.lexer.Lexer.read_on.Given as goal

abbrev pub invariant-tokens : goal.invariant-tokens
invariant-tokens l = (l.self.text ≡ l.initial.self.text) × (tokens : List Token) × LexesUpTo (place l.initial.self) l.initial.self.rest tokens (place l.self) l.self.rest

abbrev pub decreases-tokens : goal.decreases-tokens
decreases-tokens l = length l.self.rest
