use Rattle.std.proofs.Common.{◌≡◌, length}
use Rattle.fof_lex.proofs.UpTo.{Passed}
use Rattle.fof_lex.proofs.lexer.Lexer.next_token.Given as goal

abbrev pub invariant-pieces : goal.invariant-pieces
invariant-pieces l = record {
  text : l.self-inside.bytes.now ≡ l.fn.self.text;
  start : l.self-inside.rest.now ≡ l.fn.self.rest;
  passed : Passed l.fn.self.text l.fn.self.rest l.rest;
}

abbrev pub decreases-pieces : goal.decreases-pieces
decreases-pieces l = length l.rest
