use Rattle.std.proofs.Common.{◌≡◌, ◌≤◌, ◌+◌, length}
use Rattle.fof_lex.specs.Tokens.{LexesUpTo}
use Rattle.fof_lex.specs.Lexer.{place}
use Rattle.fof_parse.specs.Reader.Text.{AreAllIn}
use Rattle.fof_parse.proofs.Chunks.{IsOpen}
use Rattle.fof_parse.proofs.read.next_statement.Given as goal

abbrev pub invariant-tokens : goal.invariant-tokens
invariant-tokens l = record {
  text : l.lexer.text ≡ l.fn.lexer.text;
  reads : LexesUpTo (place l.fn.lexer) l.fn.lexer.rest l.tokens.items (place l.lexer) l.lexer.rest;
  unstopped : IsOpen l.tokens.items;
  all_in : AreAllIn l.fn.lexer.text l.tokens.items;
  fewer : length l.lexer.rest + length l.tokens.items ≤ length l.fn.lexer.rest;
}

abbrev pub decreases-tokens : goal.decreases-tokens
decreases-tokens l = length l.lexer.rest
