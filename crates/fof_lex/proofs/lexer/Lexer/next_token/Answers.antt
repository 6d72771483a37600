use Rattle.std.proofs.Common.{◌-◌, length, sym, ap, subst, ◌∙◌, arith}
use Rattle.fof_lex.specs.Tokens.{LexFails}
use Rattle.fof_lex.specs.Lexer.{Unread, IsEnd}
use Rattle.fof_lex.proofs.Steps.{gap_shorter, is_some, is_none}
use Rattle.fof_lex.proofs.UpTo.{Passed, same_unread, none_passed, end_fits, gap_passed, token_end, token_nearer, token_read, token_read_in, nothing_passed, all_passed}
use Rattle.fof_lex.proofs.lexer.Lexer.next_token.Goals as goal

pub pieces-init : goal.pieces-init
pieces-init c = record {
  text = ap (λ (u : Unread). u.text) c.self.view_is;
  start = ap (λ (u : Unread). u.rest) c.self.view_is;
  passed = subst (λ (u : Unread). Passed u.text u.rest c.self.inside.rest.now) c.self.view_is (none_passed _ _ c.self.invariant);
}

pub pieces-smaller : goal.pieces-smaller
pieces-smaller c = gap_shorter _ _ (sym c.in-Gap.ensures)

pub pieces-preserved : goal.pieces-preserved
pieces-preserved c = record {
  text = c.pieces.invariant.text;
  start = c.pieces.invariant.start;
  passed = gap_passed _ _ _ _ (sym c.in-Gap.ensures) c.pieces.invariant.passed;
}

pub offset_of-end-requires : goal.offset_of-end-requires
offset_of-end-requires c =
    omega (arith, ap length c.pieces.invariant.text, end_fits _ _ (token_end _ _ _ _ _ (sym c.in-Token.ensures) c.pieces.invariant.passed))

pub invariant_of-self-in-Token : goal.invariant_of-self-in-Token
invariant_of-self-in-Token c = subst (IsEnd c.in-Token.behind.now) (sym c.pieces.invariant.text) (token_end _ _ _ _ _ (sym c.in-Token.ensures) c.pieces.invariant.passed)

pub returns-in-Token-clause-token : goal.returns-in-Token-clause-token
returns-in-Token-clause-token c =
    token_read _ _ _ _ _ (sym c.in-Token.ensures) c.pieces.invariant.passed c.pieces.self-inside.bytes.now _ _ c.pieces.invariant.text c.offset_of-start.ensures c.offset_of-end.ensures

pub returns-in-Token-clause-stands : goal.returns-in-Token-clause-stands
returns-in-Token-clause-stands c =
    token_read_in _ _ _ _ _ (sym c.in-Token.ensures) c.pieces.invariant.passed c.pieces.self-inside.bytes.now _ _ c.pieces.invariant.text c.offset_of-start.ensures c.offset_of-end.ensures

pub returns-in-Token-clause-shorter : goal.returns-in-Token-clause-shorter
returns-in-Token-clause-shorter c = token_nearer _ _ _ _ _ (sym c.in-Token.ensures) c.pieces.invariant.passed

pub returns-in-Nothing-clause-refused : goal.returns-in-Nothing-clause-refused
returns-in-Nothing-clause-refused c = (
  λ e. cc,
  subst (LexFails _ _) (ap (λ bs. length bs - length c.pieces.rest.now) (sym c.pieces.invariant.text) ∙ sym c.offset_of-offset.ensures)
      (nothing_passed _ _ _ (is_some _ c.pieces.rest.now c.is_empty.ensures c.pieces-test.true) (sym c.in-Nothing.ensures) c.pieces.invariant.passed),
)

pub returns-in-Nothing-clause-kept : goal.returns-in-Nothing-clause-kept
returns-in-Nothing-clause-kept c = same_unread _ _ _ c.pieces.invariant.text c.pieces.invariant.start

pub returns-clause-token : goal.returns-clause-token
returns-clause-token c =
    (all_passed _ _ _ (is_none _ c.pieces.rest.now c.is_empty.ensures c.pieces-test.false) c.pieces.invariant.passed, same_unread _ _ _ c.pieces.invariant.text c.pieces.invariant.start)
