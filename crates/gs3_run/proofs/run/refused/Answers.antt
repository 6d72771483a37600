use Rattle.std.proofs.Common.{inl, inr}
use Rattle.gs3_run.proofs.run.refused.Goals as goal

pub returns-in_ok-refusal_line-in-Lex : goal.returns-in_ok-refusal_line-in-Lex
returns-in_ok-refusal_line-in-Lex c bytes refused none =
    (none (λ e. cc (c.in-Lex.is, e)), inl (c.in-Lex.offset, rw c.in-Lex.is at refused, c.in_ok-refusal_line-in-Lex.ensures))

pub returns-in_ok-refusal_line-in-Bad : goal.returns-in_ok-refusal_line-in-Bad
returns-in_ok-refusal_line-in-Bad c bytes refused none =
    (none (λ e. cc (c.in-Bad.is, e)), inr (c.in-Bad.offset, c.in-Bad.kind, rw c.in-Bad.is at refused, rw c.word.ensures at c.in_ok-refusal_line-in-Bad.ensures))
