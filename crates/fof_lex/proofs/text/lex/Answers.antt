use Rattle.std.proofs.lemmas.Result.{err_from_is_err_and}
use Rattle.fof_lex.proofs.UpTo.{upto-append, upto-ends, refused_behind, at_start, tokens_in}
use Rattle.fof_lex.proofs.text.lex.Goals as goal

pub tokens-init : goal.tokens-init
tokens-init c = let a = c.new-tokens.ensures in let b = c.new-lexer.ensures in rw a (rw b.text (rw b.rest (at_start c.args.bytes.now)))

pub returns-in_err-token-clause-refused : goal.returns-in_err-token-clause-refused
returns-in_err-token-clause-refused c = let e = err_from_is_err_and c.from_residual.result c.from_residual.ensures.1 in rw e.1 (rw e.2 (refused_behind _ _ _ _ _ _ c.tokens.invariant c.in_err-token.ensures.refused.1))

pub tokens-preserved : goal.tokens-preserved
tokens-preserved c = rw c.in_ok-push.ensures.ok (upto-append _ _ _ _ _ _ _ _ c.tokens.invariant (rw c.in-Some.is at c.in_ok-token.ensures.token))

pub returns-clause-tokens : goal.returns-clause-tokens
returns-clause-tokens c = upto-ends _ _ _ _ _ c.tokens.invariant (rw c.in_default.is at c.in_ok-token.ensures.token).0

pub returns-clause-places : goal.returns-clause-places
returns-clause-places c = tokens_in _ _ (returns-clause-tokens c)
