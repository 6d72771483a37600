use Rattle.std.proofs.Common.{[], ◌∷◌, ◌++◌, refl, ◌∙◌}
use Rattle.std.proofs.lemmas.Result.{err_from_is_err_and}
use Rattle.fof_lex.specs.Tokens.{here}
use Rattle.fof_lex.proofs.UpTo.{upto-append, upto-ends, refused_behind}
use Rattle.fof_lex.proofs.lexer.Lexer.read_on.Goals as goal

pub tokens-init : goal.tokens-init
tokens-init c = (refl, [], here _ _)

pub returns-in_err-next_token-clause-refused : goal.returns-in_err-next_token-clause-refused
returns-in_err-next_token-clause-refused c =
    let e = err_from_is_err_and c.from_residual.result c.from_residual.ensures.1 in
    let k = c.in_err-next_token.ensures.refused in
    rw e.1 (rw e.2 (k.0, refused_behind _ _ _ _ _ _ c.tokens.invariant.2 k.1))

pub tokens-preserved : goal.tokens-preserved
tokens-preserved c = let k = c.in_ok-next_token.ensures.token in (c.in_ok-next_token.ensures.text ∙ c.tokens.invariant.0, c.tokens.invariant.1 ++ c.in-Some.field-0 ∷ [], upto-append _ _ _ _ _ _ _ _ c.tokens.invariant.2 (rw c.in-Some.is at k))

pub returns-clause-tokens : goal.returns-clause-tokens
returns-clause-tokens c = let k = c.in_ok-next_token.ensures.token in (c.tokens.invariant.1, upto-ends _ _ _ _ _ c.tokens.invariant.2 (rw c.in_default.is at k).0)
