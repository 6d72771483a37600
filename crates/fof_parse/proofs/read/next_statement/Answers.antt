use Rattle.std.proofs.Common.{◌≡◌, [], ◌∷◌, ◌++◌, length-append, refl, sym, ◌∙◌, arith}
use Rattle.std.proofs.lemmas.Result.{err_from_is_err_and}
use Rattle.fof_lex.specs.Tokens.{here}
use Rattle.fof_lex.proofs.UpTo.{upto-append, refused_behind}
use Rattle.fof_parse.proofs.Chunks.{none_open, one_open, all_in-append, found_in, stopped, ended}
use Rattle.fof_parse.proofs.read.next_statement.Goals as goal

pub tokens-init : goal.tokens-init
tokens-init c = rw c.clear.ensures.items (record { text = refl; reads = here _ _; unstopped = none_open; all_in = tt; fewer = omega arith })

pub returns-in_err-token-clause-refused : goal.returns-in_err-token-clause-refused
returns-in_err-token-clause-refused c =
    let e = err_from_is_err_and c.from_residual.result c.from_residual.ensures.1 in
    rw e.1 (rw e.2 (refused_behind _ _ _ _ _ _ c.tokens.invariant.reads c.in_err-token.ensures.refused.1))

pub returns-then-is_stop-clause-next : goal.returns-then-is_stop-clause-next
returns-then-is_stop-clause-next c =
    let pushed : c.push.new.self.items ≡ c.tokens.tokens.items ++ c.in-Some.token ∷ [] = rw c.if-is_err.ensures.negation at c.push.ensures.items in
    rw pushed (stopped _ _ _ _ (upto-append _ _ _ _ _ _ _ _ c.tokens.invariant.reads (rw c.in-Some.is at c.in_ok-token.ensures.token)) c.tokens.invariant.unstopped
    (sym c.is_stop.ensures ∙ c.if-is_stop.true))

pub returns-then-is_stop-clause-all_in : goal.returns-then-is_stop-clause-all_in
returns-then-is_stop-clause-all_in c =
    let pushed : c.push.new.self.items ≡ c.tokens.tokens.items ++ c.in-Some.token ∷ [] = rw c.if-is_err.ensures.negation at c.push.ensures.items in
    rw pushed (all_in-append _ _ _ c.tokens.invariant.all_in (rw c.tokens.invariant.text at (found_in _ _ (c.in-Some.token ∷ []) (rw c.in-Some.is at c.in_ok-token.ensures.stands))))

pub tokens-preserved : goal.tokens-preserved
tokens-preserved c =
    let pushed : c.push.new.self.items ≡ c.tokens.tokens.items ++ c.in-Some.token ∷ [] = rw c.if-is_err.ensures.negation at c.push.ensures.items in
    rw pushed (record {
      text = c.in_ok-token.ensures.text ∙ c.tokens.invariant.text;
      reads = upto-append _ _ _ _ _ _ _ _ c.tokens.invariant.reads (rw c.in-Some.is at c.in_ok-token.ensures.token);
      unstopped = one_open _ _ c.tokens.invariant.unstopped (sym c.is_stop.ensures ∙ c.if-is_stop.false);
      all_in = all_in-append _ _ _ c.tokens.invariant.all_in (rw c.tokens.invariant.text at (found_in _ _ (c.in-Some.token ∷ []) (rw c.in-Some.is at c.in_ok-token.ensures.stands)));
      fewer = omega (arith, c.tokens.invariant.fewer, rw c.in-Some.is at c.in_ok-token.ensures.shorter, length-append c.tokens.tokens.items (c.in-Some.token ∷ []));
    })

pub returns-clause-next : goal.returns-clause-next
returns-clause-next c =
    let end = rw c.in_default.is at c.in_ok-token.ensures.token in
    rw end.1 (ended _ _ _ c.tokens.invariant.reads c.tokens.invariant.unstopped end.0)

pub returns-clause-shorter : goal.returns-clause-shorter
returns-clause-shorter c = let end = rw c.in_default.is at c.in_ok-token.ensures.token in rw end.1 c.tokens.invariant.fewer
