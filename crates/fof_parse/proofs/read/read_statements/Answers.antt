use Rattle.std.proofs.Common.{◌≡◌, Some, None, sym, ap, subst, ◌∙◌}
use Rattle.std.specs.Prelude.{slice_get}
use Rattle.std.proofs.lemmas.Result.{err_from_is_err_and}
use Rattle.fof_parse.specs.ProblemView.{plain_contents}
use Rattle.fof_parse.specs.Refusal.{IsBad}
use Rattle.fof_parse.specs.Reader.Text.{tokens_in}
use Rattle.fof_parse.specs.Reader.Chunks.{Takes, has_conjecture}
use Rattle.fof_parse.proofs.Chunks.{read_none, reads_more, bad_here, read_one, read_all, refused_later}
use Rattle.fof_parse.proofs.read.read_statements.Goals as goal

pub statements-init : goal.statements-init
statements-init c = read_none _ _ _ c.new-lexer.ensures.text c.new-lexer.ensures.rest c.empty_contents-contents.ensures

pub returns-in_err-next_statement-clause-refused : goal.returns-in_err-next_statement-clause-refused
returns-in_err-next_statement-clause-refused c =
    let e = err_from_is_err_and c.from_residual.result c.from_residual.ensures.1 in
    rw e.1 (rw e.2 (refused_later c.args.bytes.now c.statements.lexer _ _ c.statements.invariant.reads c.requires c.in_err-next_statement.ensures.refused))

pub returns-in_default-clause-contents : goal.returns-in_default-clause-contents
returns-in_default-clause-contents c =
    let none : slice_get c.next_statement.new.tokens.items 0 ≡ None = ap (λ ts. slice_get ts 0) (sym c.deref.ensures.value) ∙ sym c.in_default.ensures.value in
    read_all _ _ _ _ _ c.statements.invariant c.in_ok-next_statement.ensures.next none c.requires

pub statements-preserved : goal.statements-preserved
statements-preserved c =
    let begins : slice_get c.next_statement.new.tokens.items 0 ≡ Some c.in-Some.first.now = ap (λ ts. slice_get ts 0) (sym c.deref.ensures.value) ∙ sym c.in-Some.ensures.value in
    read_one _ _ _ _ _ c.statements.invariant c.in_ok-next_statement.ensures.next c.in_ok-next_statement.ensures.text c.in-Some.first.now (plain_contents c.in-Ok.next) begins
    (subst (λ ts. Takes (plain_contents c.statements.contents) (tokens_in c.args.bytes.now ts) (plain_contents c.in-Ok.next)) c.as_slice.ensures.value (rw c.in-Ok.is at c.in_ok-next.ensures))

pub returns-in_err-read_on-in-Err-clause-refused : goal.returns-in_err-read_on-in-Err-clause-refused
returns-in_err-read_on-in-Err-clause-refused c =
    let e = err_from_is_err_and c.from_residual-in_err-read_on-in-Err.result c.from_residual-in_err-read_on-in-Err.ensures.1 in
    rw e.1 (rw e.2 (refused_later c.args.bytes.now c.next_statement.new.lexer _ _ (reads_more _ _ _ _ _ c.statements.invariant c.in_ok-next_statement.ensures.next) c.requires
    c.in_err-read_on-in-Err.ensures.refused.1))

pub returns-in-Err-clause-refused : goal.returns-in-Err-clause-refused
returns-in-Err-clause-refused c =
    let begins : slice_get c.next_statement.new.tokens.items 0 ≡ Some c.in-Some.first.now = ap (λ ts. slice_get ts 0) (sym c.deref.ensures.value) ∙ sym c.in-Some.ensures.value in
    let rest = c.in_ok-read_on-in-Err.ensures.tokens in
    bad_here _ _ _ _ _ c.statements.invariant c.in_ok-next_statement.ensures.next rest.0 rest.1 c.in-Some.first.now c.in-Err.kind begins
    (subst (λ ts. IsBad (has_conjecture (plain_contents c.statements.contents)) (tokens_in c.args.bytes.now ts) c.in-Err.kind) c.as_slice.ensures.value (rw c.in-Err.is at c.in_ok-next.ensures)) c.requires
