use Rattle.std.proofs.Common.{Some, ◌+◌, sym, ap, ◌∙◌, arith, refl}
use Rattle.fof_parse.specs.Reader.Text.{from}
use Rattle.fof_parse.specs.Grammar.{applied}
use Rattle.fof_parse.specs.Reader.Views.{symbol_of, head_view, raws_of}
use Rattle.fof_parse.specs.Reader.Reading.{variable_head, numeral_head, object_head}
use Rattle.fof_parse.proofs.Raws.{raw_of_applied, raw_of_variable, raw_of_number, raw_of_distinct}
use Rattle.fof_parse.proofs.Terms.{no_head, symbol_first, bad_arguments, unclosed_arguments, simple_found, alone_found, applied_found, no_term, last_raw, one_raw_more}
use Rattle.fof_parse.proofs.term.+terms.Goals as goal

pub applied_at-returns-in_default : goal.applied_at-returns-in_default
applied_at-returns-in_default t c =
    alone_found _ _ _ _ _ c.requires.symbol c.requires.proper (sym c.in_default.ensures.mark)
    (raw_of_applied c.args.symbol c.new.result ∙ ap (λ us. applied (symbol_of c.args.symbol) (raws_of us)) c.new.ensures)

pub applied_at-returns-in_default-2 : goal.applied_at-returns-in_default-2
applied_at-returns-in_default-2 t c =
    symbol_first _ _ _ _ c.requires.symbol (bad_arguments _ _ _ (sym c.in-Some.ensures.mark) (rw c.in_default-2.is at c.in_ok-terms.ensures))

pub applied_at-returns-in-None : goal.applied_at-returns-in-None
applied_at-returns-in-None t c =
    let found = rw c.in-Some-2.is at c.in_ok-terms.ensures in
    symbol_first _ _ _ _ c.requires.symbol (unclosed_arguments _ _ _ _ _ (sym c.in-Some.ensures.mark) found.0 (sym c.in-None.ensures.mark))

pub applied_at-returns : goal.applied_at-returns
applied_at-returns t c =
    let found = rw c.in-Some-2.is at c.in_ok-terms.ensures in
    applied_found _ _ _ _ _ _ _ _ _ _ c.requires.symbol c.requires.proper (sym c.in-Some.ensures.mark) found.0 found.1 (sym c.in-Some-after_mark.ensures.mark)
    (omega (arith, c.in-Some.ensures.next.0, found.2, c.in-Some-after_mark.ensures.next.0)) (raw_of_applied c.args.symbol _)

pub term_at-returns-in_default : goal.term_at-returns-in_default
term_at-returns-in_default t c = no_head _ (sym c.in_default.ensures.head)

pub term_at-returns-in-Variable : goal.term_at-returns-in-Variable
term_at-returns-in-Variable t c =
    simple_found _ _ (variable_head c.in-Variable.word.now) _ _ _ (sym c.in-Some.ensures.head ∙ ap (λ h. Some (head_view h, from c.args.text.now (c.args.at + 1))) c.in-Variable.is) (λ arguments. refl) tt (raw_of_variable c.in-Variable.word)

pub term_at-returns-in-Number : goal.term_at-returns-in-Number
term_at-returns-in-Number t c =
    simple_found _ _ (numeral_head c.in-Number.word.now) _ _ _ (sym c.in-Some.ensures.head ∙ ap (λ h. Some (head_view h, from c.args.text.now (c.args.at + 1))) c.in-Number.is) (λ arguments. refl) tt (raw_of_number c.in-Number.word)

pub term_at-returns-in-Distinct : goal.term_at-returns-in-Distinct
term_at-returns-in-Distinct t c =
    simple_found _ _ (object_head c.in-Distinct.word.now) _ _ _ (sym c.in-Some.ensures.head ∙ ap (λ h. Some (head_view h, from c.args.text.now (c.args.at + 1))) c.in-Distinct.is) (λ arguments. refl) tt (raw_of_distinct c.in-Distinct.word)

pub terms_at-returns-in_default : goal.terms_at-returns-in_default
terms_at-returns-in_default t c = no_term _ _ _ c.loop-terms.invariant.so_far (rw c.in_default.is at c.in_ok-term.ensures)

pub terms_at-returns-in-None : goal.terms_at-returns-in-None
terms_at-returns-in-None t c =
    let found = rw c.in-Some.is at c.in_ok-term.ensures in
    let last = last_raw _ _ _ _ _ _ c.loop-terms.invariant.so_far found.0 found.1 (sym c.in-None.ensures.mark) c.in_ok-push.ensures.ok in
    (last.0, last.1, omega (arith, c.loop-terms.invariant.further, found.2))

pub terms_at-loop-terms-preserved : goal.terms_at-loop-terms-preserved
terms_at-loop-terms-preserved t c =
    let found = rw c.in-Some.is at c.in_ok-term.ensures in
    record {
      so_far = one_raw_more _ _ _ _ _ _ _ c.loop-terms.invariant.so_far found.0 found.1 (sym c.in-Some-after_mark.ensures.mark) c.in_ok-push.ensures.ok;
      further = omega (arith, c.loop-terms.invariant.further, found.2, c.in-Some-after_mark.ensures.next.0);
    }
