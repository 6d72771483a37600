use Rattle.std.proofs.Common.{arith, length, length-append, inl, inr, ap, sym, refl}
use Rattle.std.proofs.lemmas.Bool.{eqb-true, eqb-false, false≢true}
use Rattle.std.proofs.lemmas.List.{nil_from_length}
use Rattle.gs3_text.specs.Answer.{scan_of}
use Rattle.gs3_text.specs.ProofText.{text_of}
use Rattle.gs3_text.proofs.Cuts.{lines_short}
use Rattle.gs3_text.proofs.Texts.{read_next, read_all, malformed_line, malformed_end, malformed_no_text}
use Rattle.gs3_text.proofs.reading.scan_all.Goals as goal

pub returns-in-Err-Malformed-clause-refused : goal.returns-in-Err-Malformed-clause-refused
returns-in-Err-Malformed-clause-refused c =
    let line = c.in-Some.ensures in
    let none = rw c.in-Err-Malformed.field-0-is at c.in-Err-Malformed.ensures in
    let m = malformed_line c.args.symbols.now.functions c.keeps_symbols.ensures c.args.bytes.now c.lines.rest.now c.in-Some.line.now c.in-Some.after.now c.lines.number (scan_of c.lines.scan) c.lines.invariant line.0 line.1 none in
    (m, malformed_no_text c.args.symbols.now.functions c.args.bytes.now c.lines.number m)

pub overflow_add-number : goal.overflow_add-number
overflow_add-number c =
    let p = c.lines.invariant in
    let short = lines_short p.before in
    let long = ap length p.text in
    omega (arith, length-append (text_of p.before) c.lines.rest.now, p.number_is)

pub lines-preserved : goal.lines-preserved
lines-preserved c =
    let line = c.in-Some.ensures in let read = c.in-Ok.ensures in
    read_next c.args.symbols.now.functions c.args.bytes.now c.lines.rest.now c.in-Some.line.now c.in-Some.after.now c.lines.number (scan_of c.lines.scan) (scan_of c.next.new.scan) c.lines.invariant line.0 line.1 read

pub returns-then-not-is_empty-clause-refused : goal.returns-then-not-is_empty-clause-refused
returns-then-not-is_empty-clause-refused c =
    let line = c.in_default.ensures in let e = c.if-not-is_empty.ensures in
    let some = eqb-false (length c.lines.rest.now) 0 (sym e) in
    let m = malformed_end c.args.symbols.now.functions c.keeps_symbols.ensures c.args.bytes.now c.lines.rest.now c.lines.number (scan_of c.lines.scan) c.lines.invariant line (inl (omega arith)) in
    (m, malformed_no_text c.args.symbols.now.functions c.args.bytes.now c.lines.number m)

pub returns-then-not-is_whole-clause-refused : goal.returns-then-not-is_whole-clause-refused
returns-then-not-is_whole-clause-refused c =
    let line = c.in_default.ensures in let w = c.if-not-is_whole.ensures in
    let m = malformed_end c.args.symbols.now.functions c.keeps_symbols.ensures c.args.bytes.now c.lines.rest.now c.lines.number (scan_of c.lines.scan) c.lines.invariant line (inr (λ owes. false≢true (w.1 owes))) in
    (m, malformed_no_text c.args.symbols.now.functions c.args.bytes.now c.lines.number m)

pub returns-clause-read : goal.returns-clause-read
returns-clause-read c =
    let e = c.if-not-is_empty.ensures in let w = c.if-not-is_whole.ensures in
    read_all c.args.symbols.now.functions c.keeps_symbols.ensures c.args.bytes.now c.lines.rest.now c.lines.number (scan_of c.lines.scan) c.lines.invariant
    (nil_from_length c.lines.rest.now (eqb-true (length c.lines.rest.now) 0 (sym e))) (w.0 refl)
