use Rattle.std.proofs.Common.{◌∙◌, ap, sym}
use Rattle.std.specs.Prelude.{string_bytes}
use Rattle.std.proofs.lemmas.Slice.Eq.{bytes_eq-Decides}
use Rattle.gl_outside.proofs.Pairs.{pair}
use Rattle.gl_outside.specs.Outside.{texts_of}
use Rattle.gs3_run.specs.Run.{standard_input}
use Rattle.gs3_run.proofs.Names.{not_twice}
use Rattle.gs3_run.proofs.run.names_of.Goals as goal

pub returns-then-eq-2 : goal.returns-then-eq-2
returns-then-eq-2 c =
    not_twice (texts_of c.args.words.now) (string_bytes c.problem-item.result) (string_bytes c.proof-item.result)
    (ap texts_of (pair c.args.words.now c.problem-item.result c.proof-item.result c.in-len2.len_at_least c.in-len2.len_below c.problem-item.is c.proof-item.is))
    (sym c.as_str-problem.ensures.value ∙ (bytes_eq-Decides c.as_str-problem.result.now standard_input).0 (sym c.eq.ensures ∙ c.if-eq.true))
    (sym c.as_str-proof.ensures.value ∙ (bytes_eq-Decides c.as_str-proof.result.now standard_input).0 (sym c.eq-then-eq.ensures ∙ c.if-eq-2.true))
