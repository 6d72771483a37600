use Rattle.std.proofs.Common.{◌∙◌, sym, subst, List, IfOk, codes}
use Rattle.goeland_words.specs.Table.{Text}
use Rattle.goeland_words.specs.Words.{IsCommand}
use Rattle.gl_outside.specs.Outside.{texts_of}
use Rattle.goeland_words.proofs.Texts.{starts}
use Rattle.goeland_words.proofs.Unique.{only_of}
use Rattle.goeland_words.proofs.words.read_words.Goals as goal

pub returns-then-eq-clause-ok : goal.returns-then-eq-clause-ok
returns-then-eq-clause-ok c =
    let whole = starts c.args.words.now c.verb-item.result c.as_str.result.now (codes "prove") c.in-len1-up.len_at_least c.verb-item.is c.as_str.ensures.value (sym c.eq.ensures ∙ c.if-eq.true) in
    subst (λ (ws : List Text). IfOk c.read_prove.result (IsCommand ws)) (sym whole) c.read_prove.ensures.ok

pub returns-then-eq-clause-only : goal.returns-then-eq-clause-only
returns-then-eq-clause-only c = only_of (texts_of c.args.words.now) c.read_prove.result (returns-then-eq-clause-ok c)

pub returns-then-eq-2-clause-ok : goal.returns-then-eq-2-clause-ok
returns-then-eq-2-clause-ok c =
    let whole = starts c.args.words.now c.verb-item.result c.as_str-2.result.now (codes "bench") c.in-len1-up.len_at_least c.verb-item.is c.as_str-2.ensures.value (sym c.eq-2.ensures ∙ c.if-eq-2.true) in
    subst (λ (ws : List Text). IfOk c.read_bench.result (IsCommand ws)) (sym whole) c.read_bench.ensures.ok

pub returns-then-eq-2-clause-only : goal.returns-then-eq-2-clause-only
returns-then-eq-2-clause-only c = only_of (texts_of c.args.words.now) c.read_bench.result (returns-then-eq-2-clause-ok c)
