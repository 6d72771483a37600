use Rattle.std.proofs.Common.{subst, Option, IfSome, refl}
use Rattle.goeland_words.specs.Parsed.{IsBenchLine}
use Rattle.gl_outside.specs.Outside.{texts_of}
use Rattle.goeland_words.specs.declared.command.BenchTexts.{BenchTexts}
use Rattle.goeland_words.proofs.Texts.{bench_none}
use Rattle.goeland_words.proofs.words.read_bench.Goals as goal

pub returns-in-None-clause-usage : goal.returns-in-None-clause-usage
returns-in-None-clause-usage c =
    λ usage. bench_none _ c.in-Some.texts (subst (λ (o : Option BenchTexts). IfSome o (IsBenchLine (texts_of c.args.words.now))) c.in-Some.is c.in_ok-texts.ensures.some)
    (c.bench_words.ensures.none (rw c.in-None.is refl))
