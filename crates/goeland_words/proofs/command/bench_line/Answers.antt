use Rattle.std.proofs.Common.{subst, Option, IfSome}
use Rattle.clap.specs.declared.parser.matches.ArgMatches.{ArgMatches}
use Rattle.goeland_words.specs.Table.{bench_table}
use Rattle.goeland_words.specs.Parsed.{HoldsLine}
use Rattle.gl_outside.specs.Outside.{texts_of}
use Rattle.goeland_words.proofs.Texts.{bench_texts}
use Rattle.goeland_words.proofs.command.bench_line.Goals as goal

pub returns-clause-some : goal.returns-clause-some
returns-clause-some c =
    bench_texts _ c.in-Some.matches _
    (subst (λ (o : Option ArgMatches). IfSome o (HoldsLine bench_table (texts_of c.args.words.now))) c.in-Some.is c.in_ok-matches.ensures.some)
    c.get_str.ensures c.get_str-2.ensures
