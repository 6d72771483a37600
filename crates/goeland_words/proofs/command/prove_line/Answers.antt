use Rattle.std.proofs.Common.{subst, Option, IfSome}
use Rattle.clap.specs.declared.parser.matches.ArgMatches.{ArgMatches}
use Rattle.goeland_words.specs.Table.{prove_table}
use Rattle.goeland_words.specs.Parsed.{HoldsLine}
use Rattle.gl_outside.specs.Outside.{texts_of}
use Rattle.goeland_words.proofs.Texts.{prove_texts}
use Rattle.goeland_words.proofs.command.prove_line.Goals as goal

pub returns-clause-some : goal.returns-clause-some
returns-clause-some c =
    prove_texts _ c.in-Some.matches _ c.get_str-8.result
    (subst (λ (o : Option ArgMatches). IfSome o (HoldsLine prove_table (texts_of c.args.words.now))) c.in-Some.is c.in_ok-matches.ensures.some)
    c.get_str.ensures c.get_str-2.ensures c.get_str-3.ensures c.get_str-4.ensures c.get_str-5.ensures c.get_str-6.ensures c.get_str-7.ensures c.get_str-8.ensures c.is_true.ensures
