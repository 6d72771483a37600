use Rattle.std.proofs.Common.{codes}
use Rattle.goeland_words.specs.Table.{bench_table}
use Rattle.goeland_words.proofs.Commands.{some_of, none_of, all_text, bench_sound, bench_plain, bench_simple}
use Rattle.goeland_words.proofs.command.bench_matches.Goals as goal

pub returns-clause-some : goal.returns-clause-some
returns-clause-some c =
    some_of (codes "bench") bench_table bench_sound bench_plain bench_simple _ _ _ c.in_ok-bench_command.ensures (all_text c.args.words.now) c.parse.ensures.some

pub returns-clause-none : goal.returns-clause-none
returns-clause-none c = none_of (codes "bench") bench_table bench_sound bench_plain bench_simple _ _ _ c.in_ok-bench_command.ensures c.parse.ensures.none
