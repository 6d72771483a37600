use Rattle.goeland_words.specs.Table.{bench_table}
use Rattle.goeland_words.proofs.Commands.{more}
use Rattle.goeland_words.proofs.command.bench_command.Goals as goal

pub returns : goal.returns
unfolding bench_table
returns c = more _ _ _ _ c.in_ok-number.ensures (more _ _ _ _ c.in_ok-workers.ensures c.bare-command.ensures)
