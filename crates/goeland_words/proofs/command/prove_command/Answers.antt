use Rattle.goeland_words.specs.Table.{prove_table}
use Rattle.goeland_words.proofs.Commands.{more}
use Rattle.goeland_words.proofs.command.prove_command.Goals as goal

pub returns : goal.returns
unfolding prove_table
returns c =
    more _ _ _ _ c.in_ok-file.ensures
    (more _ _ _ _ c.in_ok-history.ensures
    (more _ _ _ _ c.in_ok-schedule.ensures
    (more _ _ _ _ c.in_ok-rewrite.ensures
    (more _ _ _ _ c.in_ok-bytes.ensures (more _ _ _ _ c.in_ok-tries.ensures (more _ _ _ _ c.in_ok-workers.ensures (more _ _ _ _ c.in_ok-depth.ensures c.bare-command.ensures)))))))
