use Rattle.std.proofs.Common.{codes}
use Rattle.goeland_words.specs.Table.{prove_table}
use Rattle.goeland_words.proofs.Commands.{some_of, none_of, all_text, prove_sound, prove_plain, prove_simple}
use Rattle.goeland_words.proofs.command.prove_matches.Goals as goal

pub returns-clause-some : goal.returns-clause-some
returns-clause-some c =
    some_of (codes "prove") prove_table prove_sound prove_plain prove_simple _ _ _ c.in_ok-prove_command.ensures (all_text c.args.words.now) c.parse.ensures.some

pub returns-clause-none : goal.returns-clause-none
returns-clause-none c = none_of (codes "prove") prove_table prove_sound prove_plain prove_simple _ _ _ c.in_ok-prove_command.ensures c.parse.ensures.none
