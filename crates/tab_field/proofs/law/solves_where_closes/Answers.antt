use Rattle.round_offers.proofs.RoundLaws.{round_closes, none_closes}
use Rattle.tab_field.proofs.law.solves_where_closes.Goals as goal

pub returns-clause-each : goal.returns-clause-each
returns-clause-each c = round_closes c.args._field.now.round

pub returns-clause-none : goal.returns-clause-none
returns-clause-none c = none_closes c.args._field.now.round
