use Rattle.nego_node.proofs.TwoAgents.{root_runs, left_runs, right_runs, root_answers, left_answers, right_answers}
use Rattle.nego_node.proofs.example.two_agents.Goals as goal

pub returns-clause-root : goal.returns-clause-root
returns-clause-root c = (root_runs, root_answers)

pub returns-clause-left : goal.returns-clause-left
returns-clause-left c = (left_runs, left_answers)

pub returns-clause-right : goal.returns-clause-right
returns-clause-right c = (right_runs, right_answers)
