-- The search that a run is to make, and what is to be told of it.
use Rattle.std.specs.Prelude.{◌≡◌, true, List}
use Rattle.fof_parse.specs.Problem.{PlainProblem}
use Rattle.fof_parse.specs.ProblemView.{plain_problem}
use Rattle.rewrite_rules.specs.Rules.{RewriteRule, RulesOf}
use Rattle.rewrite_rules.specs.RuleView.{rules_in}
use Rattle.tab_tree.specs.RoundValue.{HasRulesOfProblem}
use Rattle.deepening.specs.RoundEnds.{AreLimits}
use Rattle.deepening.specs.Ways.{HasWorkers}
use Rattle.deepening.specs.declared.limits.Limits.{Limits}
use Rattle.deepening.specs.declared.order.Way.{Way}
use Rattle.deepening.specs.declared.order.Way.TheVariants.{Alone, Agents}
use Rattle.goeland_run.specs.Benching.{BenchesProblem}
use Rattle.goeland_run.specs.Searched.{limits_of, bench_limits}
use Rattle.goeland_run.specs.Telling.{TellsOutcome}
use Rattle.goeland_run.specs.declared.decided.Decided.{Decided}
use Rattle.goeland_run.specs.declared.job.Job.{Job}
use Rattle.goeland_run.specs.declared.job.Telling.{Telling}
use Rattle.goeland_run.specs.declared.job.Telling.TheVariants.{Outcome, Line}
use Rattle.goeland_run.specs.declared.planning.Plan.{Plan}
use Rattle.goeland_run.specs.declared.planning.Plan.TheVariants.{AtOnce, Search}
use Rattle.goeland_run.specs.declared.ways.Threading.{Threading}
use Rattle.goeland_run.specs.declared.ways.Threading.TheVariants.{OneThread, ManyThreads}

-- the rules and the limits are those of what is to be told
abbrev pub IsFor : Telling → PlainProblem → List RewriteRule → Limits → Type 0
IsFor (Outcome p) problem rules limits = RulesOf p.rewrite problem.axioms rules × (limits ≡ limits_of p)
IsFor (Line n bytes) problem rules limits = RulesOf true problem.axioms rules × (limits ≡ bench_limits)

-- a run that starts no thread can settle rounds in that way, and any other too where there are workers
abbrev pub Fits : Threading → Way → Type 0
Fits OneThread (Alone order) = Unit {0}
Fits OneThread (Agents workers) = ⊥
Fits ManyThreads way = HasWorkers way

-- the job can be done
pub record IsJob (threads : Threading) (job : Job) : Type 0 where
  pub serves : IsFor job.telling (plain_problem job.problem) (rules_in job.rules) job.limits
  pub rules : HasRulesOfProblem (record { problem = job.problem; rules = job.rules; depth = 0 })
  pub limits : AreLimits job.limits
  pub way : Fits threads job.way

-- what is decided tells of the job's search
abbrev pub TellsSo : Way → Telling → PlainProblem → Decided → Type 0
TellsSo way (Outcome p) problem d = TellsOutcome way p problem d.kept d.printed d.status
TellsSo way (Line n bytes) problem d = BenchesProblem way n bytes problem d

abbrev pub Finishes : Job → Decided → Type 0
Finishes job d = TellsSo job.way job.telling (plain_problem job.problem) d

-- the plan leads to that: it is decided already, or by whatever tells of the job's search
abbrev pub PlansTo : Threading → (Decided → Type 0) → Plan → Type 0
PlansTo threads Leads (AtOnce d) = Leads d
PlansTo threads Leads (Search job) = IsJob threads job × ((d : Decided) → Finishes job d → Leads d)

-- there is a search to be made
abbrev pub IsSearch : Plan → Type 0
IsSearch (AtOnce d) = ⊥
IsSearch (Search job) = Unit {0}
