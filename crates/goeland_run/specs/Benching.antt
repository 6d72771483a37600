-- What a run on a problem of the bench decides before it prints.
use Rattle.std.specs.Prelude.{◌≡◌, ℕ, true, List, [], ◌∷◌, length}
use Rattle.fof_parse.specs.Problem.{PlainProblem}
use Rattle.fof_parse.specs.TheProblem.{IsTheProblem}
use Rattle.fof_gen.specs.Generated.{problem_text}
use Rattle.gs3_text.specs.ProofText.{text_of}
use Rattle.rewrite_rules.specs.Rules.{RewriteRule, RulesOf}
use Rattle.goeland_report.specs.Output.{bench_line}
use Rattle.goeland_report.specs.declared.cause.BenchResult.{BenchResult}
use Rattle.goeland_report.specs.declared.cause.BenchResult.TheVariants as ended
use Rattle.deepening.specs.declared.order.Way.{Way}
use Rattle.goeland_run.specs.PrintedText.{printed_text}
use Rattle.goeland_run.specs.Run.{status_of_bench}
use Rattle.goeland_run.specs.Searched.{bench_limits, HasAnswer}
use Rattle.goeland_run.specs.declared.answers.Answer.{Answer}
use Rattle.goeland_run.specs.declared.answers.Answer.TheVariants as answer
use Rattle.goeland_run.specs.declared.decided.Decided.{Decided}

-- the result of a search with that answer, at that depth, on a text of so many bytes
abbrev pub result_of : Answer → ℕ → ℕ → BenchResult
result_of (answer.Steps steps) depth bytes = ended.Proved depth bytes
result_of (answer.GaveUp cause) depth bytes = ended.GaveUp cause

-- what is printed of a search, and the status of a search of the problem with the bench's limits
pub record BenchesProblem (way : Way) (n bytes : ℕ) (problem : PlainProblem) (d : Decided) : Type 0 where
  pub rules : List RewriteRule
  pub of_problem : RulesOf true problem.axioms rules
  pub found : Answer
  pub has_answer : HasAnswer problem rules bench_limits way d.kept found
  pub text : printed_text d.printed ≡ text_of (bench_line n (result_of found d.kept.depth bytes) ∷ [])
  pub status : d.status ≡ status_of_bench (result_of found d.kept.depth bytes)

-- the same of problem n
pub record Benches (way : Way) (n : ℕ) (d : Decided) : Type 0 where
  pub problem : PlainProblem
  pub of_text : IsTheProblem (problem_text n) problem
  pub benches : BenchesProblem way n (length (problem_text n)) problem d
