-- A search of the bench.
use Rattle.std.proofs.Common.{◌≡◌, ◌∙◌, ℕ, true, List, [], ◌∷◌, ◌++◌, length, ap, sym, subst, refl, append-nil}
use Rattle.fof_gen.specs.Generated.{problem_text}
use Rattle.fof_parse.specs.Problem.{PlainProblem}
use Rattle.fof_parse.specs.TheProblem.{IsTheProblem}
use Rattle.gs3_text.specs.ProofText.{text_of}
use Rattle.rewrite_rules.specs.Rules.{RewriteRule, RulesOf}
use Rattle.deepening.specs.Endings.{EndsSo}
use Rattle.deepening.specs.declared.kept.Kept.{Kept}
use Rattle.deepening.specs.declared.limits.Limits.{Limits}
use Rattle.deepening.specs.declared.endings.Ending.{Ending}
use Rattle.deepening.specs.declared.order.Way.{Way}
use Rattle.goeland_report.specs.Output.{bench_line}
use Rattle.goeland_report.specs.declared.cause.BenchResult.{BenchResult}
use Rattle.goeland_report.specs.declared.found.Report.{Report}
use Rattle.goeland_run.specs.Benching.{Benches, BenchesProblem, result_of}
use Rattle.goeland_run.specs.Run.{status_of_bench}
use Rattle.goeland_run.specs.Searched.{bench_limits, HasAnswer}
use Rattle.goeland_run.specs.declared.answers.Answer.{Answer}
use Rattle.goeland_run.specs.declared.decided.Decided.{Decided}
use Rattle.goeland_run.specs.declared.printed.Printed.TheVariants.{Made}
use Rattle.goeland_run.specs.declared.status.Status.{Status}

-- what is decided, from what each call says
pub benches_problem : (way : Way) (n bytes : ℕ) (problem : PlainProblem) (rules : List RewriteRule) (limits : Limits) (kept : Kept)
    (ending : Ending) (found : Answer) (ended : BenchResult) (report : Report) (status : Status)
    → RulesOf true problem.axioms rules → limits ≡ bench_limits
    → ((p : PlainProblem) (rs : List RewriteRule) (w : Way) (k : Kept) → k.depth ≡ kept.depth → EndsSo p rs limits w k ending
    → HasAnswer p rs limits w k found)
    → EndsSo problem rules limits way kept ending → ended ≡ result_of found kept.depth bytes
    → report.first.items ≡ text_of (bench_line n ended ∷ []) → report.second.items ≡ [] → status ≡ status_of_bench ended
    → BenchesProblem way n bytes problem (record { printed = Made report; status = status; kept = kept })
benches_problem way n bytes problem rules limits kept ending found ended report status of_problem limited answers ends is first second told =
    record {
      rules = rules;
      of_problem = of_problem;
      found = found;
      has_answer = subst (λ (l : Limits). HasAnswer problem rules l way kept found) limited (answers problem rules way kept refl ends);
      text =
          ap (λ (x : List ℕ). report.first.items ++ x) second ∙ append-nil report.first.items ∙ first
          ∙ ap (λ (e : BenchResult). text_of (bench_line n e ∷ [])) is;
      status = told ∙ ap status_of_bench is;
    }

-- a job on a problem of the bench
pub benches : (way : Way) (n bytes : ℕ) (text : List ℕ) (problem : PlainProblem) (d : Decided) → IsTheProblem text problem
    → text ≡ problem_text n → bytes ≡ length text → BenchesProblem way n bytes problem d → Benches way n d
benches way n bytes text problem d of_text is counted searched =
    record {
      problem = problem;
      of_text = subst (λ (t : List ℕ). IsTheProblem t problem) is of_text;
      benches = subst (λ (b : ℕ). BenchesProblem way n b problem d) (counted ∙ ap length is) searched;
    }
