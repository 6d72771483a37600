-- What a run reports, and why: one record for each report.
use Rattle.std.specs.Prelude.{◌≡◌, ◌≤◌, ◌<◌, ℕ, true, List, length, IfSome, None}
use Rattle.fol_core.specs.Symbol.{Symbol}
use Rattle.gl_outside.specs.Outside.{HasRisen}
use Rattle.fof_parse.specs.Problem.{PlainProblem}
use Rattle.fof_parse.specs.TheProblem.{IsTheProblem, IsNoProblem, IsNoText, IsBadText, most_bytes}
use Rattle.fof_parse.specs.declared.refusal.BadKind.{BadKind}
use Rattle.rewrite_rules.specs.Rules.{RewriteRule, RulesOf}
use Rattle.round_offers.specs.RoundOffer.{RoundOffer}
use Rattle.translation.specs.Measures.{MeasuredProof}
use Rattle.goeland_words.specs.Words.{IsCommand, IsNoCommand}
use Rattle.goeland_words.specs.declared.words.Command.TheVariants.{Prove, Bench}
use Rattle.goeland_words.specs.declared.prove.ProveWords.{ProveWords}
use Rattle.fof_gen.specs.Generated.{problem_text}
use Rattle.deepening.specs.Endings.{IsFound}
use Rattle.deepening.specs.Kept.{IsEmpty}
use Rattle.deepening.specs.declared.kept.Kept.{Kept}
use Rattle.deepening.specs.declared.order.Way.{Way}
use Rattle.goeland_report.specs.Outcome.{Outcome, usage, too_large, read_fault, no_tokens, no_problem}
use Rattle.goeland_report.specs.Outcome.{give_up, proof, bench}
use Rattle.goeland_report.specs.declared.cause.BenchResult.{BenchResult}
use Rattle.goeland_report.specs.declared.cause.BenchResult.TheVariants as ended
use Rattle.goeland_run.specs.Outside.{Reading, IsReadable}
use Rattle.goeland_run.specs.Searched.{bench_limits, way_of, way_asked, IsGivenUp, HasGivenUp, HasProved}
use Rattle.goeland_run.specs.declared.ways.Threading.{Threading}

-- What is reported of the file that the words name.
module _ (way : Way) (r : Reading) (p : ProveWords) (kept : Kept) where
  -- It could not be read.
  pub record IsUnread : Type 0 where
    pub fault : HasRisen r.unread r.unread_after
    pub empty : IsEmpty kept

  -- It has more bytes than a problem may have.
  pub record IsTooLarge : Type 0 where
    pub readable : IsReadable r
    pub large : IfSome (r.holds p.file) (λ bytes. most_bytes < length bytes)
    pub empty : IsEmpty kept

  -- These are its bytes.
  pub record Reads (bytes : List ℕ) : Type 0 where
    pub readable : IsReadable r
    pub told : IfSome (r.holds p.file) (λ held. bytes ≡ held)
    pub within : length bytes ≤ most_bytes

  -- They are no problem, from the offset on: they have no tokens, or are refused for the reason.
  pub record IsNoTokens (offset : ℕ) : Type 0 where
    pub bytes : List ℕ
    pub reads : Reads bytes
    pub none : IsNoProblem bytes
    pub at_offset : IsNoText bytes offset
    pub empty : IsEmpty kept

  pub record IsRefused (kind : BadKind) (offset : ℕ) : Type 0 where
    pub bytes : List ℕ
    pub reads : Reads bytes
    pub none : IsNoProblem bytes
    pub at_offset : IsBadText bytes offset kind
    pub empty : IsEmpty kept

  -- They are a problem with these function symbols, of which that is found out.
  pub record Searches (functions : List Symbol) (IsOutcome : PlainProblem → Type 0) : Type 0 where
    pub bytes : List ℕ
    pub reads : Reads bytes
    pub problem : PlainProblem
    pub of_text : IsTheProblem bytes problem
    pub symbols : functions ≡ problem.symbols.functions
    pub outcome : IsOutcome problem

  abbrev pub ReportsFile : List Symbol → Outcome RoundOffer → Type 0
  ReportsFile functions read_fault = IsUnread
  ReportsFile functions too_large = IsTooLarge
  ReportsFile functions (no_tokens offset) = IsNoTokens offset
  ReportsFile functions (no_problem kind offset) = IsRefused kind offset
  ReportsFile functions (give_up g) = Searches functions (λ problem. HasGivenUp way p problem kept g)
  ReportsFile functions (proof told) = Searches functions (λ problem. HasProved way p problem kept told)
  ReportsFile functions usage = ⊥
  ReportsFile functions (bench n result) = ⊥

module _ (threads : Threading) (r : Reading) (words : List (List ℕ)) (kept : Kept) where
  -- The words are no command.
  pub record IsUsage : Type 0 where
    pub none : IsNoCommand words
    pub readable : IsReadable r
    pub empty : IsEmpty kept

  -- The search of the bench's problem ended so.
  abbrev pub EndsBench : Way → ℕ → PlainProblem → List RewriteRule → BenchResult → Type 0
  EndsBench way n problem rules (ended.Proved depth bytes) =
      ((found : MeasuredProof) × IsFound problem rules bench_limits way kept found) × (depth ≡ kept.depth)
      × (bytes ≡ length (problem_text n))
  EndsBench way n problem rules (ended.GaveUp cause) = IsGivenUp problem rules bench_limits way kept cause

  pub record HasBenched (n : ℕ) (result : BenchResult) : Type 0 where
    pub workers : ℕ
    pub asked : IsCommand words (Bench n workers)
    pub readable : IsReadable r
    pub problem : PlainProblem
    pub of_text : IsTheProblem (problem_text n) problem
    pub rules : List RewriteRule
    pub of_problem : RulesOf true problem.axioms rules
    pub ends : EndsBench (way_of threads workers None) n problem rules result

  -- The file is that of the words, and the outcome has its cause.
  pub record Under (file : List ℕ) (functions : List Symbol) (outcome : Outcome RoundOffer) : Type 0 where
    pub asked : ProveWords
    pub asks : IsCommand words (Prove asked)
    pub of_file : file ≡ asked.file
    pub cause : ReportsFile (way_asked threads asked) r asked kept functions outcome

  abbrev pub Reports : List ℕ → List Symbol → Outcome RoundOffer → Type 0
  Reports file functions usage = IsUsage
  Reports file functions (bench n result) = HasBenched n result
  Reports file functions outcome = Under file functions outcome
