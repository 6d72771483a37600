-- What a run decides before it prints.
use Rattle.std.specs.Prelude.{◌≡◌, ◌<◌, ℕ, List, length, Result, Ok, Err}
use Rattle.fol_core.specs.Symbol.{Symbol}
use Rattle.fof_parse.specs.Problem.{PlainProblem}
use Rattle.fof_parse.specs.TheProblem.{IsTheProblem, IsNoProblem, IsNoText, IsBadText, most_bytes}
use Rattle.fof_parse.specs.declared.read.ReadError.{ReadError}
use Rattle.fof_parse.specs.declared.read.ReadError.TheVariants as error
use Rattle.round_offers.specs.RoundOffer.{RoundOffer}
use Rattle.goeland_words.specs.declared.prove.ProveWords.{ProveWords}
use Rattle.deepening.specs.Kept.{IsEmpty}
use Rattle.deepening.specs.declared.kept.Kept.{Kept}
use Rattle.deepening.specs.declared.order.Way.{Way}
use Rattle.goeland_report.specs.Outcome.{Outcome, usage, too_large, no_tokens, no_problem, give_up, proof}
use Rattle.goeland_report.specs.Output.{output}
use Rattle.goeland_run.specs.Outside.{Reading, Writing, IsUntouched, Prints}
use Rattle.goeland_run.specs.PrintedText.{printed_text}
use Rattle.goeland_run.specs.Histories.{offer_words}
use Rattle.goeland_run.specs.Reports.{Reports, ReportsFile}
use Rattle.goeland_run.specs.Run.{status_of}
use Rattle.goeland_run.specs.Searched.{HasGivenUp, HasProved}
use Rattle.goeland_run.specs.declared.decided.Decided.{Decided}
use Rattle.goeland_run.specs.declared.status.Status.{Status}
use Rattle.goeland_run.specs.declared.ways.Threading.{Threading}
use Rattle.goeland_run.specs.declared.status.Status.TheVariants.{Usage, Refused, OutOfMemory}

-- an outcome with its cause, its text and its status
pub record Decides (threads : Threading) (r : Reading) (words : List (List ℕ)) (d : Decided) : Type 0 where
  pub file : List ℕ
  pub functions : List Symbol
  pub outcome : Outcome RoundOffer
  pub cause : Reports threads r words d.kept file functions outcome
  pub text : printed_text d.printed ≡ output (offer_words functions) file outcome
  pub status : d.status ≡ status_of outcome

-- the same of the file that the words name
pub record DecidesFile (way : Way) (r : Reading) (p : ProveWords) (d : Decided) : Type 0 where
  pub functions : List Symbol
  pub outcome : Outcome RoundOffer
  pub cause : ReportsFile way r p d.kept functions outcome
  pub text : printed_text d.printed ≡ output (offer_words functions) p.file outcome
  pub status : d.status ≡ status_of outcome

-- The text is a problem with these function symbols, of which that is found out.
pub record IsOfProblem (bytes : List ℕ) (functions : List Symbol) (IsOutcome : PlainProblem → Type 0) : Type 0 where
  pub problem : PlainProblem
  pub of_text : IsTheProblem bytes problem
  pub symbols : functions ≡ problem.symbols.functions
  pub outcome : IsOutcome problem

-- what is reported of a text
abbrev pub ReportsText : Way → List ℕ → ProveWords → Kept → List Symbol → Outcome RoundOffer → Type 0
ReportsText way bytes p kept functions too_large = (most_bytes < length bytes) × IsEmpty kept
ReportsText way bytes p kept functions (no_tokens offset) = IsNoProblem bytes × IsNoText bytes offset × IsEmpty kept
ReportsText way bytes p kept functions (no_problem kind offset) =
    IsNoProblem bytes × IsBadText bytes offset kind × IsEmpty kept
ReportsText way bytes p kept functions (give_up g) =
    IsOfProblem bytes functions (λ problem. HasGivenUp way p problem kept g)
ReportsText way bytes p kept functions (proof told) =
    IsOfProblem bytes functions (λ problem. HasProved way p problem kept told)
ReportsText way bytes p kept functions _ = ⊥

-- the same of a text
pub record DecidesText (way : Way) (p : ProveWords) (bytes : List ℕ) (d : Decided) : Type 0 where
  pub functions : List Symbol
  pub outcome : Outcome RoundOffer
  pub cause : ReportsText way bytes p d.kept functions outcome
  pub text : printed_text d.printed ≡ output (offer_words functions) p.file outcome
  pub status : d.status ≡ status_of outcome

-- the text is that of the outcome, and there was no round
pub record DecidesAtOnce (outcome : Outcome RoundOffer) (end : Status) (d : Decided) : Type 0 where
  pub text : (words : RoundOffer → List ℕ) (file : List ℕ) → printed_text d.printed ≡ output words file outcome
  pub status : d.status ≡ end
  pub empty : IsEmpty d.kept

abbrev pub DecidesUsage : Decided → Type 0
DecidesUsage d = DecidesAtOnce usage Usage d

-- the answer to a text that is refused so
abbrev pub DecidesRefusal : ReadError → Decided → Type 0
DecidesRefusal error.TooLarge d = DecidesAtOnce too_large Refused d
DecidesRefusal (error.Lex offset) d = DecidesAtOnce (no_tokens offset) Refused d
DecidesRefusal (error.Bad offset kind) d = DecidesAtOnce (no_problem kind offset) Refused d
DecidesRefusal error.OutOfMemory d = ⊥

-- what was decided is printed, and its last round is kept; or there was no memory, and nothing was written or kept
abbrev pub EndsRun : {E : Type 0} → Writing → Kept → Status → Result Decided E → Type 0
EndsRun w kept end (Ok d) = Prints w (printed_text d.printed) d.status end × (kept ≡ d.kept)
EndsRun w kept end (Err error) = (end ≡ OutOfMemory) × IsUntouched w × IsEmpty kept
