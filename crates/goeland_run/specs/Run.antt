-- What a run does.
use Rattle.std.specs.Prelude.{◌≡◌, ◌⊎◌, ℕ, List}
use Rattle.fol_core.specs.Symbol.{Symbol}
use Rattle.round_offers.specs.RoundOffer.{RoundOffer}
use Rattle.goeland_report.specs.Outcome.{Outcome, usage, too_large, read_fault, no_tokens, no_problem}
use Rattle.goeland_report.specs.Outcome.{give_up, proof, bench}
use Rattle.goeland_report.specs.Output.{output}
use Rattle.goeland_report.specs.declared.cause.BenchResult.{BenchResult}
use Rattle.goeland_report.specs.declared.cause.BenchResult.TheVariants as ended
use Rattle.deepening.specs.Kept.{IsEmpty}
use Rattle.deepening.specs.declared.kept.Kept.{Kept}
use Rattle.goeland_run.specs.declared.status.Status.{Status}
use Rattle.goeland_run.specs.declared.status.Status.TheVariants as status
use Rattle.goeland_run.specs.declared.ways.Threading.{Threading}
use Rattle.goeland_run.specs.Outside.{Reading, Writing, IsReadable, IsUntouched, Prints}
use Rattle.goeland_run.specs.Histories.{offer_words}
use Rattle.goeland_run.specs.Reports.{Reports}

abbrev pub status_of_bench : BenchResult → Status
status_of_bench (ended.Proved depth bytes) = status.Proved
status_of_bench (ended.GaveUp cause) = status.GaveUp

abbrev pub status_of : Outcome RoundOffer → Status
status_of usage = status.Usage
status_of read_fault = status.ReadFault
status_of too_large = status.Refused
status_of (no_tokens offset) = status.Refused
status_of (no_problem kind offset) = status.Refused
status_of (give_up g) = status.GaveUp
status_of (proof told) = status.Proved
status_of (bench n result) = status_of_bench result

-- the number that the process ends with
abbrev pub exit_of : Status → ℕ
exit_of status.Proved = 0
exit_of status.GaveUp = 1
exit_of status.Usage = 2
exit_of status.Refused = 3
exit_of status.ReadFault = 4
exit_of status.WriteFault = 5
exit_of status.OutOfMemory = 6

-- An outcome with its cause was reported. Offers are spelled over the problem's function symbols.
pub record IsTold (threads : Threading) (words : List (List ℕ)) (r : Reading) (w : Writing) (kept : Kept)
    (end : Status) : Type 0 where
  pub file : List ℕ
  pub functions : List Symbol
  pub outcome : Outcome RoundOffer
  pub cause : Reports threads r words kept file functions outcome
  pub prints : Prints w (output (offer_words functions) file outcome) (status_of outcome) end

-- There was no memory. Nothing was written or kept, and no fault came.
pub record IsStarved (r : Reading) (w : Writing) (kept : Kept) (end : Status) : Type 0 where
  pub is_end : end ≡ status.OutOfMemory
  pub readable : IsReadable r
  pub untouched : IsUntouched w
  pub empty : IsEmpty kept

-- a run with these words
abbrev pub Ran : Threading → List (List ℕ) → Reading → Writing → Kept → Status → Type 0
Ran threads words r w kept end = IsTold threads words r w kept end ⊎ IsStarved r w kept end
