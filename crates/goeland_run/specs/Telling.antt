-- What is printed of what a search comes to, and the status.
use Rattle.std.specs.Prelude.{◌≡◌}
use Rattle.fof_parse.specs.Problem.{PlainProblem}
use Rattle.round_offers.specs.RoundOffer.{RoundOffer}
use Rattle.goeland_words.specs.declared.prove.ProveWords.{ProveWords}
use Rattle.deepening.specs.declared.kept.Kept.{Kept}
use Rattle.deepening.specs.declared.order.Way.{Way}
use Rattle.goeland_report.specs.Outcome.{Outcome}
use Rattle.goeland_report.specs.Output.{output}
use Rattle.goeland_run.specs.PrintedText.{printed_text}
use Rattle.goeland_run.specs.Histories.{offer_words}
use Rattle.goeland_run.specs.Run.{status_of}
use Rattle.goeland_run.specs.Searched.{HasSteps, HasCause, IsFoundOut}
use Rattle.goeland_run.specs.declared.answers.Answer.{Answer}
use Rattle.goeland_run.specs.declared.answers.Answer.TheVariants as answer
use Rattle.goeland_run.specs.declared.printed.Printed.{Printed}
use Rattle.goeland_run.specs.declared.status.Status.{Status}

module _ (way : Way) (p : ProveWords) (problem : PlainProblem) (kept : Kept) where
  -- the search comes to that answer
  abbrev pub FindsOut : Answer → Type 0
  FindsOut (answer.Steps steps) = HasSteps way p problem kept steps
  FindsOut (answer.GaveUp cause) = HasCause way p problem kept cause

  -- the text and the status are those of the search's outcome
  pub record TellsOutcome (printed : Printed) (end : Status) : Type 0 where
    pub outcome : Outcome RoundOffer
    pub found_out : IsFoundOut way p problem kept outcome
    pub text : printed_text printed ≡ output (offer_words problem.symbols.functions) p.file outcome
    pub status : end ≡ status_of outcome
