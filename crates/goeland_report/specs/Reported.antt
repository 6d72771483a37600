-- What the program's reports stand for.
use Rattle.std.specs.Prelude.{◌≡◌, ℕ, List}
use Rattle.goeland_report.specs.Asked.{asked_of}
use Rattle.goeland_report.specs.Outcome.{Proof, GiveUp, Outcome}
use Rattle.goeland_report.specs.Output.{first_part, second_part}
use Rattle.goeland_report.specs.declared.found.Found.{Found}
use Rattle.goeland_report.specs.declared.found.Reason.{Reason}
use Rattle.goeland_report.specs.declared.found.Report.{Report}

abbrev pub proof_of : {O : Type 0} → Found O → Proof O
proof_of f =
    record {
      theorem = f.theorem;
      depth = f.depth;
      engine = f.engine;
      history = asked_of f.history;
      text = f.text.items;
    }

abbrev pub give_up_of : {O : Type 0} → Reason O → GiveUp O
give_up_of r = record { cause = r.cause; engine = r.engine; history = asked_of r.history }

-- the report is that of the outcome, for a problem in the file of this name
pub record IsReport {O : Type 0} (text : O → List ℕ) (file : List ℕ) (outcome : Outcome O) (r : Report) : Type 0 where
  pub first : r.first.items ≡ first_part text file outcome
  pub second : r.second.items ≡ second_part text file outcome
