-- The bytes of what a run prints.
use Rattle.std.specs.Prelude.{ℕ, List, [], ◌∷◌, ◌++◌, codes}
use Rattle.gs3_text.specs.ProofText.{text_of}
use Rattle.goeland_report.specs.Output.{usage_line}
use Rattle.goeland_run.specs.declared.printed.Printed.{Printed}
use Rattle.goeland_run.specs.declared.printed.Printed.TheVariants.{Usage, TooLarge, ReadFault, Made}

abbrev pub first_text : Printed → List ℕ
first_text Usage = text_of (usage_line ∷ [])
first_text TooLarge = text_of (codes "% refused TooLarge" ∷ [])
first_text ReadFault = text_of (codes "% read fault" ∷ [])
first_text (Made report) = report.first.items

abbrev pub second_text : Printed → List ℕ
second_text (Made report) = report.second.items
second_text _ = []

abbrev pub printed_text : Printed → List ℕ
printed_text p = first_text p ++ second_text p
