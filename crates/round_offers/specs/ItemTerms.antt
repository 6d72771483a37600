-- The terms of a round's items.
use Rattle.std.specs.Prelude.{List, Some}
use Rattle.free_terms.specs.Free.{FreeTerms}
use Rattle.fof_parse.specs.ProblemView.{plain_problem}
use Rattle.branch_rules.specs.Branch.{Entry}
use Rattle.tab_tree.specs.Items.{Item}
use Rattle.tab_tree.specs.Round.{AreTermsOf}
use Rattle.tab_tree.specs.RoundValue.{RoundValue, root_of}
use Rattle.round_offers.specs.RoundTableau.{tableau_of}
use Rattle.tab_tree.specs.Arguments.{HasArguments}

-- the terms are of the round
abbrev pub AreRoundTerms : RoundValue → FreeTerms → Type 0
AreRoundTerms r us = AreTermsOf (plain_problem r.problem).symbols.functions (root_of r) (tableau_of r) us

-- the arguments of each item are of the round
abbrev pub HasTermsOf : RoundValue → List Entry → Type 0
HasTermsOf r es =
    (item : Item) (two : FreeTerms × FreeTerms) → HasArguments es item (Some two)
    → AreRoundTerms r two.0 × AreRoundTerms r two.1
