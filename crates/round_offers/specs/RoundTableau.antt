-- What a round's tableau is.
use Rattle.fof_parse.specs.ProblemView.{plain_problem}
use Rattle.unify.specs.Offers.{Offer}
use Rattle.tab_tree.specs.Tableau.{Tableau, Closes}
use Rattle.tab_tree.specs.Segments.{Segments, all_segments}
use Rattle.tab_tree.specs.Round.{IsOfRound}
use Rattle.tab_tree.specs.RoundValue.{RoundValue, root_of}
use Rattle.tab_tree.proofs.Exists.{tableau_below}

-- the tableau of the round: the one below its first branch
abbrev pub tableau_of : RoundValue → Tableau
tableau_of r = (tableau_below r.depth (root_of r)).0

-- the segments of the round's tableau
unfoldable pub segments_of : RoundValue → Segments
segments_of r = all_segments (root_of r) (tableau_of r)

-- The offer closes the round's tableau.
abbrev pub ClosesRound : RoundValue → Offer → Type 0
ClosesRound r s = Closes (root_of r).start (root_of r).rules r.depth s

-- the terms of the offer are of the round
abbrev pub IsOfferOf : RoundValue → Offer → Type 0
IsOfferOf r s = IsOfRound (plain_problem r.problem).symbols.functions (root_of r) (tableau_of r) s
