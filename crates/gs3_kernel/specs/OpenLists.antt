-- The lists that a proof still has to refute, held as one list and a stack of cuts.
use Rattle.std.specs.Prelude.{◌≤◌, List, [], ◌∷◌, ◌++◌, map, length, take, reverse, Option, Some, None}
use Rattle.fol_core.specs.Syntax.{PlainFormula}
use Rattle.fol_core.specs.View.{TermFormula, formulas_of}
use Rattle.gs3_rules.specs.ParamBound.{list_bound}
use Rattle.gs3_kernel.specs.declared.open.Cut.{Cut}
use Rattle.gs3_kernel.specs.declared.open.Open.{Open}

-- The lists of the branches after a list. A cut keeps a front of the list: its branch goes on from there with more
-- formulas, and the branches after it are cut from that front.
abbrev pub lists_behind : List TermFormula → List Cut → List (List TermFormula)
lists_behind list [] = []
lists_behind list (cut ∷ cuts) = (take cut.keep list ++ cut.more) ∷ lists_behind (take cut.keep list) cuts

-- It keeps no more than there is, and the parameters of its branch are below its number.
pub record IsCut (list : List TermFormula) (cut : Cut) : Type 0 where
  pub within : cut.keep ≤ length list
  pub bounded : list_bound (formulas_of (take cut.keep list ++ cut.more)) ≤ cut.above

abbrev pub AreCuts : List TermFormula → List Cut → Type 0
AreCuts list [] = Unit {0}
AreCuts list (cut ∷ cuts) = IsCut list cut × AreCuts (take cut.keep list) cuts

-- the cuts, the one of the next branch first
abbrev pub cuts_of : Open → List Cut
cuts_of o = reverse o.cuts.items

-- the lists after the one that is open
abbrev pub later_lists : Open → List (List PlainFormula)
later_lists o = map formulas_of (lists_behind o.list (cuts_of o))

abbrev pub open_lists : Open → List (List PlainFormula)
open_lists o = formulas_of o.list ∷ later_lists o

pub record IsSound (o : Open) : Type 0 where
  pub bounded : list_bound (formulas_of o.list) ≤ o.above
  pub cuts : AreCuts o.list (cuts_of o)

-- the lists that are left, none where nothing is open
abbrev pub left_of : Option Open → List (List PlainFormula)
left_of None = []
left_of (Some o) = open_lists o

abbrev pub LeftIsSound : Option Open → Type 0
LeftIsSound None = Unit {0}
LeftIsSound (Some o) = IsSound o
