use Rattle.std.proofs.Common.{subst}
use Rattle.fol_core.specs.Symbol.{AreSymbols}
use Rattle.fol_core.proofs.KeptSymbols.{are_symbols}
use Rattle.fol_core.proofs.numbering.Numbering.keeps.Goals as goal

pub returns : goal.returns
returns c = subst AreSymbols c.self.view_is (are_symbols _ _ c.self.invariant)
