-- A formula at the end of a left spine, with the levels of the spine above it.
use Rattle.std.specs.Prelude.{List, [], ◌∷◌}
use Rattle.fol_core.specs.Syntax.{FormulaOver, not, and, or, imp, iff, all, ex}
use Rattle.fol_core.specs.View.{formula_by}
use Rattle.fol_core.specs.declared.formula.Formula.{Formula}
use Rattle.fol_core.specs.declared.formula.Formula.TheVariants as formula
use Rattle.fol_core.specs.declared.spine.Wrap.{Wrap}
use Rattle.fol_core.specs.declared.spine.Wrap.TheVariants as wrap

abbrev pub in_wrap : {A : Type 0} → Wrap A → Formula A → Formula A
in_wrap wrap.Not f = formula.Not f
in_wrap (wrap.And right) f = formula.And f right
in_wrap (wrap.Or right) f = formula.Or f right
in_wrap (wrap.Imp right) f = formula.Imp f right
in_wrap (wrap.Iff right) f = formula.Iff f right
in_wrap wrap.All f = formula.All f
in_wrap wrap.Ex f = formula.Ex f

-- the levels from the outermost to the innermost, around f
abbrev pub around : {A : Type 0} → List (Wrap A) → Formula A → Formula A
around [] f = f
around (w ∷ ws) f = in_wrap w (around ws f)

-- the same on plain trees, where view is what the arguments of an atom stand for
abbrev pub plain_in_wrap : {A B : Type 0} → (A → B) → Wrap A → FormulaOver B → FormulaOver B
plain_in_wrap view wrap.Not a = not a
plain_in_wrap view (wrap.And right) a = and a (formula_by view right)
plain_in_wrap view (wrap.Or right) a = or a (formula_by view right)
plain_in_wrap view (wrap.Imp right) a = imp a (formula_by view right)
plain_in_wrap view (wrap.Iff right) a = iff a (formula_by view right)
plain_in_wrap view wrap.All a = all a
plain_in_wrap view wrap.Ex a = ex a

abbrev pub plain_around : {A B : Type 0} → (A → B) → List (Wrap A) → FormulaOver B → FormulaOver B
plain_around view [] a = a
plain_around view (w ∷ ws) a = plain_in_wrap view w (plain_around view ws a)
