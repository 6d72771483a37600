-- Which step a formula asks for.
use Rattle.std.specs.Prelude.{Bool, true, false}
use Rattle.free_terms.specs.Free.{FreeFormula}
use Rattle.fol_core.specs.Syntax.{atom, verum, falsum, not, and, or, imp, iff, all, ex}
use Rattle.branch_rules.specs.declared.kinds.Kind.{Kind}
use Rattle.branch_rules.specs.declared.kinds.Kind.TheVariants.{Conjunctive, Existential, Disjunctive, Universal}
use Rattle.branch_rules.specs.declared.kinds.Kind.TheVariants.{Literal}

abbrev pub kind_of : FreeFormula → Kind
kind_of (atom p us) = Literal
kind_of verum = Literal
kind_of falsum = Literal
kind_of (and a b) = Conjunctive
kind_of (or a b) = Disjunctive
kind_of (imp a b) = Disjunctive
kind_of (iff a b) = Disjunctive
kind_of (all a) = Universal
kind_of (ex a) = Existential
kind_of (not (atom p us)) = Literal
kind_of (not verum) = Literal
kind_of (not falsum) = Literal
kind_of (not (not a)) = Conjunctive
kind_of (not (and a b)) = Disjunctive
kind_of (not (or a b)) = Conjunctive
kind_of (not (imp a b)) = Conjunctive
kind_of (not (iff a b)) = Disjunctive
kind_of (not (all a)) = Existential
kind_of (not (ex a)) = Universal

-- whether a formula of the kind is in the first class
abbrev pub in_first : Kind → Bool
in_first Conjunctive = true
in_first Literal = true
in_first Existential = false
in_first Disjunctive = false
in_first Universal = false
