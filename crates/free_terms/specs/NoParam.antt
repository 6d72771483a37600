-- That a term or a formula holds no parameter, part by part.
use Rattle.fol_core.specs.Syntax.{PlainTerm, PlainTerms, PlainFormula, bound, param, app, no_terms, terms, atom, verum}
use Rattle.fol_core.specs.Syntax.{falsum, not, and, or, imp, iff, all, ex}

abbrev mutual
  pub NoParamInTerm : PlainTerm → Type 0
  NoParamInTerm (bound n) = Unit {0}
  NoParamInTerm (param n) = ⊥
  NoParamInTerm (app f us) = NoParamInTerms us

  pub NoParamInTerms : PlainTerms → Type 0
  NoParamInTerms no_terms = Unit {0}
  NoParamInTerms (terms u us) = NoParamInTerm u × NoParamInTerms us

abbrev pub NoParamIn : PlainFormula → Type 0
NoParamIn (atom p us) = NoParamInTerms us
NoParamIn verum = Unit {0}
NoParamIn falsum = Unit {0}
NoParamIn (not a) = NoParamIn a
NoParamIn (and a b) = NoParamIn a × NoParamIn b
NoParamIn (or a b) = NoParamIn a × NoParamIn b
NoParamIn (imp a b) = NoParamIn a × NoParamIn b
NoParamIn (iff a b) = NoParamIn a × NoParamIn b
NoParamIn (all a) = NoParamIn a
NoParamIn (ex a) = NoParamIn a
