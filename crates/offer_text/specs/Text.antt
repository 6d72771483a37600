-- The text of terms with metavariables and Skolem terms, and of offers.
use Rattle.std.specs.Prelude.{ℕ, List, [], ◌++◌, codes, decimal}
use Rattle.std.specs.List.{join_by}
use Rattle.fol_core.specs.Symbol.{Symbol}
use Rattle.fol_core.specs.Spelling.{spelled_symbol, name_in}
use Rattle.free_terms.specs.Free.{Name, FreeTerm, FreeTerms, bound, metavar, skolem, app, no_terms, terms}
use Rattle.unify.specs.Offers.{Binding, Offer}

-- the segment, and the number there
abbrev pub name_text : Name → List ℕ
name_text x = decimal x.segment ++ codes "." ++ decimal x.count

-- A term over these function symbols: a metavariable, or a Skolem symbol or a function symbol, alone or with its
-- arguments in parentheses. A bound variable has no text.
abbrev mutual
  pub term_text : List Symbol → FreeTerm → List ℕ
  term_text fs (bound n) = []
  term_text fs (metavar x) = codes "?" ++ name_text x
  term_text fs (skolem x us) = (codes "!" ++ name_text x) ++ arguments_text fs us
  term_text fs (app f us) = spelled_symbol (name_in fs f) ++ arguments_text fs us

  pub arguments_text : List Symbol → FreeTerms → List ℕ
  arguments_text fs no_terms = []
  arguments_text fs (terms u us) = codes "(" ++ term_text fs u ++ rest_text fs us

  -- what follows an argument
  pub rest_text : List Symbol → FreeTerms → List ℕ
  rest_text fs no_terms = codes ")"
  rest_text fs (terms u us) = codes "," ++ term_text fs u ++ rest_text fs us

-- a metavariable and the term that it is bound to, in which no binding is applied
abbrev pub binding_text : List Symbol → Binding → List ℕ
binding_text fs b = (codes "?" ++ name_text b.name) ++ codes "=" ++ term_text fs b.term

-- the bindings in their order
abbrev pub offer_text : List Symbol → Offer → List ℕ
offer_text fs s = codes "{" ++ join_by (binding_text fs) (codes ",") s ++ codes "}"
