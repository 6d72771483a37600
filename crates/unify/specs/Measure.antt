-- How long the text of a term is, and how deep the term nests, as it is written in a proof: a Skolem term stands there
-- as one symbol, and so does a metavariable that is unbound.
use Rattle.std.specs.Prelude.{◌≡◌, ℕ, zero, suc, ◌+◌, min, max, Some, slice_get, unwrap_or}
use Rattle.std.specs.declared.hash.FoldHasher.{FoldHasher}
use Rattle.std.specs.declared.hash.BuildHasherDefault.{BuildHasherDefault}
use Rattle.std.specs.HashMap.{get, HashMap}
use Rattle.std.specs.Map.{lookup}
use Rattle.free_terms.specs.Free.{Name, FreeTerm, FreeTerms, bound, metavar, skolem, app, no_terms, terms}
use Rattle.free_terms.specs.View.{name_of}
use Rattle.free_terms.specs.declared.term.Name as names
use Rattle.unify.specs.Index.{is_same}
use Rattle.unify.specs.Offers.{Offer, resolved, resolved_all, same_name}
use Rattle.unify.specs.declared.measuring.Extent.{Extent}
use Rattle.unify.specs.declared.measuring.Lengths.{Lengths}

abbrev pub symbol_length : Lengths → ℕ → ℕ
symbol_length l f = unwrap_or (slice_get l.symbols.items f) l.other

abbrev pub skolem_length : Lengths → Name → ℕ
skolem_length l x = unwrap_or (lookup (λ y. same_name x (name_of y)) l.skolems.entries) l.other

-- The length of arguments in parentheses, where it is known of what stands behind the first one. No arguments have no
-- parentheses.
abbrev pub in_parentheses : ℕ → ℕ
in_parentheses zero = zero
in_parentheses (suc n) = suc (suc n)

-- Behind each argument stands a comma or the closing parenthesis. A variable, which no term of a proof has, has no
-- text.
abbrev mutual
  pub text_length : Lengths → FreeTerm → ℕ
  text_length l (bound n) = 0
  text_length l (metavar x) = l.other
  text_length l (skolem x us) = skolem_length l x
  text_length l (app f us) = symbol_length l f + in_parentheses (arguments_length l us)

  pub arguments_length : Lengths → FreeTerms → ℕ
  arguments_length l no_terms = 0
  arguments_length l (terms u us) = suc (text_length l u + arguments_length l us)

-- how deep the term nests where a symbol alone nests 1 deep
abbrev mutual
  pub text_depth : FreeTerm → ℕ
  text_depth (bound n) = 1
  text_depth (metavar x) = 1
  text_depth (skolem x us) = 1
  text_depth (app f us) = suc (arguments_depth us)

  pub arguments_depth : FreeTerms → ℕ
  arguments_depth no_terms = 0
  arguments_depth (terms u us) = max (text_depth u) (arguments_depth us)

-- the length and the depth, each counted up to the limit
abbrev pub IsExtent : ℕ → ℕ → ℕ → Extent → Type 0
IsExtent most n d e = (e.length ≡ min most n) × (e.depth ≡ min most d)

-- the extent of the term with all bindings applied, and that of a symbol's arguments
abbrev pub HasExtent : Offer → Lengths → ℕ → FreeTerm → Extent → Type 0
HasExtent s l most t e = IsExtent most (text_length l (resolved s t)) (text_depth (resolved s t)) e

abbrev pub HaveExtent : Offer → Lengths → ℕ → FreeTerms → Extent → Type 0
HaveExtent s l most us e =
    IsExtent most (arguments_length l (resolved_all s us)) (arguments_depth (resolved_all s us)) e

abbrev pub Extents : Type 0
Extents = HashMap names.Name Extent (BuildHasherDefault FoldHasher)

-- what is noted of a metavariable is the extent of its value
abbrev pub AreMeasured : Offer → Lengths → ℕ → Extents → Type 0
AreMeasured s l most done =
    (y : names.Name) (e : Extent) → get is_same done y ≡ Some e → HasExtent s l most (metavar (name_of y)) e

-- nothing is noted, so that what is noted is right for every offer
abbrev pub AreOfAny : Extents → Type 0
AreOfAny done = (s : Offer) (l : Lengths) (most : ℕ) → AreMeasured s l most done
