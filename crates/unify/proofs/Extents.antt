-- The extents of terms with all bindings applied, from those of their parts.
use Rattle.std.proofs.Common.{◌≡◌, ◌+◌, ◌<◌, ◌≤◌, ℕ, zero, suc, min, max, Bool, true, false, List, [], ◌∷◌, length, drop, get_or, Some, None, ap, sym, ◌∙◌, subst, arith, ◌⊎◌, inl, inr, if◌then◌else◌}
use Rattle.std.specs.HashMap.{get, IsEmpty, Updates}
use Rattle.std.specs.Map.{lookup}
use Rattle.free_terms.specs.Free as free
use Rattle.free_terms.specs.Free.{FreeTerm, FreeTerms, metavar, no_terms, terms}
use Rattle.free_terms.specs.View.{name_of, term_of, terms_of}
use Rattle.free_terms.specs.declared.term.FTerm.{FTerm}
use Rattle.free_terms.specs.declared.term.Name.{Name}
use Rattle.unify.specs.Index.{is_same}
use Rattle.unify.specs.Measure.{Extents, IsExtent, HasExtent, HaveExtent, AreMeasured, in_parentheses, text_length, text_depth, arguments_length, arguments_depth}
use Rattle.unify.specs.Offers.{Offer, IsOffer, value_of, resolved_all}
use Rattle.unify.specs.declared.measuring.Extent.{Extent}
use Rattle.unify.specs.declared.measuring.Lengths.{Lengths}
use Rattle.unify.proofs.Acyclic.{resolved_binding, tells, unbound_still}

some_once : {A : Type 0} (a b : A) → Some a ≡ Some b → a ≡ b
some_once a b e = cc

none_is_some : {A : Type 0} (a : A) → None ≡ Some a → ⊥
none_is_some a e = cc

pub none_measured : (s : Offer) (l : Lengths) (most : ℕ) (done : Extents) → IsEmpty done → AreMeasured s l most done
none_measured s l most done none y e at = absurd (none_is_some e (sym (ap (lookup (is_same y)) none) ∙ at))

pub measured_more : (s : Offer) (l : Lengths) (most : ℕ) (done more : Extents) (y : Name) (e : Extent) → AreMeasured s l most done → HasExtent s l most (metavar (name_of y)) e
    → Updates is_same done more y (Some e) → AreMeasured s l most more
measured_more s l most done more y e known has updates z f at = by_case (tells (name_of y) (name_of z)) where
  is_there : (q : Bool) → is_same y z ≡ q → (if q then Some e else get is_same done z) ≡ Some f
  is_there q same = sym (updates.0 z ∙ ap (λ b. if b then Some e else get is_same done z) same) ∙ at

  by_case : ((is_same y z ≡ true) × (name_of y ≡ name_of z)) ⊎ ((is_same y z ≡ false) × (name_of y ≡ name_of z → ⊥)) → HasExtent s l most (metavar (name_of z)) f
  by_case (inl p) =
      subst (λ w. HasExtent s l most (metavar w) f) p.1 (subst (HasExtent s l most (metavar (name_of y))) (some_once e f (is_there true p.0)) has)
  by_case (inr p) = known z f (is_there false p.0)

pub measured_value : (s : Offer) (l : Lengths) (most : ℕ) (y : free.Name) (v : FreeTerm) (e : Extent) → IsOffer s → value_of s y ≡ Some v → HasExtent s l most v e
    → HasExtent s l most (metavar y) e
measured_value s l most y v e o q has = subst (λ z. IsExtent most (text_length l z) (text_depth z) e) (sym (resolved_binding s o y v q)) has

pub measured_unbound : (s : Offer) (l : Lengths) (most : ℕ) (y : free.Name) (e : Extent) → value_of s y ≡ None → IsExtent most l.other 1 e → HasExtent s l most (metavar y) e
measured_unbound s l most y e q has = subst (λ z. IsExtent most (text_length l z) (text_depth z) e) (sym (unbound_still (length s) s y q)) has

-- parentheses are told from a length that is counted up to a limit
around : (most symbol rest : ℕ) → min most (symbol + in_parentheses (min most rest)) ≡ min most (symbol + in_parentheses rest)
around zero symbol rest = omega arith
around (suc most) symbol zero =
    let none : min (suc most) zero ≡ zero = omega arith in
    ap (λ z. min (suc most) (symbol + in_parentheses z)) none
around (suc most) symbol (suc rest) =
    let some : min (suc most) (suc rest) ≡ suc (min most rest) = omega arith in
    let same : min (suc most) (symbol + suc (suc (min most rest))) ≡ min (suc most) (symbol + suc (suc rest)) = omega arith in
    ap (λ z. min (suc most) (symbol + in_parentheses z)) some ∙ same

pub with_symbol : (most symbol n d : ℕ) (arguments e : Extent) → IsExtent most n d arguments → IsExtent most (symbol + in_parentheses arguments.length) (suc arguments.depth) e
    → IsExtent most (symbol + in_parentheses n) (suc d) e
with_symbol most symbol n d arguments e has is =
    (is.0 ∙ ap (λ z. min most (symbol + in_parentheses z)) has.0 ∙ around most symbol n, omega (arith, has.1, is.1))

-- the extent of the arguments so far, with those that are left, makes up the extent of all
pub record MakesUp (s : Offer) (l : Lengths) (most : ℕ) (all : Extent) (left whole : FreeTerms) : Type 0 where
  pub length : min most (all.length + arguments_length l (resolved_all s left)) ≡ min most (arguments_length l (resolved_all s whole))
  pub depth : min most (max all.depth (arguments_depth (resolved_all s left))) ≡ min most (arguments_depth (resolved_all s whole))
  pub short : all.length ≤ most
  pub flat : all.depth ≤ most

pub makes_next : (s : Offer) (l : Lengths) (most : ℕ) (all part more : Extent) (u : FreeTerm) (us whole : FreeTerms) → MakesUp s l most all (terms u us) whole → HasExtent s l most u part
    → IsExtent most (suc (all.length + part.length)) (max all.depth part.depth) more → MakesUp s l most more us whole
makes_next s l most all part more u us whole so has is = record {
  length = omega (arith, so.length, has.0, is.0);
  depth = omega (arith, so.depth, has.1, is.1);
  short = omega (arith, is.0);
  flat = omega (arith, is.1);
}

pub makes_all : (s : Offer) (l : Lengths) (most : ℕ) (all : Extent) (whole : FreeTerms) → MakesUp s l most all no_terms whole → HaveExtent s l most whole all
makes_all s l most all whole so = (omega (arith, so.length, so.short), omega (arith, so.depth, so.flat))

pub at_next : (us : List FTerm) (i : ℕ) (u : FTerm) → i < length us → u ≡ get_or us i u → terms_of (drop i us) ≡ terms (term_of u) (terms_of (drop (suc i) us))
at_next [] i u lt e = let no_place : ⊥ = omega (arith, lt) in absurd no_place
at_next (v ∷ us) zero u lt e = ap (λ z. terms (term_of z) (terms_of us)) (sym e)
at_next (v ∷ us) (suc i) u lt e = at_next us i u (omega (arith, lt)) e
