-- Two lists of bindings that stand for one offer are equal.
use Rattle.std.proofs.Common.{map, ◌≡◌, List, [], ◌∷◌, Bool, true, false, ◌&&◌, eqb, refl, ap, sym}
use Rattle.std.proofs.lemmas.Bool.{false≢true, eqb-true}
use Rattle.free_terms.specs.declared.term.Name.{Name}
use Rattle.free_terms.specs.View.{term_of}
use Rattle.free_terms.proofs.Injective.{term_of_injective, name_from, term_from, term_of_from}
use Rattle.unify.specs.declared.bindings.Binding.{Binding}
use Rattle.unify.specs.View.{binding_of, offer_of}
use Rattle.unify.specs.Offers as offers

halves : (p q : Bool) → (p && q) ≡ true → (p ≡ true) × (q ≡ true)
halves true q e = (refl, e)
halves false q e = absurd (false≢true e)

-- the test of two names that the program makes
pub name_is : (x y : Name) → (eqb x.segment y.segment && eqb x.count y.count) ≡ true → x ≡ y
name_is x y e =
    let h = halves (eqb x.segment y.segment) (eqb x.count y.count) e in
    let p : x.segment ≡ y.segment = eqb-true x.segment y.segment h.0 in
    let q : x.count ≡ y.count = eqb-true x.count y.count h.1 in
    λ i. record { segment = p i; count = q i }

pub binding_is : (a b : Binding) → a.name ≡ b.name → term_of a.term ≡ term_of b.term → a ≡ b
binding_is a b e f = let t : a.term ≡ b.term = term_of_injective a.term b.term f in λ i. record { name = e i; term = t i }

binding_of_injective : (a b : Binding) → binding_of a ≡ binding_of b → a ≡ b
binding_of_injective a b e = binding_is a b (ap (λ c. name_from c.name) e) (ap (λ c. c.term) e)

first_of_lists : {A : Type 0} (x y : A) (xs ys : List A) → x ∷ xs ≡ y ∷ ys → (x ≡ y) × (xs ≡ ys)
first_of_lists x y xs ys e = (cc (e), cc (e))

nil_is_cons : {A : Type 0} (x : A) (xs : List A) → [] ≡ x ∷ xs → ⊥
nil_is_cons x xs e = cc (e)

pub offer_of_injective : (r s : List Binding) → offer_of r ≡ offer_of s → r ≡ s
offer_of_injective [] [] e = refl
offer_of_injective [] (b ∷ s) e = absurd (nil_is_cons _ _ e)
offer_of_injective (a ∷ r) [] e = absurd (nil_is_cons _ _ (sym e))
offer_of_injective (a ∷ r) (b ∷ s) e =
    let p = first_of_lists (binding_of a) (binding_of b) (offer_of r) (offer_of s) e in
    let here : a ≡ b = binding_of_injective a b p.0 in
    let rest : r ≡ s = offer_of_injective r s p.1 in
    λ i. here i ∷ rest i

abbrev pub binding_from : offers.Binding → Binding
binding_from b = record { name = name_from b.name; term = term_from b.term }

abbrev pub offer_from : offers.Offer → List Binding
offer_from s = map binding_from s

-- Each offer stands for some list of the program's bindings.
pub offer_of_from : (s : offers.Offer) → offer_of (offer_from s) ≡ s
offer_of_from [] = refl
offer_of_from (b ∷ s) = λ i. record { name = b.name; term = term_of_from b.term i } ∷ offer_of_from s i
