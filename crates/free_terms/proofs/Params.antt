-- Lifting, and formulas that hold no parameter.
use Rattle.std.proofs.Common.{◌≡◌, ℕ, suc, Bool, true, false, ◌||◌, List, [], ◌∷◌, map, refl, ap, sym, ◌∙◌, ◌⊎◌, inl, inr, eqb}
use Rattle.std.proofs.lemmas.Bool.{false≢true}
use Rattle.std.proofs.lemmas.Bool.Decides.{eqb_tells}
use Rattle.fol_core.specs.Syntax as plain
use Rattle.fol_core.specs.Syntax.{PlainFormula, FormulaOver, map_atoms, atom, verum, falsum, not, and, or, imp, iff, all, ex}
use Rattle.fol_core.specs.View as view
use Rattle.fol_core.specs.declared.term.Term.{Term}
use Rattle.free_terms.specs.Free.{terms, terms_of_list, lift, lift_term, lift_terms, HoldsNoParam}
use Rattle.free_terms.specs.NoParam.{NoParamIn, NoParamInTerm, NoParamInTerms}

no_first : (p q : Bool) → (p || q) ≡ false → p ≡ false
no_first true q e = e
no_first false q e = refl

no_second : (p q : Bool) → (p || q) ≡ false → q ≡ false
no_second true q e = absurd (false≢true (sym e))
no_second false q e = e

eqb_self : (n : ℕ) → eqb n n ≡ true
eqb_self n = by_case (eqb_tells n n) where
  by_case : ((eqb n n ≡ true) × (n ≡ n)) ⊎ ((eqb n n ≡ false) × (n ≡ n → ⊥)) → eqb n n ≡ true
  by_case (inl p) = p.0
  by_case (inr p) = absurd (p.1 refl)

-- what holds none of the parameters holds none in any part
mutual
  none_in_term : (t : plain.PlainTerm) → ((q : ℕ) → plain.param_in_term q t ≡ false) → NoParamInTerm t
  none_in_term (plain.bound n) none = tt
  none_in_term (plain.param n) none = false≢true (sym (none n) ∙ eqb_self n)
  none_in_term (plain.app f us) none = none_in_terms us none

  none_in_terms : (us : plain.PlainTerms) → ((q : ℕ) → plain.param_in_terms q us ≡ false) → NoParamInTerms us
  none_in_terms plain.no_terms none = tt
  none_in_terms (plain.terms u us) none =
      (none_in_term u (λ q. no_first _ _ (none q)), none_in_terms us (λ q. no_second _ _ (none q)))

pub none_in : (a : PlainFormula) → HoldsNoParam a → NoParamIn a
none_in (atom p us) none = none_in_terms us none
none_in verum none = tt
none_in falsum none = tt
none_in (not a) none = none_in a none
none_in (and a b) none = (none_in a (λ q. no_first _ _ (none q)), none_in b (λ q. no_second _ _ (none q)))
none_in (or a b) none = (none_in a (λ q. no_first _ _ (none q)), none_in b (λ q. no_second _ _ (none q)))
none_in (imp a b) none = (none_in a (λ q. no_first _ _ (none q)), none_in b (λ q. no_second _ _ (none q)))
none_in (iff a b) none = (none_in a (λ q. no_first _ _ (none q)), none_in b (λ q. no_second _ _ (none q)))
none_in (all a) none = none_in a none
none_in (ex a) none = none_in a none

-- how deep an atom stands makes no difference to lifting
level_free : (k m : ℕ) (a : PlainFormula) → map_atoms (λ _ us. lift_terms us) k a ≡ map_atoms (λ _ us. lift_terms us) m a
level_free k m (atom p us) = refl
level_free k m verum = refl
level_free k m falsum = refl
level_free k m (not a) = ap not (level_free k m a)
level_free k m (and a b) = λ i. and (level_free k m a i) (level_free k m b i)
level_free k m (or a b) = λ i. or (level_free k m a i) (level_free k m b i)
level_free k m (imp a b) = λ i. imp (level_free k m a i) (level_free k m b i)
level_free k m (iff a b) = λ i. iff (level_free k m a i) (level_free k m b i)
level_free k m (all a) = ap all (level_free (suc k) (suc m) a)
level_free k m (ex a) = ap ex (level_free (suc k) (suc m) a)

pub lift_all : (a : PlainFormula) → lift (all a) ≡ all (lift a)
lift_all a = ap all (level_free 1 0 a)

pub lift_ex : (a : PlainFormula) → lift (ex a) ≡ ex (lift a)
lift_ex a = ap ex (level_free 1 0 a)

pub lift_terms_of : (us : List Term) → lift_terms (view.terms_of us) ≡ terms_of_list (map (λ u. lift_term (view.term_of u)) us)
lift_terms_of [] = refl
lift_terms_of (u ∷ us) = ap (λ vs. terms (lift_term (view.term_of u)) vs) (lift_terms_of us)
