-- Matching, from the steps for variables to the whole.
use Rattle.std.proofs.Common.{◌≡◌, ◌<◌, ◌-◌, ◌↔◌, ℕ, zero, suc, Bool, true, false, ◌||◌, eqb, List, [], ◌∷◌, ◌++◌, length, set, Option, Some, None, slice_get, IsTrue, refl, ap, sym, ◌∙◌, subst, arith, ◌⊎◌, inl, inr}
use Rattle.std.proofs.lemmas.Bool.{false≢true, eqb-true}
use Rattle.std.proofs.lemmas.Bool.Decides.{eqb_tells}
use Rattle.std.proofs.lemmas.List.{map-set}
use Rattle.std.proofs.lemmas.Option.{slice_get_within}
use Rattle.fol_core.specs.Syntax as plain
use Rattle.free_terms.specs.Free.{FreeTerm, FreeTerms, bound, metavar, skolem, app, no_terms, terms, fill_term, fill_terms, lift_term, lift_terms, filled_with, or_variable}
use Rattle.fol_core.specs.View as view
use Rattle.fol_core.specs.declared.term.Term.{Term}
use Rattle.free_terms.specs.View.{term_of, terms_of, fill_of, fills_of}
use Rattle.free_terms.specs.declared.term.FTerm.{FTerm}
use Rattle.free_terms.specs.declared.fills.Fill.{Fill}
use Rattle.free_terms.specs.declared.fills.Fill.TheVariants as fill
use Rattle.free_terms.specs.NoParam.{NoParamInTerm, NoParamInTerms}
use Rattle.free_terms.specs.Matching.{variable_in_term, variable_in_terms, IsMatch, Matches}
use Rattle.free_terms.specs.Gives.{FillList, GivesAt, Gives, GivesAll, Fits, Told, Tells, ToldAll, TellsAll, unused}
use Rattle.free_terms.proofs.Filled.{filled_beyond}

none_is_some : {A : Type 0} (a : A) → None ≡ Some a → ⊥
none_is_some a e = cc

some_is_none : {A : Type 0} (a : A) → Some a ≡ None → ⊥
some_is_none a e = cc

some_once : {A : Type 0} (a b : A) → Some a ≡ Some b → a ≡ b
some_once a b e = cc

-- ---- fills that fit
-- what the fitting fills have at a place
fits_none : (old g : FillList) (n : ℕ) → Fits old g → slice_get old n ≡ None → slice_get g n ≡ None
fits_none [] [] n f e = refl
fits_none [] (x ∷ g) n f e = absurd f
fits_none (o ∷ old) [] n f e = absurd f
fits_none (o ∷ old) (x ∷ g) zero f e = absurd (some_is_none o e)
fits_none (None ∷ old) (x ∷ g) (suc n) f e = fits_none old g n f e
fits_none (Some t ∷ old) (x ∷ g) (suc n) f e = fits_none old g n f.1 e

fits_given : (old g : FillList) (n : ℕ) (u : FreeTerm) → Fits old g → slice_get old n ≡ Some (Some u) → slice_get g n ≡ Some (Some u)
fits_given [] g n u f e = absurd (none_is_some _ e)
fits_given (o ∷ old) [] n u f e = absurd f
fits_given (None ∷ old) (x ∷ g) zero u f e = absurd (none_is_some u (some_once _ _ e))
fits_given (Some t ∷ old) (x ∷ g) zero u f e = ap (λ z. Some z) (f.0 ∙ some_once _ _ e)
fits_given (None ∷ old) (x ∷ g) (suc n) u f e = fits_given old g n u f e
fits_given (Some t ∷ old) (x ∷ g) (suc n) u f e = fits_given old g n u f.1 e

fits_open : (old g : FillList) (n : ℕ) (o : Option FreeTerm) → Fits old g → slice_get old n ≡ Some o → slice_get g n ≡ None → ⊥
fits_open [] g n o f e p = none_is_some _ e
fits_open (q ∷ old) [] n o f e p = f
fits_open (q ∷ old) (x ∷ g) zero o f e p = some_is_none x p
fits_open (None ∷ old) (x ∷ g) (suc n) o f e p = fits_open old g n o f e p
fits_open (Some t ∷ old) (x ∷ g) (suc n) o f e p = fits_open old g n o f.1 e p

-- one more place given
fits_set : (old g : FillList) (n : ℕ) (t : FreeTerm) → Fits old g → slice_get old n ≡ Some None → slice_get g n ≡ Some (Some t) → Fits (set old n (Some t)) g
fits_set [] g n t f e p = absurd (none_is_some _ e)
fits_set (o ∷ old) [] n t f e p = absurd f
fits_set (None ∷ old) (x ∷ g) zero t f e p = (some_once _ _ p, f)
fits_set (Some u ∷ old) (x ∷ g) zero t f e p = (some_once _ _ p, f.1)
fits_set (None ∷ old) (x ∷ g) (suc n) t f e p = fits_set old g n t f e p
fits_set (Some u ∷ old) (x ∷ g) (suc n) t f e p = (f.0, fits_set old g n t f.1 e p)

fits_before : (old g : FillList) (n : ℕ) (t : FreeTerm) → slice_get old n ≡ Some None → Fits (set old n (Some t)) g → Fits old g × (slice_get g n ≡ Some (Some t))
fits_before [] g n t e f = absurd (none_is_some _ e)
fits_before (None ∷ old) [] zero t e f = absurd f
fits_before (None ∷ old) (x ∷ g) zero t e f = (f.1, ap (λ z. Some z) f.0)
fits_before (Some u ∷ old) g zero t e f = absurd (some_is_none u (some_once _ _ e))
fits_before (None ∷ old) [] (suc n) t e f = absurd f
fits_before (Some u ∷ old) [] (suc n) t e f = absurd f
fits_before (None ∷ old) (x ∷ g) (suc n) t e f = fits_before old g n t e f
fits_before (Some u ∷ old) (x ∷ g) (suc n) t e f = ((f.0, (fits_before old g n t e f.1).0), (fits_before old g n t e f.1).1)

-- ---- a variable
at_place : (o p : Option (Option FreeTerm)) (n : ℕ) (t : FreeTerm) → o ≡ p → GivesAt p n t → GivesAt o n t
at_place o p n t e q = subst (λ z. GivesAt z n t) (sym e) q

pub told_open : (old : FillList) (n : ℕ) (t : FreeTerm) → slice_get old n ≡ Some None → Told old (set old n (Some t)) (plain.bound n) t
told_open old n t e = record {
  forward = λ g f q. fits_set old g n t f e (given g (slice_get g n) refl (fits_open old g n None f e) q);
  back = λ g f. ((fits_before old g n t e f).0, at_place (slice_get g n) (Some (Some t)) n t (fits_before old g n t e f).1 refl);
} where
  given : (g : FillList) (o : Option (Option FreeTerm)) → slice_get g n ≡ o → (slice_get g n ≡ None → ⊥) → GivesAt (slice_get g n) n t → slice_get g n ≡ Some (Some t)
  given g None p apart q = absurd (apart p)
  given g (Some None) p apart q = absurd (at_place (Some None) (slice_get g n) n t (sym p) q)
  given g (Some (Some u)) p apart q = p ∙ ap (λ z. Some (Some z)) (at_place (Some (Some u)) (slice_get g n) n t (sym p) q)

pub told_given : (old : FillList) (n : ℕ) (t u : FreeTerm) → slice_get old n ≡ Some (Some u) → u ≡ t → Told old old (plain.bound n) t
told_given old n t u e same = record {
  forward = λ g f q. f;
  back = λ g f. (f, at_place (slice_get g n) (Some (Some u)) n t (fits_given old g n u f e) same);
}

pub told_other : (old : FillList) (n : ℕ) (t u : FreeTerm) → slice_get old n ≡ Some (Some u) → (u ≡ t → ⊥) → (g : FillList) → Fits old g → Gives g (plain.bound n) t → ⊥
told_other old n t u e apart g f q = apart (at_place (Some (Some u)) (slice_get g n) n t (sym (fits_given old g n u f e)) q)

pub told_beyond : (old : FillList) (n : ℕ) (t : FreeTerm) → slice_get old n ≡ None → bound n ≡ t → Told old old (plain.bound n) t
told_beyond old n t e same = record {
  forward = λ g f q. f;
  back = λ g f. (f, at_place (slice_get g n) None n t (fits_none old g n f e) same);
}

pub told_apart : (old : FillList) (n : ℕ) (t : FreeTerm) → slice_get old n ≡ None → (bound n ≡ t → ⊥) → (g : FillList) → Fits old g → Gives g (plain.bound n) t → ⊥
told_apart old n t e apart g f q = apart (at_place None (slice_get g n) n t (sym (fits_none old g n f e)) q)

pub tells_given : (old : FillList) (n : ℕ) (t u : FreeTerm) (q : Bool) → slice_get old n ≡ Some (Some u) → (IsTrue q ↔ (u ≡ t)) → Tells old old (plain.bound n) t q
tells_given old n t u true e same = told_given old n t u e (same.0 refl)
tells_given old n t u false e same = told_other old n t u e (λ w. false≢true (same.1 w))

pub tells_beyond : (old : FillList) (n : ℕ) (t : FreeTerm) (q : Bool) → slice_get old n ≡ None → (IsTrue q ↔ (bound n ≡ t)) → Tells old old (plain.bound n) t q
tells_beyond old n t true e same = told_beyond old n t e (same.0 refl)
tells_beyond old n t false e same = told_apart old n t e (λ w. false≢true (same.1 w))

pub tells_open : (fs new : List Fill) (n : ℕ) (v : FTerm) (t : FreeTerm) → slice_get (fills_of fs) n ≡ Some None → new ≡ set fs n (fill.Given v) → term_of v ≡ t
    → Told (fills_of fs) (fills_of new) (plain.bound n) t
tells_open fs new n v t e p q =
    subst (λ z. Told (fills_of fs) z (plain.bound n) t) (sym (ap fills_of p ∙ map-set fill_of fs n (fill.Given v) ∙ ap (λ w. set (fills_of fs) n (Some w)) q))
    (told_open (fills_of fs) n t e)

-- ---- lists of terms
count : FreeTerms → ℕ
count no_terms = 0
count (terms u us) = suc (count us)

plain_count : plain.PlainTerms → ℕ
plain_count plain.no_terms = 0
plain_count (plain.terms u us) = suc (plain_count us)

counted : (us : List FTerm) → count (terms_of us) ≡ length us
unfolding count
counted [] = refl
counted (u ∷ us) = omega (arith, counted us)

plain_counted : (us : List Term) → plain_count (view.terms_of us) ≡ length us
unfolding plain_count
plain_counted [] = refl
plain_counted (u ∷ us) = omega (arith, plain_counted us)

pub same_length : (us vs : List FTerm) → terms_of us ≡ terms_of vs → length us ≡ length vs
same_length us vs e = sym (counted us) ∙ ap count e ∙ counted vs

one_length : (g : FillList) (us : plain.PlainTerms) (ts : FreeTerms) → GivesAll g us ts → plain_count us ≡ count ts
unfolding count plain_count
one_length g plain.no_terms no_terms q = refl
one_length g plain.no_terms (terms v vs) q = absurd q
one_length g (plain.terms u us) no_terms q = absurd q
one_length g (plain.terms u us) (terms v vs) q = omega (arith, one_length g us vs q.1)

pub given_length : (g : FillList) (us : List Term) (ts : List FTerm) → GivesAll g (view.terms_of us) (terms_of ts) → length us ≡ length ts
given_length g us ts q = sym (plain_counted us) ∙ one_length g (view.terms_of us) (terms_of ts) q ∙ counted ts

-- what was told of the terms in front, with the terms that are left
pub record SoFar (old new : FillList) (us : plain.PlainTerms) (ts : FreeTerms) (rest : plain.PlainTerms) (left : FreeTerms) : Type 0 where
  pub forward : (g : FillList) → Fits old g → GivesAll g us ts → Fits new g × GivesAll g rest left
  pub back : (g : FillList) → Fits new g → GivesAll g rest left → Fits old g × GivesAll g us ts

pub so_far_start : (old : FillList) (us : plain.PlainTerms) (ts : FreeTerms) → SoFar old old us ts us ts
so_far_start old us ts = record { forward = λ g f q. (f, q); back = λ g f q. (f, q) }

pub so_far_next : (old mid new : FillList) (us : plain.PlainTerms) (ts : FreeTerms) (u : plain.PlainTerm) (t : FreeTerm) (rest : plain.PlainTerms) (left : FreeTerms)
    → SoFar old mid us ts (plain.terms u rest) (terms t left) → Told mid new u t → SoFar old new us ts rest left
so_far_next old mid new us ts u t rest left s told = record {
  forward = λ g f q. (told.forward g (s.forward g f q).0 (s.forward g f q).1.0, (s.forward g f q).1.1);
  back = λ g f q. s.back g (told.back g f).0 ((told.back g f).1, q);
}

pub so_far_clash : (old mid : FillList) (us : plain.PlainTerms) (ts : FreeTerms) (u : plain.PlainTerm) (t : FreeTerm) (rest : plain.PlainTerms) (left : FreeTerms)
    → SoFar old mid us ts (plain.terms u rest) (terms t left) → ((g : FillList) → Fits mid g → Gives g u t → ⊥)
    → (g : FillList) → Fits old g → GivesAll g us ts → ⊥
so_far_clash old mid us ts u t rest left s never g f q = never g (s.forward g f q).0 (s.forward g f q).1.0

pub so_far_done : (old new : FillList) (us : plain.PlainTerms) (ts : FreeTerms) → SoFar old new us ts plain.no_terms no_terms → ToldAll old new us ts
so_far_done old new us ts s = record { forward = λ g f q. (s.forward g f q).0; back = λ g f. s.back g f tt }

-- ---- what is given, and the pattern filled
filled_at : (g : FillList) (n : ℕ) (o : Option (Option FreeTerm)) → slice_get g n ≡ o → filled_with g 0 n ≡ or_variable n o
filled_at g n o e =
    let same_place : n - 0 ≡ n = omega arith in
    filled_beyond g 0 n o (omega arith) (ap (slice_get g) same_place ∙ e)

mutual
  filled_of : (g : FillList) (u : plain.PlainTerm) (t : FreeTerm) → Gives g u t → fill_term g 0 (lift_term u) ≡ t
  filled_of g (plain.bound n) t q = by_fill (slice_get g n) refl where
    by_fill : (o : Option (Option FreeTerm)) → slice_get g n ≡ o → filled_with g 0 n ≡ t
    by_fill None e = filled_at g n None e ∙ at_place None (slice_get g n) n t (sym e) q
    by_fill (Some None) e = absurd (at_place (Some None) (slice_get g n) n t (sym e) q)
    by_fill (Some (Some u)) e = filled_at g n (Some (Some u)) e ∙ at_place (Some (Some u)) (slice_get g n) n t (sym e) q
  filled_of g (plain.param n) t q = absurd q
  filled_of g (plain.app f us) (bound m) q = absurd q
  filled_of g (plain.app f us) (metavar x) q = absurd q
  filled_of g (plain.app f us) (skolem x vs) q = absurd q
  filled_of g (plain.app f us) (app h vs) q =
      let rest = filled_of_all g us vs q.1 in
      λ i. app (q.0 i) (rest i)

  filled_of_all : (g : FillList) (us : plain.PlainTerms) (ts : FreeTerms) → GivesAll g us ts → fill_terms g 0 (lift_terms us) ≡ ts
  filled_of_all g plain.no_terms no_terms q = refl
  filled_of_all g plain.no_terms (terms v vs) q = absurd q
  filled_of_all g (plain.terms u us) no_terms q = absurd q
  filled_of_all g (plain.terms u us) (terms v vs) q =
      let first = filled_of g u v q.0 in
      let rest = filled_of_all g us vs q.1 in
      λ i. terms (first i) (rest i)

mutual
  no_param_of : (g : FillList) (u : plain.PlainTerm) (t : FreeTerm) → Gives g u t → NoParamInTerm u
  no_param_of g (plain.bound n) t q = tt
  no_param_of g (plain.param n) t q = q
  no_param_of g (plain.app f us) (bound m) q = absurd q
  no_param_of g (plain.app f us) (metavar x) q = absurd q
  no_param_of g (plain.app f us) (skolem x vs) q = absurd q
  no_param_of g (plain.app f us) (app h vs) q = no_param_of_all g us vs q.1

  no_param_of_all : (g : FillList) (us : plain.PlainTerms) (ts : FreeTerms) → GivesAll g us ts → NoParamInTerms us
  no_param_of_all g plain.no_terms ts q = tt
  no_param_of_all g (plain.terms u us) no_terms q = absurd q
  no_param_of_all g (plain.terms u us) (terms v vs) q = (no_param_of g u v q.0, no_param_of_all g us vs q.1)

-- no variable of the pattern is left open
abbrev Used : FillList → ℕ → Type 0
Used g n = slice_get g n ≡ Some None → ⊥

either_part : (p q : Bool) {A : Type 0} → (p || q) ≡ true → (p ≡ true → A) → (q ≡ true → A) → A
either_part true q e one other = one refl
either_part false q e one other = other e

no_first : (p q : Bool) → (p || q) ≡ false → p ≡ false
no_first true q e = e
no_first false q e = refl

no_second : (p q : Bool) → (p || q) ≡ false → q ≡ false
no_second true q e = absurd (false≢true (sym e))
no_second false q e = e

one_of : (p q : Bool) → p ≡ true → (p || q) ≡ true
one_of p q e = ap (λ z. z || q) e

other_of : (p q : Bool) → q ≡ true → (p || q) ≡ true
other_of true q e = refl
other_of false q e = e

mutual
  used_of : (g : FillList) (n : ℕ) (u : plain.PlainTerm) (t : FreeTerm) → Gives g u t → variable_in_term n u ≡ true → Used g n
  used_of g n (plain.bound m) t q v e = at_place (Some None) (slice_get g m) m t (sym (ap (slice_get g) (eqb-true m n v) ∙ e)) q
  used_of g n (plain.param m) t q v e = q
  used_of g n (plain.app f us) (bound m) q v e = q
  used_of g n (plain.app f us) (metavar x) q v e = q
  used_of g n (plain.app f us) (skolem x vs) q v e = q
  used_of g n (plain.app f us) (app h vs) q v e = used_of_all g n us vs q.1 v e

  used_of_all : (g : FillList) (n : ℕ) (us : plain.PlainTerms) (ts : FreeTerms) → GivesAll g us ts → variable_in_terms n us ≡ true → Used g n
  used_of_all g n plain.no_terms ts q v e = false≢true v
  used_of_all g n (plain.terms u us) no_terms q v e = q
  used_of_all g n (plain.terms u us) (terms v vs) q p e =
      either_part (variable_in_term n u) (variable_in_terms n us) p (λ z. used_of g n u v q.0 z e) (λ z. used_of_all g n us vs q.1 z e)

eqb_self : (n : ℕ) → eqb n n ≡ true
eqb_self n = by_case (eqb_tells n n) where
  by_case : ((eqb n n ≡ true) × (n ≡ n)) ⊎ ((eqb n n ≡ false) × (n ≡ n → ⊥)) → eqb n n ≡ true
  by_case (inl p) = p.0
  by_case (inr p) = absurd (p.1 refl)

app_symbol : (f h : ℕ) (us vs : FreeTerms) → app f us ≡ app h vs → f ≡ h
app_symbol f h us vs e = cc

app_arguments : (f h : ℕ) (us vs : FreeTerms) → app f us ≡ app h vs → us ≡ vs
app_arguments f h us vs e = cc

app_bound : (f m : ℕ) (us : FreeTerms) → app f us ≡ bound m → ⊥
app_bound f m us e = cc

app_metavar : (f : ℕ) (us : FreeTerms) (x : _) → app f us ≡ metavar x → ⊥
app_metavar f us x e = cc

app_skolem : (f : ℕ) (us : FreeTerms) (x : _) (vs : FreeTerms) → app f us ≡ skolem x vs → ⊥
app_skolem f us x vs e = cc

first_term : (u v : FreeTerm) (us vs : FreeTerms) → terms u us ≡ terms v vs → u ≡ v
first_term u v us vs e = cc

other_terms : (u v : FreeTerm) (us vs : FreeTerms) → terms u us ≡ terms v vs → us ≡ vs
other_terms u v us vs e = cc

none_more : (v : FreeTerm) (vs : FreeTerms) → no_terms ≡ terms v vs → ⊥
none_more v vs e = cc

one_more : (v : FreeTerm) (vs : FreeTerms) → terms v vs ≡ no_terms → ⊥
one_more v vs e = cc

-- fills that make the pattern the target give each of its parts
mutual
  given_of : (g : FillList) (u : plain.PlainTerm) (t : FreeTerm) → NoParamInTerm u → ((n : ℕ) → variable_in_term n u ≡ true → Used g n)
      → fill_term g 0 (lift_term u) ≡ t → Gives g u t
  given_of g (plain.bound n) t clean used e = by_fill (slice_get g n) refl where
    by_fill : (o : Option (Option FreeTerm)) → slice_get g n ≡ o → GivesAt (slice_get g n) n t
    by_fill None p = at_place (slice_get g n) None n t p (sym (filled_at g n None p) ∙ e)
    by_fill (Some None) p = absurd (used n (eqb_self n) p)
    by_fill (Some (Some u)) p = at_place (slice_get g n) (Some (Some u)) n t p (sym (filled_at g n (Some (Some u)) p) ∙ e)
  given_of g (plain.param n) t clean used e = clean
  given_of g (plain.app f us) (bound m) clean used e = app_bound f m _ e
  given_of g (plain.app f us) (metavar x) clean used e = app_metavar f _ x e
  given_of g (plain.app f us) (skolem x vs) clean used e = app_skolem f _ x vs e
  given_of g (plain.app f us) (app h vs) clean used e = (app_symbol f h _ vs e, given_of_all g us vs clean used (app_arguments f h _ vs e))

  given_of_all : (g : FillList) (us : plain.PlainTerms) (ts : FreeTerms) → NoParamInTerms us → ((n : ℕ) → variable_in_terms n us ≡ true → Used g n)
      → fill_terms g 0 (lift_terms us) ≡ ts → GivesAll g us ts
  given_of_all g plain.no_terms no_terms clean used e = tt
  given_of_all g plain.no_terms (terms v vs) clean used e = none_more v vs e
  given_of_all g (plain.terms u us) no_terms clean used e = one_more _ _ e
  given_of_all g (plain.terms u us) (terms v vs) clean used e = (
    given_of g u v clean.0 (λ n z. used n (one_of (variable_in_term n u) (variable_in_terms n us) z)) (first_term _ v _ vs e),
    given_of_all g us vs clean.1 (λ n z. used n (other_of (variable_in_term n u) (variable_in_terms n us) z)) (other_terms _ v _ vs e),
  )

-- ---- a variable that the pattern lacks may be left open
without : FillList → ℕ → FillList
without g n = set g n None

without_other : (g : FillList) (n m : ℕ) → (m ≡ n → ⊥) → slice_get (set g n None) m ≡ slice_get g m
without_other [] n m apart = refl
without_other (x ∷ g) zero zero apart = absurd (apart refl)
without_other (x ∷ g) zero (suc m) apart = refl
without_other (x ∷ g) (suc n) zero apart = refl
without_other (x ∷ g) (suc n) (suc m) apart = without_other g n m (λ e. apart (ap suc e))

mutual
  gives_without : (g : FillList) (n : ℕ) (u : plain.PlainTerm) (t : FreeTerm) → variable_in_term n u ≡ false → Gives g u t → Gives (set g n None) u t
  gives_without g n (plain.bound m) t v q =
      at_place (slice_get (set g n None) m) (slice_get g m) m t (without_other g n m (λ e. false≢true (sym v ∙ subst (λ k. eqb m k ≡ true) e (eqb_self m)))) q
  gives_without g n (plain.param m) t v q = q
  gives_without g n (plain.app f us) (bound m) v q = q
  gives_without g n (plain.app f us) (metavar x) v q = q
  gives_without g n (plain.app f us) (skolem x vs) v q = q
  gives_without g n (plain.app f us) (app h vs) v q = (q.0, all_without g n us vs v q.1)

  all_without : (g : FillList) (n : ℕ) (us : plain.PlainTerms) (ts : FreeTerms) → variable_in_terms n us ≡ false → GivesAll g us ts → GivesAll (set g n None) us ts
  all_without g n plain.no_terms no_terms v q = tt
  all_without g n plain.no_terms (terms w ws) v q = q
  all_without g n (plain.terms u us) no_terms v q = q
  all_without g n (plain.terms u us) (terms w ws) v q = (
    gives_without g n u w (no_first (variable_in_term n u) (variable_in_terms n us) v) q.0,
    all_without g n us ws (no_second (variable_in_term n u) (variable_in_terms n us) v) q.1,
  )

-- ---- fills that begin open
fits_unused : (count : ℕ) (g : FillList) → length g ≡ count → Fits (unused count) g
fits_unused zero [] e = tt
fits_unused zero (x ∷ g) e = let too_long : ⊥ = omega (arith, e) in absurd too_long
fits_unused (suc n) [] e = let too_short : ⊥ = omega (arith, e) in absurd too_short
fits_unused (suc n) (x ∷ g) e = fits_unused n g (omega (arith, e))

fits_length : (count : ℕ) (g : FillList) → Fits (unused count) g → length g ≡ count
fits_length zero [] f = refl
fits_length zero (x ∷ g) f = absurd f
fits_length (suc n) [] f = absurd f
fits_length (suc n) (x ∷ g) f = omega (arith, fits_length n g f)

fits_itself : (g : FillList) → Fits g g
fits_itself [] = tt
fits_itself (None ∷ g) = fits_itself g
fits_itself (Some t ∷ g) = (refl, fits_itself g)

-- a place that fits both before and after it is left open is open
open_after : (g : FillList) (n : ℕ) → n < length g → Fits g (set g n None) → slice_get g n ≡ Some None
open_after [] n lt f = let none : ⊥ = omega arith in absurd none
open_after (None ∷ g) zero lt f = refl
open_after (Some t ∷ g) zero lt f = absurd (none_is_some t f.0)
open_after (None ∷ g) (suc n) lt f = open_after g n (omega (arith, lt)) f
open_after (Some t ∷ g) (suc n) lt f = open_after g n (omega (arith, lt)) f.1

length_set : (g : FillList) (n : ℕ) (o : Option FreeTerm) → length (set g n o) ≡ length g
length_set [] n o = refl
length_set (x ∷ g) zero o = refl
length_set (x ∷ g) (suc n) o = omega (arith, length_set g n o)

used_when : (g : FillList) (n : ℕ) (q : Bool) → (q ≡ true → Used g n) → slice_get g n ≡ Some None → q ≡ false
used_when g n true used e = absurd (used refl e)
used_when g n false used e = refl

pub match_found : (pattern : plain.PlainTerms) (count : ℕ) (target : FreeTerms) (fills : FillList) → ToldAll (unused count) fills pattern target
    → IsMatch pattern count target fills
match_found pattern count target fills told =
    let fit = (told.back fills (fits_itself fills)).0 in
    let given = (told.back fills (fits_itself fills)).1 in
    let many : length fills ≡ count = fits_length count fills fit in record {
      no_param = no_param_of_all fills pattern target given;
      one_each = many;
      used = λ n lt. (
        λ e. used_when fills n (variable_in_terms n pattern) (λ v. used_of_all fills n pattern target given v) e,
        λ v. open_after fills n (omega (arith, lt, many)) (told.forward (set fills n None) (fits_unused count (set fills n None) (length_set fills n None ∙ many)) (all_without fills n pattern target v given)),
      );
      same = filled_of_all fills pattern target given;
    }

pub no_match : (pattern : plain.PlainTerms) (count : ℕ) (target : FreeTerms) → ((g : FillList) → Fits (unused count) g → GivesAll g pattern target → ⊥)
    → Matches pattern count target None
no_match pattern count target never fills m =
    never fills (fits_unused count fills m.one_each) (given_of_all fills pattern target m.no_param used m.same) where
      used : (n : ℕ) → variable_in_terms n pattern ≡ true → Used fills n
      used n v e =
          let within : n < length fills = slice_get_within fills n None e in
          false≢true (sym ((m.used n (omega (arith, within, m.one_each))).0 e) ∙ v)

pub unused_next : (n : ℕ) → unused n ++ None ∷ [] ≡ unused (suc n)
unused_next zero = refl
unused_next (suc n) = ap (λ g. None ∷ g) (unused_next n)

fills_with : (fs : List Fill) (f : Fill) → fills_of (fs ++ f ∷ []) ≡ fills_of fs ++ fill_of f ∷ []
fills_with [] f = refl
fills_with (g ∷ fs) f = ap (λ z. fill_of g ∷ z) (fills_with fs f)

pub one_unused : (fs new : List Fill) (n m : ℕ) → fills_of fs ≡ unused n → new ≡ fs ++ fill.Unused ∷ [] → m ≡ suc n → fills_of new ≡ unused m
one_unused fs new n m e p q =
    ap fills_of p ∙ fills_with fs fill.Unused ∙ ap (λ g. g ++ None ∷ []) e ∙ unused_next n ∙ ap unused (sym q)

pub found_by : (old new : FillList) (pattern : plain.PlainTerms) (count : ℕ) (target : FreeTerms) (q : Bool) → old ≡ unused count → q ≡ true
    → TellsAll old new pattern target q → IsMatch pattern count target new
found_by old new pattern count target q e p told =
    match_found pattern count target new (subst (λ o. TellsAll o new pattern target true) e (subst (TellsAll old new pattern target) p told))

pub none_by : (old new : FillList) (pattern : plain.PlainTerms) (count : ℕ) (target : FreeTerms) (q : Bool) → old ≡ unused count → q ≡ false
    → TellsAll old new pattern target q → Matches pattern count target None
none_by old new pattern count target q e p told =
    no_match pattern count target (subst (λ o. TellsAll o new pattern target false) e (subst (TellsAll old new pattern target) p told))
