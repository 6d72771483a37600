-- No parameter from the bound on stands in a term or formula, and what an instance adds to the bound.
use Rattle.std.proofs.Common.{◌≡◌, ◌≤◌, ◌||◌, ℕ, suc, max, Bool, true, false, eqb, if◌then◌else◌, refl, ap, ◌∙◌, arith}
use Rattle.fol_core.specs.Syntax.{PlainTerm, PlainTerms, bound, param, app, no_terms, terms, PlainFormula, atom, verum, falsum, not, and, or, imp, iff, all, ex, param_in_term, param_in_terms, param_in, param_bound_in_term, param_bound_in_terms, param_bound, open_term, open_terms, open_at}

neither : (a b : Bool) → a ≡ false → b ≡ false → (a || b) ≡ false
neither a b e f = ap (λ x. x || b) e ∙ f

mutual
  pub not_in_term : (q : ℕ) (t : PlainTerm) → param_bound_in_term t ≤ q → param_in_term q t ≡ false
  not_in_term q (bound n) h = refl
  not_in_term q (param n) h = grind arith
  not_in_term q (app f us) h = not_in_terms q us h

  pub not_in_terms : (q : ℕ) (us : PlainTerms) → param_bound_in_terms us ≤ q → param_in_terms q us ≡ false
  not_in_terms q no_terms h = refl
  not_in_terms q (terms u us) h = neither _ _ (not_in_term q u (omega (arith, h))) (not_in_terms q us (omega (arith, h)))

pub not_in : (q : ℕ) (a : PlainFormula) → param_bound a ≤ q → param_in q a ≡ false
not_in q (atom p us) h = not_in_terms q us h
not_in q verum h = refl
not_in q falsum h = refl
not_in q (not a) h = not_in q a h
not_in q (and a b) h = neither _ _ (not_in q a (omega (arith, h))) (not_in q b (omega (arith, h)))
not_in q (or a b) h = neither _ _ (not_in q a (omega (arith, h))) (not_in q b (omega (arith, h)))
not_in q (imp a b) h = neither _ _ (not_in q a (omega (arith, h))) (not_in q b (omega (arith, h)))
not_in q (iff a b) h = neither _ _ (not_in q a (omega (arith, h))) (not_in q b (omega (arith, h)))
not_in q (all a) h = not_in q a h
not_in q (ex a) h = not_in q a h

opened_variable : (b : Bool) (n : ℕ) (t : PlainTerm) → param_bound_in_term (if b then t else bound n) ≤ max 0 (param_bound_in_term t)
opened_variable true n t = omega arith
opened_variable false n t = omega arith

mutual
  pub bound_of_opened_term : (k : ℕ) (t u : PlainTerm) → param_bound_in_term (open_term k t u) ≤ max (param_bound_in_term u) (param_bound_in_term t)
  bound_of_opened_term k t (bound n) = opened_variable (eqb n k) n t
  bound_of_opened_term k t (param n) = omega arith
  bound_of_opened_term k t (app f us) = bound_of_opened_terms k t us

  pub bound_of_opened_terms : (k : ℕ) (t : PlainTerm) (us : PlainTerms) → param_bound_in_terms (open_terms k t us) ≤ max (param_bound_in_terms us) (param_bound_in_term t)
  bound_of_opened_terms k t no_terms = omega arith
  bound_of_opened_terms k t (terms u us) = omega (arith, bound_of_opened_term k t u, bound_of_opened_terms k t us)

pub bound_of_opened : (k : ℕ) (t : PlainTerm) (a : PlainFormula) → param_bound (open_at k t a) ≤ max (param_bound a) (param_bound_in_term t)
bound_of_opened k t (atom p us) = bound_of_opened_terms k t us
bound_of_opened k t verum = omega arith
bound_of_opened k t falsum = omega arith
bound_of_opened k t (not a) = bound_of_opened k t a
bound_of_opened k t (and a b) = omega (arith, bound_of_opened k t a, bound_of_opened k t b)
bound_of_opened k t (or a b) = omega (arith, bound_of_opened k t a, bound_of_opened k t b)
bound_of_opened k t (imp a b) = omega (arith, bound_of_opened k t a, bound_of_opened k t b)
bound_of_opened k t (iff a b) = omega (arith, bound_of_opened k t a, bound_of_opened k t b)
bound_of_opened k t (all a) = bound_of_opened (suc k) t a
bound_of_opened k t (ex a) = bound_of_opened (suc k) t a
