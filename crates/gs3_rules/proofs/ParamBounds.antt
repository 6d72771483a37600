-- A step brings in no parameter but those that it names, so a bound of the list stays one of the premises.
use Rattle.std.proofs.Common.{◌≡◌, ◌≤◌, ℕ, suc, zero, max, List, [], ◌∷◌, ◌++◌, slice_get, Option, Some, None, option_and_then, IfSome, sym, subst, arith}
use Rattle.fol_core.specs.Syntax.{PlainTerm, param, PlainFormula, atom, verum, falsum, not, and, or, imp, iff, all, ex, instance, param_bound, param_bound_in_term}
use Rattle.fol_core.proofs.ParamBound.{not_in, bound_of_opened}
use Rattle.gs3_rules.specs.Rules.{Rule, close, false_at, not_true, alpha, beta, delta, gamma, alpha_parts, beta_parts, delta_part, gamma_part, IsFresh, Step}
use Rattle.gs3_rules.specs.ParamBound.{list_bound, rule_bound, AreBelow}

-- a parameter from the bound on is fresh
pub fresh_above : (n : ℕ) (list : List PlainFormula) → list_bound list ≤ n → IsFresh n list
fresh_above n [] h = tt
fresh_above n (a ∷ rest) h = (not_in n a (omega (arith, h)), fresh_above n rest (omega (arith, h)))

pub bound_of_append : (list more : List PlainFormula) → list_bound (list ++ more) ≡ max (list_bound list) (list_bound more)
bound_of_append [] more = omega arith
bound_of_append (a ∷ rest) more = omega (arith, bound_of_append rest more)

alpha_below : (a : PlainFormula) → IfSome (alpha_parts a) (λ parts. list_bound parts ≤ param_bound a)
alpha_below (atom p us) = tt
alpha_below verum = tt
alpha_below falsum = tt
alpha_below (not (atom p us)) = tt
alpha_below (not verum) = tt
alpha_below (not falsum) = tt
alpha_below (not (not a)) = omega arith
alpha_below (not (and a b)) = tt
alpha_below (not (or a b)) = omega arith
alpha_below (not (imp a b)) = omega arith
alpha_below (not (iff a b)) = tt
alpha_below (not (all a)) = tt
alpha_below (not (ex a)) = tt
alpha_below (and a b) = omega arith
alpha_below (or a b) = tt
alpha_below (imp a b) = tt
alpha_below (iff a b) = tt
alpha_below (all a) = tt
alpha_below (ex a) = tt

beta_below : (a : PlainFormula) → IfSome (beta_parts a) (λ parts. (list_bound parts.0 ≤ param_bound a) × (list_bound parts.1 ≤ param_bound a))
beta_below (atom p us) = tt
beta_below verum = tt
beta_below falsum = tt
beta_below (not (atom p us)) = tt
beta_below (not verum) = tt
beta_below (not falsum) = tt
beta_below (not (not a)) = tt
beta_below (not (and a b)) = (omega arith, omega arith)
beta_below (not (or a b)) = tt
beta_below (not (imp a b)) = tt
beta_below (not (iff a b)) = (omega arith, omega arith)
beta_below (not (all a)) = tt
beta_below (not (ex a)) = tt
beta_below (and a b) = tt
beta_below (or a b) = (omega arith, omega arith)
beta_below (imp a b) = (omega arith, omega arith)
beta_below (iff a b) = (omega arith, omega arith)
beta_below (all a) = tt
beta_below (ex a) = tt

delta_below : (t : PlainTerm) (a : PlainFormula) → IfSome (delta_part (λ b. instance b t) a) (λ part. param_bound part ≤ max (param_bound a) (param_bound_in_term t))
delta_below t (atom p us) = tt
delta_below t verum = tt
delta_below t falsum = tt
delta_below t (not (atom p us)) = tt
delta_below t (not verum) = tt
delta_below t (not falsum) = tt
delta_below t (not (not a)) = tt
delta_below t (not (and a b)) = tt
delta_below t (not (or a b)) = tt
delta_below t (not (imp a b)) = tt
delta_below t (not (iff a b)) = tt
delta_below t (not (all a)) = omega (arith, bound_of_opened 0 t a)
delta_below t (not (ex a)) = tt
delta_below t (and a b) = tt
delta_below t (or a b) = tt
delta_below t (imp a b) = tt
delta_below t (iff a b) = tt
delta_below t (all a) = tt
delta_below t (ex a) = omega (arith, bound_of_opened 0 t a)

gamma_below : (t : PlainTerm) (a : PlainFormula) → IfSome (gamma_part (λ b. instance b t) a) (λ part. param_bound part ≤ max (param_bound a) (param_bound_in_term t))
gamma_below t (atom p us) = tt
gamma_below t verum = tt
gamma_below t falsum = tt
gamma_below t (not (atom p us)) = tt
gamma_below t (not verum) = tt
gamma_below t (not falsum) = tt
gamma_below t (not (not a)) = tt
gamma_below t (not (and a b)) = tt
gamma_below t (not (or a b)) = tt
gamma_below t (not (imp a b)) = tt
gamma_below t (not (iff a b)) = tt
gamma_below t (not (all a)) = tt
gamma_below t (not (ex a)) = omega (arith, bound_of_opened 0 t a)
gamma_below t (and a b) = tt
gamma_below t (or a b) = tt
gamma_below t (imp a b) = tt
gamma_below t (iff a b) = tt
gamma_below t (all a) = omega (arith, bound_of_opened 0 t a)
gamma_below t (ex a) = tt

-- what holds of the formula at a place, if it holds of each below the bound
at_place : {B : Type 0} (f : PlainFormula → Option B) (Q : B → Type 0) (n : ℕ) (list : List PlainFormula) (i : ℕ)
    → list_bound list ≤ n → ((a : PlainFormula) → param_bound a ≤ n → IfSome (f a) Q) → IfSome (option_and_then f (slice_get list i)) Q
at_place f Q n [] i h each = tt
at_place f Q n (a ∷ rest) zero h each = each a (omega (arith, h))
at_place f Q n (a ∷ rest) (suc i) h each = at_place f Q n rest i (omega (arith, h)) each

if_some : {B : Type 0} (o : Option B) (P Q : B → Type 0) → ((b : B) → P b → Q b) → IfSome o P → IfSome o Q
if_some None P Q w h = tt
if_some (Some b) P Q w h = w b h

told : {B : Type 0} (o : Option B) (b : B) (Q : B → Type 0) → o ≡ Some b → IfSome o Q → Q b
told o b Q e h = subst (λ x. IfSome x Q) e h

both_below : (list more : List PlainFormula) (n m : ℕ) → list_bound list ≤ n → list_bound more ≤ m → n ≤ m → list_bound (list ++ more) ≤ m
both_below list more n m h k le = omega (arith, bound_of_append list more, h, k, le)

pub bounded_after : (list : List PlainFormula) (rule : Rule) (premises : List (List PlainFormula)) (n : ℕ) → Step list rule premises → list_bound list ≤ n → AreBelow (max n (rule_bound rule)) premises
bounded_after list (close i j) premises n s h = subst (λ p. AreBelow (max n 0) p) (sym s.1) tt
bounded_after list (false_at i) premises n s h = subst (λ p. AreBelow (max n 0) p) (sym s.1) tt
bounded_after list (not_true i) premises n s h = subst (λ p. AreBelow (max n 0) p) (sym s.1) tt
bounded_after list (alpha i) premises n s h =
    let below : list_bound s.0 ≤ n = told _ s.0 (λ parts. list_bound parts ≤ n) s.1 (at_place alpha_parts (λ parts. list_bound parts ≤ n) n list i h
    (λ a k. if_some (alpha_parts a) _ _ (λ parts m. omega (arith, k, m)) (alpha_below a))) in
    subst (λ p. AreBelow (max n 0) p) (sym s.2) (both_below list _ n _ h (omega (arith, below)) (omega arith), tt)
bounded_after list (beta i) premises n s h =
    let below : (list_bound s.0 ≤ n) × (list_bound s.1 ≤ n) = told _ (s.0, s.1) (λ parts. (list_bound parts.0 ≤ n) × (list_bound parts.1 ≤ n)) s.2
    (at_place beta_parts (λ parts. (list_bound parts.0 ≤ n) × (list_bound parts.1 ≤ n)) n list i h
    (λ a k. if_some (beta_parts a) _ _ (λ parts m. (omega (arith, k, m.0), omega (arith, k, m.1))) (beta_below a))) in
    subst (λ p. AreBelow (max n 0) p) (sym s.3) (both_below list _ n _ h (omega (arith, below.0)) (omega arith), (both_below list _ n _ h (omega (arith, below.1)) (omega arith), tt))
bounded_after list (delta i q) premises n s h =
    let below : param_bound s.0 ≤ max n (suc q) = told _ s.0 (λ part. param_bound part ≤ max n (suc q)) s.1
    (at_place (delta_part (λ a. instance a (param q))) (λ part. param_bound part ≤ max n (suc q)) n list i h
    (λ a k. if_some (delta_part (λ b. instance b (param q)) a) _ _ (λ part m. omega (arith, k, m)) (delta_below (param q) a))) in
    subst (λ p. AreBelow (max n (suc q)) p) (sym s.3) (both_below list _ n _ h (omega (arith, below)) (omega arith), tt)
bounded_after list (gamma i t) premises n s h =
    let below : param_bound s.0 ≤ max n (param_bound_in_term t) = told _ s.0 (λ part. param_bound part ≤ max n (param_bound_in_term t)) s.1
    (at_place (gamma_part (λ a. instance a t)) (λ part. param_bound part ≤ max n (param_bound_in_term t)) n list i h
    (λ a k. if_some (gamma_part (λ b. instance b t) a) _ _ (λ part m. omega (arith, k, m)) (gamma_below t a))) in
    subst (λ p. AreBelow (max n (param_bound_in_term t)) p) (sym s.3) (both_below list _ n _ h (omega (arith, below)) (omega arith), tt)
