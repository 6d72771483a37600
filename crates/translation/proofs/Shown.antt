-- What a step that comes next shows of its principal entry.
use Rattle.std.proofs.Common.{◌≡◌, ℕ, Option, Some, None, IsSome, slice_get, refl, ap, sym, subst, inl, inr, arith}
use Rattle.std.proofs.lemmas.Bool.{false≢true}
use Rattle.fol_core.specs.Syntax.{FormulaOver, not, all, ex}
use Rattle.gs3_rules.specs.Rules.{alpha_parts, beta_parts, delta_part, gamma_part}
use Rattle.free_terms.specs.Free.{FreeFormula}
use Rattle.rewrite_rules.specs.Rewriting.{Rewriting, Rewrites}
use Rattle.branch_rules.specs.Branch.{Branch, Done, expand, rewrite, skolemize, instantiate, go_left, go_right, Entry, entries, principal}
use Rattle.branch_rules.specs.Next.{Class, conjunctive, existential, disjunctive, universal, IsPending, Serves, ComesNext}

-- the principal entry of a step, with what is shown of its formula
abbrev pub HasEntry : Branch → ℕ → (FreeFormula → Type 0) → Type 0
HasEntry b i P = (e : Entry) × (slice_get (entries b) i ≡ Some e) × P e.formula

abbrev pub Shows : Branch → Done → FreeFormula → Type 0
Shows b (expand i) a = IsSome (alpha_parts a)
Shows b (rewrite i r) a = Rewrites b.rules a (Some r)
Shows b (skolemize i z) a = IsSome (delta_part (λ c. c) a)
Shows b (instantiate i x) a = IsSome (gamma_part (λ c. c) a)
Shows b (go_left i) a = IsSome (beta_parts a)
Shows b (go_right i) a = IsSome (beta_parts a)

-- kinds of steps are told apart by numbers
abbrev kind : Done → ℕ
kind (expand i) = 0
kind (rewrite i r) = 1
kind (skolemize i z) = 2
kind (instantiate i x) = 3
kind (go_left i) = 4
kind (go_right i) = 5

other_kind : (s t : Done) → s ≡ t → kind s ≡ kind t
other_kind s t e = ap kind e

same_result : (i j : ℕ) (r q : Rewriting) → rewrite i r ≡ rewrite j q → r ≡ q
same_result i j r q e = cc

shown_by : (b : Branch) (d : ℕ) (c : Class) (s : Done) (e : Entry) → slice_get (entries b) (principal s) ≡ Some e → IsPending b d c (principal s) → Serves b c (principal s) e.formula s → HasEntry b (principal s) (Shows b s)
shown_by b d conjunctive (expand i) e at p (inl q) = (e, at, q.0)
shown_by b d conjunctive (expand i) e at p (inr q) = let wrong : ⊥ = omega (arith, other_kind _ _ q.2) in absurd wrong
shown_by b d conjunctive (rewrite i r) e at p (inl q) = let wrong : ⊥ = omega (arith, other_kind _ _ q.1) in absurd wrong
shown_by b d conjunctive (rewrite i r) e at p (inr q) = (e, at, subst (λ w. Rewrites b.rules e.formula (Some w)) (sym (same_result i i r q.0 q.2)) q.1)
shown_by b d conjunctive (skolemize i z) e at p (inl q) = let wrong : ⊥ = omega (arith, other_kind _ _ q.1) in absurd wrong
shown_by b d conjunctive (skolemize i z) e at p (inr q) = let wrong : ⊥ = omega (arith, other_kind _ _ q.2) in absurd wrong
shown_by b d conjunctive (instantiate i z) e at p (inl q) = let wrong : ⊥ = omega (arith, other_kind _ _ q.1) in absurd wrong
shown_by b d conjunctive (instantiate i z) e at p (inr q) = let wrong : ⊥ = omega (arith, other_kind _ _ q.2) in absurd wrong
shown_by b d conjunctive (go_left i) e at p (inl q) = let wrong : ⊥ = omega (arith, other_kind _ _ q.1) in absurd wrong
shown_by b d conjunctive (go_left i) e at p (inr q) = let wrong : ⊥ = omega (arith, other_kind _ _ q.2) in absurd wrong
shown_by b d conjunctive (go_right i) e at p (inl q) = let wrong : ⊥ = omega (arith, other_kind _ _ q.1) in absurd wrong
shown_by b d conjunctive (go_right i) e at p (inr q) = let wrong : ⊥ = omega (arith, other_kind _ _ q.2) in absurd wrong
shown_by b d existential (expand i) e at p q = let wrong : ⊥ = omega (arith, other_kind _ _ q) in absurd wrong
shown_by b d existential (rewrite i r) e at p q = let wrong : ⊥ = omega (arith, other_kind _ _ q) in absurd wrong
shown_by b d existential (skolemize i z) e at p q = (p.0, p.1, p.3.1)
shown_by b d existential (instantiate i x) e at p q = let wrong : ⊥ = omega (arith, other_kind _ _ q) in absurd wrong
shown_by b d existential (go_left i) e at p q = let wrong : ⊥ = omega (arith, other_kind _ _ q) in absurd wrong
shown_by b d existential (go_right i) e at p q = let wrong : ⊥ = omega (arith, other_kind _ _ q) in absurd wrong
shown_by b d disjunctive (expand i) e at p (inl q) = let wrong : ⊥ = omega (arith, other_kind _ _ q) in absurd wrong
shown_by b d disjunctive (expand i) e at p (inr q) = let wrong : ⊥ = omega (arith, other_kind _ _ q) in absurd wrong
shown_by b d disjunctive (rewrite i r) e at p (inl q) = let wrong : ⊥ = omega (arith, other_kind _ _ q) in absurd wrong
shown_by b d disjunctive (rewrite i r) e at p (inr q) = let wrong : ⊥ = omega (arith, other_kind _ _ q) in absurd wrong
shown_by b d disjunctive (skolemize i z) e at p (inl q) = let wrong : ⊥ = omega (arith, other_kind _ _ q) in absurd wrong
shown_by b d disjunctive (skolemize i z) e at p (inr q) = let wrong : ⊥ = omega (arith, other_kind _ _ q) in absurd wrong
shown_by b d disjunctive (instantiate i x) e at p (inl q) = let wrong : ⊥ = omega (arith, other_kind _ _ q) in absurd wrong
shown_by b d disjunctive (instantiate i x) e at p (inr q) = let wrong : ⊥ = omega (arith, other_kind _ _ q) in absurd wrong
shown_by b d disjunctive (go_left i) e at p q = (p.0, p.1, p.3.1)
shown_by b d disjunctive (go_right i) e at p q = (p.0, p.1, p.3.1)
shown_by b d universal (expand i) e at p q = let wrong : ⊥ = omega (arith, other_kind _ _ q) in absurd wrong
shown_by b d universal (rewrite i r) e at p q = let wrong : ⊥ = omega (arith, other_kind _ _ q) in absurd wrong
shown_by b d universal (skolemize i z) e at p q = let wrong : ⊥ = omega (arith, other_kind _ _ q) in absurd wrong
shown_by b d universal (instantiate i x) e at p q = (p.0, p.1, p.3.1)
shown_by b d universal (go_left i) e at p q = let wrong : ⊥ = omega (arith, other_kind _ _ q) in absurd wrong
shown_by b d universal (go_right i) e at p q = let wrong : ⊥ = omega (arith, other_kind _ _ q) in absurd wrong

pub shown : (b : Branch) (d : ℕ) (s : Done) → ComesNext b d s → HasEntry b (principal s) (Shows b s)
shown b d s next = shown_by b d next.class s next.entry next.at next.served.pending next.serves

-- the value of an option that has one
pub value_in : {A : Type 0} (o : Option A) → IsSome o → (x : A) × (o ≡ Some x)
value_in None e = absurd (false≢true e)
value_in (Some x) e = (x, refl)

pub delta_value : {A : Type 0} (i : FormulaOver A → FormulaOver A) (a : FormulaOver A) → IsSome (delta_part (λ c. c) a) → (part : FormulaOver A) × (delta_part i a ≡ Some part)
delta_value i (ex a) h = (i a, refl)
delta_value i (not (all a)) h = (not (i a), refl)
delta_value i a h = absurd (false≢true h)

pub gamma_value : {A : Type 0} (i : FormulaOver A → FormulaOver A) (a : FormulaOver A) → IsSome (gamma_part (λ c. c) a) → (part : FormulaOver A) × (gamma_part i a ≡ Some part)
gamma_value i (all a) h = (i a, refl)
gamma_value i (not (ex a)) h = (not (i a), refl)
gamma_value i a h = absurd (false≢true h)
