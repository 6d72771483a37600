-- What the tests of entries say.
use Rattle.std.proofs.Common.{◌≡◌, ◌↔◌, ℕ, zero, suc, ◌+◌, ◌*◌, ◌<◌, ◌≤◌, Bool, true, false, List, [], ◌∷◌, length, map, get_or, Option, Some, None, IsSome, slice_get, refl, ap, sym, ◌∙◌, subst, arith, ◌⊎◌, inl, inr}
use Rattle.std.proofs.lemmas.Bool.{false≢true}
use Rattle.std.proofs.lemmas.Option.{slice_get_within, slice_get-get_or, slice_get-map}
use Rattle.fol_core.specs.Syntax.{FormulaOver, atom, verum, falsum, not, and, or, imp, iff, all, ex}
use Rattle.gs3_rules.specs.Rules.{alpha_parts, beta_parts, delta_part, gamma_part}
use Rattle.free_terms.specs.Free.{FreeFormula}
use Rattle.rewrite_rules.specs.Rules.{RewriteRule, IsRuleAxiom}
use Rattle.rewrite_rules.specs.Rewriting.{Rewriting, Rewrites}
use Rattle.rewrite_rules.specs.Firing.{IsLiteral}
use Rattle.rewrite_rules.proofs.Once.{rewrites_once, rewrites_literal}
use Rattle.branch_rules.specs.Branch.{Branch, Entry, entries, times_taken}
use Rattle.branch_rules.specs.Next.{conjunctive, existential, disjunctive, universal, most_splits, Waits, IsPending}
use Rattle.branch_rules.specs.Kinds.{kind_of, in_first}
use Rattle.branch_rules.specs.BranchValue.{entry_of}
use Rattle.branch_rules.specs.BranchView.{entries_held, branch_in, Reads}
use Rattle.branch_rules.specs.Plans.{done_in, IsWorkOn, ServesSo, IsConjunctive, ConjunctiveAnswer, FirstConjunctive, IsCandidate, IsFree, FirstFree}
use Rattle.branch_rules.proofs.Agendas.{below_or_not}
use Rattle.std.specs.Prelude.{option_map}
use Rattle.std.specs.Prelude as prelude
use Rattle.branch_rules.specs.declared.held.Held.{Held}
use Rattle.branch_rules.specs.declared.branch.Lists.{Lists}
use Rattle.branch_rules.specs.declared.kinds.Kind.{Kind}
use Rattle.branch_rules.specs.declared.kinds.Kind.TheVariants.{Conjunctive, Existential, Disjunctive, Universal, Literal}
use Rattle.branch_rules.specs.declared.work.Work.{Work}

some_is_none : {A : Type 0} (a : A) → Some a ≡ None → ⊥
some_is_none a e = cc

some_once : {A : Type 0} (a b : A) → Some a ≡ Some b → a ≡ b
some_once a b e = cc

pub not_rewritten : (rules : List RewriteRule) (a : FreeFormula) (o : Option Rewriting) → o ≡ None → Rewrites rules a o → (r : Rewriting) → Rewrites rules a (Some r) → ⊥
not_rewritten rules a o e h r x = some_is_none r (rewrites_once rules a (Some r) o x h ∙ e)

alpha_kind : (a : FreeFormula) → IsSome (alpha_parts a) → kind_of a ≡ Conjunctive
alpha_kind (and a b) s = refl
alpha_kind (not (not a)) s = refl
alpha_kind (not (or a b)) s = refl
alpha_kind (not (imp a b)) s = refl
alpha_kind a s = absurd (false≢true s)

pub kind_alpha : (a : FreeFormula) → kind_of a ≡ Conjunctive → IsSome (alpha_parts a)
kind_alpha (and a b) e = refl
kind_alpha (not (not a)) e = refl
kind_alpha (not (or a b)) e = refl
kind_alpha (not (imp a b)) e = refl
kind_alpha (atom p us) e = absurd (let z : Literal ≡ Conjunctive = e in cc)
kind_alpha verum e = absurd (let z : Literal ≡ Conjunctive = e in cc)
kind_alpha falsum e = absurd (let z : Literal ≡ Conjunctive = e in cc)
kind_alpha (or a b) e = absurd (let z : Disjunctive ≡ Conjunctive = e in cc)
kind_alpha (imp a b) e = absurd (let z : Disjunctive ≡ Conjunctive = e in cc)
kind_alpha (iff a b) e = absurd (let z : Disjunctive ≡ Conjunctive = e in cc)
kind_alpha (all a) e = absurd (let z : Universal ≡ Conjunctive = e in cc)
kind_alpha (ex a) e = absurd (let z : Existential ≡ Conjunctive = e in cc)
kind_alpha (not (atom p us)) e = absurd (let z : Literal ≡ Conjunctive = e in cc)
kind_alpha (not verum) e = absurd (let z : Literal ≡ Conjunctive = e in cc)
kind_alpha (not falsum) e = absurd (let z : Literal ≡ Conjunctive = e in cc)
kind_alpha (not (and a b)) e = absurd (let z : Disjunctive ≡ Conjunctive = e in cc)
kind_alpha (not (iff a b)) e = absurd (let z : Disjunctive ≡ Conjunctive = e in cc)
kind_alpha (not (all a)) e = absurd (let z : Existential ≡ Conjunctive = e in cc)
kind_alpha (not (ex a)) e = absurd (let z : Universal ≡ Conjunctive = e in cc)

literal_kind : (a : FreeFormula) → IsLiteral a → kind_of a ≡ Literal
literal_kind (atom p us) x = refl
literal_kind (not (atom p us)) x = refl
literal_kind a x = absurd x

rewrites_kind : (rules : List RewriteRule) (a : FreeFormula) (r : Rewriting) → Rewrites rules a (Some r) → kind_of a ≡ Literal
rewrites_kind rules a r x = literal_kind a (rewrites_literal rules a r x)

pub no_conjunctive : (rules : List RewriteRule) (depth : ℕ) (e : Entry) (k : Kind) → kind_of e.formula ≡ k → (k ≡ Conjunctive → ⊥) → (k ≡ Literal → ⊥) → IsConjunctive rules depth e → ⊥
no_conjunctive rules depth e k is other another (inl s) = other (sym is ∙ alpha_kind e.formula s)
no_conjunctive rules depth e k is other another (inr x) = another (sym is ∙ rewrites_kind rules e.formula x.1 x.2)

pub too_deep : (rules : List RewriteRule) (depth : ℕ) (e : Entry) → kind_of e.formula ≡ Literal → 8 * depth ≤ e.level → IsConjunctive rules depth e → ⊥
too_deep rules depth e is deep (inl s) = (let z : Literal ≡ Conjunctive = sym is ∙ alpha_kind e.formula s in cc)
too_deep rules depth e is deep (inr x) = let lt : e.level < 8 * depth = x.0 in omega (arith, lt, deep)

pub not_rewritable : (rules : List RewriteRule) (depth : ℕ) (e : Entry) → kind_of e.formula ≡ Literal → ((r : Rewriting) → Rewrites rules e.formula (Some r) → ⊥) → IsConjunctive rules depth e → ⊥
not_rewritable rules depth e is none (inl s) = (let z : Literal ≡ Conjunctive = sym is ∙ alpha_kind e.formula s in cc)
not_rewritable rules depth e is none (inr x) = none x.1 x.2

-- the entry of the branch at a place of the list
pub entry_held : (b : Branch) (l : Lists) (i : ℕ) (h : Held) → Reads b l → slice_get l.entries.items i ≡ Some h → slice_get (entries b) i ≡ Some (entry_of h.entry)
entry_held b l i h reads at =
    ap (λ es. slice_get es i) (sym reads.entries_are) ∙ slice_get-map (λ z. entry_of z.entry) l.entries.items i
    ∙ ap (option_map (λ z. entry_of z.entry)) at

pub length_is : (b : Branch) (l : Lists) → Reads b l → length l.entries.items ≡ length (entries b)
length_is b l reads = sym (length_map l.entries.items) ∙ ap length reads.entries_are where
  length_map : (hs : List Held) → length (entries_held hs) ≡ length hs
  length_map [] = refl
  length_map (x ∷ hs) = ap suc (length_map hs)

pub passed : (P : ℕ → Type 0) (from i : ℕ) → ((j : ℕ) → from ≤ j → j < i → P j → ⊥) → (P i → ⊥) → (j : ℕ) → from ≤ j → j < i + 1 → P j → ⊥
passed P from i over here j le lt p = by_place (below_or_not j i) where
  by_place : (j < i) ⊎ (i ≤ j) → ⊥
  by_place (inl less) = over j le less p
  by_place (inr more) = here (subst P (let e : j ≡ i = omega (arith, lt, more) in e) p)

pub not_these : (rules : List RewriteRule) (depth : ℕ) (e : Entry) (k : Kind) → k ≡ kind_of e.formula → (k ≡ Existential) ⊎ ((k ≡ Disjunctive) ⊎ (k ≡ Universal)) → IsConjunctive rules depth e → ⊥
not_these rules depth e k is (inl x) = no_conjunctive rules depth e Existential (sym is ∙ x) (λ z. cc (z)) (λ z. cc (z))
not_these rules depth e k is (inr (inl x)) = no_conjunctive rules depth e Disjunctive (sym is ∙ x) (λ z. cc (z)) (λ z. cc (z))
not_these rules depth e k is (inr (inr x)) = no_conjunctive rules depth e Universal (sym is ∙ x) (λ z. cc (z)) (λ z. cc (z))

pub free_within : (b : Branch) (l : Lists) (k : Kind) (i : ℕ) → Reads b l → IsFree b k i → i < length l.entries.items
free_within b l k i reads f = let w : i < length (entries b) = slice_get_within (entries b) i f.0 f.1 in omega (arith, w, length_is b l reads)

pub pending_within : (b : Branch) (l : Lists) (depth i : ℕ) → Reads b l → IsPending b depth conjunctive i → i < length l.entries.items
pending_within b l depth i reads f = let w : i < length (entries b) = slice_get_within (entries b) i f.0 f.1 in omega (arith, w, length_is b l reads)

pub free_where : (b : Branch) (k : Kind) (i : ℕ) (e : Entry) (r : Bool) → slice_get (entries b) i ≡ Some e → kind_of e.formula ≡ k
    → ((z : Entry) → slice_get (entries b) i ≡ Some z → kind_of z.formula ≡ k → times_taken b i ≡ 0) → (r ≡ true) ↔ IsRuleAxiom b.rules i → (prelude.not r ≡ true) ↔ IsFree b k i
free_where b k i e true at is untaken rule = (λ t. absurd (false≢true t), λ f. absurd (f.2 (rule.0 refl)))
free_where b k i e false at is untaken rule = (λ t. (e, at, (λ x. false≢true (rule.1 x)), is, untaken e at is), λ f. refl)

pub candidate_where : (b : Branch) (i : ℕ) (e : Entry) (r : Bool) → slice_get (entries b) i ≡ Some e → in_first (kind_of e.formula) ≡ true → times_taken b i ≡ 0
    → (r ≡ true) ↔ IsRuleAxiom b.rules i → (prelude.not r ≡ true) ↔ IsCandidate b i
candidate_where b i e true at first none rule = (λ t. absurd (false≢true t), λ c. absurd (c.2 (rule.0 refl)))
candidate_where b i e false at first none rule = (λ t. (e, at, (λ x. false≢true (rule.1 x)), first, none), λ c. refl)

pub not_candidate : (b : Branch) (i : ℕ) (e : Entry) → slice_get (entries b) i ≡ Some e → in_first (kind_of e.formula) ≡ false → IsCandidate b i → ⊥
not_candidate b i e at other c = false≢true (sym other ∙ ap (λ z. in_first (kind_of z.formula)) (some_once e c.0 (sym at ∙ c.1)) ∙ c.3)

pub not_free : (b : Branch) (k : Kind) (i : ℕ) (e : Entry) → slice_get (entries b) i ≡ Some e → (kind_of e.formula ≡ k → ⊥) → IsFree b k i → ⊥
not_free b k i e at other f = other (ap (λ z. kind_of z.formula) (some_once e f.0 (sym at ∙ f.1)) ∙ f.3)

waits_so : (b : Branch) (depth i : ℕ) (e : Entry) → IsConjunctive b.rules depth e → times_taken b i ≡ 0 → Waits b depth conjunctive i e
waits_so b depth i e (inl s) t = (t, inl s)
waits_so b depth i e (inr x) t = (t, inr (x.0, (x.1, x.2)))

so_waits : (b : Branch) (depth i : ℕ) (e : Entry) → Waits b depth conjunctive i e → IsConjunctive b.rules depth e
so_waits b depth i e (t, inl s) = inl s
so_waits b depth i e (t, inr x) = inr (x.0, x.1.0, x.1.1)

pub conjunctive_found : (b : Branch) (from i depth : ℕ) (e : Entry) (w : Work) → slice_get (entries b) i ≡ Some e → IsCandidate b i → ConjunctiveAnswer b.rules i depth e (Some w)
    → ((j : ℕ) → from ≤ j → j < i → IsPending b depth conjunctive j → ⊥) → FirstConjunctive b depth from (Some w)
conjunctive_found b from i depth e w at free answer over =
    let place : i ≡ w.place = sym answer.2.at in (
      subst (IsPending b depth conjunctive) place (e, at, free.2, waits_so b depth i e answer.0 free.4),
      λ j le lt. over j le (subst (λ k. j < k) (sym place) lt),
      e,
      subst (λ k. slice_get (entries b) k ≡ Some e) place at,
      subst (λ k. ServesSo b.rules k e (done_in w)) place answer.1,
      subst (λ k. IsWorkOn [] k e w) place answer.2,
    )

pub conjunctive_not : (b : Branch) (i depth : ℕ) (e : Entry) → slice_get (entries b) i ≡ Some e → ConjunctiveAnswer b.rules i depth e None → IsPending b depth conjunctive i → ⊥
conjunctive_not b i depth e at answer p = answer (subst (IsConjunctive b.rules depth) (some_once p.0 e (sym p.1 ∙ at)) (so_waits b depth i p.0 p.3))

conjunctive_first : (rules : List RewriteRule) (depth : ℕ) (e : Entry) → IsConjunctive rules depth e → in_first (kind_of e.formula) ≡ true
conjunctive_first rules depth e (inl s) = ap in_first (alpha_kind e.formula s)
conjunctive_first rules depth e (inr x) = ap in_first (rewrites_kind rules e.formula x.1 x.2)

pub pending_candidate : (b : Branch) (depth i : ℕ) → IsPending b depth conjunctive i → IsCandidate b i
pending_candidate b depth i p = (p.0, p.1, p.2, conjunctive_first b.rules depth p.0 (so_waits b depth i p.0 p.3), p.3.0)

pub answered_at : (rs qs : List RewriteRule) (i depth : ℕ) (e : Entry) (o q : Option Work) → rs ≡ qs → o ≡ q → ConjunctiveAnswer rs i depth e o → ConjunctiveAnswer qs i depth e q
answered_at rs qs i depth e o q f g h = subst (λ x. ConjunctiveAnswer qs i depth e x) g (subst (λ x. ConjunctiveAnswer x i depth e o) f h)
