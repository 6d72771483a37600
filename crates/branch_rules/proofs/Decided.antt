-- Whether a step comes next can be decided.
use Rattle.std.proofs.Common.{◌≡◌, ℕ, zero, suc, ◌*◌, ◌<◌, ◌≤◌, Bool, true, false, List, [], ◌∷◌, length, Option, Some, None, IsSome, is_some, slice_get, refl, ap, sym, ◌∙◌, subst, arith, ◌⊎◌, inl, inr, leb}
use Rattle.std.proofs.lemmas.Bool.{false≢true}
use Rattle.std.proofs.lemmas.Bool.Decides.{leb_tells}
use Rattle.std.proofs.lemmas.Option.{slice_get_within}
use Rattle.gs3_rules.specs.Rules.{alpha_parts, beta_parts, delta_part, gamma_part}
use Rattle.free_terms.specs.Free.{FreeFormula}
use Rattle.rewrite_rules.specs.Rules.{RewriteRule, IsRuleAxiom}
use Rattle.rewrite_rules.specs.Rewriting.{Rewriting, Rewrites}
use Rattle.rewrite_rules.proofs.Equal.{Decided, same_number}
use Rattle.rewrite_rules.proofs.Once.{rewritable_decided, rewrites_once}
use Rattle.branch_rules.specs.Branch.{Branch, Done, Entry, expand, rewrite, skolemize, instantiate, go_left, go_right, principal, entries, after, next_metavar, next_skolem, splits_done, times_taken, joined_at}
use Rattle.branch_rules.specs.Next.{Class, conjunctive, existential, disjunctive, universal, rank, most_entries, most_splits, IsRewritable, Waits, IsPending, ComesFirst, IsServed, Serves, HasRoom, ComesNext, IsLeaf}
use Rattle.branch_rules.proofs.Served.{one_served, rewrites_no_alpha}

at_most : (m n : ℕ) → Decided (m ≤ n)
at_most m n = by_test (leb_tells m n) where
  by_test : ((leb m n ≡ true) × (m ≤ n)) ⊎ ((leb m n ≡ false) × (n < m)) → Decided (m ≤ n)
  by_test (inl p) = inl p.1
  by_test (inr p) = inr (λ le. omega arith)

is_some_decided : {A : Type 0} (o : Option A) → Decided (IsSome o)
is_some_decided None = inr (λ e. false≢true e)
is_some_decided (Some x) = inl refl

both : {P Q : Type 0} → Decided P → Decided Q → Decided (P × Q)
both (inl p) (inl q) = inl (p, q)
both (inr p) q = inr (λ h. p h.0)
both (inl p) (inr q) = inr (λ h. q h.1)

either : {P Q : Type 0} → Decided P → Decided Q → Decided (P ⊎ Q)
either (inl p) q = inl (inl p)
either {P} {Q} (inr p) (inl q) = inl (inr q)
either {P} {Q} (inr p) (inr q) = inr neither where
  neither : P ⊎ Q → ⊥
  neither (inl x) = p x
  neither (inr y) = q y

refuted : {P : Type 0} → Decided P → Decided (P → ⊥)
refuted (inl p) = inr (λ n. n p)
refuted (inr n) = inl n

pub axiom_decided : (rules : List RewriteRule) (i : ℕ) → Decided (IsRuleAxiom rules i)
axiom_decided [] i = inr (λ h. h)
axiom_decided (rule ∷ rules) i = either (same_number rule.axiom_place i) (axiom_decided rules i)

waits_decided : (b : Branch) (d : ℕ) (c : Class) (i : ℕ) (e : Entry) → Decided (Waits b d c i e)
waits_decided b d conjunctive i e =
    both (same_number (times_taken b i) 0) (either (is_some_decided (alpha_parts e.formula)) (both (at_most (suc e.level) (8 * d)) (rewritable_decided b.rules e.formula)))
waits_decided b d existential i e = both (same_number (times_taken b i) 0) (is_some_decided (delta_part (λ a. a) e.formula))
waits_decided b d disjunctive i e = regroup (both (same_number (times_taken b i) 0) (both (is_some_decided (beta_parts e.formula)) (at_most (suc (splits_done b)) most_splits))) where
  regroup : {P Q R : Type 0} → Decided (P × (Q × R)) → Decided (P × Q × R)
  regroup (inl p) = inl (p.0, p.1.0, p.1.1)
  regroup (inr n) = inr (λ p. n (p.0, (p.1, p.2)))
waits_decided b d universal i e = both (at_most (suc (times_taken b i)) d) (is_some_decided (gamma_part (λ a. a) e.formula))

none_is_some : {A : Type 0} (x : A) → None ≡ Some x → ⊥
none_is_some x e = cc

same_found : {A : Type 0} (x y : A) → Some x ≡ Some y → x ≡ y
same_found x y e = cc

pub pending_decided : (b : Branch) (d : ℕ) (c : Class) (i : ℕ) → Decided (IsPending b d c i)
pending_decided b d c i = by_entry (slice_get (entries b) i) refl where
  by_entry : (o : Option Entry) → slice_get (entries b) i ≡ o → Decided (IsPending b d c i)
  by_entry None at = inr (λ h. none_is_some h.0 (sym at ∙ h.1))
  by_entry (Some e) at = by_parts (both (refuted (axiom_decided b.rules i)) (waits_decided b d c i e)) where
    by_parts : Decided ((IsRuleAxiom b.rules i → ⊥) × Waits b d c i e) → Decided (IsPending b d c i)
    by_parts (inl h) = inl (e, at, h.0, h.1)
    by_parts (inr n) = inr (λ h. n (h.2, subst (Waits b d c i) (same_found h.0 e (sym h.1 ∙ at)) h.3))

-- i comes before j by a number that each has, or is not behind it in place where these are equal
abbrev Before : (ℕ → ℕ) → ℕ → ℕ → Type 0
Before k i j = (k i < k j) ⊎ ((k i ≡ k j) × (i ≤ j))

record IsFirst (k : ℕ → ℕ) (P : ℕ → Type 0) (n i : ℕ) : Type 0 where
  below : i < n
  holds : P i
  first : (j : ℕ) → j < n → P j → Before k i j

before_through : (k : ℕ → ℕ) (m i j : ℕ) → k m < k i → Before k i j → Before k m j
before_through k m i j lt (inl x) = inl (omega arith)
before_through k m i j lt (inr x) = inl (omega (arith, x.0))

not_less : (m n : ℕ) → (m < n → ⊥) → n ≤ m
not_less m n h = by_test (leb_tells n m) where
  by_test : ((leb n m ≡ true) × (n ≤ m)) ⊎ ((leb n m ≡ false) × (m < n)) → n ≤ m
  by_test (inl p) = p.1
  by_test (inr p) = absurd (h p.1)

-- what holds below n, and of n
below_or_here : (Q : ℕ → Type 0) (n : ℕ) → ((j : ℕ) → j < n → Q j) → Q n → (j : ℕ) → j < suc n → Q j
below_or_here Q n below here j lt = by_test (at_most (suc j) n) where
  by_test : Decided (j < n) → Q j
  by_test (inl less) = below j less
  by_test (inr more) = let ge : n ≤ j = not_less j n more in let same : n ≡ j = omega arith in subst Q same here

behind : (k : ℕ → ℕ) (i n : ℕ) → i < n → (k n < k i → ⊥) → Before k i n
behind k i n lt more = by_test (at_most (suc (k i)) (k n)) where
  le : k i ≤ k n
  le = not_less (k n) (k i) more

  by_test : Decided (k i < k n) → Before k i n
  by_test (inl less) = inl less
  by_test (inr ge) = let other : k n ≤ k i = not_less (k i) (k n) ge in inr (omega (arith, le), omega (arith, lt))

abbrev FirstOrNone : (ℕ → ℕ) → (ℕ → Type 0) → ℕ → Type 0
FirstOrNone k P n = ((i : ℕ) × IsFirst k P n i) ⊎ ((j : ℕ) → j < n → P j → ⊥)

-- one more that may be the first
one_more : (k : ℕ → ℕ) (P : ℕ → Type 0) (n : ℕ) → Decided (P n) → FirstOrNone k P n → FirstOrNone k P (suc n)
one_more k P n (inl p) (inr none) = inl (
  n,
  record {
    below = omega arith;
    holds = p;
    first = below_or_here (λ j. P j → Before k n j) n (λ j lt q. absurd (none j lt q)) (λ q. inr (refl, omega arith));
  },
)
one_more k P n (inr m) (inr none) = inr (below_or_here (λ j. P j → ⊥) n none m)
one_more k P n (inr m) (inl f) = inl (
  f.0,
  record {
    below = let lt : f.0 < n = f.1.below in omega arith;
    holds = f.1.holds;
    first = below_or_here (λ j. P j → Before k f.0 j) n f.1.first (λ q. absurd (m q));
  },
)
one_more k P n (inl p) (inl f) = by_key (at_most (suc (k n)) (k f.0)) where
  by_key : Decided (k n < k f.0) → FirstOrNone k P (suc n)
  by_key (inl less) = inl (
    n,
    record {
      below = omega arith;
      holds = p;
      first = below_or_here (λ j. P j → Before k n j) n (λ j lt q. before_through k n f.0 j less (f.1.first j lt q)) (λ q. inr (refl, omega arith));
    },
  )
  by_key (inr more) = inl (
    f.0,
    record {
      below = let lt : f.0 < n = f.1.below in omega arith;
      holds = f.1.holds;
      first = below_or_here (λ j. P j → Before k f.0 j) n f.1.first (λ q. behind k f.0 n f.1.below more);
    },
  )

-- the first among those below n, or that there is none
first_below : (k : ℕ → ℕ) (P : ℕ → Type 0) → ((i : ℕ) → Decided (P i)) → (n : ℕ) → FirstOrNone k P n
first_below k P each zero = inr (λ j lt p. omega (arith, lt))
first_below k P each (suc n) = one_more k P n (each n) (first_below k P each n)

-- by what a class orders its entries before their places
abbrev key : Branch → Class → ℕ → ℕ
key b universal i = joined_at b i
key b conjunctive i = 0
key b existential i = 0
key b disjunctive i = 0

comes_first : (b : Branch) (c : Class) (i j : ℕ) → Before (key b c) i j → ComesFirst b c i j
comes_first b universal i j h = h
comes_first b conjunctive i j (inl x) = omega (arith, x)
comes_first b conjunctive i j (inr x) = x.1
comes_first b existential i j (inl x) = omega (arith, x)
comes_first b existential i j (inr x) = x.1
comes_first b disjunctive i j (inl x) = omega (arith, x)
comes_first b disjunctive i j (inr x) = x.1

record FirstOf (b : Branch) (d : ℕ) (c : Class) (i : ℕ) : Type 0 where
  holds : IsPending b d c i
  first : (j : ℕ) → IsPending b d c j → ComesFirst b c i j

abbrev NoneOf : Branch → ℕ → Class → Type 0
NoneOf b d c = (j : ℕ) → IsPending b d c j → ⊥

first_of_class : (b : Branch) (d : ℕ) (c : Class) → ((i : ℕ) × FirstOf b d c i) ⊎ NoneOf b d c
first_of_class b d c = by_search (first_below (key b c) (IsPending b d c) (pending_decided b d c) (length (entries b))) where
  inside : (j : ℕ) → IsPending b d c j → j < length (entries b)
  inside j h = slice_get_within (entries b) j h.0 h.1

  by_search : FirstOrNone (key b c) (IsPending b d c) (length (entries b)) → ((i : ℕ) × FirstOf b d c i) ⊎ NoneOf b d c
  by_search (inl f) = inl (f.0, record { holds = f.1.holds; first = λ j h. comes_first b c f.0 j (f.1.first j (inside j h) h) })
  by_search (inr none) = inr (λ j h. none j (inside j h) h)

abbrev ServedOne : Branch → ℕ → Type 0
ServedOne b d = (c : Class) × (i : ℕ) × IsServed b d c i

abbrev NoneAtAll : Branch → ℕ → Type 0
NoneAtAll b d = (c : Class) → NoneOf b d c

-- the entry that is served, or that none is pending
pub served_or_none : (b : Branch) (d : ℕ) → ServedOne b d ⊎ NoneAtAll b d
served_or_none b d = by_first (first_of_class b d conjunctive) where
  by_fourth : NoneOf b d conjunctive → NoneOf b d existential → NoneOf b d disjunctive → ((i : ℕ) × FirstOf b d universal i) ⊎ NoneOf b d universal → ServedOne b d ⊎ NoneAtAll b d
  by_fourth n m o (inl f) = inl (universal, f.0, record { pending = f.1.holds; first = first }) where
    first : (c : Class) (j : ℕ) → IsPending b d c j → (rank universal < rank c) ⊎ ((c ≡ universal) × ComesFirst b universal f.0 j)
    first conjunctive j h = absurd (n j h)
    first existential j h = absurd (m j h)
    first disjunctive j h = absurd (o j h)
    first universal j h = inr (refl, f.1.first j h)
  by_fourth n m o (inr p) = inr each where
    each : (c : Class) → NoneOf b d c
    each conjunctive = n
    each existential = m
    each disjunctive = o
    each universal = p

  by_third : NoneOf b d conjunctive → NoneOf b d existential → ((i : ℕ) × FirstOf b d disjunctive i) ⊎ NoneOf b d disjunctive → ServedOne b d ⊎ NoneAtAll b d
  by_third n m (inl f) = inl (disjunctive, f.0, record { pending = f.1.holds; first = first }) where
    first : (c : Class) (j : ℕ) → IsPending b d c j → (rank disjunctive < rank c) ⊎ ((c ≡ disjunctive) × ComesFirst b disjunctive f.0 j)
    first conjunctive j h = absurd (n j h)
    first existential j h = absurd (m j h)
    first disjunctive j h = inr (refl, f.1.first j h)
    first universal j h = inl (omega arith)
  by_third n m (inr o) = by_fourth n m o (first_of_class b d universal)

  by_second : NoneOf b d conjunctive → ((i : ℕ) × FirstOf b d existential i) ⊎ NoneOf b d existential → ServedOne b d ⊎ NoneAtAll b d
  by_second n (inl f) = inl (existential, f.0, record { pending = f.1.holds; first = first }) where
    first : (c : Class) (j : ℕ) → IsPending b d c j → (rank existential < rank c) ⊎ ((c ≡ existential) × ComesFirst b existential f.0 j)
    first conjunctive j h = absurd (n j h)
    first existential j h = inr (refl, f.1.first j h)
    first disjunctive j h = inl (omega arith)
    first universal j h = inl (omega arith)
  by_second n (inr m) = by_third n m (first_of_class b d disjunctive)

  by_first : ((i : ℕ) × FirstOf b d conjunctive i) ⊎ NoneOf b d conjunctive → ServedOne b d ⊎ NoneAtAll b d
  by_first (inl f) = inl (conjunctive, f.0, record { pending = f.1.holds; first = first }) where
    first : (c : Class) (j : ℕ) → IsPending b d c j → (rank conjunctive < rank c) ⊎ ((c ≡ conjunctive) × ComesFirst b conjunctive f.0 j)
    first conjunctive j h = inr (refl, f.1.first j h)
    first existential j h = inl (omega arith)
    first disjunctive j h = inl (omega arith)
    first universal j h = inl (omega arith)
  by_first (inr n) = by_second n (first_of_class b d existential)

-- a step that serves, of which the place is the entry's
record Serving (b : Branch) (c : Class) (i : ℕ) (a : FreeFormula) : Type 0 where
  step : Done
  of : principal step ≡ i
  serves : Serves b c i a step
  -- every step that serves has room, or some has none
  room : ((s : Done) → Serves b c i a s → HasRoom b s) ⊎ ((s : Done) × Serves b c i a s × (HasRoom b s → ⊥))

one_has_room : (b : Branch) (P : Done → Type 0) (step : Done) → P step → ((s : Done) → P s → s ≡ step)
    → ((s : Done) → P s → HasRoom b s) ⊎ ((s : Done) × P s × (HasRoom b s → ⊥))
one_has_room b P step p only = by_test (at_most (length (entries (after b step))) most_entries) where
  by_test : Decided (HasRoom b step) → ((s : Done) → P s → HasRoom b s) ⊎ ((s : Done) × P s × (HasRoom b s → ⊥))
  by_test (inl r) = inl (λ s q. subst (HasRoom b) (sym (only s q)) r)
  by_test (inr r) = inr (step, p, r)

two_have_room : (b : Branch) (P : Done → Type 0) (s t : Done) → P s → P t → ((u : Done) → P u → (u ≡ s) ⊎ (u ≡ t))
    → ((u : Done) → P u → HasRoom b u) ⊎ ((u : Done) × P u × (HasRoom b u → ⊥))
two_have_room b P s t p q only = by_tests (at_most (length (entries (after b s))) most_entries) (at_most (length (entries (after b t))) most_entries) where
  by_tests : Decided (HasRoom b s) → Decided (HasRoom b t) → ((u : Done) → P u → HasRoom b u) ⊎ ((u : Done) × P u × (HasRoom b u → ⊥))
  by_tests (inr r) e = inr (s, p, r)
  by_tests (inl r) (inr e) = inr (t, q, e)
  by_tests (inl r) (inl e) = inl (λ u x. either_side u (only u x)) where
    either_side : (u : Done) → (u ≡ s) ⊎ (u ≡ t) → HasRoom b u
    either_side u (inl same) = subst (HasRoom b) (sym same) r
    either_side u (inr same) = subst (HasRoom b) (sym same) e

no_some : {A : Type 0} (o : Option A) → o ≡ None → IsSome o → ⊥
no_some o e s = false≢true (sym (ap is_some e) ∙ s)

serving : (b : Branch) (d : ℕ) (c : Class) (i : ℕ) (e : Entry) → Waits b d c i e → Serving b c i e.formula
serving b d conjunctive i e (w, inl s) = record {
  step = expand i;
  of = refl;
  serves = inl (s, refl);
  room = one_has_room b (Serves b conjunctive i e.formula) (expand i) (inl (s, refl)) only;
} where
  only : (t : Done) → Serves b conjunctive i e.formula t → t ≡ expand i
  only t (inl x) = x.1
  only t (inr x) = absurd (no_some _ (rewrites_no_alpha b.rules e.formula x.0 x.1) s)
serving b d conjunctive i e (w, inr s) = record {
  step = rewrite i s.1.0;
  of = refl;
  serves = inr (s.1.0, s.1.1, refl);
  room = one_has_room b (Serves b conjunctive i e.formula) (rewrite i s.1.0) (inr (s.1.0, s.1.1, refl)) only;
} where
  only : (t : Done) → Serves b conjunctive i e.formula t → t ≡ rewrite i s.1.0
  only t (inl x) = absurd (no_some _ (rewrites_no_alpha b.rules e.formula s.1.0 s.1.1) x.0)
  only t (inr x) = x.2 ∙ ap (rewrite i) (same_found x.0 s.1.0 (rewrites_once b.rules e.formula (Some x.0) (Some s.1.0) x.1 s.1.1))
serving b d existential i e w = record {
  step = skolemize i (next_skolem b);
  of = refl;
  serves = refl;
  room = one_has_room b (Serves b existential i e.formula) (skolemize i (next_skolem b)) refl (λ t x. x);
}
serving b d universal i e w = record {
  step = instantiate i (next_metavar b);
  of = refl;
  serves = refl;
  room = one_has_room b (Serves b universal i e.formula) (instantiate i (next_metavar b)) refl (λ t x. x);
}
serving b d disjunctive i e w = record {
  step = go_left i;
  of = refl;
  serves = inl refl;
  room = two_have_room b (Serves b disjunctive i e.formula) (go_left i) (go_right i) (inl refl) (inr refl) (λ u x. x);
}

-- a branch is a leaf, or a step comes next
pub next_decided : (b : Branch) (d : ℕ) → ((s : Done) × ComesNext b d s) ⊎ IsLeaf b d
next_decided b d = by_served (served_or_none b d) where
  by_served : ServedOne b d ⊎ NoneAtAll b d → ((s : Done) × ComesNext b d s) ⊎ IsLeaf b d
  by_served (inr none) = inr (λ s x. none x.class (principal s) x.served.pending)
  by_served (inl (c, i, served)) = by_room s.room where
    e : Entry
    e = served.pending.0

    s : Serving b c i e.formula
    s = serving b d c i e served.pending.3

    by_room : ((t : Done) → Serves b c i e.formula t → HasRoom b t) ⊎ ((t : Done) × Serves b c i e.formula t × (HasRoom b t → ⊥)) → ((t : Done) × ComesNext b d t) ⊎ IsLeaf b d
    by_room (inl room) = inl (s.step, at_place (principal s.step) s.of) where
      at_place : (j : ℕ) → j ≡ i → ComesNext b d s.step
      at_place j same = record {
        class = c;
        entry = e;
        at = subst (λ k. slice_get (entries b) k ≡ Some e) (sym s.of) served.pending.1;
        served = subst (IsServed b d c) (sym s.of) served;
        serves = subst (λ k. Serves b c k e.formula s.step) (sym s.of) s.serves;
        room = λ t x. room t (subst (λ k. Serves b c k e.formula t) s.of x);
      }
    by_room (inr full) = inr (λ t x.
        let same = one_served b d x.class c (principal t) i x.served served in
        let entry : x.entry ≡ e = same_found x.entry e (sym x.at ∙ ap (λ k. slice_get (entries b) k) same.1 ∙ served.pending.1) in
        full.2 (x.room full.0
        (subst (λ k. Serves b x.class k x.entry.formula full.0) (sym same.1)
        (subst (λ k. Serves b k i x.entry.formula full.0) (sym same.0)
        (subst (λ z. Serves b c i z.formula full.0) (sym entry) full.1)))))
