-- What is kept of a branch's agenda by a step, and the entry that it says is served.
use Rattle.std.proofs.Common.{◌≡◌, ℕ, zero, suc, ◌+◌, ◌<◌, ◌≤◌, Bool, true, false, List, [], ◌∷◌, ◌++◌, length, get_or, Option, Some, None, IsSome, slice_get, refl, ap, sym, ◌∙◌, subst, arith, ◌⊎◌, inl, inr, length-append, leb, eqb}
use Rattle.std.proofs.lemmas.Bool.Decides.{leb_tells, eqb_tells}
use Rattle.std.proofs.lemmas.Option.{slice_get_within}
use Rattle.gs3_rules.specs.Rules.{alpha_parts, gamma_part}
use Rattle.rewrite_rules.specs.Rules.{IsRuleAxiom}
use Rattle.branch_rules.specs.Branch.{Branch, Done, Entry, principal, entries, after, times_taken, joined_at}
use Rattle.branch_rules.specs.Next.{Class, conjunctive, existential, disjunctive, universal, rank, IsPending, ComesFirst, IsServed}
use Rattle.branch_rules.specs.BranchView.{TurnBefore, IsOpen, IsUniversal, HasTurn, OverBefore, IsSearched}
use Rattle.branch_rules.specs.declared.branch.Turn.{Turn}
use Rattle.branch_rules.specs.declared.branch.Agenda.{Agenda}
use Rattle.branch_rules.proofs.Grown.{appended, entries_grow}
use Rattle.branch_rules.proofs.Changes.{times_other, times_here, entry_stays, pending_before, joined_other, joined_taken, joined_appended}

none_is_some : {A : Type 0} (a : A) → None ≡ Some a → ⊥
none_is_some a e = cc

some_once : {A : Type 0} (a b : A) → Some a ≡ Some b → a ≡ b
some_once a b e = cc

pub get_last : {A : Type 0} (xs : List A) (x : A) (i : ℕ) (a : A) → slice_get (xs ++ x ∷ []) i ≡ Some a → (slice_get xs i ≡ Some a) ⊎ ((i ≡ length xs) × (x ≡ a))
get_last [] x zero a e = inr (refl, some_once x a e)
get_last [] x (suc i) a e = absurd (none_is_some a e)
get_last (y ∷ xs) x zero a e = inl e
get_last (y ∷ xs) x (suc i) a e = further (get_last xs x i a e) where
  further : (slice_get xs i ≡ Some a) ⊎ ((i ≡ length xs) × (x ≡ a)) → (slice_get xs i ≡ Some a) ⊎ ((suc i ≡ suc (length xs)) × (x ≡ a))
  further (inl h) = inl h
  further (inr h) = inr (ap suc h.0, h.1)

pub get_stays : {A : Type 0} (xs ys : List A) (i : ℕ) (a : A) → slice_get xs i ≡ Some a → slice_get (xs ++ ys) i ≡ Some a
get_stays [] ys i a e = absurd (none_is_some a e)
get_stays (x ∷ xs) ys zero a e = e
get_stays (x ∷ xs) ys (suc i) a e = get_stays xs ys i a e

pub get_end : {A : Type 0} (xs : List A) (a : A) → slice_get (xs ++ a ∷ []) (length xs) ≡ Some a
get_end [] a = refl
get_end (x ∷ xs) a = get_end xs a

pub below_or_not : (m n : ℕ) → (m < n) ⊎ (n ≤ m)
below_or_not m n = by_test (leb_tells n m) where
  by_test : ((leb n m ≡ true) × (n ≤ m)) ⊎ ((leb n m ≡ false) × (m < n)) → (m < n) ⊎ (n ≤ m)
  by_test (inl p) = inr p.1
  by_test (inr p) = inl p.1

pub same_or_not : (m n : ℕ) → (m ≡ n) ⊎ (m ≡ n → ⊥)
same_or_not m n = by_test (eqb_tells m n) where
  by_test : ((eqb m n ≡ true) × (m ≡ n)) ⊎ ((eqb m n ≡ false) × (m ≡ n → ⊥)) → (m ≡ n) ⊎ (m ≡ n → ⊥)
  by_test (inl p) = inl p.1
  by_test (inr p) = inr p.1

longer : (b : Branch) (s : Done) → length (entries b) ≤ length (entries (after b s))
longer b s = omega (arith, ap length (entries_grow b s), length-append (entries b) (appended b s))

one_more_step : (b : Branch) (s : Done) → length (after b s).steps ≡ suc (length b.steps)
one_more_step b s = omega (arith, length-append b.steps (s ∷ []))

universal_before : (b : Branch) (s : Done) (i : ℕ) → i < length (entries b) → IsUniversal (after b s) i → IsUniversal b i
universal_before b s i lt u = (u.0, sym (entry_stays b s i lt) ∙ u.1, u.2, u.3)

universal_after : (b : Branch) (s : Done) (i : ℕ) → i < length (entries b) → IsUniversal b i → IsUniversal (after b s) i
universal_after b s i lt u = (u.0, entry_stays b s i lt ∙ u.1, u.2, u.3)

-- how the runtime's lists grow with the step
pub record Growing (b : Branch) (s : Done) (born more : List ℕ) : Type 0 where
  pub place_within : principal s < length (entries b)
  pub old_born : (i : ℕ) → i < length (entries b) → get_or more i 0 ≡ get_or born i 0
  pub new_born : (i : ℕ) → length (entries b) ≤ i → i < length (entries (after b s)) → get_or more i 0 ≡ suc (length b.steps)

-- A step that takes no universal entry keeps the agenda.
pub agenda_kept : (b : Branch) (s : Done) (g : Agenda) (born more : List ℕ) (turns : List Turn) → Growing b s born more → (IsUniversal b (principal s) → ⊥)
    → IsSearched b g born turns → IsSearched (after b s) g more turns
agenda_kept b s g born more turns grow plain h = record {
  conjunctive_within = let w : g.conjunctive ≤ length (entries b) = h.conjunctive_within in omega (arith, longer b s, w);
  existential_within = let w : g.existential ≤ length (entries b) = h.existential_within in omega (arith, longer b s, w);
  disjunctive_within = let w : g.disjunctive ≤ length (entries b) = h.disjunctive_within in omega (arith, longer b s, w);
  universal_within = let w : g.universal ≤ length (entries b) = h.universal_within in omega (arith, longer b s, w);
  turn_within = h.turn_within;
  conjunctive_over = λ i lt p. let w : g.conjunctive ≤ length (entries b) = h.conjunctive_within in h.conjunctive_over i lt (pending_before b s g.depth conjunctive i (omega (arith, lt, w)) p);
  existential_over = λ i d lt p. let w : g.existential ≤ length (entries b) = h.existential_within in h.existential_over i d lt (pending_before b s d existential i (omega (arith, lt, w)) p);
  disjunctive_over = λ i d lt p. let w : g.disjunctive ≤ length (entries b) = h.disjunctive_within in h.disjunctive_over i d lt (pending_before b s d disjunctive i (omega (arith, lt, w)) p);
  have_turns = λ i lt u. let was = universal_before b s i (inside i lt) u in let t = h.have_turns i lt was in record {
    number = t.number;
    turn = t.turn;
    at = t.at;
    place = t.place;
    joined = t.joined ∙ sym (joined_other b s i (inside i lt) (apart i was));
    uses = t.uses ∙ sym (times_other b s i (apart i was));
  };
  turns_over = λ n t lt at still. h.turns_over n t lt at (sym (times_other b s t.place (apart t.place (h.turns_universal n t at))) ∙ still);
  in_order = h.in_order;
  turns_place = h.turns_place;
  turns_universal = λ n t at. universal_after b s t.place (inside t.place (h.turns_place n t at)) (h.turns_universal n t at);
  turns_used = λ n t at. subst (λ k. t.uses ≤ k) (sym (times_other b s t.place (apart t.place (h.turns_universal n t at)))) (h.turns_used n t at);
  turns_own = λ n t at still.
      h.turns_own n t at (sym (times_other b s t.place (apart t.place (h.turns_universal n t at))) ∙ still)
      ∙ sym (joined_other b s t.place (inside t.place (h.turns_place n t at)) (apart t.place (h.turns_universal n t at)));
  turns_within = λ n t at. let w : t.joined ≤ length b.steps = h.turns_within n t at in omega (arith, w, one_more_step b s);
  turns_joined = λ n i t at le lt. joined_by n i t at le lt (below_or_not i (length (entries b)));
  unused = λ i le u. unused_by i le u (below_or_not i (length (entries b)));
  untaken = λ i le. untaken_by i (let w : length (entries b) ≤ i = omega (arith, le, longer b s) in w);
} where
  inside : (i : ℕ) → i < g.universal → i < length (entries b)
  inside i lt = let w : g.universal ≤ length (entries b) = h.universal_within in omega (arith, lt, w)

  apart : (i : ℕ) → IsUniversal b i → principal s ≡ i → ⊥
  apart i u e = plain (subst (IsUniversal b) (sym e) u)

  joined_by : (n i : ℕ) (t : Turn) → slice_get turns n ≡ Some t → g.universal ≤ i → i < length (entries (after b s)) → (i < length (entries b)) ⊎ (length (entries b) ≤ i) → t.joined ≤ get_or more i 0
  joined_by n i t at le lt (inl w) = subst (λ k. t.joined ≤ k) (sym (grow.old_born i w)) (h.turns_joined n i t at le w)
  joined_by n i t at le lt (inr w) = subst (λ k. t.joined ≤ k) (sym (grow.new_born i w lt)) (let v : t.joined ≤ length b.steps = h.turns_within n t at in omega (arith, v))

  untaken_by : (i : ℕ) → length (entries b) ≤ i → times_taken (after b s) i ≡ 0
  untaken_by i le = times_other b s i (λ e. let w : principal s < length (entries b) = grow.place_within in let none : ⊥ = omega (arith, le, w, e) in none) ∙ h.untaken i le

  unused_by : (i : ℕ) → g.universal ≤ i → IsUniversal (after b s) i → (i < length (entries b)) ⊎ (length (entries b) ≤ i) → times_taken (after b s) i ≡ 0
  unused_by i le u (inl w) = let was = universal_before b s i w u in times_other b s i (apart i was) ∙ h.unused i le was
  unused_by i le u (inr w) = untaken_by i w

-- the turn that a used universal entry takes
abbrev pub turn_after : Branch → Done → Turn → Type 0
turn_after b s t = (t.joined ≡ suc (length b.steps)) × (t.place ≡ principal s) × (t.uses ≡ suc (times_taken b (principal s)))

-- A step that takes a universal entry keeps it, where all entries have joined, and the entry joins again.
pub agenda_used : (b : Branch) (s : Done) (g : Agenda) (born more : List ℕ) (turns : List Turn) (v : Turn) → Growing b s born more → IsUniversal b (principal s)
    → g.universal ≡ length (entries b) → turn_after b s v → IsSearched b g born turns → IsSearched (after b s) g more (turns ++ v ∷ [])
agenda_used b s g born more turns v grow taken all is h = record {
  conjunctive_within = let w : g.conjunctive ≤ length (entries b) = h.conjunctive_within in omega (arith, longer b s, w);
  existential_within = let w : g.existential ≤ length (entries b) = h.existential_within in omega (arith, longer b s, w);
  disjunctive_within = let w : g.disjunctive ≤ length (entries b) = h.disjunctive_within in omega (arith, longer b s, w);
  universal_within = let w : g.universal ≤ length (entries b) = h.universal_within in omega (arith, longer b s, w);
  turn_within = let w : g.turn ≤ length turns = h.turn_within in omega (arith, w, length-append turns (v ∷ []));
  conjunctive_over = λ i lt p. let w : g.conjunctive ≤ length (entries b) = h.conjunctive_within in h.conjunctive_over i lt (pending_before b s g.depth conjunctive i (omega (arith, lt, w)) p);
  existential_over = λ i d lt p. let w : g.existential ≤ length (entries b) = h.existential_within in h.existential_over i d lt (pending_before b s d existential i (omega (arith, lt, w)) p);
  disjunctive_over = λ i d lt p. let w : g.disjunctive ≤ length (entries b) = h.disjunctive_within in h.disjunctive_over i d lt (pending_before b s d disjunctive i (omega (arith, lt, w)) p);
  have_turns = λ i lt u. turn_of i lt (universal_before b s i (inside i lt) u) (same_or_not (principal s) i);
  turns_over = λ n t lt at still. over n t lt (get_last turns v n t at) still (same_or_not (principal s) t.place);
  in_order = λ m n t u lt at_m at_n. order m n t u lt (get_last turns v m t at_m) (get_last turns v n u at_n);
  turns_place = λ n t at. place_of n t (get_last turns v n t at);
  turns_universal = λ n t at. universal_of n t (get_last turns v n t at);
  turns_used = λ n t at. used_of n t (get_last turns v n t at) (same_or_not (principal s) t.place);
  turns_own = λ n t at still. own_of n t (get_last turns v n t at) still (same_or_not (principal s) t.place);
  turns_within = λ n t at. within_of n t (get_last turns v n t at);
  turns_joined = λ n i t at le lt. let w : length (entries b) ≤ i = omega (arith, le, all) in subst (λ k. t.joined ≤ k) (sym (grow.new_born i w lt)) (subst (λ k. t.joined ≤ k) (one_more_step b s) (within_of n t (get_last turns v n t at)));
  unused = λ i le u. untaken_by i (let w : length (entries b) ≤ i = omega (arith, le, all) in w);
  untaken = λ i le. untaken_by i (let w : length (entries b) ≤ i = omega (arith, le, longer b s) in w);
} where
  inside : (i : ℕ) → i < g.universal → i < length (entries b)
  inside i lt = omega (arith, lt, all)

  here : principal s < length (entries b)
  here = grow.place_within

  untaken_by : (i : ℕ) → length (entries b) ≤ i → times_taken (after b s) i ≡ 0
  untaken_by i le = times_other b s i (λ e. let none : ⊥ = omega (arith, le, here, e) in none) ∙ h.untaken i le

  turn_of : (i : ℕ) → i < g.universal → IsUniversal b i → (principal s ≡ i) ⊎ (principal s ≡ i → ⊥) → HasTurn (after b s) (turns ++ v ∷ []) i
  turn_of i lt was (inl e) = record {
    number = length turns;
    turn = v;
    at = get_end turns v;
    place = is.1 ∙ e;
    joined = is.0 ∙ sym (joined_taken b s i e);
    uses = is.2 ∙ ap (λ k. suc (times_taken b k)) e ∙ sym (times_here b s i e);
  }
  turn_of i lt was (inr other) = let t = h.have_turns i lt was in record {
    number = t.number;
    turn = t.turn;
    at = get_stays turns (v ∷ []) t.number t.turn t.at;
    place = t.place;
    joined = t.joined ∙ sym (joined_other b s i (inside i lt) other);
    uses = t.uses ∙ sym (times_other b s i other);
  }

  over : (n : ℕ) (t : Turn) → n < g.turn → (slice_get turns n ≡ Some t) ⊎ ((n ≡ length turns) × (v ≡ t)) → IsOpen (after b s) t → (principal s ≡ t.place) ⊎ (principal s ≡ t.place → ⊥) → g.depth ≤ t.uses
  over n t lt (inr e) still x = absurd (let w : g.turn ≤ length turns = h.turn_within in let none : ⊥ = omega (arith, lt, w, e.0) in none)
  over n t lt (inl at) still (inr other) = h.turns_over n t lt at (sym (times_other b s t.place other) ∙ still)
  over n t lt (inl at) still (inl e) =
      absurd (let w : t.uses ≤ times_taken b t.place = h.turns_used n t at in let none : ⊥ = omega (arith, w, times_here b s t.place e, still) in none)

  order : (m n : ℕ) (t u : Turn) → m < n → (slice_get turns m ≡ Some t) ⊎ ((m ≡ length turns) × (v ≡ t)) → (slice_get turns n ≡ Some u) ⊎ ((n ≡ length turns) × (v ≡ u)) → TurnBefore t u
  order m n t u le (inl x) (inl y) = h.in_order m n t u le x y
  order m n t u le (inl x) (inr y) =
      inl (let w : t.joined ≤ length b.steps = h.turns_within m t x in let e : u.joined ≡ suc (length b.steps) = ap (λ z. z.joined) (sym y.1) ∙ is.0 in omega (arith, w, e))
  order m n t u le (inr x) (inl y) = absurd (let w : n < length turns = slice_get_within turns n u y in let none : ⊥ = omega (arith, w, x.0, le) in none)
  order m n t u le (inr x) (inr y) = absurd (let none : ⊥ = omega (arith, x.0, y.0, le) in none)

  place_of : (n : ℕ) (t : Turn) → (slice_get turns n ≡ Some t) ⊎ ((n ≡ length turns) × (v ≡ t)) → t.place < g.universal
  place_of n t (inl at) = h.turns_place n t at
  place_of n t (inr e) = let p : t.place ≡ principal s = ap (λ z. z.place) (sym e.1) ∙ is.1 in omega (arith, here, all, p)

  universal_of : (n : ℕ) (t : Turn) → (slice_get turns n ≡ Some t) ⊎ ((n ≡ length turns) × (v ≡ t)) → IsUniversal (after b s) t.place
  universal_of n t (inl at) = universal_after b s t.place (inside t.place (h.turns_place n t at)) (h.turns_universal n t at)
  universal_of n t (inr e) = subst (IsUniversal (after b s)) (sym (ap (λ z. z.place) (sym e.1) ∙ is.1)) (universal_after b s (principal s) here taken)

  used_of : (n : ℕ) (t : Turn) → (slice_get turns n ≡ Some t) ⊎ ((n ≡ length turns) × (v ≡ t)) → (principal s ≡ t.place) ⊎ (principal s ≡ t.place → ⊥) → t.uses ≤ times_taken (after b s) t.place
  used_of n t (inl at) (inl e) = let w : t.uses ≤ times_taken b t.place = h.turns_used n t at in omega (arith, w, times_here b s t.place e)
  used_of n t (inl at) (inr other) = subst (λ k. t.uses ≤ k) (sym (times_other b s t.place other)) (h.turns_used n t at)
  used_of n t (inr e) (inl same) =
      let uses : t.uses ≡ suc (times_taken b t.place) = ap (λ z. z.uses) (sym e.1) ∙ is.2 ∙ ap (λ k. suc (times_taken b k)) same in omega (arith, uses, times_here b s t.place same)
  used_of n t (inr e) (inr other) = absurd (other (sym is.1 ∙ ap (λ z. z.place) e.1))

  own_of : (n : ℕ) (t : Turn) → (slice_get turns n ≡ Some t) ⊎ ((n ≡ length turns) × (v ≡ t)) → IsOpen (after b s) t → (principal s ≡ t.place) ⊎ (principal s ≡ t.place → ⊥) → t.joined ≡ joined_at (after b s) t.place
  own_of n t (inl at) still (inl e) = absurd (let w : t.uses ≤ times_taken b t.place = h.turns_used n t at in let none : ⊥ = omega (arith, w, times_here b s t.place e, still) in none)
  own_of n t (inl at) still (inr other) =
      h.turns_own n t at (sym (times_other b s t.place other) ∙ still) ∙ sym (joined_other b s t.place (inside t.place (h.turns_place n t at)) other)
  own_of n t (inr e) still (inl same) = ap (λ z. z.joined) (sym e.1) ∙ is.0 ∙ sym (joined_taken b s t.place same)
  own_of n t (inr e) still (inr other) = absurd (other (sym is.1 ∙ ap (λ z. z.place) e.1))

  within_of : (n : ℕ) (t : Turn) → (slice_get turns n ≡ Some t) ⊎ ((n ≡ length turns) × (v ≡ t)) → t.joined ≤ length (after b s).steps
  within_of n t (inl at) = let w : t.joined ≤ length b.steps = h.turns_within n t at in omega (arith, w, one_more_step b s)
  within_of n t (inr e) = let j : t.joined ≡ suc (length b.steps) = ap (λ z. z.joined) (sym e.1) ∙ is.0 in omega (arith, j, one_more_step b s)

-- The first pending conjunctive entry is served.
pub conjunctive_served : (b : Branch) (d i : ℕ) → ((j : ℕ) → j < i → IsPending b d conjunctive j → ⊥) → IsPending b d conjunctive i → IsServed b d conjunctive i
conjunctive_served b d i over p = record { pending = p; first = first } where
  first : (c : Class) (j : ℕ) → IsPending b d c j → (rank conjunctive < rank c) ⊎ ((c ≡ conjunctive) × ComesFirst b conjunctive i j)
  first conjunctive j q = by_place (below_or_not j i) where
    by_place : (j < i) ⊎ (i ≤ j) → (rank conjunctive < rank conjunctive) ⊎ ((conjunctive ≡ conjunctive) × (i ≤ j))
    by_place (inl lt) = absurd (over j lt q)
    by_place (inr le) = inr (refl, le)
  first existential j q = inl (omega arith)
  first disjunctive j q = inl (omega arith)
  first universal j q = inl (omega arith)

abbrev pub None_of : Branch → ℕ → Class → Type 0
None_of b d c = (j : ℕ) → IsPending b d c j → ⊥

pub existential_served : (b : Branch) (d i : ℕ) → None_of b d conjunctive → ((j : ℕ) → j < i → IsPending b d existential j → ⊥) → IsPending b d existential i → IsServed b d existential i
existential_served b d i none over p = record { pending = p; first = first } where
  first : (c : Class) (j : ℕ) → IsPending b d c j → (rank existential < rank c) ⊎ ((c ≡ existential) × ComesFirst b existential i j)
  first conjunctive j q = absurd (none j q)
  first existential j q = by_place (below_or_not j i) where
    by_place : (j < i) ⊎ (i ≤ j) → (rank existential < rank existential) ⊎ ((existential ≡ existential) × (i ≤ j))
    by_place (inl lt) = absurd (over j lt q)
    by_place (inr le) = inr (refl, le)
  first disjunctive j q = inl (omega arith)
  first universal j q = inl (omega arith)

pub disjunctive_served : (b : Branch) (d i : ℕ) → None_of b d conjunctive → None_of b d existential → ((j : ℕ) → j < i → IsPending b d disjunctive j → ⊥) → IsPending b d disjunctive i → IsServed b d disjunctive i
disjunctive_served b d i none neither over p = record { pending = p; first = first } where
  first : (c : Class) (j : ℕ) → IsPending b d c j → (rank disjunctive < rank c) ⊎ ((c ≡ disjunctive) × ComesFirst b disjunctive i j)
  first conjunctive j q = absurd (none j q)
  first existential j q = absurd (neither j q)
  first disjunctive j q = by_place (below_or_not j i) where
    by_place : (j < i) ⊎ (i ≤ j) → (rank disjunctive < rank disjunctive) ⊎ ((disjunctive ≡ disjunctive) × (i ≤ j))
    by_place (inl lt) = absurd (over j lt q)
    by_place (inr le) = inr (refl, le)
  first universal j q = inl (omega arith)

pending_universal : (b : Branch) (d i : ℕ) → IsPending b d universal i → IsUniversal b i
pending_universal b d i p = (p.0, p.1, p.2, p.3.1)

turn_not_over : (b : Branch) (g : Agenda) (born : List ℕ) (turns : List Turn) (d n j : ℕ) → IsSearched b g born turns → g.universal ≡ length (entries b) → OverBefore b d turns n
    → IsPending b d universal j → (h : HasTurn b turns j) × (n ≤ h.number)
turn_not_over b g born turns d n j a all over p = (own, by_number (below_or_not own.number n)) where
  own : HasTurn b turns j
  own = a.have_turns j (let w : j < length (entries b) = slice_get_within (entries b) j p.0 p.1 in omega (arith, w, all)) (pending_universal b d j p)

  by_number : (own.number < n) ⊎ (n ≤ own.number) → n ≤ own.number
  by_number (inr le) = le
  by_number (inl lt) =
      let still : IsOpen b own.turn = ap (times_taken b) own.place ∙ sym own.uses in
      let late : d ≤ own.turn.uses = over own.number own.turn lt own.at still in
      let few : times_taken b j < d = p.3.0 in
      let uses : own.turn.uses ≡ times_taken b j = own.uses in
      absurd (let none : ⊥ = omega (arith, late, few, uses) in none)

-- The entry of the first open turn with uses left is served.
pub universal_served : (b : Branch) (g : Agenda) (born : List ℕ) (turns : List Turn) (d n : ℕ) (t : Turn) → IsSearched b g born turns → g.universal ≡ length (entries b)
    → None_of b d conjunctive → None_of b d existential → None_of b d disjunctive → OverBefore b d turns n → slice_get turns n ≡ Some t → IsOpen b t → t.uses < d → IsServed b d universal t.place
universal_served b g born turns d n t a all none neither nor over at still few = record {
  pending = let u = a.turns_universal n t at in (u.0, u.1, u.2, (subst (λ k. k < d) (sym still) few, u.3));
  first = first;
} where
  first : (c : Class) (j : ℕ) → IsPending b d c j → (rank universal < rank c) ⊎ ((c ≡ universal) × ComesFirst b universal t.place j)
  first conjunctive j q = absurd (none j q)
  first existential j q = absurd (neither j q)
  first disjunctive j q = absurd (nor j q)
  first universal j q = inr (refl, by_number (below_or_not n own.number)) where
    found : (h : HasTurn b turns j) × (n ≤ h.number)
    found = turn_not_over b g born turns d n j a all over q

    own : HasTurn b turns j
    own = found.0

    later : n ≤ own.number
    later = found.1

    mine : t.joined ≡ joined_at b t.place
    mine = a.turns_own n t at still

    by_order : TurnBefore t own.turn → (joined_at b t.place < joined_at b j) ⊎ ((joined_at b t.place ≡ joined_at b j) × (t.place ≤ j))
    by_order (inl x) = inl (let theirs : own.turn.joined ≡ joined_at b j = own.joined in omega (arith, x, mine, theirs))
    by_order (inr x) = inr (sym mine ∙ x.0 ∙ own.joined, let p : t.place < own.turn.place = x.1 in omega (arith, p, own.place))

    by_number : (n < own.number) ⊎ (own.number ≤ n) → (joined_at b t.place < joined_at b j) ⊎ ((joined_at b t.place ≡ joined_at b j) × (t.place ≤ j))
    by_number (inl lt) = by_order (a.in_order n own.number t own.turn lt at own.at)
    by_number (inr ge) =
        let same : n ≡ own.number = omega (arith, ge, later) in
        let turn : t ≡ own.turn = some_once t own.turn (sym at ∙ ap (slice_get turns) same ∙ own.at) in
        let place : t.place ≡ j = ap (λ z. z.place) turn ∙ own.place in inr (ap (joined_at b) place, omega (arith, place))

-- and where all turns are over, no universal entry is pending
pub none_universal : (b : Branch) (g : Agenda) (born : List ℕ) (turns : List Turn) (d : ℕ) → IsSearched b g born turns → g.universal ≡ length (entries b) → OverBefore b d turns (length turns)
    → None_of b d universal
none_universal b g born turns d a all over j p =
    let found = turn_not_over b g born turns d (length turns) j a all over p in
    let w : found.0.number < length turns = slice_get_within turns found.0.number found.0.turn found.0.at in
    let le : length turns ≤ found.0.number = found.1 in
    let none : ⊥ = omega (arith, w, le) in none
