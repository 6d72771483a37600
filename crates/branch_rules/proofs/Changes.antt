-- How a step changes the numbers that are read off a branch, and what stays pending.
use Rattle.std.proofs.Common.{◌≡◌, ℕ, zero, suc, ◌+◌, ◌*◌, ◌<◌, ◌≤◌, Bool, true, false, ◌||◌, ◌&&◌, eqb, leb, nat_le, nat_lt, cond, List, [], ◌∷◌, ◌++◌, length, take, Option, Some, None, slice_get, refl, ap, sym, ◌∙◌, subst, arith, ◌⊎◌, inl, inr, count_by, length-append, if◌then◌else◌}
use Rattle.std.proofs.lemmas.Bool.{false≢true, eq-eqb}
use Rattle.std.proofs.lemmas.Bool.Decides.{leb_tells, eqb_tells}
use Rattle.std.proofs.lemmas.List.{take-append-le}
use Rattle.std.proofs.lemmas.List.Sums.{sum_by-append}
use Rattle.std.proofs.Math.Seq.{take-append_seam, take-length}
use Rattle.free_terms.specs.Free.{FreeFormula}
use Rattle.branch_rules.specs.Branch.{Branch, Done, Entry, expand, rewrite, skolemize, instantiate, go_left, go_right, principal, is_split, introduced, entries, metavars, after, before, segment, segment_after, metavars_made, skolems_made, splits_done, times_taken, takes, joins, last_joined, joined_at, next_metavar}
use Rattle.branch_rules.specs.Next.{Class, conjunctive, existential, disjunctive, universal, Waits, IsPending, most_splits}
use Rattle.branch_rules.proofs.Grown.{appended, entries_grow}

count_last : {A : Type 0} (p : A → Bool) (xs : List A) (x : A) → count_by p (xs ++ x ∷ []) ≡ count_by p xs + count_by p (x ∷ [])
count_last p xs x = sum_by-append (λ y. if p y then 1 else 0) xs (x ∷ [])

pub times_grow : (b : Branch) (d : Done) (i : ℕ) → times_taken (after b d) i ≡ times_taken b i + count_by (λ step. eqb (principal step) i) (d ∷ [])
times_grow b d i = count_last (λ step. eqb (principal step) i) b.steps d

pub splits_grow : (b : Branch) (d : Done) → splits_done (after b d) ≡ splits_done b + count_by is_split (d ∷ [])
splits_grow b d = count_last is_split b.steps d

-- the counts of one step
one_counts : {A : Type 0} (p : A → Bool) (x : A) → p x ≡ true → count_by p (x ∷ []) ≡ 1
one_counts p x e = grind (arith, e)

none_counts : {A : Type 0} (p : A → Bool) (x : A) → p x ≡ false → count_by p (x ∷ []) ≡ 0
none_counts p x e = grind (arith, e)

pub times_other : (b : Branch) (d : Done) (i : ℕ) → (principal d ≡ i → ⊥) → times_taken (after b d) i ≡ times_taken b i
times_other b d i other = by_test (eqb_tells (principal d) i) where
  by_test : ((eqb (principal d) i ≡ true) × (principal d ≡ i)) ⊎ ((eqb (principal d) i ≡ false) × (principal d ≡ i → ⊥)) → times_taken (after b d) i ≡ times_taken b i
  by_test (inl p) = absurd (other p.1)
  by_test (inr p) = omega (arith, times_grow b d i, none_counts (λ step. eqb (principal step) i) d p.0)

pub times_here : (b : Branch) (d : Done) (i : ℕ) → principal d ≡ i → times_taken (after b d) i ≡ suc (times_taken b i)
times_here b d i e = omega (arith, times_grow b d i, one_counts (λ step. eqb (principal step) i) d (eq-eqb (principal d) i e))

get_front : {A : Type 0} (xs ys : List A) (i : ℕ) → i < length xs → slice_get (xs ++ ys) i ≡ slice_get xs i
get_front [] ys i lt = absurd (let none : ⊥ = omega (arith, lt) in none)
get_front (x ∷ xs) ys zero lt = refl
get_front (x ∷ xs) ys (suc i) lt = get_front xs ys i (omega (arith, lt))

pub entry_stays : (b : Branch) (d : Done) (i : ℕ) → i < length (entries b) → slice_get (entries (after b d)) i ≡ slice_get (entries b) i
entry_stays b d i lt = ap (λ es. slice_get es i) (entries_grow b d) ∙ get_front (entries b) (appended b d) i lt

fewer : (m n : ℕ) → m ≤ n → n ≡ 0 → m ≡ 0
fewer m n le e = omega (arith, le)

times_rise : (b : Branch) (d : Done) (i : ℕ) → times_taken b i ≤ times_taken (after b d) i
times_rise b d i = omega (arith, times_grow b d i)

splits_rise : (b : Branch) (d : Done) → splits_done b ≤ splits_done (after b d)
splits_rise b d = omega (arith, splits_grow b d)

waits_before : (b : Branch) (s : Done) (d : ℕ) (c : Class) (i : ℕ) (e : Entry) → Waits (after b s) d c i e → Waits b d c i e
waits_before b s d conjunctive i e w = (fewer _ _ (times_rise b s i) w.0, w.1)
waits_before b s d existential i e w = (fewer _ _ (times_rise b s i) w.0, w.1)
waits_before b s d disjunctive i e w = (fewer _ _ (times_rise b s i) w.0, w.1, let h : splits_done (after b s) < most_splits = w.2 in omega (arith, splits_rise b s, h))
waits_before b s d universal i e w = (let h : times_taken (after b s) i < d = w.0 in omega (arith, times_rise b s i, h), w.1)

-- of the entries that were there, only those that were pending are pending after a step
pub pending_before : (b : Branch) (s : Done) (d : ℕ) (c : Class) (i : ℕ) → i < length (entries b) → IsPending (after b s) d c i → IsPending b d c i
pending_before b s d c i lt h = (h.0, sym (entry_stays b s i lt) ∙ h.1, h.2, waits_before b s d c i h.0 h.3)

-- the entry that a step took is not pending in classes 1 to 3
pub taken_is_over : (b : Branch) (s : Done) (d : ℕ) (c : Class) → (c ≡ universal → ⊥) → IsPending (after b s) d c (principal s) → ⊥
taken_is_over b s d conjunctive other h = let w : times_taken (after b s) (principal s) ≡ 0 = h.3.0 in omega (arith, times_here b s (principal s) refl, w)
taken_is_over b s d existential other h = let w : times_taken (after b s) (principal s) ≡ 0 = h.3.0 in omega (arith, times_here b s (principal s) refl, w)
taken_is_over b s d disjunctive other h = let w : times_taken (after b s) (principal s) ≡ 0 = h.3.0 in omega (arith, times_here b s (principal s) refl, w)
taken_is_over b s d universal other h = other refl

segment_last : (n : ℕ) (ds : List Done) (d : Done) → segment_after n (ds ++ d ∷ []) ≡ segment_after (segment_after n ds) (d ∷ [])
segment_last n [] d = refl
segment_last n (expand i ∷ ds) d = segment_last n ds d
segment_last n (rewrite i r ∷ ds) d = segment_last n ds d
segment_last n (skolemize i x ∷ ds) d = segment_last n ds d
segment_last n (instantiate i x ∷ ds) d = segment_last n ds d
segment_last n (go_left i ∷ ds) d = segment_last (2 * n) ds d
segment_last n (go_right i ∷ ds) d = segment_last (2 * n + 1) ds d

pub segment_grow : (b : Branch) (d : Done) → segment (after b d) ≡ segment_after (segment b) (d ∷ [])
segment_grow b d = segment_last 1 b.steps d

metavars_made_last : (n : ℕ) (ds : List Done) (d : Done) → metavars_made n (ds ++ d ∷ []) ≡ metavars_made (metavars_made n ds) (d ∷ [])
metavars_made_last n [] d = refl
metavars_made_last n (expand i ∷ ds) d = metavars_made_last n ds d
metavars_made_last n (rewrite i r ∷ ds) d = metavars_made_last n ds d
metavars_made_last n (skolemize i x ∷ ds) d = metavars_made_last n ds d
metavars_made_last n (instantiate i x ∷ ds) d = metavars_made_last (suc n) ds d
metavars_made_last n (go_left i ∷ ds) d = metavars_made_last 0 ds d
metavars_made_last n (go_right i ∷ ds) d = metavars_made_last 0 ds d

pub metavars_made_grow : (b : Branch) (d : Done) → metavars_made 0 (after b d).steps ≡ metavars_made (metavars_made 0 b.steps) (d ∷ [])
metavars_made_grow b d = metavars_made_last 0 b.steps d

skolems_made_last : (n : ℕ) (ds : List Done) (d : Done) → skolems_made n (ds ++ d ∷ []) ≡ skolems_made (skolems_made n ds) (d ∷ [])
skolems_made_last n [] d = refl
skolems_made_last n (expand i ∷ ds) d = skolems_made_last n ds d
skolems_made_last n (rewrite i r ∷ ds) d = skolems_made_last n ds d
skolems_made_last n (skolemize i x ∷ ds) d = skolems_made_last (suc n) ds d
skolems_made_last n (instantiate i x ∷ ds) d = skolems_made_last n ds d
skolems_made_last n (go_left i ∷ ds) d = skolems_made_last 0 ds d
skolems_made_last n (go_right i ∷ ds) d = skolems_made_last 0 ds d

pub skolems_made_grow : (b : Branch) (d : Done) → skolems_made 0 (after b d).steps ≡ skolems_made (skolems_made 0 b.steps) (d ∷ [])
skolems_made_grow b d = skolems_made_last 0 b.steps d

-- when an entry last joined

before_after : (b : Branch) (d : Done) (n : ℕ) → n ≤ length b.steps → before (after b d) n ≡ before b n
before_after b d n le = ap (λ ds. record { start = b.start; rules = b.rules; steps = ds }) (take-append-le n b.steps (d ∷ []) le)

joins_stays : (b : Branch) (d : Done) (i n : ℕ) → n < length b.steps → joins (after b d) i n ≡ joins b i n
joins_stays b d i n lt =
    ap (λ o. takes o i || (nat_le (length (entries (before (after b d) n))) i && nat_lt i (length (entries (before (after b d) (suc n)))))) (get_front b.steps (d ∷ []) n lt)
    ∙ ap (λ z. takes (slice_get b.steps n) i || (nat_le (length (entries z)) i && nat_lt i (length (entries (before (after b d) (suc n)))))) (before_after b d n (omega (arith, lt)))
    ∙ ap (λ z. takes (slice_get b.steps n) i || (nat_le (length (entries (before b n))) i && nat_lt i (length (entries z)))) (before_after b d (suc n) (omega (arith, lt)))

joined_stays : (b : Branch) (d : Done) (i n : ℕ) → n ≤ length b.steps → last_joined (after b d) i n ≡ last_joined b i n
joined_stays b d i zero le = refl
joined_stays b d i (suc n) le =
    ap (λ q. if q then suc n else last_joined (after b d) i n) (joins_stays b d i n (omega (arith, le)))
    ∙ ap (λ m. if joins b i n then suc n else m) (joined_stays b d i n (omega (arith, le)))

get_end : {A : Type 0} (xs : List A) (a : A) → slice_get (xs ++ a ∷ []) (length xs) ≡ Some a
get_end [] a = refl
get_end (x ∷ xs) a = get_end xs a

before_all : (b : Branch) (d : Done) → before (after b d) (length b.steps) ≡ b
before_all b d = ap (λ ds. record { start = b.start; rules = b.rules; steps = ds }) (take-append_seam b.steps (d ∷ []))

before_end : (b : Branch) (d : Done) → before (after b d) (suc (length b.steps)) ≡ after b d
before_end b d =
    ap (λ ds. record { start = b.start; rules = b.rules; steps = ds })
    (ap (λ n. take n (b.steps ++ d ∷ [])) (let e : suc (length b.steps) ≡ length (b.steps ++ d ∷ []) = omega (arith, length-append b.steps (d ∷ [])) in e) ∙ take-length (b.steps ++ d ∷ []))

-- whether the last step took or appended the entry
abbrev joins_last : Branch → Done → ℕ → Bool
joins_last b d i = eqb (principal d) i || (nat_le (length (entries b)) i && nat_lt i (length (entries (after b d))))

last_joins : (b : Branch) (d : Done) (i : ℕ) → joins (after b d) i (length b.steps) ≡ joins_last b d i
last_joins b d i =
    ap (λ o. takes o i || (nat_le (length (entries (before (after b d) (length b.steps)))) i && nat_lt i (length (entries (before (after b d) (suc (length b.steps))))))) (get_end b.steps d)
    ∙ ap (λ z. eqb (principal d) i || (nat_le (length (entries z)) i && nat_lt i (length (entries (before (after b d) (suc (length b.steps))))))) (before_all b d)
    ∙ ap (λ z. eqb (principal d) i || (nat_le (length (entries b)) i && nat_lt i (length (entries z)))) (before_end b d)

pub joined_grow : (b : Branch) (d : Done) (i : ℕ) → joined_at (after b d) i ≡ (if joins_last b d i then suc (length b.steps) else joined_at b i)
joined_grow b d i =
    ap (λ n. last_joined (after b d) i n) (let e : length (b.steps ++ d ∷ []) ≡ suc (length b.steps) = omega (arith, length-append b.steps (d ∷ [])) in e)
    ∙ ap (λ q. if q then suc (length b.steps) else last_joined (after b d) i (length b.steps)) (last_joins b d i)
    ∙ ap (λ m. if joins_last b d i then suc (length b.steps) else m) (joined_stays b d i (length b.steps) (omega arith))

-- an entry that was there and that the step did not take joined when it had
pub joined_other : (b : Branch) (d : Done) (i : ℕ) → i < length (entries b) → (principal d ≡ i → ⊥) → joined_at (after b d) i ≡ joined_at b i
joined_other b d i lt other = joined_grow b d i ∙ by_tests (eqb_tells (principal d) i) (leb_tells (length (entries b)) i) where
  by_tests : ((eqb (principal d) i ≡ true) × (principal d ≡ i)) ⊎ ((eqb (principal d) i ≡ false) × (principal d ≡ i → ⊥))
      → ((leb (length (entries b)) i ≡ true) × (length (entries b) ≤ i)) ⊎ ((leb (length (entries b)) i ≡ false) × (i < length (entries b)))
      → (if joins_last b d i then suc (length b.steps) else joined_at b i) ≡ joined_at b i
  by_tests (inl p) q = absurd (other p.1)
  by_tests (inr p) (inl q) = absurd (let le : length (entries b) ≤ i = q.1 in let none : ⊥ = omega (arith, le, lt) in none)
  by_tests (inr p) (inr q) =
      ap (λ t. if t || (nat_le (length (entries b)) i && nat_lt i (length (entries (after b d)))) then suc (length b.steps) else joined_at b i) p.0
      ∙ ap (λ t. if t && nat_lt i (length (entries (after b d))) then suc (length b.steps) else joined_at b i) q.0

-- the entry that the step took joins with it
pub joined_taken : (b : Branch) (d : Done) (i : ℕ) → principal d ≡ i → joined_at (after b d) i ≡ suc (length b.steps)
joined_taken b d i e =
    joined_grow b d i
    ∙ ap (λ t. if t || (nat_le (length (entries b)) i && nat_lt i (length (entries (after b d)))) then suc (length b.steps) else joined_at b i) (eq-eqb (principal d) i e)

-- and so does one that the step appended
pub joined_appended : (b : Branch) (d : Done) (i : ℕ) → length (entries b) ≤ i → i < length (entries (after b d)) → joined_at (after b d) i ≡ suc (length b.steps)
joined_appended b d i le lt = joined_grow b d i ∙ by_tests (eqb_tells (principal d) i) (leb_tells (length (entries b)) i) (leb_tells (suc i) (length (entries (after b d)))) where
  by_tests : ((eqb (principal d) i ≡ true) × (principal d ≡ i)) ⊎ ((eqb (principal d) i ≡ false) × (principal d ≡ i → ⊥))
      → ((leb (length (entries b)) i ≡ true) × (length (entries b) ≤ i)) ⊎ ((leb (length (entries b)) i ≡ false) × (i < length (entries b)))
      → ((leb (suc i) (length (entries (after b d))) ≡ true) × (suc i ≤ length (entries (after b d)))) ⊎ ((leb (suc i) (length (entries (after b d))) ≡ false) × (length (entries (after b d)) < suc i))
      → (if joins_last b d i then suc (length b.steps) else joined_at b i) ≡ suc (length b.steps)
  by_tests (inl p) q r = ap (λ t. if t || (nat_le (length (entries b)) i && nat_lt i (length (entries (after b d)))) then suc (length b.steps) else joined_at b i) p.0
  by_tests (inr p) (inr q) r = absurd (let h : i < length (entries b) = q.1 in let none : ⊥ = omega (arith, h, le) in none)
  by_tests (inr p) (inl q) (inr r) = absurd (let h : length (entries (after b d)) < suc i = r.1 in let none : ⊥ = omega (arith, h, lt) in none)
  by_tests (inr p) (inl q) (inl r) =
      ap (λ t. if t || (nat_le (length (entries b)) i && nat_lt i (length (entries (after b d)))) then suc (length b.steps) else joined_at b i) p.0
      ∙ ap (λ t. if t && nat_lt i (length (entries (after b d))) then suc (length b.steps) else joined_at b i) q.0
      ∙ ap (λ t. if t then suc (length b.steps) else joined_at b i) r.0

-- a start entry that was not taken joined before the first step
pub joined_start : (b : Branch) (i : ℕ) → b.steps ≡ [] → joined_at b i ≡ 0
joined_start b i e = ap (λ n. last_joined b i n) (ap length e)
