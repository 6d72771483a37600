-- The occurrences of a literal, from the newest one back.
use Rattle.std.proofs.Common.{◌≡◌, ◌<◌, ◌≤◌, ℕ, zero, suc, Bool, true, false, cond, List, [], ◌∷◌, ◌++◌, length, map, take, reverse, filter, Option, Some, None, slice_get, if◌then◌else◌, All, AllPairs, refl, ap, sym, subst, ◌∙◌, arith}
use Rattle.std.proofs.lemmas.List.{get_or-map, map-append, take-append-le, take-take, length-map, reverse-append}
use Rattle.std.proofs.Math.Seq.{take-length}
use Rattle.std.proofs.Common.{◌⊎◌, inl, inr, append_assoc, append-nil, get_or, eqb, option_map}
use Rattle.std.specs.Bool.{beq}
use Rattle.std.proofs.lemmas.Bool.{false≢true, and_parts, eqb-true}
use Rattle.std.proofs.lemmas.Option.{slice_get_within, slice_get-map, slice_get-get_or}
use Rattle.std.proofs.lemmas.List.Kept.{AllPairs-filter}
use Rattle.std.proofs.lemmas.List.Quantifiers.{all_pairs_push}
use Rattle.std.specs.HashMap.{get, Updates}
use Rattle.lit_index.specs.Occurrences.{Occurrence, occurrence, IsBefore, places_of}
use Rattle.lit_index.specs.Links.{places_back, occurrence_of, own_of, last_or, last_at, test_of, AreLinked, Newest, is_same, AreNewest}
use Rattle.lit_index.specs.declared.segment.Held.{Held}
use Rattle.lit_index.specs.declared.segment.Literal.{Literal}

some_is_none : {A : Type 0} (a : A) → Some a ≡ None → ⊥
some_is_none a e = cc

some_once : {A : Type 0} (a b : A) → Some a ≡ Some b → a ≡ b
some_once a b e = cc

none_passes : (t : Occurrence → Bool) (os : List Occurrence) → last_at t os ≡ None → filter t os ≡ []
none_passes t [] e = refl
none_passes t (o ∷ os) e = by_case (last_at t os) (t o) refl e (none_passes t os) where
  by_case : (l : Option ℕ) (b : Bool) → t o ≡ b → last_or l b ≡ None → (l ≡ None → filter t os ≡ []) → filter t (o ∷ os) ≡ []
  by_case (Some j) b is e later = absurd (some_is_none (suc j) e)
  by_case None true is e later = absurd (some_is_none zero e)
  by_case None false is e later = ap (λ (z : Bool). cond z (o ∷ filter t os) (filter t os)) is ∙ later refl

-- an occurrence that passes the test, and behind which none does
pub record IsLast (t : Occurrence → Bool) (os : List Occurrence) (i : ℕ) : Type 0 where
  pub found : Occurrence
  pub at : slice_get os i ≡ Some found
  pub passes : t found ≡ true
  pub before : filter t os ≡ filter t (take i os) ++ found ∷ []

cond_in_front : {A : Type 0} (b : Bool) (x : A) (xs ys : List A) → cond b (x ∷ (xs ++ ys)) (xs ++ ys) ≡ cond b (x ∷ xs) xs ++ ys
cond_in_front true x xs ys = refl
cond_in_front false x xs ys = refl

last_is : (t : Occurrence → Bool) (os : List Occurrence) (i : ℕ) → last_at t os ≡ Some i → IsLast t os i
last_is t [] i e = absurd (some_is_none i (sym e))
last_is t (o ∷ os) i e = by_case (last_at t os) (t o) refl e (last_is t os) (none_passes t os) where
  further : (j : ℕ) → IsLast t os j → IsLast t (o ∷ os) (suc j)
  further j p = record {
    found = p.found;
    at = p.at;
    passes = p.passes;
    before = ap (λ (z : List Occurrence). cond (t o) (o ∷ z) z) p.before ∙ cond_in_front (t o) o (filter t (take j os)) (p.found ∷ []);
  }

  by_case : (l : Option ℕ) (b : Bool) → t o ≡ b → last_or l b ≡ Some i → ((j : ℕ) → l ≡ Some j → IsLast t os j) → (l ≡ None → filter t os ≡ [])
      → IsLast t (o ∷ os) i
  by_case (Some j) b is e later none = subst (IsLast t (o ∷ os)) (some_once (suc j) i e) (further j (later j refl))
  by_case None true is e later none =
      subst (IsLast t (o ∷ os)) (some_once zero i e)
      (record {
        found = o;
        at = refl;
        passes = is;
        before = ap (λ (z : Bool). cond z (o ∷ filter t os) (filter t os)) is ∙ ap (λ (z : List Occurrence). o ∷ z) (none refl);
      })
  by_case None false is e later none = absurd (some_is_none i (sym e))

last_push : (t : Occurrence → Bool) (os : List Occurrence) (o : Occurrence)
    → last_at t (os ++ o ∷ []) ≡ (if t o then Some (length os) else last_at t os)
last_push t [] o = by_case (t o) where
  by_case : (b : Bool) → last_or None b ≡ (if b then Some zero else None)
  by_case true = refl
  by_case false = refl
last_push t (q ∷ os) o = ap (λ (l : Option ℕ). last_or l (t q)) (last_push t os o) ∙ by_case (t o) where
  by_case : (b : Bool) → last_or (if b then Some (length os) else last_at t os) (t q) ≡ (if b then Some (suc (length os)) else last_or (last_at t os) (t q))
  by_case true = refl
  by_case false = refl

own_push : (hs : List Held) (h : Held) → own_of (hs ++ h ∷ []) ≡ own_of hs ++ occurrence_of h ∷ []
own_push hs h = map-append occurrence_of hs (h ∷ [])

length_own : (hs : List Held) → length (own_of hs) ≡ length hs
length_own hs = length-map hs occurrence_of

got_of_push : (hs : List Held) (h k : Held) (i : ℕ) → slice_get (hs ++ h ∷ []) i ≡ Some k
    → (slice_get hs i ≡ Some k) ⊎ ((i ≡ length hs) × (h ≡ k))
got_of_push [] h k zero e = inr (refl, some_once h k e)
got_of_push [] h k (suc i) e = absurd (some_is_none k (sym e))
got_of_push (g ∷ hs) h k zero e = inl e
got_of_push (g ∷ hs) h k (suc i) e = by_case (got_of_push hs h k i e) where
  by_case : (slice_get hs i ≡ Some k) ⊎ ((i ≡ length hs) × (h ≡ k)) → (slice_get hs i ≡ Some k) ⊎ ((suc i ≡ suc (length hs)) × (h ≡ k))
  by_case (inl p) = inl p
  by_case (inr p) = inr (ap suc p.0, p.1)

take_own : (hs : List Held) (h : Held) (i : ℕ) → i ≤ length hs → take i (own_of hs) ≡ take i (own_of (hs ++ h ∷ []))
take_own hs h i small =
    sym (ap (take i) (own_push hs h)
    ∙ take-append-le i (own_of hs) (occurrence_of h ∷ []) (let e : i ≤ length (own_of hs) = omega (arith, small, length_own hs) in e))

pub linked_push : (hs : List Held) (h : Held) → AreLinked hs → h.earlier ≡ last_at (test_of h.literal) (own_of hs) → AreLinked (hs ++ h ∷ [])
linked_push hs h linked newest i k e = by_case (got_of_push hs h k i e) where
  whole : take (length hs) (own_of hs) ≡ own_of hs
  whole = ap (λ (n : ℕ). take n (own_of hs)) (sym (length_own hs)) ∙ take-length (own_of hs)

  by_case : (slice_get hs i ≡ Some k) ⊎ ((i ≡ length hs) × (h ≡ k))
      → k.earlier ≡ last_at (test_of k.literal) (take i (own_of (hs ++ h ∷ [])))
  by_case (inl p) =
      linked i k p
      ∙ ap (last_at (test_of k.literal)) (take_own hs h i (let s : i < length hs = slice_get_within hs i k p in let z : i ≤ length hs = omega (arith, s) in z))
  by_case (inr p) =
      let at_end : h.earlier ≡ last_at (test_of h.literal) (take (length hs) (own_of (hs ++ h ∷ []))) =
      newest ∙ ap (last_at (test_of h.literal)) (sym whole ∙ take_own hs h (length hs) (let z : length hs ≤ length hs = omega arith in z)) in
      subst (λ (g : Held). g.earlier ≡ last_at (test_of g.literal) (take i (own_of (hs ++ h ∷ [])))) p.1
      (subst (λ (n : ℕ). h.earlier ≡ last_at (test_of h.literal) (take n (own_of (hs ++ h ∷ [])))) (sym p.0) at_end)

pub newest_push : (hs : List Held) (h : Held) (old new : Newest) → AreNewest (own_of hs) old → Updates is_same old new h.literal (Some (length hs))
    → AreNewest (own_of (hs ++ h ∷ [])) new
newest_push hs h old new newest updates q =
    updates.0 q
    ∙ ap (λ (l : Option ℕ). if is_same h.literal q then Some (length hs) else l) (newest q)
    ∙ ap (λ (n : ℕ). if is_same h.literal q then Some n else last_at (test_of q) (own_of hs)) (sym (length_own hs))
    ∙ sym (ap (last_at (test_of q)) (own_push hs h) ∙ last_push (test_of q) (own_of hs) (occurrence_of h))

-- what holds of a segment still does after a literal is added
pub segment_push : (above : List Occurrence) (hs more : List Held) (h : Held) (old new : Newest)
    → AllPairs IsBefore (above ++ own_of hs) → AreLinked hs → AreNewest (own_of hs) old
    → All (λ o. o.place < h.place) (above ++ own_of hs) → h.earlier ≡ get is_same old h.literal
    → Updates is_same old new h.literal (Some (length hs)) → more ≡ hs ++ h ∷ []
    → AllPairs IsBefore (above ++ own_of more) × AreLinked more × AreNewest (own_of more) new
segment_push above hs more h old new rising linked newest below earlier updates is = (
  subst (AllPairs IsBefore) (sym all) (all_pairs_push IsBefore (above ++ own_of hs) (occurrence_of h) rising (λ k d small. below k d small)),
  subst AreLinked (sym is) (linked_push hs h linked (earlier ∙ newest h.literal)),
  subst (λ (ks : List Held). AreNewest (own_of ks) new) (sym is) (newest_push hs h old new newest updates),
) where
  all : above ++ own_of more ≡ (above ++ own_of hs) ++ occurrence_of h ∷ []
  all = ap (λ (ks : List Held). above ++ own_of ks) is ∙ (ap (λ (os : List Occurrence). above ++ os) (own_push hs h) ∙ sym (append_assoc above (own_of hs) (occurrence_of h ∷ [])))

-- in a segment's list an occurrence stands for a literal, and leads to the one before it
pub record LeadsOn (hs : List Held) (x : Literal) (n i : ℕ) : Type 0 where
  pub held : Held
  pub at : slice_get hs i ≡ Some held
  pub within : i < n
  pub earlier : held.earlier ≡ last_at (test_of x) (take i (own_of hs))
  pub places : places_of x.negated x.predicate (take n (own_of hs)) ≡ places_of x.negated x.predicate (take i (own_of hs)) ++ held.place ∷ []

got_of_take : {A : Type 0} (xs : List A) (n i : ℕ) (x : A) → slice_get (take n xs) i ≡ Some x → (slice_get xs i ≡ Some x) × (i < n)
got_of_take [] zero i x e = absurd (some_is_none x (sym e))
got_of_take [] (suc n) i x e = absurd (some_is_none x (sym e))
got_of_take (y ∷ xs) zero i x e = absurd (some_is_none x (sym e))
got_of_take (y ∷ xs) (suc n) zero x e = (e, let z : zero < suc n = omega arith in z)
got_of_take (y ∷ xs) (suc n) (suc i) x e =
    let p : (slice_get xs i ≡ Some x) × (i < n) = got_of_take xs n i x e in
    (p.0, let z : suc i < suc n = omega (arith, p.1) in z)

held_at : (o : Option Held) (q : Occurrence) → option_map occurrence_of o ≡ Some q → (h : Held) × (o ≡ Some h) × (occurrence_of h ≡ q)
held_at None q e = absurd (some_is_none q (sym e))
held_at (Some h) q e = (h, refl, some_once _ _ e)

same_sign : (a b : Bool) → beq a b ≡ true → a ≡ b
same_sign true true e = refl
same_sign true false e = absurd (false≢true e)
same_sign false true e = absurd (false≢true e)
same_sign false false e = refl

same_literal : (x y : Literal) (place : ℕ) → test_of x (occurrence place y.negated y.predicate) ≡ true → y ≡ x
same_literal x y place e =
    let p = and_parts (beq y.negated x.negated) (eqb y.predicate x.predicate) e in
    ap (λ (n : Bool). record { negated = n; predicate = y.predicate }) (same_sign y.negated x.negated p.0)
    ∙ ap (λ (q : ℕ). record { negated = x.negated; predicate = q }) (eqb-true y.predicate x.predicate p.1)

pub leads_on : (hs : List Held) (x : Literal) (n i : ℕ) → AreLinked hs → last_at (test_of x) (take n (own_of hs)) ≡ Some i → LeadsOn hs x n i
leads_on hs x n i linked e = record {
  held = h;
  at = at.1;
  within = got.1;
  earlier = linked i h at.1 ∙ ap (λ (y : Literal). last_at (test_of y) (take i (own_of hs))) literal;
  places = places;
} where
  found : IsLast (test_of x) (take n (own_of hs)) i
  found = last_is (test_of x) (take n (own_of hs)) i e

  got : (slice_get (own_of hs) i ≡ Some found.found) × (i < n)
  got = got_of_take (own_of hs) n i found.found found.at

  at : (h : Held) × (slice_get hs i ≡ Some h) × (occurrence_of h ≡ found.found)
  at = held_at (slice_get hs i) found.found (sym (slice_get-map occurrence_of hs i) ∙ got.0)

  h : Held
  h = at.0

  literal : h.literal ≡ x
  literal = same_literal x h.literal h.place (ap (test_of x) at.2 ∙ found.passes)

  places : places_of x.negated x.predicate (take n (own_of hs)) ≡ places_of x.negated x.predicate (take i (own_of hs)) ++ h.place ∷ []
  places =
      ap (map (λ (o : Occurrence). o.place)) (found.before ∙ ap (λ (os : List Occurrence). filter (test_of x) os ++ found.found ∷ []) (take-take i n (own_of hs) (let z : i ≤ n = omega (arith, got.1) in z)))
      ∙ map-append (λ (o : Occurrence). o.place) (filter (test_of x) (take i (own_of hs))) (found.found ∷ [])
      ∙ ap (λ (q : Occurrence). places_of x.negated x.predicate (take i (own_of hs)) ++ q.place ∷ []) (sym at.2)

-- what is still to be gone through before an occurrence
abbrev pub steps_left : Option ℕ → ℕ
steps_left None = zero
steps_left (Some i) = suc i

-- the walk back stands before the first n of the segment's list, and has told of the others
abbrev pub IsBack : List Held → Literal → Option ℕ → List ℕ → List ℕ → Type 0
IsBack hs x at before out =
    (n : ℕ) × (at ≡ last_at (test_of x) (take n (own_of hs)))
    × (out ++ places_back x (take n (own_of hs)) ≡ before ++ places_back x (own_of hs))

-- it begins behind them all
pub back_begins : (hs : List Held) (x : Literal) (at : Option ℕ) (out : List ℕ) → at ≡ last_at (test_of x) (own_of hs) → IsBack hs x at out out
back_begins hs x at out e = (
  length (own_of hs),
  e ∙ ap (last_at (test_of x)) (sym (take-length (own_of hs))),
  ap (λ (os : List Occurrence). out ++ places_back x os) (take-length (own_of hs)),
)

-- where it ends, it has told of all
pub back_ends : (hs : List Held) (x : Literal) (at : Option ℕ) (before out : List ℕ) → IsBack hs x at before out → at ≡ None
    → out ≡ before ++ places_back x (own_of hs)
back_ends hs x at before out back none =
    let nothing = none_passes (test_of x) (take back.0 (own_of hs)) (sym back.1 ∙ none) in
    sym (append-nil out) ∙ ap (λ (os : List Occurrence). out ++ reverse (map (λ (o : Occurrence). o.place) os)) (sym nothing) ∙ back.2

-- one step of it
pub back_on : (hs : List Held) (x : Literal) (at : Option ℕ) (i : ℕ) (before out : List ℕ) → AreLinked hs → IsBack hs x at before out → at ≡ Some i
    → (h : Held) → h ≡ get_or hs i h → IsBack hs x h.earlier before (out ++ h.place ∷ []) × (steps_left h.earlier < steps_left at)
back_on hs x at i before out linked back is h got = ((i, earlier, told), subst (λ (l : Option ℕ). steps_left h.earlier < steps_left l) (sym is) (falls h.earlier earlier)) where
  step : LeadsOn hs x back.0 i
  step = leads_on hs x back.0 i linked (sym back.1 ∙ is)

  same : step.held ≡ h
  same = some_once _ _ (sym step.at ∙ (slice_get-get_or hs i h (slice_get_within hs i step.held step.at) ∙ ap Some (sym got)))

  earlier : h.earlier ≡ last_at (test_of x) (take i (own_of hs))
  earlier = ap (λ (g : Held). g.earlier) (sym same) ∙ step.earlier

  told : (out ++ h.place ∷ []) ++ places_back x (take i (own_of hs)) ≡ before ++ places_back x (own_of hs)
  told =
      append_assoc out (h.place ∷ []) (places_back x (take i (own_of hs)))
      ∙ ap (λ (ns : List ℕ). out ++ ns) (sym (reverse-append (places_of x.negated x.predicate (take i (own_of hs))) (h.place ∷ [])))
      ∙ ap (λ (g : Held). out ++ reverse (places_of x.negated x.predicate (take i (own_of hs)) ++ g.place ∷ [])) (sym same)
      ∙ ap (λ (ns : List ℕ). out ++ reverse ns) (sym step.places)
      ∙ back.2

  falls : (e : Option ℕ) → e ≡ last_at (test_of x) (take i (own_of hs)) → steps_left e < suc i
  falls None e = omega arith
  falls (Some j) e =
      let last : IsLast (test_of x) (take i (own_of hs)) j = last_is (test_of x) (take i (own_of hs)) j (sym e) in
      let q : (slice_get (own_of hs) j ≡ Some last.found) × (j < i) = got_of_take (own_of hs) i j last.found last.at in
      omega (arith, q.1)

pub back_within : (hs : List Held) (x : Literal) (at : Option ℕ) (i : ℕ) (before out : List ℕ) → AreLinked hs → IsBack hs x at before out → at ≡ Some i
    → i < length hs
back_within hs x at i before out linked back is =
    let step = leads_on hs x back.0 i linked (sym back.1 ∙ is) in slice_get_within hs i step.held step.at

-- the places of a literal rise where all do
pub places_rise : (x : Literal) (os : List Occurrence) → AllPairs IsBefore os → AllPairs (λ (m n : ℕ). m < n) (places_of x.negated x.predicate os)
places_rise x os rise i j d before within =
    let kept = AllPairs-filter IsBefore (test_of x) os rise in
    let small : j < length (filter (test_of x) os) = omega (arith, within, length-map (filter (test_of x) os) (λ (o : Occurrence). o.place)) in
    rw (placed i (let z : i < length (filter (test_of x) os) = omega (arith, before, small) in z), placed j small) (kept i j default before small) where
      default : Occurrence
      default = occurrence d true zero

      placed : (k : ℕ) → k < length (filter (test_of x) os) → get_or (places_of x.negated x.predicate os) k d ≡ (get_or (filter (test_of x) os) k default).place
      placed k small = get_or-map (λ (o : Occurrence). o.place) (filter (test_of x) os) k default d small
