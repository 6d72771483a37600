-- Entries join the queue, and turns are over.
use Rattle.std.proofs.Common.{◌≡◌, ◌↔◌, ℕ, zero, suc, ◌+◌, ◌<◌, ◌≤◌, Bool, true, false, List, [], ◌∷◌, ◌++◌, length, get_or, Option, Some, None, IsSome, slice_get, refl, ap, sym, ◌∙◌, subst, arith, ◌⊎◌, inl, inr, length-append}
use Rattle.std.proofs.lemmas.Bool.{false≢true}
use Rattle.std.proofs.lemmas.Option.{slice_get_within, slice_get-get_or}
use Rattle.fol_core.specs.Syntax.{FormulaOver, atom, verum, falsum, not, and, or, imp, iff, all, ex}
use Rattle.gs3_rules.specs.Rules.{gamma_part}
use Rattle.free_terms.specs.Free.{FreeFormula}
use Rattle.branch_rules.specs.Branch.{Branch, Entry, entries, times_taken, joined_at}
use Rattle.branch_rules.specs.Kinds.{kind_of}
use Rattle.branch_rules.specs.BranchView.{TurnBefore, IsOpen, IsUniversal, HasTurn, OverBefore, IsSearched, Reads, born_in, branch_in}
use Rattle.branch_rules.specs.Plans.{IsFree}
use Rattle.branch_rules.specs.declared.branch.Turn.{Turn}
use Rattle.branch_rules.specs.declared.branch.Agenda.{Agenda}
use Rattle.branch_rules.specs.declared.branch.Lists.{Lists}
use Rattle.branch_rules.specs.declared.kinds.Kind.{Kind}
use Rattle.branch_rules.specs.declared.kinds.Kind.TheVariants.{Conjunctive, Existential, Disjunctive, Universal, Literal}
use Rattle.branch_rules.proofs.Agendas.{below_or_not, get_last, get_stays, get_end}
use Rattle.branch_rules.proofs.Chosen.{length_is}

pub gamma_kind : (a : FreeFormula) → IsSome (gamma_part (λ b. b) a) → kind_of a ≡ Universal
gamma_kind (all a) s = refl
gamma_kind (not (ex a)) s = refl
gamma_kind a s = absurd (false≢true s)

pub kind_gamma : (a : FreeFormula) → kind_of a ≡ Universal → IsSome (gamma_part (λ b. b) a)
kind_gamma (all a) e = refl
kind_gamma (not (ex a)) e = refl
kind_gamma (atom p us) e = absurd (let z : Literal ≡ Universal = e in cc)
kind_gamma verum e = absurd (let z : Literal ≡ Universal = e in cc)
kind_gamma falsum e = absurd (let z : Literal ≡ Universal = e in cc)
kind_gamma (and a b) e = absurd (let z : Conjunctive ≡ Universal = e in cc)
kind_gamma (or a b) e = absurd (let z : Disjunctive ≡ Universal = e in cc)
kind_gamma (imp a b) e = absurd (let z : Disjunctive ≡ Universal = e in cc)
kind_gamma (iff a b) e = absurd (let z : Disjunctive ≡ Universal = e in cc)
kind_gamma (ex a) e = absurd (let z : Existential ≡ Universal = e in cc)
kind_gamma (not (atom p us)) e = absurd (let z : Literal ≡ Universal = e in cc)
kind_gamma (not verum) e = absurd (let z : Literal ≡ Universal = e in cc)
kind_gamma (not falsum) e = absurd (let z : Literal ≡ Universal = e in cc)
kind_gamma (not (not a)) e = absurd (let z : Conjunctive ≡ Universal = e in cc)
kind_gamma (not (and a b)) e = absurd (let z : Disjunctive ≡ Universal = e in cc)
kind_gamma (not (or a b)) e = absurd (let z : Conjunctive ≡ Universal = e in cc)
kind_gamma (not (imp a b)) e = absurd (let z : Conjunctive ≡ Universal = e in cc)
kind_gamma (not (iff a b)) e = absurd (let z : Disjunctive ≡ Universal = e in cc)
kind_gamma (not (all a)) e = absurd (let z : Existential ≡ Universal = e in cc)

free_universal : (b : Branch) (i : ℕ) → IsFree b Universal i → IsUniversal b i
free_universal b i f = (f.0, f.1, f.2, kind_gamma f.0.formula f.3)

universal_free : (b : Branch) (i : ℕ) → times_taken b i ≡ 0 → IsUniversal b i → IsFree b Universal i
universal_free b i t u = (u.0, u.1, u.2, gamma_kind u.0.formula u.3, t)

abbrev pub with_universal : Agenda → ℕ → Agenda
with_universal g n = record g { universal = n }

below_next : (i j : ℕ) → i < suc j → (i < j) ⊎ (i ≡ j)
below_next i j lt = by_place (below_or_not i j) where
  by_place : (i < j) ⊎ (j ≤ i) → (i < j) ⊎ (i ≡ j)
  by_place (inl less) = inl less
  by_place (inr more) = inr (omega (arith, lt, more))

-- An entry that is not universal is passed.
pub passes_one : (b : Branch) (g : Agenda) (born : List ℕ) (turns : List Turn) (n : ℕ) → n ≡ suc g.universal → g.universal < length (entries b) → (IsUniversal b g.universal → ⊥)
    → IsSearched b g born turns → IsSearched b (with_universal g n) born turns
passes_one b g born turns n next lt other h = record {
  conjunctive_within = h.conjunctive_within;
  existential_within = h.existential_within;
  disjunctive_within = h.disjunctive_within;
  universal_within = omega (arith, lt, next);
  turn_within = h.turn_within;
  conjunctive_over = h.conjunctive_over;
  existential_over = h.existential_over;
  disjunctive_over = h.disjunctive_over;
  have_turns = λ i less u. turn_of i u (below_next i g.universal (omega (arith, less, next)));
  turns_over = h.turns_over;
  in_order = h.in_order;
  turns_place = λ m t at. let w : t.place < g.universal = h.turns_place m t at in omega (arith, w, next);
  turns_universal = h.turns_universal;
  turns_used = h.turns_used;
  turns_own = h.turns_own;
  turns_within = h.turns_within;
  turns_joined = λ m i t at le less. h.turns_joined m i t at (omega (arith, le, next)) less;
  unused = λ i le u. h.unused i (omega (arith, le, next)) u;
  untaken = h.untaken;
} where
  turn_of : (i : ℕ) → IsUniversal b i → (i < g.universal) ⊎ (i ≡ g.universal) → HasTurn b turns i
  turn_of i u (inl less) = h.have_turns i less u
  turn_of i u (inr e) = absurd (other (subst (IsUniversal b) e u))

abbrev pub first_turn : ℕ → ℕ → Turn
first_turn joined place = record { joined = joined; place = place; uses = 0 }

-- A universal entry joins, and with it its turn.
pub joins_one : (b : Branch) (l : Lists) (g : Agenda) (turns : List Turn) (n joined place : ℕ) → Reads b l → place ≡ g.universal → joined ≡ get_or (born_in l) g.universal 0 → n ≡ suc g.universal
    → g.universal < length (entries b) → IsUniversal b g.universal → IsSearched b g (born_in l) turns → IsSearched b (with_universal g n) (born_in l) (turns ++ first_turn joined place ∷ [])
joins_one b l g turns n joined place reads at_place is_joined next lt here h = record {
  conjunctive_within = h.conjunctive_within;
  existential_within = h.existential_within;
  disjunctive_within = h.disjunctive_within;
  universal_within = omega (arith, lt, next);
  turn_within = let w : g.turn ≤ length turns = h.turn_within in omega (arith, w, length-append turns (v ∷ []));
  conjunctive_over = h.conjunctive_over;
  existential_over = h.existential_over;
  disjunctive_over = h.disjunctive_over;
  have_turns = λ i less u. turn_of i u (below_next i g.universal (omega (arith, less, next)));
  turns_over = λ m t less at still. over m t less (get_last turns v m t at) still;
  in_order = λ m k t u less at_m at_k. order m k t u less (get_last turns v m t at_m) (get_last turns v k u at_k);
  turns_place = λ m t at. place_of m t (get_last turns v m t at);
  turns_universal = λ m t at. universal_of m t (get_last turns v m t at);
  turns_used = λ m t at. used_of m t (get_last turns v m t at);
  turns_own = λ m t at still. own_of m t (get_last turns v m t at) still;
  turns_within = λ m t at. within_of m t (get_last turns v m t at);
  turns_joined = λ m i t at le less. joined_of m i t (get_last turns v m t at) (omega (arith, le, next)) less;
  unused = λ i le u. h.unused i (omega (arith, le, next)) u;
  untaken = h.untaken;
} where
  v : Turn
  v = first_turn joined place

  none_taken : times_taken b g.universal ≡ 0
  none_taken = h.unused g.universal (omega arith) here

  inside : g.universal < length l.entries.items
  inside = omega (arith, lt, length_is b l reads)

  joins_at : joined ≡ joined_at b g.universal
  joins_at = is_joined ∙ reads.born_are g.universal inside none_taken

  turn_of : (i : ℕ) → IsUniversal b i → (i < g.universal) ⊎ (i ≡ g.universal) → HasTurn b (turns ++ v ∷ []) i
  turn_of i u (inl less) = let t = h.have_turns i less u in record {
    number = t.number;
    turn = t.turn;
    at = get_stays turns (v ∷ []) t.number t.turn t.at;
    place = t.place;
    joined = t.joined;
    uses = t.uses;
  }
  turn_of i u (inr e) = record {
    number = length turns;
    turn = v;
    at = get_end turns v;
    place = at_place ∙ sym e;
    joined = joins_at ∙ ap (joined_at b) (sym e);
    uses = sym none_taken ∙ ap (times_taken b) (sym e);
  }

  over : (m : ℕ) (t : Turn) → m < g.turn → (slice_get turns m ≡ Some t) ⊎ ((m ≡ length turns) × (v ≡ t)) → IsOpen b t → g.depth ≤ t.uses
  over m t less (inl at) still = h.turns_over m t less at still
  over m t less (inr e) still = absurd (let w : g.turn ≤ length turns = h.turn_within in let none : ⊥ = omega (arith, less, w, e.0) in none)

  order : (m k : ℕ) (t u : Turn) → m < k → (slice_get turns m ≡ Some t) ⊎ ((m ≡ length turns) × (v ≡ t)) → (slice_get turns k ≡ Some u) ⊎ ((k ≡ length turns) × (v ≡ u)) → TurnBefore t u
  order m k t u le (inl x) (inl y) = h.in_order m k t u le x y
  order m k t u le (inl x) (inr y) = by_order (below_or_not t.joined u.joined) where
    early : t.joined ≤ u.joined
    early = let w : t.joined ≤ get_or (born_in l) g.universal 0 = h.turns_joined m g.universal t x (omega arith) lt in let e : u.joined ≡ joined = ap (λ z. z.joined) (sym y.1) in omega (arith, w, e, is_joined)

    before : t.place < u.place
    before = let w : t.place < g.universal = h.turns_place m t x in let e : u.place ≡ place = ap (λ z. z.place) (sym y.1) in omega (arith, w, e, at_place)

    by_order : (t.joined < u.joined) ⊎ (u.joined ≤ t.joined) → TurnBefore t u
    by_order (inl less) = inl less
    by_order (inr more) = inr (omega (arith, early, more), before)
  order m k t u le (inr x) (inl y) = absurd (let w : k < length turns = slice_get_within turns k u y in let none : ⊥ = omega (arith, w, x.0, le) in none)
  order m k t u le (inr x) (inr y) = absurd (let none : ⊥ = omega (arith, x.0, y.0, le) in none)

  place_of : (m : ℕ) (t : Turn) → (slice_get turns m ≡ Some t) ⊎ ((m ≡ length turns) × (v ≡ t)) → t.place < n
  place_of m t (inl at) = let w : t.place < g.universal = h.turns_place m t at in omega (arith, w, next)
  place_of m t (inr e) = let p : t.place ≡ place = ap (λ z. z.place) (sym e.1) in omega (arith, p, at_place, next)

  universal_of : (m : ℕ) (t : Turn) → (slice_get turns m ≡ Some t) ⊎ ((m ≡ length turns) × (v ≡ t)) → IsUniversal b t.place
  universal_of m t (inl at) = h.turns_universal m t at
  universal_of m t (inr e) = subst (IsUniversal b) (sym at_place ∙ ap (λ z. z.place) e.1) here

  used_of : (m : ℕ) (t : Turn) → (slice_get turns m ≡ Some t) ⊎ ((m ≡ length turns) × (v ≡ t)) → t.uses ≤ times_taken b t.place
  used_of m t (inl at) = h.turns_used m t at
  used_of m t (inr e) = let u : t.uses ≡ 0 = ap (λ z. z.uses) (sym e.1) in omega (arith, u)

  own_of : (m : ℕ) (t : Turn) → (slice_get turns m ≡ Some t) ⊎ ((m ≡ length turns) × (v ≡ t)) → IsOpen b t → t.joined ≡ joined_at b t.place
  own_of m t (inl at) still = h.turns_own m t at still
  own_of m t (inr e) still = ap (λ z. z.joined) (sym e.1) ∙ joins_at ∙ ap (joined_at b) (sym at_place ∙ ap (λ z. z.place) e.1)

  within_of : (m : ℕ) (t : Turn) → (slice_get turns m ≡ Some t) ⊎ ((m ≡ length turns) × (v ≡ t)) → t.joined ≤ length b.steps
  within_of m t (inl at) = h.turns_within m t at
  within_of m t (inr e) =
      let j : t.joined ≡ joined = ap (λ z. z.joined) (sym e.1) in
      let w : get_or (born_in l) g.universal 0 ≤ length b.steps = reads.born_before g.universal inside in omega (arith, j, w, is_joined)

  joined_of : (m i : ℕ) (t : Turn) → (slice_get turns m ≡ Some t) ⊎ ((m ≡ length turns) × (v ≡ t)) → g.universal ≤ i → i < length (entries b) → t.joined ≤ get_or (born_in l) i 0
  joined_of m i t (inl at) le less = h.turns_joined m i t at le less
  joined_of m i t (inr e) le less =
      let j : t.joined ≡ joined = ap (λ z. z.joined) (sym e.1) in
      let w : get_or (born_in l) g.universal 0 ≤ get_or (born_in l) i 0 = reads.born_rise g.universal i le (omega (arith, less, length_is b l reads)) in omega (arith, j, w, is_joined)

-- A turn that is not served is over.
pub turn_over : (b : Branch) (g : Agenda) (born : List ℕ) (turns : List Turn) (n : ℕ) (t : Turn) → n ≡ suc g.turn → g.turn < length turns → slice_get turns g.turn ≡ Some t
    → (IsOpen b t × (t.uses < g.depth) → ⊥) → IsSearched b g born turns → IsSearched b (record g { turn = n }) born turns
turn_over b g born turns n t next lt at over h = record {
  conjunctive_within = h.conjunctive_within;
  existential_within = h.existential_within;
  disjunctive_within = h.disjunctive_within;
  universal_within = h.universal_within;
  turn_within = omega (arith, lt, next);
  conjunctive_over = h.conjunctive_over;
  existential_over = h.existential_over;
  disjunctive_over = h.disjunctive_over;
  have_turns = h.have_turns;
  turns_over = λ m u less at_m still. by_number m u at_m still (below_next m g.turn (omega (arith, less, next)));
  in_order = h.in_order;
  turns_place = h.turns_place;
  turns_universal = h.turns_universal;
  turns_used = h.turns_used;
  turns_own = h.turns_own;
  turns_within = h.turns_within;
  turns_joined = h.turns_joined;
  unused = h.unused;
  untaken = h.untaken;
} where
  by_number : (m : ℕ) (u : Turn) → slice_get turns m ≡ Some u → IsOpen b u → (m < g.turn) ⊎ (m ≡ g.turn) → g.depth ≤ u.uses
  by_number m u at_m still (inl less) = h.turns_over m u less at_m still
  by_number m u at_m still (inr e) = by_uses (below_or_not u.uses g.depth) where
    same : t ≡ u
    same = some_once t u (sym at ∙ ap (slice_get turns) (sym e) ∙ at_m) where
      some_once : {A : Type 0} (x y : A) → Some x ≡ Some y → x ≡ y
      some_once x y q = cc

    by_uses : (u.uses < g.depth) ⊎ (g.depth ≤ u.uses) → g.depth ≤ u.uses
    by_uses (inl few) = absurd (over (subst (IsOpen b) (sym same) still, subst (λ z. z.uses < g.depth) (sym same) few))
    by_uses (inr many) = many

-- what the agenda says of the turns before its number
pub over_before : (b : Branch) (g : Agenda) (born : List ℕ) (turns : List Turn) (d n : ℕ) → g.depth ≡ d → g.turn ≡ n → IsSearched b g born turns → OverBefore b d turns n
over_before b g born turns d n depth at h m t lt is still = subst (λ k. k ≤ t.uses) depth (h.turns_over m t (omega (arith, lt, at)) is still)

pub joined_or_passed : (b : Branch) (g : Agenda) (i : ℕ) (r : Bool) → g.universal ≡ i → (r ≡ true) ↔ IsFree b Universal i → ((j : ℕ) → g.universal ≤ j → IsUniversal b j → times_taken b j ≡ 0)
    → ((r ≡ true) → IsUniversal b g.universal) × ((r ≡ false) → IsUniversal b g.universal → ⊥)
joined_or_passed b g i r at h unused = (
  λ t. subst (IsUniversal b) (sym at) (free_universal b i (h.0 t)),
  λ f u. false≢true (sym f ∙ h.1 (universal_free b i (ap (times_taken b) (sym at) ∙ unused g.universal (omega arith) u) (subst (IsUniversal b) at u))),
)
