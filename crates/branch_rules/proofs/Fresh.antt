-- What is kept of entries that no step took and of turns that are waited for.
use Rattle.std.proofs.Common.{◌≡◌, ℕ, suc, ◌+◌, ◌<◌, ◌≤◌, List, [], ◌∷◌, ◌++◌, length, Option, Some, slice_get, refl, ap, sym, ◌∙◌, subst, arith, ◌⊎◌, inl, inr}
use Rattle.std.proofs.lemmas.Option.{slice_get_within}
use Rattle.branch_rules.specs.Branch.{Branch, Done, Entry, principal, entries, after, times_taken, joined_at}
use Rattle.branch_rules.specs.Kinds.{kind_of}
use Rattle.branch_rules.specs.BranchView.{TurnBefore, IsOpen, IsUniversal, IsSearched, untaken_from, IsFresh, IsAgenda}
use Rattle.branch_rules.specs.declared.branch.Turn.{Turn}
use Rattle.branch_rules.specs.declared.branch.Agenda.{Agenda}
use Rattle.branch_rules.specs.declared.kinds.Kind.{Kind}
use Rattle.branch_rules.specs.declared.kinds.Kind.TheVariants.{Conjunctive, Existential, Disjunctive, Universal, Literal}
use Rattle.branch_rules.proofs.Changes.{times_other, times_here, entry_stays}
use Rattle.branch_rules.proofs.Agendas.{below_or_not, same_or_not, get_last}

-- the second agenda was searched further
abbrev pub IsLater : Agenda → Agenda → Type 0
IsLater g h = (k : Kind) → untaken_from g k ≤ untaken_from h k

pub conjunctive_later : (g : Agenda) (n : ℕ) → IsLater g (record g { conjunctive = n })
conjunctive_later g n Conjunctive = omega arith
conjunctive_later g n Literal = omega arith
conjunctive_later g n Existential = omega arith
conjunctive_later g n Disjunctive = omega arith
conjunctive_later g n Universal = omega arith

pub existential_later : (g : Agenda) (n : ℕ) → g.existential ≤ n → IsLater g (record g { existential = n })
existential_later g n le Conjunctive = omega arith
existential_later g n le Literal = omega arith
existential_later g n le Existential = le
existential_later g n le Disjunctive = omega arith
existential_later g n le Universal = omega arith

pub disjunctive_later : (g : Agenda) (n : ℕ) → g.disjunctive ≤ n → IsLater g (record g { disjunctive = n })
disjunctive_later g n le Conjunctive = omega arith
disjunctive_later g n le Literal = omega arith
disjunctive_later g n le Existential = omega arith
disjunctive_later g n le Disjunctive = le
disjunctive_later g n le Universal = omega arith

pub universal_later : (g : Agenda) (n : ℕ) → g.universal ≤ n → IsLater g (record g { universal = n })
universal_later g n le Conjunctive = omega arith
universal_later g n le Literal = omega arith
universal_later g n le Existential = omega arith
universal_later g n le Disjunctive = omega arith
universal_later g n le Universal = le

pub turn_later : (g : Agenda) (n : ℕ) → IsLater g (record g { turn = n })
turn_later g n Conjunctive = omega arith
turn_later g n Literal = omega arith
turn_later g n Existential = omega arith
turn_later g n Disjunctive = omega arith
turn_later g n Universal = omega arith

pub fresh_later : (b : Branch) (g h : Agenda) (turns : List Turn) → IsLater g h → g.waiting ≤ h.waiting → IsFresh b g turns → IsFresh b h turns
fresh_later b g h turns later waits f = record {
  entries_untaken = λ i e at le. f.entries_untaken i e at (let up = later (kind_of e.formula) in omega (arith, up, le));
  turns_open = λ n t le at. f.turns_open n t (omega (arith, waits, le)) at;
}

-- an open turn is added
pub fresh_joined : (b : Branch) (g : Agenda) (turns : List Turn) (v : Turn) → IsOpen b v → IsFresh b g turns → IsFresh b g (turns ++ v ∷ [])
fresh_joined b g turns v still f = record {
  entries_untaken = f.entries_untaken;
  turns_open = λ n t le at. by_place n t le (get_last turns v n t at);
} where
  by_place : (n : ℕ) (t : Turn) → g.waiting ≤ n → (slice_get turns n ≡ Some t) ⊎ ((n ≡ length turns) × (v ≡ t)) → IsOpen b t
  by_place n t le (inl at) = f.turns_open n t le at
  by_place n t le (inr e) = subst (IsOpen b) e.1 still

-- the step's entry is one before the place of its kind in the later agenda
abbrev pub IsPassed : Branch → ℕ → Agenda → Type 0
IsPassed b i h = (e : Entry) → slice_get (entries b) i ≡ Some e → i < untaken_from h (kind_of e.formula)

untaken_after : (b : Branch) (s : Done) (g h : Agenda) (turns : List Turn) → IsLater g h → IsPassed b (principal s) h → principal s < length (entries b) → ((i : ℕ) → length (entries b) ≤ i → times_taken b i ≡ 0) → IsFresh b g turns
    → (i : ℕ) (e : Entry) → slice_get (entries (after b s)) i ≡ Some e → untaken_from h (kind_of e.formula) ≤ i → times_taken (after b s) i ≡ 0
untaken_after b s g h turns later passed here beyond f i e at le = by_place (below_or_not i (length (entries b))) (same_or_not (principal s) i) where
  by_place : (i < length (entries b)) ⊎ (length (entries b) ≤ i) → (principal s ≡ i) ⊎ (principal s ≡ i → ⊥) → times_taken (after b s) i ≡ 0
  by_place (inl lt) (inl same) =
      let up = passed e (ap (slice_get (entries b)) same ∙ sym (entry_stays b s i lt) ∙ at) in absurd (let none : ⊥ = omega (arith, up, le, same) in none)
  by_place (inl lt) (inr other) =
      times_other b s i other ∙ f.entries_untaken i e (sym (entry_stays b s i lt) ∙ at) (let up = later (kind_of e.formula) in omega (arith, up, le))
  by_place (inr ge) (inl same) = absurd (let none : ⊥ = omega (arith, here, same, ge) in none)
  by_place (inr ge) (inr other) = times_other b s i other ∙ beyond i ge

-- A step that uses no universal entry.
pub fresh_kept : (b : Branch) (s : Done) (g h : Agenda) (born : List ℕ) (turns : List Turn) → IsLater g h → h.waiting ≡ g.waiting → IsPassed b (principal s) h → principal s < length (entries b)
    → (IsUniversal b (principal s) → ⊥) → IsAgenda b g born turns → IsFresh (after b s) h turns
fresh_kept b s g h born turns later waits passed here plain a = record {
  entries_untaken = untaken_after b s g h turns later passed here a.searched.untaken a.fresh;
  turns_open = λ n t le at.
      times_other b s t.place (λ e. plain (subst (IsUniversal b) (sym e) (a.searched.turns_universal n t at))) ∙ a.fresh.turns_open n t (omega (arith, le, waits)) at;
}

-- no two open turns of a queue are of one place
one_turn : (b : Branch) (g : Agenda) (born : List ℕ) (turns : List Turn) (m n : ℕ) (t u : Turn) → IsSearched b g born turns → m < n → slice_get turns m ≡ Some t → slice_get turns n ≡ Some u
    → IsOpen b t → IsOpen b u → t.place ≡ u.place → ⊥
one_turn b g born turns m n t u a lt at_m at_n still_t still_u same = by_order (a.in_order m n t u lt at_m at_n) where
  joined : t.joined ≡ u.joined
  joined = a.turns_own m t at_m still_t ∙ ap (λ i. joined_at b i) same ∙ sym (a.turns_own n u at_n still_u)

  by_order : TurnBefore t u → ⊥
  by_order (inl less) = omega (arith, less, joined)
  by_order (inr p) = (let less : t.place < u.place = p.1 in omega (arith, less, same))

-- A step that uses the entry whose turn it is, and the entry's new turn.
pub fresh_used : (b : Branch) (s : Done) (g h : Agenda) (born : List ℕ) (turns : List Turn) (t v : Turn) → IsLater g h → g.waiting ≤ h.waiting → g.turn < h.waiting → IsPassed b (principal s) h → principal s < length (entries b)
    → slice_get turns g.turn ≡ Some t → t.place ≡ principal s → IsOpen b t → IsOpen (after b s) v → IsAgenda b g born turns → IsFresh (after b s) h (turns ++ v ∷ [])
fresh_used b s g h born turns t v later waits front passed here at_t place still opens a = record {
  entries_untaken = untaken_after b s g h turns later passed here a.searched.untaken a.fresh;
  turns_open = λ n u le at. by_place n u le (get_last turns v n u at);
} where
  by_place : (n : ℕ) (u : Turn) → h.waiting ≤ n → (slice_get turns n ≡ Some u) ⊎ ((n ≡ length turns) × (v ≡ u)) → IsOpen (after b s) u
  by_place n u le (inl at) =
      let was : IsOpen b u = a.fresh.turns_open n u (omega (arith, waits, le)) at in
      times_other b s u.place (λ e. one_turn b g born turns g.turn n t u a.searched (omega (arith, front, le)) at_t at still was (place ∙ e)) ∙ was
  by_place n u le (inr e) = subst (IsOpen (after b s)) e.1 opens
