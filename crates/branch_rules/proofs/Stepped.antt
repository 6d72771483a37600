-- The agenda after a step of each class.
use Rattle.std.proofs.Common.{◌≡◌, ℕ, suc, ◌+◌, ◌<◌, ◌≤◌, max, true, false, List, [], ◌∷◌, ◌++◌, length, IsSome, Some, slice_get, refl, ap, sym, ◌∙◌, subst, arith, ◌⊎◌, inl, inr, length-append}
use Rattle.std.proofs.Math.Nat.{le-max_left, le-max_right}
use Rattle.std.proofs.lemmas.Bool.{false≢true}
use Rattle.std.proofs.lemmas.Option.{slice_get_within}
use Rattle.gs3_rules.specs.Rules.{gamma_part}
use Rattle.branch_rules.specs.Branch.{Branch, Done, Entry, principal, entries, after, times_taken}
use Rattle.branch_rules.specs.Next.{Class, conjunctive, existential, disjunctive, universal, rank, IsPending, ComesFirst, IsServed}
use Rattle.branch_rules.specs.Kinds.{kind_of, in_first}
use Rattle.branch_rules.specs.BranchView.{IsOpen, IsUniversal, IsSearched, untaken_from, IsAgenda, IsReady}
use Rattle.branch_rules.specs.Taken.{past_conjunctive, past_existential, past_disjunctive, past_turn}
use Rattle.branch_rules.specs.declared.branch.Turn.{Turn}
use Rattle.branch_rules.specs.declared.branch.Agenda.{Agenda}
use Rattle.branch_rules.specs.declared.kinds.Kind.{Kind}
use Rattle.branch_rules.specs.declared.kinds.Kind.TheVariants.{Conjunctive, Existential, Disjunctive, Universal, Literal}
use Rattle.branch_rules.proofs.Grown.{appended, entries_grow}
use Rattle.branch_rules.proofs.Changes.{times_here, pending_before, taken_is_over}
use Rattle.branch_rules.proofs.Agendas.{below_or_not, get_stays, Growing, turn_after, agenda_kept, agenda_used}
use Rattle.branch_rules.proofs.Chosen.{pending_candidate}
use Rattle.branch_rules.proofs.Queues.{gamma_kind, turn_over}
use Rattle.branch_rules.proofs.Fresh.{IsLater, existential_later, disjunctive_later, turn_later, IsPassed, fresh_kept, fresh_used}
use Rattle.branch_rules.proofs.Nexts.{conjunctive_to, existential_to, disjunctive_to, existential_free, free_existential, disjunctive_free, free_disjunctive}

some_once : {A : Type 0} (x y : A) → Some x ≡ Some y → x ≡ y
some_once x y e = cc

-- the places of counts do not matter to what was searched
marked : (b : Branch) (g : Agenda) (born : List ℕ) (turns : List Turn) (m n : ℕ) → IsSearched b g born turns → IsSearched b (record g { untaken = m; waiting = n }) born turns
marked b g born turns m n h = record {
  conjunctive_within = h.conjunctive_within;
  existential_within = h.existential_within;
  disjunctive_within = h.disjunctive_within;
  universal_within = h.universal_within;
  turn_within = h.turn_within;
  conjunctive_over = h.conjunctive_over;
  existential_over = h.existential_over;
  disjunctive_over = h.disjunctive_over;
  have_turns = h.have_turns;
  turns_over = h.turns_over;
  in_order = h.in_order;
  turns_place = h.turns_place;
  turns_universal = h.turns_universal;
  turns_used = h.turns_used;
  turns_own = h.turns_own;
  turns_within = h.turns_within;
  turns_joined = h.turns_joined;
  unused = h.unused;
  untaken = h.untaken;
}

longer : (b : Branch) (s : Done) → length (entries b) ≤ length (entries (after b s))
longer b s = omega (arith, ap length (entries_grow b s), length-append (entries b) (appended b s))

behind : (b : Branch) (s : Done) → principal s < length (entries b) → principal s + 1 ≤ length (entries (after b s))
behind b s here = let more = longer b s in omega (arith, here, more)

-- Nothing before the place behind the step's is pending in its class after it.
over_after : (b : Branch) (s : Done) (d : ℕ) (c : Class) → (c ≡ universal → ⊥) → principal s < length (entries b) → ((j : ℕ) → j < principal s → IsPending b d c j → ⊥)
    → (j : ℕ) → j < principal s + 1 → IsPending (after b s) d c j → ⊥
over_after b s d c other here before j lt p = by_place (below_or_not j (principal s)) where
  by_place : (j < principal s) ⊎ (principal s ≤ j) → ⊥
  by_place (inl less) = before j less (pending_before b s d c j (omega (arith, less, here)) p)
  by_place (inr more) = taken_is_over b s d c other (subst (IsPending (after b s) d c) (let e : j ≡ principal s = omega (arith, lt, more) in e) p)

-- class 1

first_later : (g : Agenda) (i : ℕ) → IsLater g (past_conjunctive g i)
first_later g i Conjunctive = le-max_left g.untaken (i + 1)
first_later g i Literal = le-max_left g.untaken (i + 1)
first_later g i Existential = omega arith
first_later g i Disjunctive = omega arith
first_later g i Universal = omega arith

first_passed : (g : Agenda) (i : ℕ) (k : Kind) → in_first k ≡ true → i < untaken_from (past_conjunctive g i) k
first_passed g i Conjunctive h = let w = le-max_right g.untaken (i + 1) in omega (arith, w)
first_passed g i Literal h = let w = le-max_right g.untaken (i + 1) in omega (arith, w)
first_passed g i Existential h = absurd (false≢true h)
first_passed g i Disjunctive h = absurd (false≢true h)
first_passed g i Universal h = absurd (false≢true h)

before_served : (b : Branch) (d i : ℕ) → IsServed b d conjunctive i → (j : ℕ) → j < i → IsPending b d conjunctive j → ⊥
before_served b d i served j lt p = by_order (served.first conjunctive j p) where
  by_order : (rank conjunctive < rank conjunctive) ⊎ ((conjunctive ≡ conjunctive) × ComesFirst b conjunctive i j) → ⊥
  by_order (inl less) = omega (arith, less)
  by_order (inr order) = (let le : i ≤ j = order.1 in omega (arith, le, lt))

pub conjunctive_stepped : (b : Branch) (s : Done) (g : Agenda) (born more : List ℕ) (turns : List Turn) → Growing b s born more → (IsUniversal b (principal s) → ⊥) → IsServed b g.depth conjunctive (principal s)
    → IsAgenda b g born turns → IsAgenda (after b s) (past_conjunctive g (principal s)) more turns
conjunctive_stepped b s g born more turns grow plain served h = record {
  searched = marked (after b s) (record g { conjunctive = principal s + 1 }) more turns (max g.untaken (principal s + 1)) g.waiting
      (conjunctive_to (after b s) g more turns (principal s + 1) (behind b s grow.place_within)
      (over_after b s g.depth conjunctive (λ e. cc) grow.place_within (before_served b g.depth (principal s) served)) (agenda_kept b s g born more turns grow plain h.searched));
  fresh = fresh_kept b s g (past_conjunctive g (principal s)) born turns (first_later g (principal s)) refl passed grow.place_within plain h;
} where
  passed : IsPassed b (principal s) (past_conjunctive g (principal s))
  passed e at =
      let c = pending_candidate b g.depth (principal s) served.pending in
      first_passed g (principal s) (kind_of e.formula) (ap (λ z. in_first (kind_of z.formula)) (some_once e c.0 (sym at ∙ c.1)) ∙ c.3)

-- class 2

before_existential : (b : Branch) (d i : ℕ) → IsServed b d existential i → (n j : ℕ) → j < i → IsPending b n existential j → ⊥
before_existential b d i served n j lt p = by_order (served.first existential j (free_existential b d j (existential_free b n j p))) where
  by_order : (rank existential < rank existential) ⊎ ((existential ≡ existential) × ComesFirst b existential i j) → ⊥
  by_order (inl less) = omega (arith, less)
  by_order (inr order) = (let le : i ≤ j = order.1 in omega (arith, le, lt))

pub existential_stepped : (b : Branch) (s : Done) (g : Agenda) (born more : List ℕ) (turns : List Turn) → Growing b s born more → (IsUniversal b (principal s) → ⊥) → IsServed b g.depth existential (principal s)
    → IsAgenda b g born turns → IsAgenda (after b s) (past_existential g (principal s)) more turns
existential_stepped b s g born more turns grow plain served h = record {
  searched = existential_to (after b s) g more turns (principal s + 1) (behind b s grow.place_within)
      (λ j d. over_after b s d existential (λ e. cc) grow.place_within (before_existential b g.depth (principal s) served d) j) (agenda_kept b s g born more turns grow plain h.searched);
  fresh = fresh_kept b s g (past_existential g (principal s)) born turns (existential_later g (principal s + 1) (up (below_or_not (principal s) g.existential))) refl passed grow.place_within plain h;
} where
  up : (principal s < g.existential) ⊎ (g.existential ≤ principal s) → g.existential ≤ principal s + 1
  up (inl less) = absurd (h.searched.existential_over (principal s) g.depth less served.pending)
  up (inr more) = omega (arith, more)

  passed : IsPassed b (principal s) (past_existential g (principal s))
  passed e at =
      let f = existential_free b g.depth (principal s) served.pending in
      let kind : kind_of e.formula ≡ Existential = ap (λ z. kind_of z.formula) (some_once e f.0 (sym at ∙ f.1)) ∙ f.3 in
      subst (λ k. principal s < untaken_from (past_existential g (principal s)) k) (sym kind) (let w : principal s < principal s + 1 = omega arith in w)

-- class 3

pub disjunctive_stepped : (b : Branch) (s : Done) (g : Agenda) (born more : List ℕ) (turns : List Turn) → Growing b s born more → (IsUniversal b (principal s) → ⊥) → IsReady b (principal s)
    → IsAgenda b g born turns → IsAgenda (after b s) (past_disjunctive g (principal s)) more turns
disjunctive_stepped b s g born more turns grow plain ready h = record {
  searched = disjunctive_to (after b s) g more turns (principal s + 1) (behind b s grow.place_within)
      (λ j d. over_after b s d disjunctive (λ e. cc) grow.place_within (ready.first d) j) (agenda_kept b s g born more turns grow plain h.searched);
  fresh = fresh_kept b s g (past_disjunctive g (principal s)) born turns (disjunctive_later g (principal s + 1) (up (below_or_not (principal s) g.disjunctive))) refl passed grow.place_within plain h;
} where
  up : (principal s < g.disjunctive) ⊎ (g.disjunctive ≤ principal s) → g.disjunctive ≤ principal s + 1
  up (inl less) = absurd (h.searched.disjunctive_over (principal s) g.depth less (ready.pending g.depth))
  up (inr more) = omega (arith, more)

  passed : IsPassed b (principal s) (past_disjunctive g (principal s))
  passed e at =
      let f = disjunctive_free b g.depth (principal s) (ready.pending g.depth) in
      let kind : kind_of e.formula ≡ Disjunctive = ap (λ z. kind_of z.formula) (some_once e f.0 (sym at ∙ f.1)) ∙ f.3 in
      subst (λ k. principal s < untaken_from (past_disjunctive g (principal s)) k) (sym kind) (let w : principal s < principal s + 1 = omega arith in w)

-- class 4

used_later : (g : Agenda) → IsLater g (past_turn g)
used_later g Conjunctive = omega arith
used_later g Literal = omega arith
used_later g Existential = omega arith
used_later g Disjunctive = omega arith
used_later g Universal = omega arith

pub universal_stepped : (b : Branch) (s : Done) (g : Agenda) (born more : List ℕ) (turns : List Turn) (t v : Turn) → Growing b s born more → IsUniversal b (principal s) → g.universal ≡ length (entries b)
    → slice_get turns g.turn ≡ Some t → t.place ≡ principal s → IsOpen b t → turn_after b s v → IsAgenda b g born turns → IsAgenda (after b s) (past_turn g) more (turns ++ v ∷ [])
universal_stepped b s g born more turns t v grow taken all at place still is h = record {
  searched = marked (after b s) (record g { turn = g.turn + 1 }) more (turns ++ v ∷ []) g.untaken (max g.waiting (g.turn + 1))
      (turn_over (after b s) g more (turns ++ v ∷ []) (g.turn + 1) t (omega arith) within (get_stays turns (v ∷ []) g.turn t at) over (agenda_used b s g born more turns v grow taken all is h.searched));
  fresh = fresh_used b s g (past_turn g) born turns t v (used_later g) (le-max_left g.waiting (g.turn + 1)) front passed grow.place_within at place still opens h;
} where
  within : g.turn < length (turns ++ v ∷ [])
  within = let w : g.turn < length turns = slice_get_within turns g.turn t at in omega (arith, w, length-append turns (v ∷ []))

  front : g.turn < max g.waiting (g.turn + 1)
  front = let w = le-max_right g.waiting (g.turn + 1) in omega (arith, w)

  over : IsOpen (after b s) t × (t.uses < g.depth) → ⊥
  over p = (let now : times_taken (after b s) t.place ≡ t.uses = p.0 in let more = times_here b s t.place (sym place) in omega (arith, now, more, still))

  opens : IsOpen (after b s) v
  opens = ap (times_taken (after b s)) is.1 ∙ times_here b s (principal s) refl ∙ sym is.2

  passed : IsPassed b (principal s) (past_turn g)
  passed e at_e =
      let kind : kind_of e.formula ≡ Universal = gamma_kind e.formula (subst (λ z. IsSome (gamma_part (λ a. a) z.formula)) (some_once taken.0 e (sym taken.1 ∙ at_e)) taken.3) in
      subst (λ k. principal s < untaken_from (past_turn g) k) (sym kind) (let w : principal s < g.universal = omega (arith, grow.place_within, all) in w)
