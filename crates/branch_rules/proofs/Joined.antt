-- What is kept of an agenda while entries join the queue and turns are passed.
use Rattle.std.proofs.Common.{◌≡◌, ◌↔◌, ℕ, zero, suc, ◌+◌, ◌<◌, ◌≤◌, true, false, List, [], ◌∷◌, ◌++◌, map, length, get_or, Some, None, slice_get, refl, ap, sym, ◌∙◌, subst, arith}
use Rattle.std.proofs.lemmas.Bool.{false≢true}
use Rattle.branch_rules.specs.Branch.{Branch, Entry, entries, times_taken}
use Rattle.branch_rules.specs.Kinds.{kind_of, in_first}
use Rattle.branch_rules.specs.BranchView.{born_in, branch_in, Reads, IsOpen, IsUniversal, untaken_from, IsFresh, IsAgenda, OverBefore}
use Rattle.branch_rules.specs.Plans.{IsFree, IsUntakenFrom, IsFirstUntakenFrom, Serving}
use Rattle.branch_rules.specs.declared.held.Held.{Held}
use Rattle.branch_rules.specs.declared.branch.Turn.{Turn}
use Rattle.branch_rules.specs.declared.branch.Agenda.{Agenda}
use Rattle.branch_rules.specs.declared.branch.Lists.{Lists}
use Rattle.branch_rules.specs.declared.kinds.Kind.{Kind}
use Rattle.branch_rules.specs.declared.kinds.Kind.TheVariants.{Conjunctive, Existential, Disjunctive, Universal, Literal}
use Rattle.branch_rules.proofs.Queues.{with_universal, first_turn, passes_one, joins_one, joined_or_passed, turn_over, over_before}
use Rattle.branch_rules.proofs.Fresh.{fresh_later, fresh_joined, universal_later, turn_later}

-- entries of a kind from its place on
pub kind_untaken : (b : Branch) (g : Agenda) (turns : List Turn) (k : Kind) → IsFresh b g turns → IsUntakenFrom b k (untaken_from g k)
kind_untaken b g turns k f i e at is le = f.entries_untaken i e at (subst (λ z. untaken_from g z ≤ i) (sym is) le)

first_from : (g : Agenda) (k : Kind) → in_first k ≡ true → untaken_from g k ≡ g.untaken
first_from g Conjunctive h = refl
first_from g Literal h = refl
first_from g Existential h = absurd (false≢true h)
first_from g Disjunctive h = absurd (false≢true h)
first_from g Universal h = absurd (false≢true h)

pub first_untaken : (b : Branch) (g : Agenda) (turns : List Turn) → IsFresh b g turns → IsFirstUntakenFrom b g.untaken
first_untaken b g turns f i e at first le = f.entries_untaken i e at (subst (λ z. z ≤ i) (sym (first_from g (kind_of e.formula) first)) le)

-- when the entry at a place joined
pub born_at : (hs : List Held) (i : ℕ) (h : Held) → slice_get hs i ≡ Some h → h.born ≡ get_or (map (λ z. z.born) hs) i 0
born_at [] i h e = absurd (let z : None ≡ Some h = e in cc)
born_at (x ∷ hs) zero h e = (let z : Some x ≡ Some h = e in let same : x ≡ h = cc in ap (λ z. z.born) (sym same))
born_at (x ∷ hs) (suc i) h e = born_at hs i h e

pub joined_one : (b : Branch) (l : Lists) (g : Agenda) (turns : List Turn) (n joined place : ℕ) → Reads b l → place ≡ g.universal → joined ≡ get_or (born_in l) g.universal 0 → n ≡ suc g.universal
    → g.universal < length (entries b) → IsUniversal b g.universal → IsAgenda b g (born_in l) turns → IsAgenda b (with_universal g n) (born_in l) (turns ++ first_turn joined place ∷ [])
joined_one b l g turns n joined place reads at_place is_joined next lt here h = record {
  searched = joins_one b l g turns n joined place reads at_place is_joined next lt here h.searched;
  fresh = fresh_joined b (with_universal g n) turns (first_turn joined place) (ap (times_taken b) at_place ∙ h.searched.unused g.universal (omega arith) here)
      (fresh_later b g (with_universal g n) turns (universal_later g n (omega (arith, next))) (omega arith) h.fresh);
}

pub passed_one : (b : Branch) (g : Agenda) (born : List ℕ) (turns : List Turn) (n : ℕ) → n ≡ suc g.universal → g.universal < length (entries b) → (IsUniversal b g.universal → ⊥)
    → IsAgenda b g born turns → IsAgenda b (with_universal g n) born turns
passed_one b g born turns n next lt other h = record {
  searched = passes_one b g born turns n next lt other h.searched;
  fresh = fresh_later b g (with_universal g n) turns (universal_later g n (omega (arith, next))) (omega arith) h.fresh;
}

pub turn_passed : (b : Branch) (g : Agenda) (born : List ℕ) (turns : List Turn) (n : ℕ) (t : Turn) → n ≡ suc g.turn → g.turn < length turns → slice_get turns g.turn ≡ Some t
    → (IsOpen b t × (t.uses < g.depth) → ⊥) → IsAgenda b g born turns → IsAgenda b (record g { turn = n }) born turns
turn_passed b g born turns n t next lt at over h = record {
  searched = turn_over b g born turns n t next lt at over h.searched;
  fresh = fresh_later b g (record g { turn = n }) turns (turn_later g n) (omega arith) h.fresh;
}

-- the turn at the agenda's number is served
pub serves_at : (b : Branch) (g : Agenda) (born : List ℕ) (turns : List Turn) (d n : ℕ) (t : Turn) → g.depth ≡ d → g.turn ≡ n → slice_get turns n ≡ Some t → IsOpen b t × (t.uses < d) → IsAgenda b g born turns
    → Serving b d turns g.turn (Some t)
serves_at b g born turns d n t depth number at still h =
    (ap (slice_get turns) number ∙ at, still.0, still.1, over_before b g born turns d g.turn depth refl h.searched)

pub none_served : (b : Branch) (g : Agenda) (born : List ℕ) (turns : List Turn) (d n : ℕ) → g.depth ≡ d → g.turn ≡ n → length turns ≤ n → IsAgenda b g born turns → Serving b d turns g.turn None
none_served b g born turns d n depth number all h m t lt at still =
    over_before b g born turns d n depth number h.searched m t (omega (arith, lt, all)) at still
