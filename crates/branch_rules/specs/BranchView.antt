-- How a branch of the program stands for what contracts see of it.
use Rattle.std.specs.Prelude.{◌≡◌, ℕ, ◌+◌, ◌<◌, ◌≤◌, ◌^◌, IsTrue, false, List, map, length, take, get_or, slice_get}
use Rattle.std.specs.Prelude.{Option, Some, None, IsSome, MatchOption, ◌⊎◌}
use Rattle.free_terms.specs.View.{name_of}
use Rattle.gs3_rules.specs.Rules.{gamma_part}
use Rattle.rewrite_rules.specs.Rules.{IsRuleAxiom}
use Rattle.branch_rules.specs.Branch.{Branch, Entry, entries, metavars, segment, metavars_made, skolems_made}
use Rattle.branch_rules.specs.Branch.{splits_done, times_taken, joined_at, go_left, go_right}
use Rattle.branch_rules.specs.Next.{conjunctive, existential, disjunctive, universal, most_entries, most_splits}
use Rattle.branch_rules.specs.Next.{IsPending, HasRoom}
use Rattle.branch_rules.specs.Kinds.{kind_of}
use Rattle.branch_rules.specs.BranchValue.{BranchValue, branch_of, entry_of}
use Rattle.branch_rules.specs.declared.kinds.Kind.{Kind}
use Rattle.branch_rules.specs.declared.kinds.Kind.TheVariants.{Conjunctive, Existential, Disjunctive, Universal}
use Rattle.branch_rules.specs.declared.kinds.Kind.TheVariants.{Literal}
use Rattle.branch_rules.specs.declared.held.Held.{Held}
use Rattle.branch_rules.specs.declared.branch.Turn.{Turn}
use Rattle.branch_rules.specs.declared.branch.Agenda.{Agenda}
use Rattle.branch_rules.specs.declared.branch.Lists.{Lists}
use Rattle.branch_rules.specs.declared.branch.Branch.TheInside.{Inside}
use Rattle.seg_list.specs.Branching.{Branching}

abbrev pub entries_held : List Held → List Entry
entries_held hs = map (λ h. entry_of h.entry) hs

-- the numbers of the steps that appended the entries
abbrev pub born_in : Lists → List ℕ
born_in l = map (λ h. h.born) l.entries.items

-- what is done on the lists' branch, with the place that is ready
abbrev pub value_with : Lists → Option ℕ → BranchValue
value_with l ready = record {
  start = map (λ h. h.entry.formula) (take l.start l.entries.items);
  rules = l.rules;
  steps = l.steps.items;
  ready = ready;
}

abbrev pub branch_in : Lists → Branch
branch_in l = branch_of (value_with l None)

abbrev pub value_of : Inside → BranchValue
value_of a = value_with a.lists a.ready

-- The lists and numbers are what is read off the branch.
pub record Reads (b : Branch) (l : Lists) : Type 0 where
  pub start_within : l.start ≤ length l.entries.items
  pub entries_are : entries_held l.entries.items ≡ entries b
  pub metavars_are : map name_of l.metavars.items ≡ metavars b
  pub segment_is : l.counts.segment ≡ segment b
  pub metavars_made_are : l.counts.metavars ≡ metavars_made 0 b.steps
  pub skolems_made_are : l.counts.skolems ≡ skolems_made 0 b.steps
  pub splits_are : l.counts.splits ≡ splits_done b
  pub few_splits : l.counts.splits ≤ most_splits
  pub segment_fits : l.counts.segment < 2 ^ (l.counts.splits + 1)
  pub few : length l.entries.items ≤ most_entries
  pub born_are : (i : ℕ) → i < length l.entries.items → times_taken b i ≡ 0 → get_or (born_in l) i 0 ≡ joined_at b i
  pub born_rise : (i j : ℕ) → i ≤ j → j < length l.entries.items → get_or (born_in l) i 0 ≤ get_or (born_in l) j 0
  pub born_before : (i : ℕ) → i < length l.entries.items → get_or (born_in l) i 0 ≤ length b.steps

-- the one turn comes before the other in the queue
abbrev pub TurnBefore : Turn → Turn → Type 0
TurnBefore t u = (t.joined < u.joined) ⊎ ((t.joined ≡ u.joined) × (t.place < u.place))

-- the entry still waits for the turn: it was not used since
abbrev pub IsOpen : Branch → Turn → Type 0
IsOpen b t = times_taken b t.place ≡ t.uses

-- the turns before the number are over at the depth
abbrev pub OverBefore : Branch → ℕ → List Turn → ℕ → Type 0
OverBefore b d turns n = (m : ℕ) (t : Turn) → m < n → slice_get turns m ≡ Some t → IsOpen b t → d ≤ t.uses

-- the entry is universal, and no rule was made of it
abbrev pub IsUniversal : Branch → ℕ → Type 0
IsUniversal b i =
    (e : Entry) × (slice_get (entries b) i ≡ Some e) × (IsRuleAxiom b.rules i → ⊥)
    × IsSome (gamma_part (λ a. a) e.formula)

-- an entry's own turn, which is open
pub record HasTurn (b : Branch) (turns : List Turn) (i : ℕ) : Type 0 where
  pub number : ℕ
  pub turn : Turn
  pub at : slice_get turns number ≡ Some turn
  pub place : turn.place ≡ i
  pub joined : turn.joined ≡ joined_at b i
  pub uses : turn.uses ≡ times_taken b i

-- What was searched has nothing pending, but for the queue.
pub record IsSearched (b : Branch) (g : Agenda) (born : List ℕ) (turns : List Turn) : Type 0 where
  pub conjunctive_within : g.conjunctive ≤ length (entries b)
  pub existential_within : g.existential ≤ length (entries b)
  pub disjunctive_within : g.disjunctive ≤ length (entries b)
  pub universal_within : g.universal ≤ length (entries b)
  pub turn_within : g.turn ≤ length turns
  pub conjunctive_over : (i : ℕ) → i < g.conjunctive → IsPending b g.depth conjunctive i → ⊥
  pub existential_over : (i d : ℕ) → i < g.existential → IsPending b d existential i → ⊥
  pub disjunctive_over : (i d : ℕ) → i < g.disjunctive → IsPending b d disjunctive i → ⊥
  -- each universal entry before the place has its turn
  pub have_turns : (i : ℕ) → i < g.universal → IsUniversal b i → HasTurn b turns i
  -- the turns before the number are over
  pub turns_over : (n : ℕ) (t : Turn) → n < g.turn → slice_get turns n ≡ Some t → IsOpen b t → g.depth ≤ t.uses
  -- the turns stand in the queue's order
  pub in_order : (m n : ℕ) (t u : Turn) → m < n → slice_get turns m ≡ Some t → slice_get turns n ≡ Some u
      → TurnBefore t u
  -- each is a universal entry's, and an open one is its own
  pub turns_place : (n : ℕ) (t : Turn) → slice_get turns n ≡ Some t → t.place < g.universal
  pub turns_universal : (n : ℕ) (t : Turn) → slice_get turns n ≡ Some t → IsUniversal b t.place
  pub turns_used : (n : ℕ) (t : Turn) → slice_get turns n ≡ Some t → t.uses ≤ times_taken b t.place
  pub turns_own : (n : ℕ) (t : Turn) → slice_get turns n ≡ Some t → IsOpen b t → t.joined ≡ joined_at b t.place
  pub turns_within : (n : ℕ) (t : Turn) → slice_get turns n ≡ Some t → t.joined ≤ length b.steps
  -- entries that have not joined come behind all turns, and were not used
  pub turns_joined : (n i : ℕ) (t : Turn) → slice_get turns n ≡ Some t → g.universal ≤ i → i < length (entries b)
      → t.joined ≤ get_or born i 0
  pub unused : (i : ℕ) → g.universal ≤ i → IsUniversal b i → times_taken b i ≡ 0
  pub untaken : (i : ℕ) → length (entries b) ≤ i → times_taken b i ≡ 0

-- the place from which on no entry of the kind was taken
abbrev pub untaken_from : Agenda → Kind → ℕ
untaken_from g Conjunctive = g.untaken
untaken_from g Literal = g.untaken
untaken_from g Existential = g.existential
untaken_from g Disjunctive = g.disjunctive
untaken_from g Universal = g.universal

-- What needs no count of the steps that took it: entries that were not taken, and turns that are still waited for.
pub record IsFresh (b : Branch) (g : Agenda) (turns : List Turn) : Type 0 where
  pub entries_untaken : (i : ℕ) (e : Entry) → slice_get (entries b) i ≡ Some e → untaken_from g (kind_of e.formula) ≤ i
      → times_taken b i ≡ 0
  pub turns_open : (n : ℕ) (t : Turn) → g.waiting ≤ n → slice_get turns n ≡ Some t → IsOpen b t

pub record IsAgenda (b : Branch) (g : Agenda) (born : List ℕ) (turns : List Turn) : Type 0 where
  pub searched : IsSearched b g born turns
  pub fresh : IsFresh b g turns

-- A place that is ready is that of the first pending disjunctive entry, with splits left and room for both sides.
pub record IsReady (b : Branch) (i : ℕ) : Type 0 where
  pub pending : (d : ℕ) → IsPending b d disjunctive i
  pub first : (d j : ℕ) → j < i → IsPending b d disjunctive j → ⊥
  pub few : splits_done b < most_splits
  pub left_room : HasRoom b (go_left i)
  pub right_room : HasRoom b (go_right i)

-- the lists can be forked
pub record AreSealed (l : Lists) (turns : Branching Turn) : Type 0 where
  pub entries : IsTrue l.entries.sealed
  pub steps : IsTrue l.steps.sealed
  pub metavars : IsTrue l.metavars.sealed
  pub queue : IsTrue turns.sealed

-- the lists can grow
pub record AreOpen (l : Lists) : Type 0 where
  pub entries : l.entries.sealed ≡ false
  pub steps : l.steps.sealed ≡ false
  pub metavars : l.metavars.sealed ≡ false

pub record IsSplitting (l : Lists) (turns : Branching Turn) (i : ℕ) : Type 0 where
  pub ready : IsReady (branch_in l) i
  pub sealed : AreSealed l turns

pub record IsKept (a : Inside) : Type 0 where
  pub reads : Reads (branch_in a.lists) a.lists
  pub agenda : IsAgenda (branch_in a.lists) a.agenda (born_in a.lists) a.turns.items
  pub ready : MatchOption a.ready (Unit {0}) (IsSplitting a.lists a.turns)

-- the second lists hold what the first ones do
pub record HoldSame (l m : Lists) : Type 0 where
  pub rules : m.rules ≡ l.rules
  pub start : m.start ≡ l.start
  pub entries : m.entries.items ≡ l.entries.items
  pub steps : m.steps.items ≡ l.steps.items
  pub metavars : m.metavars.items ≡ l.metavars.items
  pub counts : m.counts ≡ l.counts
