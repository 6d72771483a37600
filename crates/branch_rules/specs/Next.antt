-- The step that comes next on a branch.
use Rattle.std.specs.Prelude.{◌≡◌, ℕ, ◌*◌, ◌<◌, ◌≤◌, [], ◌∷◌, length, slice_get, Some, IsSome, ◌⊎◌}
use Rattle.gs3_rules.specs.Rules.{alpha_parts, beta_parts, delta_part, gamma_part}
use Rattle.free_terms.specs.Free.{FreeFormula}
use Rattle.rewrite_rules.specs.Rules.{IsRuleAxiom}
use Rattle.rewrite_rules.specs.Rewriting.{Rewriting, Rewrites}
use Rattle.branch_rules.specs.Branch.{Branch, Entry, Done, expand, rewrite, skolemize, instantiate, go_left, go_right}
use Rattle.branch_rules.specs.Branch.{principal, entries, after, next_metavar, next_skolem, splits_done, times_taken}
use Rattle.branch_rules.specs.Branch.{joined_at}

-- The classes of pending entries, in the order in which they are served.
pub data Class : Type 0 where
  conjunctive existential disjunctive universal : Class

abbrev pub rank : Class → ℕ
rank conjunctive = 1
rank existential = 2
rank disjunctive = 3
rank universal = 4

-- the greatest number of entries, and the greatest number of splits, of a branch
abbrev pub most_entries : ℕ
most_entries = 4294967295

abbrev pub most_splits : ℕ
most_splits = 120

-- a rule matches the literal
abbrev pub IsRewritable : Branch → FreeFormula → Type 0
IsRewritable b a = (r : Rewriting) × Rewrites b.rules a (Some r)

-- What an entry of the class needs to be pending at depth d. In classes 1 to 3 it was not taken yet, and in class 4 it
-- was taken fewer than d times.
abbrev pub Waits : Branch → ℕ → Class → ℕ → Entry → Type 0
Waits b d conjunctive i e =
    (times_taken b i ≡ 0) × (IsSome (alpha_parts e.formula) ⊎ ((e.level < 8 * d) × IsRewritable b e.formula))
Waits b d existential i e = (times_taken b i ≡ 0) × IsSome (delta_part (λ a. a) e.formula)
Waits b d disjunctive i e = (times_taken b i ≡ 0) × IsSome (beta_parts e.formula) × (splits_done b < most_splits)
Waits b d universal i e = (times_taken b i < d) × IsSome (gamma_part (λ a. a) e.formula)

-- an axiom that gave a rule is never pending
abbrev pub IsPending : Branch → ℕ → Class → ℕ → Type 0
IsPending b d class i =
    (e : Entry) × (slice_get (entries b) i ≡ Some e) × (IsRuleAxiom b.rules i → ⊥) × Waits b d class i e

-- The order within a class: by place, and for universal entries a queue, which an entry joins at the back when it is
-- appended and again when it is used. Of two that joined with the same step, the one of the lesser place comes first.
abbrev pub ComesFirst : Branch → Class → ℕ → ℕ → Type 0
ComesFirst b universal i j = (joined_at b i < joined_at b j) ⊎ ((joined_at b i ≡ joined_at b j) × (i ≤ j))
ComesFirst b conjunctive i j = i ≤ j
ComesFirst b existential i j = i ≤ j
ComesFirst b disjunctive i j = i ≤ j

pub record IsServed (b : Branch) (d : ℕ) (class : Class) (i : ℕ) : Type 0 where
  pub pending : IsPending b d class i
  pub first : (c : Class) (j : ℕ) → IsPending b d c j → (rank class < rank c) ⊎ ((c ≡ class) × ComesFirst b class i j)

-- the step that serves the entry: of a literal a rewriting, and of each other entry its class's step
abbrev pub Serves : Branch → Class → ℕ → FreeFormula → Done → Type 0
Serves b conjunctive i a step =
    (IsSome (alpha_parts a) × (step ≡ expand i))
    ⊎ ((r : Rewriting) × Rewrites b.rules a (Some r) × (step ≡ rewrite i r))
Serves b existential i a step = step ≡ skolemize i (next_skolem b)
Serves b disjunctive i a step = (step ≡ go_left i) ⊎ (step ≡ go_right i)
Serves b universal i a step = step ≡ instantiate i (next_metavar b)

abbrev pub HasRoom : Branch → Done → Type 0
HasRoom b step = length (entries (after b step)) ≤ most_entries

-- A step that comes next at depth d. Where two come next, they are the two sides of a split, and both have room.
pub record ComesNext (b : Branch) (d : ℕ) (step : Done) : Type 0 where
  pub class : Class
  pub entry : Entry
  pub at : slice_get (entries b) (principal step) ≡ Some entry
  pub served : IsServed b d class (principal step)
  pub serves : Serves b class (principal step) entry.formula step
  pub room : (s : Done) → Serves b class (principal step) entry.formula s → HasRoom b s

-- a branch with no step
abbrev pub IsLeaf : Branch → ℕ → Type 0
IsLeaf b d = (step : Done) → ComesNext b d step → ⊥
