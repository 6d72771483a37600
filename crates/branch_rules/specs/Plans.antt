-- What the search for the next step answers.
use Rattle.std.specs.Prelude.{◌≡◌, ℕ, ◌+◌, ◌*◌, ◌<◌, ◌≤◌, IsTrue, List, [], length, slice_get, Option, Some, None}
use Rattle.std.specs.Prelude.{IsSome, ◌⊎◌}
use Rattle.gs3_rules.specs.Rules.{alpha_parts}
use Rattle.free_terms.specs.Free.{Name}
use Rattle.free_terms.specs.View.{formulas_of}
use Rattle.rewrite_rules.specs.Rules.{RewriteRule, IsRuleAxiom}
use Rattle.rewrite_rules.specs.Rewriting.{Rewriting, Rewrites}
use Rattle.branch_rules.specs.Branch.{Branch, Entry, Done, expand, rewrite, go_left, entries, metavars, made_of}
use Rattle.branch_rules.specs.Branch.{level_of, times_taken}
use Rattle.branch_rules.specs.Next.{Class, conjunctive, most_entries, IsPending, ComesNext, IsLeaf}
use Rattle.branch_rules.specs.Kinds.{kind_of, in_first}
use Rattle.branch_rules.specs.BranchView.{IsOpen, OverBefore}
use Rattle.branch_rules.specs.declared.branch.Turn.{Turn}
use Rattle.branch_rules.specs.declared.branch.Agenda.{Agenda}
use Rattle.branch_rules.specs.declared.step.TabKind.{TabKind}
use Rattle.branch_rules.specs.declared.step.TabKind.TheVariants.{Alpha, Rewrite, Skolem, Instance}
use Rattle.branch_rules.specs.BranchValue.{done_as}
use Rattle.branch_rules.specs.declared.kinds.Kind.{Kind}
use Rattle.branch_rules.specs.declared.work.Work.{Work}
use Rattle.branch_rules.specs.declared.work.Plan as plan

abbrev pub done_in : Work → Done
done_in w = done_as w.place w.kind

-- the work appends what its step makes of the entry at its place
pub record IsWorkOn (xs : List Name) (place : ℕ) (e : Entry) (w : Work) : Type 0 where
  pub at : w.place ≡ place
  pub makes : formulas_of w.parts ≡ made_of xs e.formula (done_in w)
  pub level : w.level ≡ level_of e.level (done_in w)

-- a conjunctive step or a rewriting serves the entry at the depth
abbrev pub IsConjunctive : List RewriteRule → ℕ → Entry → Type 0
IsConjunctive rules depth e =
    IsSome (alpha_parts e.formula) ⊎ ((e.level < 8 * depth) × (r : Rewriting) × Rewrites rules e.formula (Some r))

abbrev pub ServesSo : List RewriteRule → ℕ → Entry → Done → Type 0
ServesSo rules place e step =
    (IsSome (alpha_parts e.formula) × (step ≡ expand place))
    ⊎ ((r : Rewriting) × Rewrites rules e.formula (Some r) × (step ≡ rewrite place r))

-- the rewriting of the entry, if a rule matches it
abbrev pub RewritingAnswer : List RewriteRule → ℕ → Entry → Option Work → Type 0
RewritingAnswer rules place e None = (r : Rewriting) → Rewrites rules e.formula (Some r) → ⊥
RewritingAnswer rules place e (Some w) =
    ((r : Rewriting) × Rewrites rules e.formula (Some r) × (done_in w ≡ rewrite place r)) × IsWorkOn [] place e w

abbrev pub ConjunctiveAnswer : List RewriteRule → ℕ → ℕ → Entry → Option Work → Type 0
ConjunctiveAnswer rules place depth e None = IsConjunctive rules depth e → ⊥
ConjunctiveAnswer rules place depth e (Some w) =
    IsConjunctive rules depth e × ServesSo rules place e (done_in w) × IsWorkOn [] place e w

-- No conjunctive entry from the place on is pending, or the work serves the first one.
abbrev pub FirstConjunctive : Branch → ℕ → ℕ → Option Work → Type 0
FirstConjunctive b depth from None = (i : ℕ) → from ≤ i → IsPending b depth conjunctive i → ⊥
FirstConjunctive b depth from (Some w) =
    IsPending b depth conjunctive w.place × ((i : ℕ) → from ≤ i → i < w.place → IsPending b depth conjunctive i → ⊥)
    × (e : Entry) × (slice_get (entries b) w.place ≡ Some e) × ServesSo b.rules w.place e (done_in w)
    × IsWorkOn [] w.place e w

-- an entry that a conjunctive step or a rewriting may serve: no step has taken it, and it gave no rule
abbrev pub IsCandidate : Branch → ℕ → Type 0
IsCandidate b i =
    (e : Entry) × (slice_get (entries b) i ≡ Some e) × (IsRuleAxiom b.rules i → ⊥)
    × IsTrue (in_first (kind_of e.formula)) × (times_taken b i ≡ 0)

-- no step has taken an entry of the kind from the place on
abbrev pub IsUntakenFrom : Branch → Kind → ℕ → Type 0
IsUntakenFrom b k from =
    (i : ℕ) (e : Entry) → slice_get (entries b) i ≡ Some e → kind_of e.formula ≡ k → from ≤ i → times_taken b i ≡ 0

-- no step has taken an entry of the first class from the place on
abbrev pub IsFirstUntakenFrom : Branch → ℕ → Type 0
IsFirstUntakenFrom b from =
    (i : ℕ) (e : Entry) → slice_get (entries b) i ≡ Some e → IsTrue (in_first (kind_of e.formula))
    → from ≤ i → times_taken b i ≡ 0

-- an entry of the kind that no step has taken and that gave no rule
abbrev pub IsFree : Branch → Kind → ℕ → Type 0
IsFree b k i =
    (e : Entry) × (slice_get (entries b) i ≡ Some e) × (IsRuleAxiom b.rules i → ⊥)
    × (kind_of e.formula ≡ k) × (times_taken b i ≡ 0)

abbrev pub FirstFree : Branch → Kind → ℕ → Option ℕ → Type 0
FirstFree b k from None = (i : ℕ) → from ≤ i → IsFree b k i → ⊥
FirstFree b k from (Some i) = (from ≤ i) × IsFree b k i × ((j : ℕ) → from ≤ j → j < i → IsFree b k j → ⊥)

-- what comes next on the branch
abbrev pub PlanMeans : Branch → ℕ → plan.Plan → Type 0
PlanMeans b depth plan.TheVariants.Done = IsLeaf b depth
PlanMeans b depth (plan.TheVariants.Split i) = ComesNext b depth (go_left i)
PlanMeans b depth (plan.TheVariants.Step w) =
    ComesNext b depth (done_in w) × (e : Entry) × (slice_get (entries b) w.place ≡ Some e)
    × IsWorkOn (metavars b) w.place e w

-- Where an entry is to be used: all universal entries have joined the queue, and the turn at the agenda's number is the
-- entry's own.
abbrev pub IsFront : Branch → Agenda → List Turn → TabKind → ℕ → Type 0
IsFront b g turns Alpha place = Unit {0}
IsFront b g turns (Rewrite r) place = Unit {0}
IsFront b g turns (Skolem x) place = Unit {0}
IsFront b g turns (Instance x) place =
    (g.universal ≡ length (entries b)) × (t : Turn) × (slice_get turns g.turn ≡ Some t) × (t.place ≡ place) × IsOpen b t

abbrev pub HasFront : Branch → Agenda → List Turn → plan.Plan → Type 0
HasFront b g turns plan.TheVariants.Done = Unit {0}
HasFront b g turns (plan.TheVariants.Split i) = Unit {0}
HasFront b g turns (plan.TheVariants.Step w) = IsFront b g turns w.kind w.place

-- the turn at the number is the first open one with uses left, or there is none
abbrev pub Serving : Branch → ℕ → List Turn → ℕ → Option Turn → Type 0
Serving b depth turns n None = OverBefore b depth turns (length turns)
Serving b depth turns n (Some t) =
    (slice_get turns n ≡ Some t) × IsOpen b t × (t.uses < depth) × OverBefore b depth turns n

-- the work is this step on the entry at the place
abbrev pub WorksAt : Branch → ℕ → Done → Work → Type 0
WorksAt b place step w =
    (done_in w ≡ step) × (e : Entry) × (slice_get (entries b) place ≡ Some e) × IsWorkOn (metavars b) place e w

-- the work where there is room for what it appends
abbrev pub RoomAnswer : Branch → Work → plan.Plan → Type 0
RoomAnswer b work plan.TheVariants.Done = length (entries b) + length work.parts ≤ most_entries → ⊥
RoomAnswer b work (plan.TheVariants.Step w) = (w ≡ work) × (length (entries b) + length work.parts ≤ most_entries)
RoomAnswer b work (plan.TheVariants.Split i) = ⊥

abbrev pub NonePending : Branch → ℕ → Class → Type 0
NonePending b d c = (j : ℕ) → IsPending b d c j → ⊥
