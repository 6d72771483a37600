-- How the lists of a branch grow by one step.
use Rattle.std.specs.Prelude.{◌≡◌, ℕ, suc, List, [], ◌∷◌, ◌++◌, map, length}
use Rattle.free_terms.specs.View.{FreeTermFormula}
use Rattle.free_terms.specs.declared.term.Name.{Name}
use Rattle.branch_rules.specs.declared.held.Held.{Held}
use Rattle.branch_rules.specs.declared.step.Done.{Done}
use Rattle.branch_rules.specs.declared.step.Done.TheVariants.{Step, Left, Right}
use Rattle.branch_rules.specs.declared.step.TabKind.TheVariants.{Alpha, Rewrite, Skolem, Instance}
use Rattle.branch_rules.specs.declared.branch.Turn.{Turn}
use Rattle.branch_rules.specs.declared.branch.Lists.{Lists}
use Rattle.seg_list.specs.Branching.{Branching}

-- the formulas as entries of the level that the step of the number appended
abbrev pub held_at : ℕ → ℕ → List FreeTermFormula → List Held
held_at level number fs = map (λ f. record { entry = record { formula = f; level = level }; born = number }) fs

-- the metavariable that a step introduces
abbrev pub names_by : Done → List Name
names_by (Step i Alpha) = []
names_by (Step i (Rewrite r)) = []
names_by (Step i (Skolem x)) = []
names_by (Step i (Instance x)) = x ∷ []
names_by (Left i) = []
names_by (Right i) = []

-- the turn that a used universal entry takes
abbrev pub turns_by : Done → ℕ → ℕ → List Turn
turns_by (Step i Alpha) number uses = []
turns_by (Step i (Rewrite r)) number uses = []
turns_by (Step i (Skolem x)) number uses = []
turns_by (Step i (Instance x)) number uses = record { joined = number; place = i; uses = uses } ∷ []
turns_by (Left i) number uses = []
turns_by (Right i) number uses = []

abbrev pub place_of : Done → ℕ
place_of (Step i kind) = i
place_of (Left i) = i
place_of (Right i) = i

-- The second lists have the step at their ends, with the formulas that it appends.
pub record IsGrown (l m : Lists) (turns more : List Turn) (done : Done) (level : ℕ) (parts : List FreeTermFormula)
    (uses : ℕ) : Type 0 where
  pub rules : m.rules ≡ l.rules
  pub start : m.start ≡ l.start
  pub entries : m.entries.items ≡ l.entries.items ++ held_at level (suc (length l.steps.items)) parts
  pub steps : m.steps.items ≡ l.steps.items ++ done ∷ []
  pub metavars : m.metavars.items ≡ l.metavars.items ++ names_by done
  pub queue : more ≡ turns ++ turns_by done (suc (length l.steps.items)) uses

-- the second list has more at its end
abbrev pub IsLonger : {T : Type 0} → Branching T → Branching T → Type 0
IsLonger {T} l m =
    (more : List T) × (m ≡ record { items = l.items ++ more; own_start = l.own_start; sealed = l.sealed })

-- the second lists have more at their ends
pub record AreLonger (l m : Lists) (turns more : Branching Turn) : Type 0 where
  pub rules : m.rules ≡ l.rules
  pub start : m.start ≡ l.start
  pub counts : m.counts ≡ l.counts
  pub entries : IsLonger l.entries m.entries
  pub steps : IsLonger l.steps m.steps
  pub metavars : IsLonger l.metavars m.metavars
  pub queue : IsLonger turns more
