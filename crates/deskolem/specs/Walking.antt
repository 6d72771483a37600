-- What the walk over a closed tree writes.
use Rattle.std.specs.Prelude.{◌≡◌, ℕ, ◌+◌, ◌*◌, ◌<◌, ◌≤◌, ⊤, Bool, if◌then◌else◌, List, [], ◌∷◌, ◌++◌, length, map}
use Rattle.std.specs.Prelude.{reverse, Option, Some, None, Result, Ok, Err}
use Rattle.std.specs.List.{AllByRecursion}
use Rattle.fof_parse.specs.Problem.{PlainProblem}
use Rattle.gs3_rules.specs.Rules as gs3
use Rattle.gs3_rules.specs.Rules.{Rule}
use Rattle.rewrite_expand.specs.Expansion.{head_place, body_place}
use Rattle.free_terms.specs.Free.{Name}
use Rattle.unify.specs.Offers.{Offer}
use Rattle.rewrite_rules.specs.Rules.{RewriteRule}
use Rattle.rewrite_rules.specs.declared.rule.Rewritten.{Rewritten}
use Rattle.branch_rules.specs.Branch.{Branch, Done, Entry, go_left, go_right, entries, after}
use Rattle.branch_rules.specs.declared.step.TabKind.{TabKind}
use Rattle.branch_rules.specs.declared.step.TabKind.TheVariants as kind
use Rattle.tab_tree.specs.Items.{Item, pair, false_at, not_true}
use Rattle.tab_tree.specs.ClosedTree.{ClosedTree}
use Rattle.translation.specs.Laws.{IsClosedRound, beginning}
use Rattle.translation.specs.StepTree.{StepTree, forks, step_tree}
use Rattle.translation.specs.Translation.{place_in, is_positive_at, run_of, skolems}
use Rattle.deskolem.specs.Lines.{HasRoom, rules_of_lines, symbols_of}
use Rattle.deskolem.specs.Walked.{after_all, AreNext, GrowsFrom, up_to, parts_of, steps_below}
use Rattle.deskolem.specs.declared.line.Line.{Line}
use Rattle.deskolem.specs.declared.line.Line.TheVariants.{Close, FalseAt, NotTrue, Alpha, Delta, Gamma, Rewrite}
use Rattle.deskolem.specs.declared.line.Closing.{Closing}
use Rattle.deskolem.specs.declared.standing.Walk.{Walk}
use Rattle.deskolem.specs.declared.answer.GsError.{GsError}
use Rattle.deskolem.specs.declared.answer.GsError.TheVariants.{Bytes, Nesting, OutOfMemory}

-- places of what the steps that are left may append fit 32 bits, and so do those of the rewritings so far
pub record IsStanding (walk : Walk) : Type 0 where
  pub fits : walk.len + 2 * walk.left ≤ 4294967294
  pub room : AllByRecursion HasRoom walk.lines

-- Why nothing more is written: fewer steps are left than there are, or memory is.
abbrev pub Refuses : ℕ → ℕ → GsError → Type 0
Refuses left steps Bytes = left < steps
Refuses left steps Nesting = ⊥
Refuses left steps OutOfMemory = Unit {0}

-- One line more, of so many steps. The branch's next entries stand at these places, and the proof's list is so long.
pub record Moves (old new : Walk) (line : Line) (steps : ℕ) (more : List ℕ) (next : ℕ) : Type 0 where
  pub lines : new.lines ≡ old.lines ++ line ∷ []
  pub places : new.places.items ≡ old.places.items ++ more
  pub len : new.len ≡ next
  pub left : new.left + steps ≡ old.left

-- the rewriting of the literal at the place
abbrev pub rewriting_at : List ℕ → ℕ → ℕ → Bool → Rewritten → Line
rewriting_at places len literal positive r =
    Rewrite (record {
      len = len;
      «axiom» = place_in places r.axiom;
      literal = literal;
      positive = positive;
      rewritten = r;
    })

-- what closes the right premise of the rewriting of an atom
abbrev pub closing_of : ℕ → ℕ → Bool → Rewritten → Option Closing
closing_of len literal positive r =
    if positive then Some (record { atom = literal; negated = head_place r.head_left (len + length r.fills) }) else None

-- A step of a segment, by its principal entry and its place: the line that is written, the places of the entries that
-- it appends, how long the proof's list is then, and what closes a premise behind all that follows.
abbrev pub line_for : Option Entry → ℕ → TabKind → List ℕ → ℕ → Line
line_for e i kind.Alpha places len = Alpha (place_in places i)
line_for e i (kind.Skolem x) places len = Delta (place_in places i) x
line_for e i (kind.Instance x) places len = Gamma (place_in places i) x
line_for e i (kind.Rewrite r) places len = rewriting_at places len (place_in places i) (is_positive_at e) r

abbrev pub more_for : Option Entry → TabKind → ℕ → List ℕ
more_for e kind.Alpha len = run_of len (parts_of e)
more_for e (kind.Skolem x) len = run_of len 1
more_for e (kind.Instance x) len = run_of len 1
more_for e (kind.Rewrite r) len = body_place r.head_left (len + length r.fills) ∷ []

abbrev pub length_for : Option Entry → TabKind → ℕ → ℕ
length_for e kind.Alpha len = len + parts_of e
length_for e (kind.Skolem x) len = len + 1
length_for e (kind.Instance x) len = len + 1
length_for e (kind.Rewrite r) len = len + length r.fills + 2

abbrev pub closing_for : Option Entry → ℕ → TabKind → List ℕ → ℕ → Option Closing
closing_for e i kind.Alpha places len = None
closing_for e i (kind.Skolem x) places len = None
closing_for e i (kind.Instance x) places len = None
closing_for e i (kind.Rewrite r) places len = closing_of len (place_in places i) (is_positive_at e) r

-- how many steps of the proof stand for a step of a segment, with those that close premises
abbrev pub steps_for : TabKind → ℕ
steps_for kind.Alpha = 1
steps_for (kind.Skolem x) = 1
steps_for (kind.Instance x) = 1
steps_for (kind.Rewrite r) = length r.fills + 2

-- the walk over a step of a segment, where this is its principal entry
abbrev pub IsStep : Option Entry → ℕ → TabKind → Walk → Walk → Type 0
IsStep e i kind old new =
    Moves old new (line_for e i kind old.places.items old.len) (steps_for kind) (more_for e kind old.len)
    (length_for e kind old.len)

-- the closings, the last one first
abbrev pub closing_rules : List Closing → List Rule
closing_rules closings = reverse (map (λ (c : Closing). gs3.close c.atom c.negated) closings)

-- the line of a closing item
abbrev pub closing_line : List ℕ → Item → Line
closing_line places (pair i j) = Close (place_in places i) (place_in places j)
closing_line places (false_at i) = FalseAt (place_in places i)
closing_line places (not_true i) = NotTrue (place_in places i)

-- What is written, and then the steps of the rest and the closings, is the whole; so are the symbols. The places are
-- those of the branch, and the steps that are left were counted down by all that is written and by the closings.
pub record Remains (s : Offer) (ys : List Name) (whole : List Rule) (names : List Name) (most : ℕ) (written : List Rule)
    (symbols : List Name)
    (b : Branch) (places : List ℕ) (len left : ℕ) (closings : List Rule) (rest : StepTree) : Type 0 where
  pub rules : written ++ (steps_below s ys b places len rest ++ closings) ≡ whole
  pub named : symbols ++ skolems rest ≡ names
  pub stand : length places ≡ length (entries b)
  pub counted : left + (length written + length closings) ≡ most

-- The segment with this branch at its end begins with the branch b, of which each entry has its place.
pub record Begins (d : ℕ) (b : Branch) (places : List ℕ) (end : Branch) (steps : List Done) (stop : Option ℕ)
    (rest : StepTree) : Type 0 where
  pub stand : length places ≡ length (entries b)
  pub grows : end ≡ after_all b steps
  pub next : AreNext d b (up_to stop rest b steps)

-- In a segment: these steps and then the rest are still to be walked.
pub record Stands (s : Offer) (ys : List Name) (d : ℕ) (whole : List Rule) (names : List Name) (most : ℕ) (now : Walk)
    (closings : List Closing) (end : Branch) (steps : List Done) (stop : Option ℕ) (rest : StepTree) : Type 0 where
  pub at : Branch
  pub grows : end ≡ after_all at steps
  pub next : AreNext d at (up_to stop rest at steps)
  pub remains : Remains s ys whole names most (rules_of_lines s ys now.lines)
      (symbols_of now.lines) at now.places.items now.len now.left (closing_rules closings)
      (up_to stop rest at steps)

-- The walk from a segment's beginning to where these steps are left, whatever is to follow.
abbrev pub WalksOn : Walk → Branch → List Done → Option ℕ → Walk → List Closing → List Done → Type 0
WalksOn old end steps stop now closings left_steps =
    (s : Offer) (ys : List Name) (d : ℕ) (b : Branch) (rest : StepTree)
    → Begins d b old.places.items end steps stop rest
    → Stands s ys d (rules_of_lines s ys old.lines
    ++ steps_below s ys b old.places.items old.len (up_to stop rest b steps))
    (symbols_of old.lines ++ skolems (up_to stop rest b steps))
    (old.left + length (rules_of_lines s ys old.lines)) now closings end left_steps stop rest

-- The walk stands at a branch with the rest to be written, or it was refused since there are more steps than are left.
pub record Reaches (s : Offer) (ys : List Name) (d : ℕ) (whole : List Rule) (names : List Name) (most : ℕ) (now : Walk)
    (closings : List Closing) (end : Branch) (stop : Option ℕ) (rest : StepTree) : Type 0 where
  pub at : Branch
  pub grows : stop ≡ None → end ≡ at
  pub next : AreNext d at rest
  pub remains : Remains s ys whole names most (rules_of_lines s ys now.lines)
      (symbols_of now.lines) at now.places.items now.len now.left (closing_rules closings) rest

abbrev pub WalksSteps : Walk → Branch → List Done → Option ℕ → Walk → Result (List Closing) GsError → Type 0
WalksSteps old end steps stop new (Ok closings) =
    (s : Offer) (ys : List Name) (d : ℕ) (b : Branch) (rest : StepTree)
    → Begins d b old.places.items end steps stop rest
    → Reaches s ys d (rules_of_lines s ys old.lines
    ++ steps_below s ys b old.places.items old.len (up_to stop rest b steps))
    (symbols_of old.lines ++ skolems (up_to stop rest b steps))
    (old.left + length (rules_of_lines s ys old.lines)) new closings end stop rest
WalksSteps old end steps stop new (Err e) =
    (s : Offer) (ys : List Name) (d : ℕ) (b : Branch) (rest : StepTree)
    → Begins d b old.places.items end steps stop rest
    → Refuses old.left (length (steps_below s ys b old.places.items old.len (up_to stop rest b steps))) e

-- These rules are written, and counted.
pub record Writes (s : Offer) (ys : List Name) (added : List Rule) (names : List Name) (old new : Walk) : Type 0 where
  pub rules : rules_of_lines s ys new.lines ≡ rules_of_lines s ys old.lines ++ added
  pub named : symbols_of new.lines ≡ symbols_of old.lines ++ names
  pub left : new.left + length added ≡ old.left

-- They are written, or there are more of them than are left.
abbrev pub Wrote : Offer → List Name → List Rule → List Name → Walk → Walk → Result ⊤ GsError → Type 0
Wrote s ys rules names old new (Ok _) = Writes s ys rules names old new
Wrote s ys rules names old new (Err e) = Refuses old.left (length rules) e

-- The walk over the split of a branch at the place, and over both of its sides.
abbrev pub WalksFork : Branch → ℕ → ClosedTree → ClosedTree → Walk → Walk → Result ⊤ GsError → Type 0
WalksFork b i c c' old new result =
    (s : Offer) (ys : List Name) (d : ℕ) → length old.places.items ≡ length (entries b)
    → GrowsFrom (after b (go_left i)) c → GrowsFrom (after b (go_right i)) c'
    → AreNext d b (forks i (step_tree (after b (go_left i)) c) (step_tree (after b (go_right i)) c'))
    → Wrote s ys (steps_below s ys b old.places.items old.len
    (forks i (step_tree (after b (go_left i)) c) (step_tree (after b (go_right i)) c')))
    (skolems (forks i (step_tree (after b (go_left i)) c) (step_tree (after b (go_right i)) c'))) old new result

-- The walk over a closed tree, where its first segment begins with a branch of which so many entries more stand at the
-- end of the proof's list.
abbrev pub WalksFrom : ℕ → ClosedTree → Walk → Walk → Result ⊤ GsError → Type 0
WalksFrom n c old new result =
    (s : Offer) (ys : List Name) (d : ℕ) (b : Branch)
    → length (old.places.items ++ run_of old.len n) ≡ length (entries b)
    → GrowsFrom b c → AreNext d b (step_tree b c)
    → Wrote s ys (steps_below s ys b (old.places.items ++ run_of old.len n) (old.len + n) (step_tree b c))
    (skolems (step_tree b c)) old new result

-- the walk over a closed tree
abbrev pub Walks : ClosedTree → Walk → Walk → Result ⊤ GsError → Type 0
Walks c old new result =
    (s : Offer) (ys : List Name) (d : ℕ) (b : Branch) → length old.places.items ≡ length (entries b)
    → GrowsFrom b c → AreNext d b (step_tree b c)
    → Wrote s ys (steps_below s ys b old.places.items old.len (step_tree b c)) (skolems (step_tree b c)) old new result

-- the steps of the proof of a closed tree from the branch on, where these are the symbols of its parameters
abbrev pub steps_from : Offer → List Name → Branch → ClosedTree → List Rule
steps_from s ys b c = steps_below s ys b (run_of 0 (length (entries b))) (length (entries b)) (step_tree b c)

-- The lines stand for the steps of the translation of the closed tree of a round, or there are more of these than so
-- many.
abbrev pub ListsSteps : PlainProblem → ClosedTree → ℕ → Result (List Line) GsError → Type 0
ListsSteps problem c most (Ok lines) =
    (rules : List RewriteRule) (d : ℕ) (s : Offer) → IsClosedRound problem rules d s c → (ys : List Name)
    → (rules_of_lines s ys lines ≡ steps_from s ys (beginning problem rules) c)
    × (symbols_of lines ≡ skolems (step_tree (beginning problem rules) c))
ListsSteps problem c most (Err e) =
    (rules : List RewriteRule) (d : ℕ) (s : Offer) → IsClosedRound problem rules d s c → (ys : List Name)
    → Refuses most (length (steps_from s ys (beginning problem rules) c)) e
