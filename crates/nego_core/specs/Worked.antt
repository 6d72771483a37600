use Rattle.std.specs.Prelude.{ℕ, Bool, true, false, ◌≡◌, List, [], ◌∷◌, Some, nat_eq, if◌then◌else◌}
use Rattle.nego_laws.specs.Tree.{Tree}
use Rattle.nego_node.specs.Board.{BoardNode, first_board}
use Rattle.nego_node.specs.declared.tasks.Task.{Task}
use Rattle.nego_node.specs.declared.answers.Answer.{Answer}
use Rattle.nego_node.specs.declared.answers.Answer.TheVariants as answer
use Rattle.nego_core.specs.Picking.{Leads}
use Rattle.nego_core.specs.Verdict.{root_answer}
use Rattle.nego_core.specs.declared.picks.Pick.{Pick}

-- A worked board: offers are sets of 1 and 2. The root has no items; an item of its left part needs 1 and another one
-- 2, and the item of its right part needs 2.
pub data Set : Type 0 where
  empty : Set
  one : Set
  two : Set
  both : Set

abbrev pub has_all : Set → Set → Bool
has_all x empty = true
has_all both y = true
has_all one one = true
has_all two two = true
has_all _ _ = false

abbrev pub same : Set → Set → Bool
same empty empty = true
same one one = true
same two two = true
same both both = true
same _ _ = false

abbrev pub closes : ℕ → ℕ → Set → Bool
closes b i x = if nat_eq b 2 then (if nat_eq i 0 then has_all x one else has_all x two) else has_all x two

abbrev pub sets : Tree Set
sets =
    record {
      entails = has_all;
      same = same;
      free = empty;
      items = λ b. if nat_eq b 2 then 2 else if nat_eq b 3 then 1 else 0;
      closes = closes;
      parted = λ b. nat_eq b 1;
      height = λ b. if nat_eq b 1 then 1 else 0;
    }

abbrev pub tree : Set → Tree Set
tree x = sets

abbrev pub pick : ℕ → ℕ → Pick
pick node act = record { node = node; act = act }

-- The root receives, splits, and asks both parts, which answer {1} and {2}. The left one is put to the right part; its
-- {2} was not asked for that, and is refused. It is asked again under {1}, begins anew, and answers {1, 2}, to which it
-- agrees.
abbrev pub picks : List Pick
picks =
    pick 0 0 ∷ pick 0 2 ∷ pick 0 3 ∷ pick 0 4 ∷ pick 1 0 ∷ pick 1 1 ∷ pick 2 0 ∷ pick 2 1 ∷ pick 0 5 ∷ pick 0 6
    ∷ pick 0 7 ∷ pick 0 11 ∷ pick 0 4
    ∷ pick 2 0 ∷ pick 2 1 ∷ pick 0 6 ∷ pick 0 9 ∷ []

abbrev pub task : ℕ → ℕ → Set → Task Set
task node generation given = record { round = 1; node = node; generation = generation; given = given; ban = [] }

abbrev pub proposal : Task Set → Set → Answer Set
proposal asked x = answer.Proposal (record { task = asked; offer = x })

abbrev pub right_generation : List (BoardNode Set) → ℕ
right_generation [] = 0
right_generation (n ∷ ns) = n.state.right.generation

-- the picks lead to the set of both, each of them is lawful, and the right side's generation ends at 2
pub record IsWorked : Type 0 where
  pub board : List (BoardNode Set)
  pub led : Leads tree sets 1 (first_board 1) 0 picks board 0
  pub answer : root_answer board ≡ Some (proposal (task 1 1 empty) both)
  pub right : right_generation board ≡ 2
