-- The walk that looks for an open leaf: which segments of a tableau it visits, in which order, and what it answers.
use Rattle.std.specs.Prelude.{◌≡◌, ℕ, Bool, true, false, nat_lt, List, [], ◌∷◌, ◌++◌, length, take, Option, Some, None}
use Rattle.unify.specs.Offers.{Offer, IsOffer}
use Rattle.branch_rules.specs.Branch.{entries}
use Rattle.tab_tree.specs.Items.{ClosesSome}
use Rattle.tab_tree.specs.Tableau.{IsTableau, Tableau}
use Rattle.tab_tree.specs.Segments.{Segment, Segments, tip, node, items, top, all_segments}
use Rattle.tab_tree.specs.RoundValue.{RoundValue, root_of}
use Rattle.tab_tree.specs.declared.words.OpenAnswer.{OpenAnswer}
use Rattle.tab_tree.specs.declared.words.OpenAnswer.TheVariants.{Branch, Conflict, Unsearched}
use Rattle.open_walk.specs.declared.limit.TheConstants.{MOST_SEGMENTS}

-- some offer equates an item of the segment
abbrev pub HasUnifiable : Segment → Type 0
HasUnifiable g = (s : Offer) × IsOffer s × ClosesSome s (entries g.branch) (items g)

-- a segment that is visited goes by its name; an open one is a leaf without such an item
pub data Visit : Type 0 where
  open_leaf : ℕ → Visit
  other : ℕ → Visit

-- The segments that are visited: each before those below it, those on the left before those on the right, and none
-- below one that has an item which some offer equates.
pub data IsWalk : Segments → List Visit → Type 0 where
  stops : (gs : Segments) → HasUnifiable (top gs) → IsWalk gs (other (top gs).name ∷ [])
  is_open : (g : Segment) → (HasUnifiable g → ⊥) → IsWalk (tip g) (open_leaf g.name ∷ [])
  goes_on : (g : Segment) (l r : Segments) (left right : List Visit) → (HasUnifiable g → ⊥)
      → IsWalk l left → IsWalk r right → IsWalk (node g l r) (other g.name ∷ (left ++ right))

abbrev pub first_open : List Visit → Option ℕ
first_open [] = None
first_open (open_leaf b ∷ walk) = Some b
first_open (other b ∷ walk) = first_open walk

-- the first open leaf, or that the walk has none, or that it was cut and has none before
abbrev pub answer_by : Option ℕ → Bool → OpenAnswer
answer_by (Some b) is_cut = Branch b
answer_by None true = Unsearched
answer_by None false = Conflict

abbrev pub answer_within : ℕ → List Visit → OpenAnswer
answer_within limit walk = answer_by (first_open (take limit walk)) (nat_lt limit (length walk))

abbrev pub IsWalkAnswer : Segments → OpenAnswer → Type 0
IsWalkAnswer gs answer = (walk : List Visit) × IsWalk gs walk × (answer_within MOST_SEGMENTS walk ≡ answer)

-- what the walk of a round's tableau answers
abbrev pub IsOpenAnswer : RoundValue → OpenAnswer → Type 0
IsOpenAnswer r answer =
    (t : Tableau) × IsTableau r.depth (root_of r) t × IsWalkAnswer (all_segments (root_of r) t) answer
