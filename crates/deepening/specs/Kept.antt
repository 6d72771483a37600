-- What is kept of a search.
use Rattle.std.specs.Prelude.{◌≡◌, ℕ, List, [], ◌∷◌, Option, None, Some, nat_eq, if◌then◌else◌}
use Rattle.std.specs.List.{sum_by}
use Rattle.nego_node.specs.NodeValue.{NodeValue}
use Rattle.nego_node.specs.declared.events.Event.{Event}
use Rattle.nego_node.specs.declared.events.Event.TheVariants.{Tried, Agreed}
use Rattle.nego_node.specs.declared.events.Outcome.TheVariants as outcome
use Rattle.nego_plain.specs.PlainOrder.{tried_of}
use Rattle.deepening.specs.declared.kept.Kept.{Kept}

-- there was no round
abbrev pub IsEmpty : Kept → Type 0
IsEmpty kept = (kept.depth ≡ 0) × (kept.engine ≡ None) × (kept.nodes ≡ []) × (kept.given_up ≡ None)

module _ {O : Type 0} where
  -- the offer with which an event answers a task
  abbrev pub offer_by : Event O → Option O
  offer_by (Tried item (outcome.Offer s)) = Some s
  offer_by (Agreed side g s) = Some s
  offer_by _ = None

  -- the offer of the last event
  abbrev pub last_offer : List (Event O) → Option O
  last_offer [] = None
  last_offer (e ∷ []) = offer_by e
  last_offer (e ∷ f ∷ events) = last_offer (f ∷ events)

module _ {S O : Type 0} where
  -- the offer of the root's last event
  abbrev pub root_offer : List (NodeValue S O) → Option O
  root_offer [] = None
  root_offer (n ∷ ns) = if nat_eq n.state.name 1 then last_offer n.history else root_offer ns

  -- how many attempts the histories hold
  abbrev pub attempts_in : List (NodeValue S O) → ℕ
  attempts_in nodes = sum_by (λ n. tried_of n.history) nodes
