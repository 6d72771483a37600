-- What a run tells of the last round that is kept.
use Rattle.std.specs.Prelude.{ℕ, Bool, true, false, List, map, Option, None, Some}
use Rattle.fol_core.specs.Symbol.{Symbol}
use Rattle.unify.specs.View.{offer_of}
use Rattle.tab_tree.specs.declared.words.Engine.{Engine}
use Rattle.tab_tree.specs.declared.words.Engine.TheVariants.{Plain}
use Rattle.round_offers.specs.RoundOffer.{RoundOffer}
use Rattle.nego_node.specs.NodeValue.{NodeValue}
use Rattle.offer_text.specs.Text.{offer_text}
use Rattle.history_text.specs.Lines.{NodeHistory}
use Rattle.deepening.specs.declared.kept.Kept.{Kept}

-- the text of a round's offer over these function symbols
abbrev pub offer_words : List Symbol → RoundOffer → List ℕ
offer_words functions s = offer_text functions (offer_of s.bindings)

abbrev pub engine_or_plain : Option Engine → Engine
engine_or_plain None = Plain
engine_or_plain (Some engine) = engine

abbrev pub histories_of : {S O : Type 0} → List (NodeValue S O) → List (NodeHistory O)
histories_of nodes = map (λ n. record { name = n.state.name; events = n.history }) nodes

-- the histories of the last round, where they are asked for
abbrev pub asked_history : Bool → Kept → Option (List (NodeHistory RoundOffer))
asked_history false kept = None
asked_history true kept = Some (histories_of kept.nodes)
