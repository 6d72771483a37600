use Rattle.std.proofs.Common.{◌<◌, ℕ, List, subst}
use Rattle.nego_laws.specs.Tree.{Tree}
use Rattle.nego_node.specs.Machine.{State}
use Rattle.nego_node.specs.Lawful.{Lawful, MayTry, CanTry}
use Rattle.nego_node.specs.Moves.{IsOf, MayMove}
use Rattle.nego_node.specs.Board.{BoardNode, Comes, MayAct, IsOfAct}
use Rattle.nego_node.specs.declared.events.Outcome.{Outcome}
use Rattle.nego_node.specs.declared.events.Event.{Event}
use Rattle.nego_node.specs.declared.moves.Move.{Move}
use Rattle.nego_node.specs.declared.moves.Move.TheVariants as moves
use Rattle.nego_node.specs.declared.acts.Act.{Act}
use Rattle.nego_node.specs.declared.acts.Act.TheVariants.{Receive, Post, Make}

-- an act by which a lawful event happens is lawful
module _ {O : Type 0} (tree : O → Tree O) (t : Tree O) (s : State O) where
  can-try : (item : ℕ) (outcome : Outcome O) → MayTry tree t s item outcome → CanTry t s
  can-try item outcome may =
      record { task = may.task; seeks = may.seeks; exists = subst (λ (i : ℕ). i < t.items s.name) may.is_next may.exists }

  move-may : (step : Move) (e : Event O) → IsOf step e → Lawful tree t s e → MayMove t s step
  move-may moves.Wait e of may = of
  move-may moves.Try e of may = can-try of.0 of.1 (subst (λ (x : Event O). Lawful tree t s x) of.2 may)
  move-may moves.Split e of may = subst (λ (x : Event O). Lawful tree t s x) of may
  move-may (moves.Ask side) e of may = (of.0, subst (λ (x : Event O). Lawful tree t s x) of.1 may)
  move-may (moves.Adopt side) e of may = (of.0, of.1, subst (λ (x : Event O). Lawful tree t s x) of.2 may)
  move-may moves.Agree e of may = (of.0, of.1, of.2, subst (λ (x : Event O). Lawful tree t s x) of.3 may)
  move-may moves.Forbid e of may = (of.0, of.1, of.2, subst (λ (x : Event O). Lawful tree t s x) of.3 may)
  move-may moves.Refuse e of may = (of.0, of.1, subst (λ (x : Event O). Lawful tree t s x) of.2 may)
  move-may moves.Exhaust e of may = subst (λ (x : Event O). Lawful tree t s x) of may

  pub act-may : (round : ℕ) (ns : List (BoardNode O)) (b : ℕ) (act : Act) (e : Event O) → IsOfAct act e → Comes t round ns b e → Lawful tree t s e → MayAct t round ns b s act
  act-may round ns b Receive e of comes may =
      (of.0, subst (λ (x : Event O). Comes t round ns b x) of.1 comes, subst (λ (x : Event O). Lawful tree t s x) of.1 may)
  act-may round ns b (Post side) e of comes may =
      (of.0, subst (λ (x : Event O). Comes t round ns b x) of.1 comes, subst (λ (x : Event O). Lawful tree t s x) of.1 may)
  act-may round ns b (Make step) e of comes may = move-may step e of may
