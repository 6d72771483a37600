use Rattle.std.proofs.Common.{◌≡◌, ◌≢◌, ◌∙◌, ℕ, false, List, sym, ap, refl, subst, IsSome}
use Rattle.nego_laws.specs.Tree.{Tree}
use Rattle.nego_node.specs.Machine.{State}
use Rattle.nego_node.specs.Lawful.{Lawful}
use Rattle.nego_node.specs.Moves.{next_move, IsOf, Did}
use Rattle.nego_node.specs.declared.events.Event.{Event}
use Rattle.nego_node.specs.declared.moves.Move.{Move}
use Rattle.nego_node.specs.declared.moves.Move.TheVariants.{Wait, Try, Split, Ask, Adopt, Agree, Forbid, Refuse, Exhaust}
use Rattle.nego_node.specs.Board.{BoardNode, with_event}
use Rattle.nego_plain.specs.PlainOrder.{tried_in}
use Rattle.nego_plain.specs.Family.{Family, alone, with_parts, top, with_top, Steps}
use Rattle.nego_plain.specs.Family as family
use Rattle.nego_plain.specs.Engine.{DidMove, IsMoveLimited, DidStep, IsLimited, IsSeeking, here}
use Rattle.nego_plain.specs.Views.{family_below}
use Rattle.nego_plain.specs.declared.tries.Tries.{Tries}
use Rattle.nego_plain.specs.declared.family.Below.{Below, Nothing, Parts'}

-- an event that is not of Try is no attempt
pub no-attempt : {O : Type 0} (step : Move) (e : Event O) → IsOf step e → step ≢ Try → tried_in e ≡ 0
no-attempt Try e h differs = absurd (differs refl)
no-attempt Wait e h differs = absurd h
no-attempt {O} Split e h differs = ap (λ (x : Event O). tried_in x) h
no-attempt {O} (Ask side) e h differs = ap (λ (x : Event O). tried_in x) h.1
no-attempt {O} (Adopt side) e h differs = ap (λ (x : Event O). tried_in x) h.2
no-attempt {O} Agree e h differs = ap (λ (x : Event O). tried_in x) h.3
no-attempt {O} Forbid e h differs = ap (λ (x : Event O). tried_in x) h.3
no-attempt {O} Refuse e h differs = ap (λ (x : Event O). tried_in x) h.2
no-attempt {O} Exhaust e h differs = ap (λ (x : Event O). tried_in x) h

same-node : {O : Type 0} (a b : BoardNode O) → a.state ≡ b.state → a.history ≡ b.history → a ≡ b
same-node {O} a b e f = ap (λ (s : State O). record { state = s; history = a.history }) e ∙ ap (λ (h : List (Event O)). record { state = b.state; history = h }) f

-- a move other than an attempt, of a node
pub did-move : {O : Type 0} (tree : O → Tree O) (t : Tree O) (n n' : BoardNode O) (step : Move) (tries : Tries) → next_move t false n.state ≡ step → step ≢ Wait → step ≢ Split → step ≢ Try → Did tree t step n.state n'.state n.history n'.history → DidMove tree t n n' tries tries
did-move {O} tree t n n' step tries next no_wait no_split no_try did =
    let none : tried_in did.event ≡ 0 = no-attempt step did.event did.is_of no_try in
    record {
      step = step;
      event = did.event;
      next = next;
      not_wait = no_wait;
      not_split = no_split;
      is_of = did.is_of;
      lawful = did.lawful;
      node = same-node n' _ did.state did.history;
      same_limit = refl;
      made = rw none refl;
      allowed = λ h. absurd (let k : 0 ≡ 1 = sym none ∙ h in cc);
    }

module _ {F O S : Type 0} where
  pub top-below : (n : BoardNode O) (b : Below F O S) → top (family_below n b) ≡ n
  top-below n Nothing = refl
  top-below n (Parts' p m a q k b) = refl

  pub with-top-below : (n m : BoardNode O) (b : Below F O S) → with_top (family_below n b) m ≡ family_below m b
  with-top-below n m Nothing = refl
  with-top-below n m (Parts' p i a q k b) = refl

-- a move of the top is a step of the family
pub move-steps : {F O S : Type 0} (tree : O → Tree O) (t : Tree O) (round : ℕ) (n n' : BoardNode O) (b : Below F O S) (tries tries' : Tries) → IsSome n.state.held → DidMove tree t n n' tries tries' → DidStep tree t round (family_below n b) (family_below n' b) tries tries'
move-steps {O = O} tree t round n n' b tries tries' holds did =
    let at : top (family_below n b) ≡ n = top-below n b in
    record {
      event = did.event;
      steps =
          subst (λ (z : Family _). Steps tree t round (family_below n b) did.event z)
          (ap (λ (z : BoardNode _). with_top (family_below n b) (with_event t did.event z)) at ∙ (ap (λ (z : BoardNode _). with_top (family_below n b) z) (sym did.node) ∙ with-top-below n n' b))
          (family.moves (family_below n b) did.step did.event (subst (λ (z : BoardNode _). IsSome z.state.held) (sym at) holds) (subst (λ (z : BoardNode _). next_move t false z.state ≡ did.step) (sym at) did.next) did.not_wait did.not_split did.is_of (subst (λ (z : BoardNode O). Lawful tree t z.state did.event) (sym at) did.lawful));
      same_limit = did.same_limit;
      made = did.made;
      allowed = did.allowed;
    }

pub move-limited : {F O S : Type 0} (t : Tree O) (n n' : BoardNode O) (b : Below F O S) (tries tries' : Tries) → IsSeeking n.state → IsMoveLimited t n n' tries tries' → IsLimited t (family_below n b) (family_below n' b) tries tries'
move-limited t n n' b tries tries' seeks limited =
    let at : top (family_below n b) ≡ n = top-below n b in
    record {
      next = here (family_below n b) (subst (λ (z : BoardNode _). IsSeeking z.state) (sym at) seeks) (subst (λ (z : BoardNode _). next_move t false z.state ≡ Try) (sym at) limited.next);
      same = ap (λ (z : BoardNode _). family_below z b) limited.same;
      same_tries = limited.same_tries;
      reached = limited.reached;
    }
