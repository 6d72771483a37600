use Rattle.std.proofs.Common.{◌≡◌, ◌≢◌, ◌∙◌, ℕ, zero, suc, Bool, true, false, Some, None, List, [], ◌∷◌, ◌++◌, All, slice_get, slice_set, sym, ap, refl, subst}
use Rattle.std.proofs.lemmas.List.Elements.{All-cons, All-head, All-tail}
use Rattle.nego_laws.specs.Tree.{Tree, Laws}
use Rattle.nego_node.specs.Machine.{State, after, part_of}
use Rattle.nego_node.specs.Lawful.{MayReceive, MayPost, task_of}
use Rattle.nego_node.specs.Sound.{Belongs, Keeps, IsTrueAnswer}
use Rattle.nego_node.specs.Moves.{IsOf, MayMove}
use Rattle.nego_node.specs.NodeValue.{NodeValue}
use Rattle.nego_node.specs.Board.{BoardNode, asked_at, said_at, with_event, Comes, MayAct, IsOfAct}
use Rattle.nego_node.specs.declared.tasks.Task.{Task}
use Rattle.nego_node.specs.declared.tasks.Side.{Side}
use Rattle.nego_node.specs.declared.answers.Answer.{Answer}
use Rattle.nego_node.specs.declared.answers.Answer.TheVariants.{Proposal, Exhausted}
use Rattle.nego_node.specs.declared.events.Event.{Event}
use Rattle.nego_node.specs.declared.events.Event.TheVariants.{Received, Split, Posted}
use Rattle.nego_node.specs.declared.events.Event.TheVariants as event
use Rattle.nego_node.specs.declared.moves.Move.{Move}
use Rattle.nego_node.specs.declared.moves.Move.TheVariants as moves
use Rattle.nego_node.specs.declared.acts.Act.{Act}
use Rattle.nego_node.specs.declared.acts.Act.TheVariants.{Receive, Post, Make}
use Rattle.nego_node.proofs.Sides.{none-some, same-some}
use Rattle.nego_node.proofs.Boards.{asked-true, said-true, keeps-at}
use Rattle.nego_core.specs.Bare.{bare_node, bare}
use Rattle.nego_core.specs.Turns.{Turn}
use Rattle.nego_core.specs.Links.{IsPlay}
use Rattle.nego_core.specs.Plays.{Plays, Acted, Stepped}
use Rattle.nego_core.specs.declared.links.Link.{Link}
use Rattle.nego_core.proofs.Places.{map-set}
use Rattle.nego_core.proofs.Playing.{by-name, happens-at, play-after}
use Rattle.nego_core.proofs.Reading.{bare-get}

pub all-at : {A : Type 0} (P : A → Type 0) (xs : List A) (i : ℕ) (x : A) → All P xs → slice_get xs i ≡ Some x → P x
all-at P [] i x all e = absurd (none-some refl e)
all-at P (y ∷ xs) zero x all e = subst P (same-some refl e) (All-head P y xs all)
all-at P (y ∷ xs) (suc i) x all e = all-at P xs i x (All-tail P y xs all) e

pub all-set : {A : Type 0} (P : A → Type 0) (xs : List A) (i : ℕ) (x : A) → All P xs → P x → All P (slice_set xs i x)
all-set P [] i x all p = all
all-set P (y ∷ xs) zero x all p = All-cons P x xs p (All-tail P y xs all)
all-set P (y ∷ xs) (suc i) x all p = All-cons P y (slice_set xs i x) (All-head P y xs all) (all-set P xs i x (All-tail P y xs all) p)

-- an element in its own place
pub set-own : {A : Type 0} (xs : List A) (i : ℕ) (x : A) → slice_get xs i ≡ Some x → slice_set xs i x ≡ xs
set-own [] i x e = refl
set-own (y ∷ xs) zero x e = ap (λ (z : _). z ∷ xs) (sym (same-some refl e))
set-own (y ∷ xs) (suc i) x e = ap (λ (l : List _). y ∷ l) (set-own xs i x e)

module _ {S O : Type 0} (tree : O → Tree O) (t : Tree O) (laws : Laws t (λ s. tree s ≡ t)) (around : S → Tree O) (round : ℕ) (nodes : List (NodeValue S O)) (links : List Link) (plays : Plays tree t around round nodes links) (at : ℕ) (v : NodeValue S O) (is : slice_get nodes at ≡ Some v) where
  pub site-at : around v.site ≡ t
  site-at = all-at (λ x. around x.site ≡ t) nodes at v plays.sites is

  pub here-bare : slice_get (bare nodes) at ≡ Some (bare_node v)
  here-bare = bare-get nodes at v is

  pub asked-belongs : (task : Task O) → asked_at t round (bare nodes) v.state.name ≡ Some task → Belongs tree t task
  asked-belongs task e = asked-true tree t laws round (bare nodes) plays.play.board v.state.name task e

  pub said-belongs : (b : ℕ) (a : Answer O) → said_at (bare nodes) b ≡ Some a → Belongs tree t (task_of a)
  said-belongs b a e = of-answer a (said-true tree t laws round (bare nodes) plays.play.board b a e)
    where
      of-answer : (a : Answer O) → IsTrueAnswer tree t a → Belongs tree t (task_of a)
      of-answer (Proposal p) truth = truth.0
      of-answer (Exhausted e) truth = truth.0

  pub keeps-here : Keeps tree t v.state
  keeps-here = keeps-at tree t laws round (bare nodes) plays.play.board v.state.name (bare_node v) (by-name tree t laws round (bare nodes) links plays.play at (bare_node v) here-bare)

  -- nothing changed but the room for events
  unchanged : (v' : NodeValue S O) → v'.state ≡ v.state → v'.history ≡ v.history → bare (slice_set nodes at v') ≡ bare nodes
  unchanged v' s h =
      let same : bare_node v' ≡ bare_node v =
      ap (λ (x : State O). let n : BoardNode O = record { state = x; history = v'.history } in n) s
      ∙ ap (λ (x : List (Event O)). let n : BoardNode O = record { state = v.state; history = x } in n) h
      in
      map-set bare_node nodes at v' ∙ (ap (λ (x : BoardNode O). slice_set (bare nodes) at x) same ∙ set-own (bare nodes) at (bare_node v) here-bare)

  pub with-event : (v' : NodeValue S O) (e : Event O) → v'.state ≡ after t v.state e → v'.history ≡ v.history ++ e ∷ [] → bare (slice_set nodes at v') ≡ slice_set (bare nodes) at (with_event t e (bare_node v))
  with-event v' e s h =
      let same : bare_node v' ≡ with_event t e (bare_node v) =
      ap (λ (x : State O). let n : BoardNode O = record { state = x; history = v'.history } in n) s
      ∙ ap (λ (x : List (Event O)). let n : BoardNode O = record { state = after t v.state e; history = x } in n) h
      in
      map-set bare_node nodes at v' ∙ ap (λ (x : BoardNode O). slice_set (bare nodes) at x) same

  pub sites-after : (v' : NodeValue S O) → v'.site ≡ v.site → All (λ x. around x.site ≡ t) (slice_set nodes at v')
  sites-after v' same = all-set (λ x. around x.site ≡ t) nodes at v' plays.sites (ap around same ∙ site-at)

  -- what a node's turn makes of the board, for an act other than to split
  stepped-by : (act : Act) (P : Event O → Type 0) (May : Type 0) (v' : NodeValue S O) (did : Bool) → v'.site ≡ v.site → Turn tree t P May did v.state v'.state v.history v'.history → ((e : Event O) → P e → IsOfAct act e × Comes t round (bare nodes) v.state.name e × (e ≡ Split → ⊥)) → (MayAct t round (bare nodes) v.state.name v.state act → May) → Stepped tree t around round at act nodes (slice_set nodes at v') links did
  stepped-by act P May v' true site turn of may =
      let w = of turn.event turn.is_of in
      let becomes : bare (slice_set nodes at v') ≡ slice_set (bare nodes) at (with_event t turn.event (bare_node v)) = with-event v' turn.event turn.state turn.history in
      record {
        plays = record { play = play-after tree t laws round (bare nodes) links plays.play at (bare_node v) here-bare turn.event w.1 turn.lawful (bare (slice_set nodes at v')) w.2 becomes; sites = sites-after v' site };
        acted = λ n found.
            subst (λ (x : BoardNode O). Acted tree t round act (bare nodes) (bare (slice_set nodes at v')) x true) (same-some here-bare found)
            (turn.event, w.0, happens-at tree t laws round (bare nodes) links plays.play at (bare_node v) here-bare turn.event w.1 turn.lawful (bare (slice_set nodes at v')) w.2 becomes);
      }
  stepped-by act P May v' false site turn of may =
      let same : bare (slice_set nodes at v') ≡ bare nodes = unchanged v' turn.1 turn.2 in
      record {
        plays = record { play = subst (λ (x : List (BoardNode O)). IsPlay tree t round x links) (sym same) plays.play; sites = sites-after v' site };
        acted = λ n found.
            subst (λ (x : BoardNode O). Acted tree t round act (bare nodes) (bare (slice_set nodes at v')) x false) (same-some here-bare found)
            (λ m. turn.0 (may m), same);
      }

  pub stepped : (act : Act) (P : Event O → Type 0) (May : Type 0) (v' : NodeValue S O) (nodes' : List (NodeValue S O)) (did : Bool) → nodes' ≡ slice_set nodes at v' → v'.site ≡ v.site → Turn tree t P May did v.state v'.state v.history v'.history → ((e : Event O) → P e → IsOfAct act e × Comes t round (bare nodes) v.state.name e × (e ≡ Split → ⊥)) → (MayAct t round (bare nodes) v.state.name v.state act → May) → Stepped tree t around round at act nodes nodes' links did
  stepped act P May v' nodes' did is_set site turn of may =
      subst (λ (x : List (NodeValue S O)). Stepped tree t around round at act nodes x links did) (sym is_set) (stepped-by act P May v' did site turn of may)

  -- a task that is taken is the one that the node is asked
  pub received-stepped : (task : Task O) (v' : NodeValue S O) (nodes' : List (NodeValue S O)) (did : Bool) → asked_at t round (bare nodes) v.state.name ≡ Some task → nodes' ≡ slice_set nodes at v' → v'.site ≡ v.site → Turn tree t (λ e. e ≡ Received task) (MayReceive v.state task) did v.state v'.state v.history v'.history → Stepped tree t around round at Receive nodes nodes' links did
  received-stepped task v' nodes' did asked is_set site turn =
      stepped Receive (λ e. e ≡ Received task) (MayReceive v.state task) v' nodes' did is_set site turn
      (λ e same. ((task, same), subst (λ (x : Event O). Comes t round (bare nodes) v.state.name x) (sym same) asked, λ split. let k : Received task ≡ Split = sym same ∙ split in cc))
      (λ may. subst (λ (x : Task O). MayReceive v.state x) (same-some may.1 asked) may.2)

  pub posted-stepped : (side : Side) (a : Answer O) (v' : NodeValue S O) (nodes' : List (NodeValue S O)) (did : Bool) → said_at (bare nodes) (part_of v.state.name side) ≡ Some a → nodes' ≡ slice_set nodes at v' → v'.site ≡ v.site → Turn tree t (λ e. e ≡ Posted side a) (MayPost v.state side a) did v.state v'.state v.history v'.history → Stepped tree t around round at (Post side) nodes nodes' links did
  posted-stepped side a v' nodes' did said is_set site turn =
      stepped (Post side) (λ e. e ≡ Posted side a) (MayPost v.state side a) v' nodes' did is_set site turn
      (λ e same. ((a, same), subst (λ (x : Event O). Comes t round (bare nodes) v.state.name x) (sym same) said, λ split. let k : Posted side a ≡ Split = sym same ∙ split in cc))
      (λ may. subst (λ (x : Answer O). MayPost v.state side x) (same-some may.1 said) may.2)

-- an act that is not lawful leaves all as it was
module _ {S O : Type 0} (tree : O → Tree O) (t : Tree O) (around : S → Tree O) (round : ℕ) (nodes : List (NodeValue S O)) (links : List Link) (plays : Plays tree t around round nodes links) (at : ℕ) where
  pub unlawful-stepped : (act : Act) → ((n : BoardNode O) → slice_get (bare nodes) at ≡ Some n → MayAct t round (bare nodes) n.state.name n.state act → ⊥) → Stepped tree t around round at act nodes nodes links false
  unlawful-stepped act never = record { plays = plays; acted = λ n found. (never n found, refl) }

  pub unasked-stepped : ((n : BoardNode O) → slice_get (bare nodes) at ≡ Some n → None ≡ asked_at t round (bare nodes) n.state.name) → Stepped tree t around round at Receive nodes nodes links false
  unasked-stepped none = unlawful-stepped Receive (λ n found may. none-some (sym (none n found)) may.1)

  pub unsaid-stepped : (side : Side) → ((n : BoardNode O) → slice_get (bare nodes) at ≡ Some n → None ≡ said_at (bare nodes) (part_of n.state.name side)) → Stepped tree t around round at (Post side) nodes nodes links false
  unsaid-stepped side none = unlawful-stepped (Post side) (λ n found may. none-some (sym (none n found)) may.1)

-- the event of a move other than to split comes from nowhere, and opens nothing
module _ {O : Type 0} (t : Tree O) (round : ℕ) (ns : List (BoardNode O)) (b : ℕ) where
  move-comes : (step : Move) (e : Event O) → step ≢ moves.Split → IsOf step e → Comes t round ns b e × (e ≡ Split → ⊥)
  move-comes moves.Wait e ne of = absurd of
  move-comes moves.Try e ne of =
      (subst (λ (x : Event O). Comes t round ns b x) (sym of.2) tt, λ split. let k : event.Tried of.0 of.1 ≡ Split = sym of.2 ∙ split in cc)
  move-comes moves.Split e ne of = absurd (ne refl)
  move-comes (moves.Ask side) e ne of =
      (subst (λ (x : Event O). Comes t round ns b x) (sym of.1) tt, λ split. let k : event.Asked side of.0 ≡ Split = sym of.1 ∙ split in cc)
  move-comes (moves.Adopt side) e ne of =
      (subst (λ (x : Event O). Comes t round ns b x) (sym of.2) tt, λ split. let k : event.Adopted side of.0 of.1 ≡ Split = sym of.2 ∙ split in cc)
  move-comes moves.Agree e ne of =
      (subst (λ (x : Event O). Comes t round ns b x) (sym of.3) tt, λ split. let k : event.Agreed of.0 of.1 of.2 ≡ Split = sym of.3 ∙ split in cc)
  move-comes moves.Forbid e ne of =
      (subst (λ (x : Event O). Comes t round ns b x) (sym of.3) tt, λ split. let k : event.Forbidden of.0 of.1 of.2 ≡ Split = sym of.3 ∙ split in cc)
  move-comes moves.Refuse e ne of =
      (subst (λ (x : Event O). Comes t round ns b x) (sym of.2) tt, λ split. let k : event.Refused of.0 of.1 ≡ Split = sym of.2 ∙ split in cc)
  move-comes moves.Exhaust e ne of =
      (subst (λ (x : Event O). Comes t round ns b x) (sym of) tt, λ split. let k : event.Exhausted ≡ Split = sym of ∙ split in cc)

module _ {S O : Type 0} (tree : O → Tree O) (t : Tree O) (laws : Laws t (λ s. tree s ≡ t)) (around : S → Tree O) (round : ℕ) (nodes : List (NodeValue S O)) (links : List Link) (plays : Plays tree t around round nodes links) (at : ℕ) (v : NodeValue S O) (is : slice_get nodes at ≡ Some v) where
  pub moved-stepped : (step : Move) (v' : NodeValue S O) (nodes' : List (NodeValue S O)) (did : Bool) → step ≢ moves.Split → nodes' ≡ slice_set nodes at v' → v'.site ≡ v.site → Turn tree (around v.site) (IsOf step) (MayMove (around v.site) v.state step) did v.state v'.state v.history v'.history → Stepped tree t around round at (Make step) nodes nodes' links did
  moved-stepped step v' nodes' did ne is_set site turn =
      let there : Turn tree t (IsOf step) (MayMove t v.state step) did v.state v'.state v.history v'.history =
      subst (λ (x : Tree O). Turn tree x (IsOf step) (MayMove x v.state step) did v.state v'.state v.history v'.history) (site-at tree t laws around round nodes links plays at v is) turn
      in
      stepped tree t laws around round nodes links plays at v is (Make step) (IsOf step) (MayMove t v.state step) v' nodes' did is_set site there
      (λ e of. let w = move-comes t round (bare nodes) v.state.name step e ne of in (of, w.0, w.1)) (λ may. may)
