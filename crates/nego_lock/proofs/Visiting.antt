use Rattle.std.proofs.Common.{◌≡◌, ◌≢◌, ◌∙◌, ℕ, Bool, true, false, Option, Some, None, IfSome, List, [], ◌∷◌, ◌++◌, sym, ap, refl, subst, if◌then◌else◌}
use Rattle.nego_laws.specs.Tree.{Tree, left_of, right_of}
use Rattle.nego_node.specs.Machine.{State, half, after, resumed, fresh, received, goes_on, asked_in}
use Rattle.nego_node.specs.Lawful.{MayReceive, MayPost}
use Rattle.nego_node.specs.Moves.{IsOf, Did, MayMove, next_move}
use Rattle.nego_node.specs.declared.tasks.Task.{Task}
use Rattle.nego_node.specs.declared.tasks.Side.{Side}
use Rattle.nego_node.specs.declared.tasks.Side.TheVariants.{Left, Right}
use Rattle.nego_node.specs.declared.answers.Answer.{Answer}
use Rattle.nego_node.specs.declared.events.Event.{Event}
use Rattle.nego_node.specs.declared.events.Event.TheVariants as event
use Rattle.nego_node.specs.declared.moves.Move.{Move}
use Rattle.nego_node.specs.declared.moves.Move.TheVariants.{Wait, Try, Split, Ask, Adopt, Agree, Forbid, Refuse, Exhaust}
use Rattle.nego_lock.specs.declared.visit.Message.TheVariants as message
use Rattle.nego_lock.specs.declared.visit.Outgoing.{Outgoing}
use Rattle.nego_lock.specs.declared.visit.Outgoing.TheVariants as outgoing
use Rattle.nego_lock.specs.Visits.{hands_no_task, DidEvent, DidVisit, HandsOn, new_answer}

-- a node that moves has not answered
pub unanswered : {O : Type 0} (t : Tree O) (s : State O) (step : Move) → MayMove t s step → s.answer ≡ None
unanswered t s Wait may = absurd may
unanswered t s Try may = may.seeks.unanswered
unanswered t s Split may = may.seeks.seeks.unanswered
unanswered t s (Ask side) may = may.1.seeks.seeks.unanswered
unanswered t s (Adopt side) may = may.2.seeks.unanswered
unanswered t s Agree may = may.3.seeks.unanswered
unanswered t s Forbid may = may.3.seeks.unanswered
unanswered t s Refuse may = may.2.seeks.unanswered
unanswered t s Exhaust may = may.seeks.seeks.unanswered

-- a move that is lawful is so by its other name
pub may-move : {O : Type 0} (t : Tree O) (s : State O) (m n : Move) → (m ≢ Wait → MayMove t s m) → m ≡ n → n ≢ Wait → MayMove t s n
may-move t s m n may is moves = subst (λ (x : Move). x ≢ Wait → MayMove t s x) is may moves

-- the state and the history after an event on a state that equals the one before
state-of : {O : Type 0} (t t' : Tree O) (s s0 s' : State O) (e : Event O) → t ≡ t' → s0 ≡ s → s' ≡ after t' s0 e → s' ≡ after t s e
state-of {O = O} t t' s s0 s' e same_tree same_state state =
    subst (λ (x : State O). s' ≡ after t x e) same_state (subst (λ (u : Tree O). s' ≡ after u s0 e) (sym same_tree) state)

history-of : {O : Type 0} (h h0 h' : List (Event O)) (e : Event O) → h0 ≡ h → h' ≡ h0 ++ e ∷ [] → h' ≡ h ++ e ∷ []
history-of {O = O} h h0 h' e same history = subst (λ (y : List (Event O)). h' ≡ y ++ e ∷ []) same history

received-answer : {O : Type 0} (s : State O) (task : Task O) (b : Bool) → (if b then resumed s task else fresh s task).answer ≡ None
received-answer s task true = refl
received-answer s task false = refl

-- what is asked is in the slot
asked-filled : {O : Type 0} (t : Tree O) (s : State O) (side : Side) (task : Task O) → asked_in (half (after t s (event.Asked side task)) side).slot ≡ Some task
asked-filled t s Left task = refl
asked-filled t s Right task = refl

-- the task that was asked stands in the slot
pub asks : {O : Type 0} (tree : O → Tree O) (t : Tree O) (s s' : State O) (h h' : List (Event O)) (side : Side) (did : Did tree t (Ask side) s s' h h') → asked_in (half s' side).slot ≡ Some did.is_of.0
asks {O = O} tree t s s' h h' side did =
    ap (λ (x : State O). asked_in (half x side).slot) (did.state ∙ ap (λ (e : Event O). after t s e) did.is_of.1) ∙ asked-filled t s side did.is_of.0

module _ {F O S : Type 0} (tree : O → Tree O) (named : S → ℕ) (t : Tree O) (s s' : State O) where
  given-none : (x : Option (Answer O)) → new_answer {F = F} {O = O} {S = S} x None ≡ outgoing.Nothing
  given-none None = refl
  given-none (Some a) = refl

  given-same : (x : Option (Answer O)) → new_answer {F = F} {O = O} {S = S} x x ≡ outgoing.Nothing
  given-same None = refl
  given-same (Some a) = refl

  -- a task that was taken hands on nothing
  pub hands-received : (task : Task O) → s' ≡ received t s task → HandsOn {F = F} {O = O} {S = S} named s s' (event.Received task) outgoing.Nothing
  hands-received task is =
      sym (given-none s.answer) ∙ ap (λ (x : Option (Answer O)). new_answer s.answer x) (sym (ap (λ (x : State O). x.answer) is ∙ received-answer s task (goes_on t s.held s.answer task)))

  -- nor does an answer
  pub hands-posted : (side : Side) (a : Answer O) → s' ≡ after t s (event.Posted side a) → HandsOn {F = F} {O = O} {S = S} named s s' (event.Posted side a) outgoing.Nothing
  hands-posted side a is =
      sym (given-same s.answer) ∙ ap (λ (x : Option (Answer O)). new_answer s.answer x) (sym (ap (λ (x : State O). x.answer) is))

  -- what the node says after a move that hands on no task
  hands-answer : (step : Move) (e : Event O) (out : Outgoing F O S) → hands_no_task step ≡ true → IsOf step e → out ≡ new_answer s.answer s'.answer → HandsOn named s s' e out
  hands-answer Wait e out kind is says = absurd (let k : false ≡ true = kind in cc)
  hands-answer Try e out kind is says = absurd (let k : false ≡ true = kind in cc)
  hands-answer Split e out kind is says = absurd (let k : false ≡ true = kind in cc)
  hands-answer (Ask side) e out kind is says = absurd (let k : false ≡ true = kind in cc)
  hands-answer (Adopt side) e out kind is says = subst (λ (x : Event O). HandsOn named s s' x out) (sym is.2) says
  hands-answer Agree e out kind is says = subst (λ (x : Event O). HandsOn named s s' x out) (sym is.3) says
  hands-answer Forbid e out kind is says = subst (λ (x : Event O). HandsOn named s s' x out) (sym is.3) says
  hands-answer Refuse e out kind is says = subst (λ (x : Event O). HandsOn named s s' x out) (sym is.2) says
  hands-answer Exhaust e out kind is says = subst (λ (x : Event O). HandsOn named s s' x out) (sym is) says

  hands-try : (e : Event O) (out : Outgoing F O S) → IsOf Try e → out ≡ new_answer s.answer s'.answer → HandsOn named s s' e out
  hands-try e out is says = subst (λ (x : Event O). HandsOn named s s' x out) (sym is.2) says

  says-given : (out : Outgoing F O S) → s.answer ≡ None → out ≡ new_answer None s'.answer → out ≡ new_answer s.answer s'.answer
  says-given out none says = says ∙ ap (λ (x : Option (Answer O)). new_answer x s'.answer) (sym none)

  module _ (h h' : List (Event O)) where
    -- the event of the move that is due
    abbrev pub due : (step : Move) → step ≡ next_move t true s → Did tree t step s s' h h' → DidEvent {F = F} {O = O} {S = S} tree t None s s' h h'
    due step is did =
        record { event = did.event; is_due = subst (λ (x : Move). IsOf x did.event) is did.is_of; lawful = did.lawful; state = did.state; history = did.history }

    pub visit-try : (out : Outgoing F O S) → Try ≡ next_move t true s → MayMove t s Try → Did tree t Try s s' h h' → out ≡ new_answer None s'.answer → DidVisit tree named t None s s' h h' out
    visit-try out is may did says =
        record { did = due Try is did; hands_on = hands-try did.event out did.is_of (says-given out (unanswered t s Try may) says) }

    pub visit-settle : (step : Move) (out : Outgoing F O S) → step ≡ next_move t true s → MayMove t s step → hands_no_task step ≡ true → Did tree t step s s' h h' → out ≡ new_answer None s'.answer → DidVisit tree named t None s s' h h' out
    visit-settle step out is may kind did says =
        record { did = due step is did; hands_on = hands-answer step did.event out kind did.is_of (says-given out (unanswered t s step may) says) }

    pub visit-split : (left right : S) → Split ≡ next_move t true s → Did tree t Split s s' h h' → named left ≡ left_of s.name → named right ≡ right_of s.name → DidVisit {F = F} {O = O} {S = S} tree named t None s s' h h' (outgoing.Sites left right)
    visit-split left right is did at_left at_right =
        record {
          did = due Split is did;
          hands_on = subst (λ (x : Event O). HandsOn {F = F} {O = O} {S = S} named s s' x (outgoing.Sites left right)) (sym did.is_of) (left, right, refl, at_left, at_right);
        }

    pub visit-ask : (step : Move) (side : Side) (out : Outgoing F O S) → step ≡ next_move t true s → step ≡ Ask side → (did : Did tree t (Ask side) s s' h h') → IfSome (asked_in (half s' side).slot) (λ task. out ≡ outgoing.Task task) → DidVisit tree named t None s s' h h' out
    visit-ask step side out is asked did says =
        record {
          did = due (Ask side) (sym asked ∙ is) did;
          hands_on =
              subst (λ (x : Event O). HandsOn named s s' x out) (sym did.is_of.1)
              (subst (λ (x : Option (Task O)). IfSome x (λ task. out ≡ outgoing.Task task)) (asks tree t s s' h h' side did) says);
        }

    -- the event of a message was done on a state that equals the one before
    module _ (t' : Tree O) (s0 : State O) (h0 : List (Event O)) (same_tree : t ≡ t') (same_state : s0 ≡ s) (same_history : h0 ≡ h) where
      -- a task
      pub visit-received : (task : Task O) → MayReceive s0 task → s' ≡ after t' s0 (event.Received task) → h' ≡ h0 ++ event.Received task ∷ [] → DidVisit {F = F} {O = O} {S = S} tree named t (Some (message.Task task)) s s' h h' outgoing.Nothing
      visit-received task may state history =
          record {
            did = record { event = event.Received task; is_due = refl; lawful = subst (λ (x : State O). MayReceive x task) same_state may; state = state-of t t' s s0 s' (event.Received task) same_tree same_state state; history = history-of h h0 h' (event.Received task) same_history history };
            hands_on = hands-received task (state-of t t' s s0 s' (event.Received task) same_tree same_state state);
          }

      -- or an answer
      pub visit-posted : (side : Side) (a : Answer O) → MayPost s0 side a → s' ≡ after t' s0 (event.Posted side a) → h' ≡ h0 ++ event.Posted side a ∷ [] → DidVisit {F = F} {O = O} {S = S} tree named t (Some (message.Answer side a)) s s' h h' outgoing.Nothing
      visit-posted side a may state history =
          record {
            did = record { event = event.Posted side a; is_due = refl; lawful = subst (λ (x : State O). MayPost x side a) same_state may; state = state-of t t' s s0 s' (event.Posted side a) same_tree same_state state; history = history-of h h0 h' (event.Posted side a) same_history history };
            hands_on = hands-posted side a (state-of t t' s s0 s' (event.Posted side a) same_tree same_state state);
          }
