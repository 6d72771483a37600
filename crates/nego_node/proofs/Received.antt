use Rattle.std.proofs.Common.{◌≡◌, ℕ, Bool, true, false, List, [], ◌∷◌, ◌++◌, length, refl, ap, subst, sym, ◌∙◌, Option, Some, None, arith, length-append, if◌then◌else◌}
use Rattle.containers.specs.Growing.{Growing}
use Rattle.nego_laws.specs.Tree.{Tree, Laws}
use Rattle.nego_node.specs.Machine.{State, after, goes_on, resumed, fresh}
use Rattle.nego_node.specs.Lawful.{MayReceive}
use Rattle.nego_node.specs.Sound.{Belongs}
use Rattle.nego_node.specs.NodeValue.{IsNode, task_in}
use Rattle.nego_node.specs.NodeView.{value_of, IsKept}
use Rattle.nego_node.specs.declared.tasks.Task.{Task}
use Rattle.nego_node.specs.declared.events.Event.{Event}
use Rattle.nego_node.specs.declared.events.Event.TheVariants.{Received}
use Rattle.nego_node.specs.declared.node.NodeState.TheInside.{Inside}
use Rattle.std.proofs.Common.{slice_get}
use Rattle.nego_node.specs.Machine.{Half, cleared}
use Rattle.nego_node.specs.Parts.{cleared_part}
use Rattle.nego_node.specs.NodeValue.{half_of, PartFits}
use Rattle.nego_node.specs.declared.parts.Part.{Part}
use Rattle.nego_node.specs.declared.parts.Parts.{Parts}
use Rattle.nego_node.proofs.Places.{get-end, slot_of-append, half_of-append, part_fits-append, cleared-half, cleared-fits}
use Rattle.nego_node.proofs.Runs.{node-after}

module _ {F O S : Type 0} (n : Inside F O S) (task : Task O) (place : ℕ) (log : Growing (Event O)) where
  -- the fields after a task that the node goes on with
  abbrev pub resumed_inside : Inside F O S
  resumed_inside = record n { held = Some place; answer = None; history = log }

module _ {F O S : Type 0} (tree : O → Tree O) (t : Tree O) (name : ℕ) (n : Inside F O S) (task : Task O) (place : ℕ) (log : Growing (Event O)) (at_end : place ≡ length n.history.items) (put : log.items ≡ n.history.items ++ Received task ∷ []) (kept : IsKept tree t name n) where
  pub resumed-state : (value_of (resumed_inside n task place log)).state ≡ resumed (value_of n).state task
  resumed-state =
      rw (put, at_end, get-end n.history.items (Received task), slot_of-append n.history.items (Received task) n.parts.left.slot kept.parts.left.slot, slot_of-append n.history.items (Received task) n.parts.right.slot kept.parts.right.slot) refl

  pub resumed-kept : Laws t (λ s. tree s ≡ t) → MayReceive (value_of n).state task → Belongs tree t task → goes_on t (value_of n).state.held (value_of n).state.answer task ≡ true → IsKept tree t name (resumed_inside n task place log)
  resumed-kept laws lawful belongs on =
      let s : State O = (value_of n).state in
      let e : after t s (Received task) ≡ resumed s task = ap (λ (b : Bool). if b then resumed s task else fresh s task) on in
      let node : IsNode tree t name (after t s (Received task)) (n.history.items ++ Received task ∷ []) =
      node-after tree t laws name s n.history.items (Received task) kept.node lawful belongs in
      record {
        held = rw (put, at_end) (omega (arith, length-append n.history.items (Received task ∷ [])));
        parts =
            record {
              left = rw put (part_fits-append n.history.items (Received task) n.parts.left kept.parts.left);
              right = rw put (part_fits-append n.history.items (Received task) n.parts.right kept.parts.right);
            };
        node =
            subst (λ (x : State O). IsNode tree t name x log.items) (e ∙ sym resumed-state)
            (subst (λ (h : List (Event O)). IsNode tree t name (after t s (Received task)) h) (sym put) node);
      }

-- the fields after a task with which the node does not go on
abbrev pub started_inside : {F O S : Type 0} → Inside F O S → ℕ → Parts O → Growing (Event O) → Inside F O S
started_inside n place ps log = record n { held = Some place; next = 0; parts = ps; trial = None; answer = None; history = log }

module _ {F O S : Type 0} (tree : O → Tree O) (t : Tree O) (name : ℕ) (n : Inside F O S) (task : Task O) (place : ℕ) (ps : Parts O) (log : Growing (Event O)) (at_end : place ≡ length n.history.items) (put : log.items ≡ n.history.items ++ Received task ∷ []) (is : ps ≡ record { left = cleared_part n.parts.left; right = cleared_part n.parts.right }) (kept : IsKept tree t name n) where
  side-state : (p q : Part O) → PartFits n.history.items p → q ≡ cleared_part p → half_of log.items q ≡ cleared (half_of n.history.items p)
  side-state p q fits e =
      ap (λ (x : Part O). half_of log.items x) e
      ∙ (ap (λ (x : List (Event O)). half_of x (cleared_part p)) put
      ∙ (cleared-half (n.history.items ++ Received task ∷ []) p ∙ ap (λ (x : Half O). cleared x) (half_of-append n.history.items (Received task) p fits)))

  pub started-state : (value_of (started_inside n place ps log)).state ≡ fresh (value_of n).state task
  started-state =
      let mk : Option (Task O) → Half O → Half O → State O =
      λ held l r. record { round = n.round; name = n.name; held = held; next = 0; has_split = n.has_split; left = l; right = r; trial = None; answer = None }
      in
      let held : task_in (slice_get log.items place) ≡ Some task = rw (put, at_end, get-end n.history.items (Received task)) refl in
      ap (λ (x : Option (Task O)). mk x (half_of log.items ps.left) (half_of log.items ps.right)) held
      ∙ (ap (λ (x : Half O). mk (Some task) x (half_of log.items ps.right)) (side-state n.parts.left ps.left kept.parts.left (ap (λ (x : Parts O). x.left) is))
      ∙ ap (λ (x : Half O). mk (Some task) (cleared (half_of n.history.items n.parts.left)) x) (side-state n.parts.right ps.right kept.parts.right (ap (λ (x : Parts O). x.right) is)))

  pub started-kept : Laws t (λ s. tree s ≡ t) → MayReceive (value_of n).state task → Belongs tree t task → goes_on t (value_of n).state.held (value_of n).state.answer task ≡ false → IsKept tree t name (started_inside n place ps log)
  started-kept laws lawful belongs off =
      let s : State O = (value_of n).state in
      let e : after t s (Received task) ≡ fresh s task = ap (λ (b : Bool). if b then resumed s task else fresh s task) off in
      let node : IsNode tree t name (after t s (Received task)) (n.history.items ++ Received task ∷ []) =
      node-after tree t laws name s n.history.items (Received task) kept.node lawful belongs in
      record {
        held = rw (put, at_end) (omega (arith, length-append n.history.items (Received task ∷ [])));
        parts =
            rw (put, is)
            (record {
              left = cleared-fits n.history.items (Received task) n.parts.left kept.parts.left;
              right = cleared-fits n.history.items (Received task) n.parts.right kept.parts.right;
            });
        node =
            subst (λ (x : State O). IsNode tree t name x log.items) (e ∙ sym started-state)
            (subst (λ (h : List (Event O)). IsNode tree t name (after t s (Received task)) h) (sym put) node);
      }
