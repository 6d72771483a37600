use Rattle.std.proofs.Common.{◌≡◌, true, false, [], ◌∷◌, Some, None, refl, arith, inl}
use Rattle.nego_node.specs.Machine.{State, beginning}
use Rattle.nego_node.specs.Lawful.{HasTriedAll, replay, IsRun}
use Rattle.nego_node.specs.declared.tasks.Task.{Task}
use Rattle.nego_node.specs.TwoAgents.{Binding, unbound, to_a, to_b, entails, two_agents, tree, task, proposal, root_history, left_history, right_history}

pub root_answers : (replay two_agents (beginning 1 1) root_history).answer ≡ Some (proposal (task 1 1 unbound []) to_b)
root_answers = refl

pub left_answers : (replay two_agents (beginning 1 2) left_history).answer ≡ Some (proposal (task 2 2 unbound (to_a ∷ [])) to_b)
left_answers = refl

pub right_answers : (replay two_agents (beginning 1 3) right_history).answer ≡ Some (proposal (task 3 2 to_b []) to_b)
right_answers = refl

-- each event is lawful
none-some : {A : Type 0} {x : A} → None ≡ Some x → ⊥
none-some {x = x} e = cc

abbrev seeking : {s : State Binding} {held : Task Binding} → s.held ≡ Some held → s.answer ≡ None → s.next ≡ two_agents.items s.name → HasTriedAll two_agents s held
seeking h a n = record { seeks = record { held = h; unanswered = a }; all_tried = n }

pub root_runs : IsRun tree two_agents (beginning 1 1) root_history
root_runs = (
  record { round = refl; node = refl; is_newer = omega arith },
  (
    record { task = _; seeks = seeking refl refl refl; parted = refl; not_yet = refl },
    (
      record { task = _; seeks = seeking refl refl refl; has_split = refl; is_empty = refl; is_free = tt; is_for = refl },
      (
        record { slot = _; is_slot = refl; is_same = refl; unanswered = refl },
        (
          record { task = _; seeks = record { held = refl; unanswered = refl }; no_trial = refl; slot = _; asked_for = _; has = record { slot = refl; answer = refl }; is_named = refl; other_goes = λ k e h. absurd (none-some h); is_allowed = refl; is_not_forbidden = refl },
          (
            record { task = _; seeks = seeking refl refl refl; has_split = refl; is_empty = refl; is_free = refl; is_for = refl },
            (
              record { slot = _; is_slot = refl; is_same = refl; unanswered = refl },
              (
                record { task = _; seeks = record { held = refl; unanswered = refl }; is_trial = refl; is_named = refl; slot = _; asked_for = _; has = record { slot = refl; answer = refl }; for_trial = refl },
                (
                  record { task = _; seeks = seeking refl refl refl; has_split = refl; is_empty = refl; is_free = tt; is_for = refl },
                  (
                    record { slot = _; is_slot = refl; is_same = refl; unanswered = refl },
                    (
                      record { task = _; seeks = record { held = refl; unanswered = refl }; no_trial = refl; slot = _; asked_for = _; has = record { slot = refl; answer = refl }; is_named = refl; other_goes = λ k e h. absurd (none-some h); is_allowed = refl; is_not_forbidden = refl },
                      (
                        record { task = _; seeks = seeking refl refl refl; has_split = refl; is_empty = refl; is_free = refl; is_for = refl },
                        (
                          record { slot = _; is_slot = refl; is_same = refl; unanswered = refl },
                          (
                            record { task = _; seeks = record { held = refl; unanswered = refl }; trial = _; is_trial = refl; of_other = refl; slot = _; asked_for = _; has = record { slot = refl; answer = refl }; for_trial = refl; in_this = refl; is_named = refl; is_allowed = refl; is_not_forbidden = refl },
                            tt,
                          ),
                        ),
                      ),
                    ),
                  ),
                ),
              ),
            ),
          ),
        ),
      ),
    ),
  ),
)

pub left_runs : IsRun tree two_agents (beginning 1 2) left_history
left_runs = (
  record { round = refl; node = refl; is_newer = omega arith },
  (
    record { task = _; seeks = record { held = refl; unanswered = refl }; is_next = refl; exists = omega arith; ends = (record { belongs = refl; entails_given = refl; closes_item = refl; most_general = λ r m h k. k }, refl) },
    (
      record { round = refl; node = refl; is_newer = omega arith },
      (
        record { task = _; seeks = record { held = refl; unanswered = refl }; is_next = refl; exists = omega arith; ends = (record { belongs = refl; entails_given = refl; closes_item = refl; most_general = λ r m h k. k }, refl) },
        tt,
      ),
    ),
  ),
)

-- what entails a is not b
only-one : (r : Binding) → entails r to_a ≡ true → entails r to_b ≡ true → ⊥
only-one unbound h k = let e : false ≡ true = h in cc
only-one to_a h k = let e : false ≡ true = k in cc
only-one to_b h k = let e : false ≡ true = h in cc

pub right_runs : IsRun tree two_agents (beginning 1 3) right_history
right_runs = (
  record { round = refl; node = refl; is_newer = omega arith },
  (
    record { task = _; seeks = record { held = refl; unanswered = refl }; is_next = refl; exists = omega arith; ends = λ r m h k. only-one r h k },
    (
      record { task = _; seeks = seeking refl refl refl; why = inl refl },
      (
        record { round = refl; node = refl; is_newer = omega arith },
        (
          record { task = _; seeks = record { held = refl; unanswered = refl }; is_next = refl; exists = omega arith; ends = (record { belongs = refl; entails_given = refl; closes_item = refl; most_general = λ r m h k. k }, refl) },
          tt,
        ),
      ),
    ),
  ),
)
