use Rattle.std.proofs.Common.{◌≡◌, ◌∙◌, ◌%◌, true, false, inl, Option, Some, None, List, [], ◌∷◌, length, slice_get, refl, sym, ap, subst, arith}
use Rattle.nego_node.specs.Lawful.{Lawful, HasTriedAll}
use Rattle.nego_node.specs.Board.{BoardNode, node_named, first_board, done, Comes, IsOfAct}
use Rattle.nego_node.specs.Machine.{Slot, State, is_proposal}
use Rattle.nego_node.specs.declared.tasks.Task.{Task}
use Rattle.nego_node.specs.declared.answers.Answer.{Answer}
use Rattle.nego_node.specs.declared.answers.Answer.TheVariants as answer
use Rattle.nego_node.proofs.Sides.{same-some}
use Rattle.nego_node.specs.declared.tasks.Side.TheVariants.{Left, Right}
use Rattle.nego_node.specs.declared.events.Outcome.TheVariants as outcome
use Rattle.nego_node.specs.declared.events.Event.{Event}
use Rattle.nego_node.specs.declared.events.Event.TheVariants.{Received, Tried, Split, Asked, Posted, Adopted, Agreed, Refused}
use Rattle.nego_node.specs.declared.acts.Act.{Act}
use Rattle.nego_node.proofs.BoardActs.{act-may}
use Rattle.nego_core.specs.Acts.{acts}
use Rattle.nego_core.specs.Picking.{Leads}
use Rattle.nego_core.specs.Worked.{Set, empty, one, two, both, has_all, sets, tree, pick, task, proposal, IsWorked}
use Rattle.nego_core.specs.declared.picks.Pick.{Pick}

abbrev Board : Type 0
Board = List (BoardNode Set)

-- one lawful pick, and then the others
next_pick : (ns : Board) (p : Pick) (n : BoardNode Set) (act : Act) (e : Event Set) (ps : List Pick) (ms : Board) → slice_get ns (p.node % length ns) ≡ Some n → slice_get acts p.act ≡ Some act → IsOfAct act e → node_named ns n.state.name ≡ Some n → Comes sets 1 ns n.state.name e → Lawful tree sets n.state e → Leads tree sets 1 (done sets 1 ns n.state.name e) 0 ps ms 0 → Leads tree sets 1 ns 0 (p ∷ ps) ms 0
next_pick ns p n act e ps ms at is_act of named comes lawful rest =
    (done sets 1 ns n.state.name e, 0, inl (record { node = n; is_node = at; act = act; is_act = is_act; may = act-may tree sets n.state 1 ns n.state.name act e of comes lawful }, record { node = n; is_node = at; act = act; is_act = is_act; event = e; is_of = of; happens = record { node = n; is_node = named; comes = comes; lawful = lawful; becomes = refl } }, refl), rest)

abbrev seeking : {s : State Set} {held : Task Set} → s.held ≡ Some held → s.answer ≡ None → s.next ≡ sets.items s.name → HasTriedAll sets s held
seeking h a n = record { seeks = record { held = h; unanswered = a }; all_tried = n }

-- the boards one after the other
abbrev b0 : Board
b0 = first_board 1

abbrev b1 : Board
b1 = done sets 1 b0 1 (Received (task 1 1 empty))

abbrev b2 : Board
b2 = done sets 1 b1 1 (Split)

abbrev b3 : Board
b3 = done sets 1 b2 1 (Asked Left (task 2 1 empty))

abbrev b4 : Board
b4 = done sets 1 b3 1 (Asked Right (task 3 1 empty))

abbrev b5 : Board
b5 = done sets 1 b4 2 (Received (task 2 1 empty))

abbrev b6 : Board
b6 = done sets 1 b5 2 (Tried 0 (outcome.Offer one))

abbrev b7 : Board
b7 = done sets 1 b6 3 (Received (task 3 1 empty))

abbrev b8 : Board
b8 = done sets 1 b7 3 (Tried 0 (outcome.Offer two))

abbrev b9 : Board
b9 = done sets 1 b8 1 (Posted Left (proposal (task 2 1 empty) one))

abbrev b10 : Board
b10 = done sets 1 b9 1 (Posted Right (proposal (task 3 1 empty) two))

abbrev b11 : Board
b11 = done sets 1 b10 1 (Adopted Left 1 one)

abbrev b12 : Board
b12 = done sets 1 b11 1 (Refused Right 1)

abbrev b13 : Board
b13 = done sets 1 b12 1 (Asked Right (task 3 2 one))

abbrev b14 : Board
b14 = done sets 1 b13 3 (Received (task 3 2 one))

abbrev b15 : Board
b15 = done sets 1 b14 3 (Tried 0 (outcome.Offer both))

abbrev b16 : Board
b16 = done sets 1 b15 1 (Posted Right (proposal (task 3 2 one) both))

abbrev b17 : Board
b17 = done sets 1 b16 1 (Agreed Right 2 both)

-- a slot with a proposal is not exhausted
no_end : (j k : Slot Set) (e : Task Set) → Some j ≡ Some k → is_proposal j.answer ≡ true → k.answer ≡ Some (answer.Exhausted e) → ⊥
no_end j k e at p h =
    let q : is_proposal k.answer ≡ true = subst (λ (x : Slot Set). is_proposal x.answer ≡ true) (same-some refl at) p in
    let f : false ≡ true = ap (λ (a : Option (Answer Set)). is_proposal a) (sym h) ∙ q in
    cc

-- what has 1 and 2 has both
joined : (r : Set) → has_all r one ≡ true → has_all r two ≡ true → has_all r both ≡ true
joined empty h k = h
joined one h k = k
joined two h k = h
joined both h k = refl

s17 : Leads tree sets 1 b17 0 [] b17 0
s17 = (refl, refl)

s16 : Leads tree sets 1 b16 0 (pick 0 9 ∷ []) b17 0
s16 = next_pick b16 (pick 0 9) _ _ (Agreed Right 2 both) ([]) b17 refl refl (_, _, _, refl) refl tt (record { task = _; seeks = record { held = refl; unanswered = refl }; trial = _; is_trial = refl; of_other = refl; slot = _; asked_for = _; has = record { slot = refl; answer = refl }; for_trial = refl; in_this = refl; is_named = refl; is_allowed = refl; is_not_forbidden = refl }) s17

s15 : Leads tree sets 1 b15 0 (pick 0 6 ∷ pick 0 9 ∷ []) b17 0
s15 = next_pick b15 (pick 0 6) _ _ (Posted Right (proposal (task 3 2 one) both)) (pick 0 9 ∷ []) b17 refl refl (_, refl) refl refl (record { slot = _; is_slot = refl; is_same = refl; unanswered = refl }) s16

s14 : Leads tree sets 1 b14 0 (pick 2 1 ∷ pick 0 6 ∷ pick 0 9 ∷ []) b17 0
s14 = next_pick b14 (pick 2 1) _ _ (Tried 0 (outcome.Offer both)) (pick 0 6 ∷ pick 0 9 ∷ []) b17 refl refl (_, _, refl) refl tt (record { task = _; seeks = record { held = refl; unanswered = refl }; is_next = refl; exists = omega arith; ends = (record { belongs = refl; entails_given = refl; closes_item = refl; most_general = λ r m h k. joined r h k }, refl) }) s15

s13 : Leads tree sets 1 b13 0 (pick 2 0 ∷ pick 2 1 ∷ pick 0 6 ∷ pick 0 9 ∷ []) b17 0
s13 = next_pick b13 (pick 2 0) _ _ (Received (task 3 2 one)) (pick 2 1 ∷ pick 0 6 ∷ pick 0 9 ∷ []) b17 refl refl (_, refl) refl refl (record { round = refl; node = refl; is_newer = omega arith }) s14

s12 : Leads tree sets 1 b12 0 (pick 0 4 ∷ pick 2 0 ∷ pick 2 1 ∷ pick 0 6 ∷ pick 0 9 ∷ []) b17 0
s12 = next_pick b12 (pick 0 4) _ _ (Asked Right (task 3 2 one)) (pick 2 0 ∷ pick 2 1 ∷ pick 0 6 ∷ pick 0 9 ∷ []) b17 refl refl (_, refl) refl tt (record { task = _; seeks = seeking refl refl refl; has_split = refl; is_empty = refl; is_free = refl; is_for = refl }) s13

s11 : Leads tree sets 1 b11 0 (pick 0 11 ∷ pick 0 4 ∷ pick 2 0 ∷ pick 2 1 ∷ pick 0 6 ∷ pick 0 9 ∷ []) b17 0
s11 = next_pick b11 (pick 0 11) _ _ (Refused Right 1) (pick 0 4 ∷ pick 2 0 ∷ pick 2 1 ∷ pick 0 6 ∷ pick 0 9 ∷ []) b17 refl refl (_, _, refl) refl tt (record { task = _; seeks = record { held = refl; unanswered = refl }; trial = _; is_trial = refl; of_other = refl; is_named = refl; slot = _; proposed = _; has = record { slot = refl; answer = refl }; is_stale = inl refl }) s12

s10 : Leads tree sets 1 b10 0 (pick 0 7 ∷ pick 0 11 ∷ pick 0 4 ∷ pick 2 0 ∷ pick 2 1 ∷ pick 0 6 ∷ pick 0 9 ∷ []) b17 0
s10 = next_pick b10 (pick 0 7) _ _ (Adopted Left 1 one) (pick 0 11 ∷ pick 0 4 ∷ pick 2 0 ∷ pick 2 1 ∷ pick 0 6 ∷ pick 0 9 ∷ []) b17 refl refl (_, _, refl) refl tt (record { task = _; seeks = record { held = refl; unanswered = refl }; no_trial = refl; slot = _; asked_for = _; has = record { slot = refl; answer = refl }; is_named = refl; other_goes = λ k e at h. no_end _ k e at refl h; is_allowed = refl; is_not_forbidden = refl }) s11

s9 : Leads tree sets 1 b9 0 (pick 0 6 ∷ pick 0 7 ∷ pick 0 11 ∷ pick 0 4 ∷ pick 2 0 ∷ pick 2 1 ∷ pick 0 6 ∷ pick 0 9 ∷ []) b17 0
s9 = next_pick b9 (pick 0 6) _ _ (Posted Right (proposal (task 3 1 empty) two)) (pick 0 7 ∷ pick 0 11 ∷ pick 0 4 ∷ pick 2 0 ∷ pick 2 1 ∷ pick 0 6 ∷ pick 0 9 ∷ []) b17 refl refl (_, refl) refl refl (record { slot = _; is_slot = refl; is_same = refl; unanswered = refl }) s10

s8 : Leads tree sets 1 b8 0 (pick 0 5 ∷ pick 0 6 ∷ pick 0 7 ∷ pick 0 11 ∷ pick 0 4 ∷ pick 2 0 ∷ pick 2 1 ∷ pick 0 6 ∷ pick 0 9 ∷ []) b17 0
s8 = next_pick b8 (pick 0 5) _ _ (Posted Left (proposal (task 2 1 empty) one)) (pick 0 6 ∷ pick 0 7 ∷ pick 0 11 ∷ pick 0 4 ∷ pick 2 0 ∷ pick 2 1 ∷ pick 0 6 ∷ pick 0 9 ∷ []) b17 refl refl (_, refl) refl refl (record { slot = _; is_slot = refl; is_same = refl; unanswered = refl }) s9

s7 : Leads tree sets 1 b7 0 (pick 2 1 ∷ pick 0 5 ∷ pick 0 6 ∷ pick 0 7 ∷ pick 0 11 ∷ pick 0 4 ∷ pick 2 0 ∷ pick 2 1 ∷ pick 0 6 ∷ pick 0 9 ∷ []) b17 0
s7 = next_pick b7 (pick 2 1) _ _ (Tried 0 (outcome.Offer two)) (pick 0 5 ∷ pick 0 6 ∷ pick 0 7 ∷ pick 0 11 ∷ pick 0 4 ∷ pick 2 0 ∷ pick 2 1 ∷ pick 0 6 ∷ pick 0 9 ∷ []) b17 refl refl (_, _, refl) refl tt (record { task = _; seeks = record { held = refl; unanswered = refl }; is_next = refl; exists = omega arith; ends = (record { belongs = refl; entails_given = refl; closes_item = refl; most_general = λ r m h k. k }, refl) }) s8

s6 : Leads tree sets 1 b6 0 (pick 2 0 ∷ pick 2 1 ∷ pick 0 5 ∷ pick 0 6 ∷ pick 0 7 ∷ pick 0 11 ∷ pick 0 4 ∷ pick 2 0 ∷ pick 2 1 ∷ pick 0 6 ∷ pick 0 9 ∷ []) b17 0
s6 = next_pick b6 (pick 2 0) _ _ (Received (task 3 1 empty)) (pick 2 1 ∷ pick 0 5 ∷ pick 0 6 ∷ pick 0 7 ∷ pick 0 11 ∷ pick 0 4 ∷ pick 2 0 ∷ pick 2 1 ∷ pick 0 6 ∷ pick 0 9 ∷ []) b17 refl refl (_, refl) refl refl (record { round = refl; node = refl; is_newer = omega arith }) s7

s5 : Leads tree sets 1 b5 0 (pick 1 1 ∷ pick 2 0 ∷ pick 2 1 ∷ pick 0 5 ∷ pick 0 6 ∷ pick 0 7 ∷ pick 0 11 ∷ pick 0 4 ∷ pick 2 0 ∷ pick 2 1 ∷ pick 0 6 ∷ pick 0 9 ∷ []) b17 0
s5 = next_pick b5 (pick 1 1) _ _ (Tried 0 (outcome.Offer one)) (pick 2 0 ∷ pick 2 1 ∷ pick 0 5 ∷ pick 0 6 ∷ pick 0 7 ∷ pick 0 11 ∷ pick 0 4 ∷ pick 2 0 ∷ pick 2 1 ∷ pick 0 6 ∷ pick 0 9 ∷ []) b17 refl refl (_, _, refl) refl tt (record { task = _; seeks = record { held = refl; unanswered = refl }; is_next = refl; exists = omega arith; ends = (record { belongs = refl; entails_given = refl; closes_item = refl; most_general = λ r m h k. k }, refl) }) s6

s4 : Leads tree sets 1 b4 0 (pick 1 0 ∷ pick 1 1 ∷ pick 2 0 ∷ pick 2 1 ∷ pick 0 5 ∷ pick 0 6 ∷ pick 0 7 ∷ pick 0 11 ∷ pick 0 4 ∷ pick 2 0 ∷ pick 2 1 ∷ pick 0 6 ∷ pick 0 9 ∷ []) b17 0
s4 = next_pick b4 (pick 1 0) _ _ (Received (task 2 1 empty)) (pick 1 1 ∷ pick 2 0 ∷ pick 2 1 ∷ pick 0 5 ∷ pick 0 6 ∷ pick 0 7 ∷ pick 0 11 ∷ pick 0 4 ∷ pick 2 0 ∷ pick 2 1 ∷ pick 0 6 ∷ pick 0 9 ∷ []) b17 refl refl (_, refl) refl refl (record { round = refl; node = refl; is_newer = omega arith }) s5

s3 : Leads tree sets 1 b3 0 (pick 0 4 ∷ pick 1 0 ∷ pick 1 1 ∷ pick 2 0 ∷ pick 2 1 ∷ pick 0 5 ∷ pick 0 6 ∷ pick 0 7 ∷ pick 0 11 ∷ pick 0 4 ∷ pick 2 0 ∷ pick 2 1 ∷ pick 0 6 ∷ pick 0 9 ∷ []) b17 0
s3 = next_pick b3 (pick 0 4) _ _ (Asked Right (task 3 1 empty)) (pick 1 0 ∷ pick 1 1 ∷ pick 2 0 ∷ pick 2 1 ∷ pick 0 5 ∷ pick 0 6 ∷ pick 0 7 ∷ pick 0 11 ∷ pick 0 4 ∷ pick 2 0 ∷ pick 2 1 ∷ pick 0 6 ∷ pick 0 9 ∷ []) b17 refl refl (_, refl) refl tt (record { task = _; seeks = seeking refl refl refl; has_split = refl; is_empty = refl; is_free = tt; is_for = refl }) s4

s2 : Leads tree sets 1 b2 0 (pick 0 3 ∷ pick 0 4 ∷ pick 1 0 ∷ pick 1 1 ∷ pick 2 0 ∷ pick 2 1 ∷ pick 0 5 ∷ pick 0 6 ∷ pick 0 7 ∷ pick 0 11 ∷ pick 0 4 ∷ pick 2 0 ∷ pick 2 1 ∷ pick 0 6 ∷ pick 0 9 ∷ []) b17 0
s2 = next_pick b2 (pick 0 3) _ _ (Asked Left (task 2 1 empty)) (pick 0 4 ∷ pick 1 0 ∷ pick 1 1 ∷ pick 2 0 ∷ pick 2 1 ∷ pick 0 5 ∷ pick 0 6 ∷ pick 0 7 ∷ pick 0 11 ∷ pick 0 4 ∷ pick 2 0 ∷ pick 2 1 ∷ pick 0 6 ∷ pick 0 9 ∷ []) b17 refl refl (_, refl) refl tt (record { task = _; seeks = seeking refl refl refl; has_split = refl; is_empty = refl; is_free = tt; is_for = refl }) s3

s1 : Leads tree sets 1 b1 0 (pick 0 2 ∷ pick 0 3 ∷ pick 0 4 ∷ pick 1 0 ∷ pick 1 1 ∷ pick 2 0 ∷ pick 2 1 ∷ pick 0 5 ∷ pick 0 6 ∷ pick 0 7 ∷ pick 0 11 ∷ pick 0 4 ∷ pick 2 0 ∷ pick 2 1 ∷ pick 0 6 ∷ pick 0 9 ∷ []) b17 0
s1 = next_pick b1 (pick 0 2) _ _ (Split) (pick 0 3 ∷ pick 0 4 ∷ pick 1 0 ∷ pick 1 1 ∷ pick 2 0 ∷ pick 2 1 ∷ pick 0 5 ∷ pick 0 6 ∷ pick 0 7 ∷ pick 0 11 ∷ pick 0 4 ∷ pick 2 0 ∷ pick 2 1 ∷ pick 0 6 ∷ pick 0 9 ∷ []) b17 refl refl refl refl tt (record { task = _; seeks = seeking refl refl refl; parted = refl; not_yet = refl }) s2

s0 : Leads tree sets 1 b0 0 (pick 0 0 ∷ pick 0 2 ∷ pick 0 3 ∷ pick 0 4 ∷ pick 1 0 ∷ pick 1 1 ∷ pick 2 0 ∷ pick 2 1 ∷ pick 0 5 ∷ pick 0 6 ∷ pick 0 7 ∷ pick 0 11 ∷ pick 0 4 ∷ pick 2 0 ∷ pick 2 1 ∷ pick 0 6 ∷ pick 0 9 ∷ []) b17 0
s0 = next_pick b0 (pick 0 0) _ _ (Received (task 1 1 empty)) (pick 0 2 ∷ pick 0 3 ∷ pick 0 4 ∷ pick 1 0 ∷ pick 1 1 ∷ pick 2 0 ∷ pick 2 1 ∷ pick 0 5 ∷ pick 0 6 ∷ pick 0 7 ∷ pick 0 11 ∷ pick 0 4 ∷ pick 2 0 ∷ pick 2 1 ∷ pick 0 6 ∷ pick 0 9 ∷ []) b17 refl refl (_, refl) refl refl (record { round = refl; node = refl; is_newer = omega arith }) s1

pub worked : IsWorked
worked = record { board = b17; led = s0; answer = refl; right = refl }
