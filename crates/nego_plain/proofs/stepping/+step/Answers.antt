use Rattle.std.proofs.Common.{rules, ◌≡◌, ◌≢◌, ◌<◌, ◌∙◌, true, false, None, IsSome, sym, ap, subst, refl}
use Rattle.nego_node.specs.Machine.{generation_of}
use Rattle.nego_plain.specs.Views.{board_node, family_of, family_below}
use Rattle.nego_plain.specs.Family.{with_parts}
use Rattle.nego_plain.specs.Engine.{AwaitsPart, DidPlay, stays}
use Rattle.nego_node.specs.declared.tasks.Side.TheVariants.{Left, Right}
use Rattle.nego_plain.proofs.Joining.{move-steps, move-limited}
use Rattle.nego_plain.proofs.PartStep.{match-weaker, waits-parts, awaits-right, awaits-left, one-event, played-by, lower-part, top-quiet, top-answered, did-split, try-differs, split-differs, unsplit, hand-lawful, hand-did, part-holds, work-did, give-lawful, give-did}
use Rattle.nego_plain.proofs.Playing.{copied-none, copied-some}
use Rattle.nego_plain.proofs.Working.{work-plain, work-seeks, work-name, work-goes, work-smaller, work-stops, work-ends}
use Rattle.nego_plain.proofs.stepping.+step.Goals as goal

pub step-unreachable-requires : goal.step-unreachable-requires
step-unreachable-requires g t c =
    waits-parts g.F.Offer.Offer.tree (g.F.Field.tree c.args.field.now) (board_node c.args.family.now.node) c.args.family.now.below c.requires.plain c.requires.seeks c.in-Wait.ensures.next c.in-Nothing.is

pub step-step_part-requires-clause-awaits : goal.step-step_part-requires-clause-awaits
step-step_part-requires-clause-awaits g t c κs within =
    subst (λ z. AwaitsPart g.F.Offer.Offer.tree (g.F.Field.tree c.args.field.now) c.args.family.now.node.state Right (family_of z)) (sym c.deref_mut.ensures.value)
    (awaits-right g.F.Offer.Offer.tree (g.F.Field.tree c.args.field.now) (family_of c.args.family.now) (board_node c.args.family.now.node) (family_of c.in-Parts.left.value) (family_of c.in-Parts.right.value) (ap (λ b. family_below (board_node c.args.family.now.node) b) c.in-Parts.is) c.requires.plain c.requires.seeks c.in-Wait.ensures.next (sym c.is_asked-in_trial.ensures ∙ c.if-in_trial.true))

pub step-step_part-requires-else-in_trial-clause-awaits : goal.step-step_part-requires-else-in_trial-clause-awaits
step-step_part-requires-else-in_trial-clause-awaits g t c κs within =
    subst (λ z. AwaitsPart g.F.Offer.Offer.tree (g.F.Field.tree c.args.field.now) c.args.family.now.node.state Left (family_of z)) (sym c.deref_mut-else-in_trial.ensures.value)
    (awaits-left g.F.Offer.Offer.tree (g.F.Field.tree c.args.field.now) (family_of c.args.family.now) (board_node c.args.family.now.node) (family_of c.in-Parts.left.value) (family_of c.in-Parts.right.value) (ap (λ b. family_below (board_node c.args.family.now.node) b) c.in-Parts.is) c.requires.plain c.requires.seeks c.in-Wait.ensures.next (sym c.is_asked-in_trial.ensures ∙ c.if-in_trial.false))

pub step-step_part-requires-clause-lower : goal.step-step_part-requires-clause-lower
step-step_part-requires-clause-lower g t c κs within =
    let n = board_node c.args.family.now.node in
    let e = ap (λ b. family_below n b) c.in-Parts.is in
    subst (λ z. (g.F.Field.tree c.args.field.now).height z.node.state.name < (g.F.Field.tree c.args.field.now).height c.args.family.now.node.state.name) (sym c.deref_mut.ensures.value)
    (lower-part g.F.Offer.Offer.tree (g.F.Field.tree c.args.field.now) (g.met.F.Field.laws c.args.field.now) Right (family_of c.args.family.now) n (board_node c.in-Parts.right.value.node) c.in-Parts.right.value.below (family_of c.in-Parts.left.value) e c.requires.plain)

pub step-step_part-requires-else-in_trial-clause-lower : goal.step-step_part-requires-else-in_trial-clause-lower
step-step_part-requires-else-in_trial-clause-lower g t c κs within =
    let n = board_node c.args.family.now.node in
    let e = ap (λ b. family_below n b) c.in-Parts.is in
    subst (λ z. (g.F.Field.tree c.args.field.now).height z.node.state.name < (g.F.Field.tree c.args.field.now).height c.args.family.now.node.state.name) (sym c.deref_mut-else-in_trial.ensures.value)
    (lower-part g.F.Offer.Offer.tree (g.F.Field.tree c.args.field.now) (g.met.F.Field.laws c.args.field.now) Left (family_of c.args.family.now) n (board_node c.in-Parts.left.value.node) c.in-Parts.left.value.below (family_of c.in-Parts.right.value) e c.requires.plain)

pub step-try_item-requires-clause-lawful : goal.step-try_item-requires-clause-lawful
step-try_item-requires-clause-lawful g t c κs within = c.in-Try.ensures.lawful try-differs

pub step-split-requires-clause-lawful : goal.step-split-requires-clause-lawful
step-split-requires-clause-lawful g t c κs within = c.in-Split.ensures.lawful split-differs

pub step-make-requires-clause-lawful : goal.step-make-requires-clause-lawful
step-make-requires-clause-lawful g t c κs within = c.next_step.ensures.lawful c.in_default.not-Wait

pub step-returns-in_ok-moved-in-Parts-clause-did : goal.step-returns-in_ok-moved-in-Parts-clause-did
step-returns-in_ok-moved-in-Parts-clause-did g t c =
    let n = board_node c.args.family.now.node in
    let l = family_of c.in-Parts.left.value in
    let r = family_of c.deref_mut.result.now in
    let e : family_of c.args.family.now ≡ with_parts n l r = ap (λ b. family_below n b) c.in-Parts.is ∙ ap (λ z. with_parts n l (family_of z)) (sym c.deref_mut.ensures.value) in
    subst (λ z. DidPlay g.F.Offer.Offer.tree (g.F.Field.tree c.args.field.now) c.args.family.now.node.state.round c.in_ok-moved-in-Parts.moved z (with_parts (board_node c.step_part.new.node) l (family_of c.step_part.new.part)) c.args.tries.now c.step_part.new.tries) (sym e)
    (c.in_ok-moved-in-Parts.ensures.did l)

pub step-returns-in_ok-moved-in-Parts-2-clause-did : goal.step-returns-in_ok-moved-in-Parts-2-clause-did
step-returns-in_ok-moved-in-Parts-2-clause-did g t c =
    let n = board_node c.args.family.now.node in
    let l = family_of c.deref_mut-else-in_trial.result.now in
    let r = family_of c.in-Parts.right.value in
    let e : family_of c.args.family.now ≡ with_parts n l r = ap (λ b. family_below n b) c.in-Parts.is ∙ ap (λ z. with_parts n (family_of z) r) (sym c.deref_mut-else-in_trial.ensures.value) in
    subst (λ z. DidPlay g.F.Offer.Offer.tree (g.F.Field.tree c.args.field.now) c.args.family.now.node.state.round c.in_ok-moved-in-Parts-2.moved z (with_parts (board_node c.step_part-else-in_trial.new.node) (family_of c.step_part-else-in_trial.new.part) r) c.args.tries.now c.step_part-else-in_trial.new.tries) (sym e)
    (c.in_ok-moved-in-Parts-2.ensures.did r)

pub step-returns-in_ok-moved-in-Try-clause-did : goal.step-returns-in_ok-moved-in-Try-clause-did
step-returns-in_ok-moved-in-Try-clause-did g t c =
    let n = board_node c.args.family.now.node in
    played-by g.F.Offer.Offer.tree (g.F.Field.tree c.args.field.now) c.args.family.now.node.state.round (family_of c.args.family.now) (family_below (board_node c.try_item.new.node) c.args.family.now.below) c.args.tries.now c.try_item.new.tries (top-quiet n c.args.family.now.below c.requires.seeks.1) c.in_ok-moved-in-Try.moved
    (match-weaker c.in_ok-moved-in-Try.moved
    (move-steps _ _ c.args.family.now.node.state.round (board_node c.args.family.now.node) (board_node c.try_item.new.node) c.args.family.now.below c.args.tries.now c.try_item.new.tries c.requires.seeks.0)
    (move-limited _ (board_node c.args.family.now.node) (board_node c.try_item.new.node) c.args.family.now.below c.args.tries.now c.try_item.new.tries c.requires.seeks)
    c.in_ok-moved-in-Try.ensures.did)

pub step-returns-in_ok-left-in-Split-clause-did : goal.step-returns-in_ok-left-in-Split-clause-did
step-returns-in_ok-left-in-Split-clause-did g t c =
    let n = board_node c.args.family.now.node in
    let may = c.in-Split.ensures.lawful split-differs in
    one-event g.F.Offer.Offer.tree (g.F.Field.tree c.args.field.now) c.args.family.now.node.state.round (family_of c.args.family.now) (with_parts (board_node c.split.new.node) (family_of c.in_ok-left-in-Split.left.value) (family_of c.in_ok-left-in-Split.right.value)) c.args.tries.now c.args.tries.now (top-quiet n c.args.family.now.below c.requires.seeks.1)
    (did-split g.F.Offer.Offer.tree (g.F.Field.tree c.args.field.now) (family_of c.args.family.now) _ n (board_node c.split.new.node) (family_of c.in_ok-left-in-Split.left.value) (family_of c.in_ok-left-in-Split.right.value) c.args.tries.now (unsplit g.F.Offer.Offer.tree (g.F.Field.tree c.args.field.now) n c.args.family.now.below c.requires.plain may.not_yet) refl c.requires.seeks c.in-Split.ensures.next may c.in_ok-left-in-Split.ensures.node c.in_ok-left-in-Split.ensures.left.1 c.in_ok-left-in-Split.ensures.right.1)

pub step-returns-in_ok-moved-in_default : goal.step-returns-in_ok-moved-in_default
step-returns-in_ok-moved-in_default g t c =
    record {
      around = (ap g.F.Field.around c.in_ok-moved-in_default.ensures.site ∙ c.requires.around.0, c.requires.around.1);
      did =
          played-by g.F.Offer.Offer.tree (g.F.Field.tree c.args.field.now) c.args.family.now.node.state.round (family_of c.args.family.now) (family_below (board_node c.make.new.node) c.args.family.now.below) c.args.tries.now c.make.new.tries (top-quiet (board_node c.args.family.now.node) c.args.family.now.below c.requires.seeks.1) c.in_ok-moved-in_default.moved
          (match-weaker c.in_ok-moved-in_default.moved
          (move-steps _ _ c.args.family.now.node.state.round (board_node c.args.family.now.node) (board_node c.make.new.node) c.args.family.now.below c.args.tries.now c.make.new.tries c.requires.seeks.0)
          (move-limited _ (board_node c.args.family.now.node) (board_node c.make.new.node) c.args.family.now.below c.args.tries.now c.make.new.tries c.requires.seeks)
          c.in_ok-moved-in_default.ensures.did);
    }

pub step_part-hand-requires-clause-lawful : goal.step_part-hand-requires-clause-lawful
step_part-hand-requires-clause-lawful g t c κs within =
    let d : generation_of c.args.part.now.node.state.held ≢ c.asked-task.result.now.generation = search rules in
    rw c.in_ok-task.ensures (hand-lawful _ _ (board_node c.args.node.now) c.args.side (board_node c.args.part.now.node) c.args.part.now.below c.requires.awaits c.asked-task.result.now c.asked-task.ensures.task d)

pub step_part-returns-then-held_generation-get-clause-did : goal.step_part-returns-then-held_generation-get-clause-did
step_part-returns-then-held_generation-get-clause-did g t c =
    let d : generation_of c.args.part.now.node.state.held ≢ c.asked-task.result.now.generation = search rules in
    hand-did _ _ (board_node c.args.node.now) c.args.side (board_node c.args.part.now.node) c.args.part.now.below c.requires.awaits c.asked-task.result.now c.asked-task.ensures.task c.args.tries.now (board_node c.hand.new.node) d (rw (← c.in_ok-task.ensures) c.in_ok-hand.ensures.node)

pub step_part-work-requires-clause-holds : goal.step_part-work-requires-clause-holds
step_part-work-requires-clause-holds g t c κs within =
    let d : generation_of c.args.part.now.node.state.held ≡ c.asked-task.result.now.generation = search rules in
    part-holds _ _ (board_node c.args.node.now) c.args.side (board_node c.args.part.now.node) c.args.part.now.below c.requires.awaits c.asked-task.result.now c.asked-task.ensures.task d

pub step_part-returns-in-None-clause-did : goal.step_part-returns-in-None-clause-did
step_part-returns-in-None-clause-did g t c =
    let d : generation_of c.args.part.now.node.state.held ≡ c.asked-task.result.now.generation = search rules in
    work-did g.F.Offer.Offer.tree (g.F.Field.tree c.args.field.now) (board_node c.args.node.now) c.args.side (board_node c.args.part.now.node) c.args.part.now.below c.requires.awaits c.asked-task.result.now c.asked-task.ensures.task (g.met.F.Field.laws c.args.field.now) c.args.tries.now c.work.new.tries (family_of c.work.new.family) c.in_ok-answered-in-None.answered d (sym c.in-None.ensures.answer) c.in_ok-answered-in-None.ensures.did

pub step_part-give-requires-clause-lawful : goal.step_part-give-requires-clause-lawful
step_part-give-requires-clause-lawful g t c κs within =
    let d : generation_of c.args.part.now.node.state.held ≡ c.asked-task.result.now.generation = search rules in
    rw c.in_ok-answer-in-Some.ensures (give-lawful _ _ (board_node c.args.node.now) c.args.side (board_node c.args.part.now.node) c.args.part.now.below c.requires.awaits c.asked-task.result.now c.asked-task.ensures.task c.in-Some.answer.now d c.in-Some.ensures.held)

pub step_part-returns-clause-did : goal.step_part-returns-clause-did
step_part-returns-clause-did g t c =
    let d : generation_of c.args.part.now.node.state.held ≡ c.asked-task.result.now.generation = search rules in
    give-did _ _ (board_node c.args.node.now) c.args.side (board_node c.args.part.now.node) c.args.part.now.below c.requires.awaits c.asked-task.result.now c.asked-task.ensures.task c.in-Some.answer.now (board_node c.give.new.node) c.args.tries.now d c.in-Some.ensures.held (sym c.in-Some.ensures.answer) (rw (← c.in_ok-answer-in-Some.ensures) c.in_ok-give.ensures.node)

pub work-picks-init : goal.work-picks-init
work-picks-init g t c = record { around = c.requires.around; played = record { events = 0; plays = stays }; level = refl }

pub work-step-requires-clause-plain : goal.work-step-requires-clause-plain
work-step-requires-clause-plain g t c κs within =
    work-plain g.F.Offer.Offer.tree (g.F.Field.tree c.args.field.now) (g.met.F.Field.laws c.args.field.now) c.args.tries.now c.picks.tries c.picks.tries (board_node c.args.family.now.node) (board_node c.picks.family.node) (board_node c.picks.family.node) c.args.family.now.below c.picks.family.below c.picks.family.below c.requires.plain c.picks.invariant.played

pub work-step-requires-clause-seeks : goal.work-step-requires-clause-seeks
work-step-requires-clause-seeks g t c κs within =
    let none : c.picks.family.node.state.answer ≡ None = copied-none _ _ c.answer.ensures.answer (search rules) in
    work-seeks g.F.Offer.Offer.tree (g.F.Field.tree c.args.field.now) (g.met.F.Field.laws c.args.field.now) c.args.tries.now c.picks.tries c.picks.tries (board_node c.args.family.now.node) (board_node c.picks.family.node) (board_node c.picks.family.node) c.args.family.now.below c.picks.family.below c.picks.family.below c.requires.plain c.picks.invariant.played c.requires.holds none

pub work-returns-then-not-moved-clause-did : goal.work-returns-then-not-moved-clause-did
work-returns-then-not-moved-clause-did g t c =
    let f : c.in_ok-moved.moved ≡ false = search rules in
    let all = work-goes g.F.Offer.Offer.tree (g.F.Field.tree c.args.field.now) (g.met.F.Field.laws c.args.field.now) c.args.tries.now c.picks.tries c.step.new.tries (board_node c.args.family.now.node) (board_node c.picks.family.node) (board_node c.step.new.family.node) c.args.family.now.below c.picks.family.below c.step.new.family.below c.requires.plain c.picks.invariant.played c.in_ok-moved.moved c.in_ok-moved.ensures.did in
    work-stops g.F.Offer.Offer.tree (g.F.Field.tree c.args.field.now) c.args.family.now.node.state.round (family_of c.args.family.now) (family_of c.step.new.family) c.args.tries.now c.step.new.tries all (c.in_ok-moved.ensures.did.stopped f)

pub work-picks-smaller : goal.work-picks-smaller
work-picks-smaller g t c =
    let f : c.in_ok-moved.moved ≡ true = search rules in
    work-smaller g.F.Offer.Offer.tree (g.F.Field.tree c.args.field.now) (g.met.F.Field.laws c.args.field.now) c.args.tries.now c.picks.tries c.step.new.tries (board_node c.args.family.now.node) (board_node c.picks.family.node) (board_node c.step.new.family.node) c.args.family.now.below c.picks.family.below c.step.new.family.below c.requires.plain c.picks.invariant.played c.in_ok-moved.moved f c.in_ok-moved.ensures.did

pub work-picks-preserved : goal.work-picks-preserved
work-picks-preserved g t c =
    let all = work-goes g.F.Offer.Offer.tree (g.F.Field.tree c.args.field.now) (g.met.F.Field.laws c.args.field.now) c.args.tries.now c.picks.tries c.step.new.tries (board_node c.args.family.now.node) (board_node c.picks.family.node) (board_node c.step.new.family.node) c.args.family.now.below c.picks.family.below c.step.new.family.below c.requires.plain c.picks.invariant.played c.in_ok-moved.moved c.in_ok-moved.ensures.did in
    record {
      around = c.in_ok-moved.ensures.around;
      played = all;
      level = ap (g.F.Field.tree c.args.field.now).height (work-name g.F.Offer.Offer.tree (g.F.Field.tree c.args.field.now) (g.met.F.Field.laws c.args.field.now) c.args.tries.now c.step.new.tries c.step.new.tries (board_node c.args.family.now.node) (board_node c.step.new.family.node) (board_node c.step.new.family.node) c.args.family.now.below c.step.new.family.below c.step.new.family.below c.requires.plain all);
    }

pub work-returns-clause-did : goal.work-returns-clause-did
work-returns-clause-did g t c =
    let some : IsSome c.picks.family.node.state.answer = copied-some _ _ c.answer.ensures.answer (search rules) in
    work-ends g.F.Offer.Offer.tree (g.F.Field.tree c.args.field.now) c.args.family.now.node.state.round (family_of c.args.family.now) (family_of c.picks.family) c.args.tries.now c.picks.tries c.picks.invariant.played (top-answered (board_node c.picks.family.node) c.picks.family.below some)
