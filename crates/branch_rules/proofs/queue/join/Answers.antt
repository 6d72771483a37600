use Rattle.std.proofs.Common.{◌≡◌, ℕ, suc, ◌+◌, ◌<◌, ◌≤◌, get_or, length, arith, ap, sym, ◌∙◌, subst, refl}
use Rattle.branch_rules.specs.Branch.{entries}
use Rattle.branch_rules.specs.BranchView.{branch_in, born_in, IsAgenda}
use Rattle.branch_rules.specs.declared.branch.Agenda.{Agenda}
use Rattle.branch_rules.specs.declared.kinds.Kind.TheVariants.{Universal}
use Rattle.branch_rules.proofs.Queues.{joined_or_passed}
use Rattle.branch_rules.proofs.Joined.{kind_untaken, born_at, joined_one, passed_one}
use Rattle.branch_rules.proofs.Chosen.{length_is}
use Rattle.branch_rules.proofs.queue.join.Goals.{then-is_free+in_ok-push, else-is_free}
use Rattle.branch_rules.proofs.queue.join.Goals as goal

pub is_free-requires-clause-untaken : goal.is_free-requires-clause-untaken
is_free-requires-clause-untaken c =
    λ e at is. kind_untaken (branch_in c.args.lists.now) c.loop-i.agenda c.loop-i.turns.items Universal c.loop-i.invariant.agenda.fresh c.loop-i.i e at is (omega (arith, c.loop-i.invariant.at))

pub loop-i-preserved : goal.loop-i-preserved
loop-i-preserved c =
    let b = branch_in c.args.lists.now in
    let told = joined_or_passed b c.loop-i.agenda c.loop-i.i c.is_free.result c.loop-i.invariant.at c.is_free.ensures c.loop-i.invariant.agenda.searched.unused in
    let at : c.loop-i.agenda.universal ≡ c.loop-i.i = c.loop-i.invariant.at in
    let next : c.loop-i.i + 1 ≡ suc c.loop-i.agenda.universal = omega arith in
    let inside : c.loop-i.agenda.universal < (length c.args.lists.now.entries.items) = omega (arith, c.len-i-end.ensures.value) in
    let within : c.loop-i.agenda.universal < length (entries b) = omega (arith, inside, length_is b c.args.lists.now c.requires.reads) in
    let later : Agenda = record c.loop-i.agenda { universal = c.loop-i.i + 1 } in
    record {
      agenda = elim c.if-is_free.branch [
        | then-is_free+in_ok-push w ↦
            subst (λ z. IsAgenda b later (born_in c.args.lists.now) z) (sym (ap (λ z. z.items) (w.turns-is ∙ w.in_ok-push.ensures.ok)))
            (joined_one b c.args.lists.now c.loop-i.agenda c.loop-i.turns.items (c.loop-i.i + 1) _ c.loop-i.i c.requires.reads (sym at)
            (born_at c.args.lists.now.entries.items c.loop-i.i w.item_at.result.now w.item_at.ensures ∙ ap (λ z. get_or (born_in c.args.lists.now) z 0) (sym at)) next within
            (told.0 w.if-is_free.true) c.loop-i.invariant.agenda)
        | else-is_free w ↦
            subst (λ z. IsAgenda b later (born_in c.args.lists.now) z) (sym (ap (λ z. z.items) w.turns-is))
            (passed_one b c.loop-i.agenda (born_in c.args.lists.now) c.loop-i.turns.items (c.loop-i.i + 1) next within (told.1 w.if-is_free.false) c.loop-i.invariant.agenda)
      ];
      at = refl;
      depth = c.loop-i.invariant.depth;
      growing = elim c.if-is_free.branch [
        | then-is_free+in_ok-push w ↦ ap (λ z. z.sealed) (w.turns-is ∙ w.in_ok-push.ensures.ok) ∙ c.loop-i.invariant.growing
        | else-is_free w ↦ ap (λ z. z.sealed) w.turns-is ∙ c.loop-i.invariant.growing
      ];
    }
