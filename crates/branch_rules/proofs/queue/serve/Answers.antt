use Rattle.std.proofs.Common.{◌≡◌, ℕ, suc, ◌+◌, ◌<◌, ◌≤◌, length, Some, arith, ap, sym, ◌∙◌, subst, refl}
use Rattle.std.specs.Prelude.{slice_get}
use Rattle.std.proofs.lemmas.Bool.{false≢true}
use Rattle.branch_rules.specs.BranchView.{branch_in, born_in}
use Rattle.branch_rules.specs.declared.branch.Turn.{Turn}
use Rattle.branch_rules.proofs.Joined.{turn_passed, serves_at, none_served}
use Rattle.branch_rules.proofs.queue.serve.Goals as goal

pub loop-n-preserved : goal.loop-n-preserved
loop-n-preserved c =
    let turn : Turn = c.item_at-turn.result.now in
    let at : c.loop-n.agenda.turn ≡ c.loop-n.n = c.loop-n.invariant.at in
    let depth : c.loop-n.agenda.depth ≡ c.args.depth = c.loop-n.invariant.depth in
    let within : c.loop-n.agenda.turn < length c.args.turns.now.items = omega (arith, at, c.len-n-end.ensures.value) in
    record {
      agenda = turn_passed (branch_in c.args.lists.now) c.loop-n.agenda (born_in c.args.lists.now) c.args.turns.now.items (c.loop-n.n + 1) turn (omega (arith, at)) within
          (ap (slice_get c.args.turns.now.items) at ∙ c.item_at-turn.ensures)
          (λ p. false≢true (sym c.if-is_served.false ∙ c.is_served.ensures.1 (p.0, subst (λ k. turn.uses < k) depth p.1)))
          c.loop-n.invariant.agenda;
      at = refl;
      depth = c.loop-n.invariant.depth;
      universal = c.loop-n.invariant.universal;
    }

pub returns-then-is_served-clause-serves : goal.returns-then-is_served-clause-serves
returns-then-is_served-clause-serves c =
    serves_at (branch_in c.args.lists.now) c.loop-n.agenda (born_in c.args.lists.now) c.args.turns.now.items c.args.depth c.loop-n.n c.item_at-turn.result.now c.loop-n.invariant.depth c.loop-n.invariant.at
    c.item_at-turn.ensures (c.is_served.ensures.0 c.if-is_served.true) c.loop-n.invariant.agenda

pub returns-clause-serves : goal.returns-clause-serves
returns-clause-serves c =
    none_served (branch_in c.args.lists.now) c.loop-n.agenda (born_in c.args.lists.now) c.args.turns.now.items c.args.depth c.loop-n.n c.loop-n.invariant.depth c.loop-n.invariant.at
    (omega (arith, c.len-n-end.ensures.value)) c.loop-n.invariant.agenda
