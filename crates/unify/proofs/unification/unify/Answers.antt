use Rattle.std.proofs.Common.{◌∷◌, [], ◌++◌, refl, ap, sym, ◌∙◌}
use Rattle.free_terms.specs.View.{terms_of}
use Rattle.unify.specs.View.{offer_of}
use Rattle.unify.specs.Work.{pairs_of, zipped}
use Rattle.unify.proofs.Partial.{IsPartial}
use Rattle.unify.proofs.Remembered.{nothing_met}
use Rattle.unify.proofs.Turns.{begun, open_turn, memo_turn, bound_turn, bound_less, clash_turn, agreed_turn}
use Rattle.unify.proofs.unification.unify.Goals as goal

pub step-requires-clause-memo : goal.step-requires-clause-memo
step-requires-clause-memo c = nothing_met (offer_of c.bindings.result.now) (pairs_of c.push_pairs.new.work.items) c.new-memo.result c.new-memo.ensures.waiting c.new-memo.ensures.done

pub returns-in-Agreed : goal.returns-in-Agreed
returns-in-Agreed c =
    let start : IsPartial (offer_of c.args.given.now) (zipped (terms_of c.args.a.now) (terms_of c.args.b.now)) (offer_of c.bindings.result.now) (pairs_of c.push_pairs.new.work.items) =
    begun _ _ _ _ _ _ c.bindings.ensures.offer c.bindings.ensures.list c.new-work.ensures.items c.in_ok-push_pairs.ensures in
    agreed_turn _ c.args.a.now c.args.b.now c.bindings.result.now c.in_ok-same-in-Agreed.same _ _ _ c.requires start c.in_ok-step.ensures.means c.in_ok-step.ensures.done c.in-Agreed.is
    (c.in_ok-same-in-Agreed.ensures ∙ sym c.bindings.ensures.list)

pub returns-in-Clash : goal.returns-in-Clash
returns-in-Clash c =
    let start : IsPartial (offer_of c.args.given.now) (zipped (terms_of c.args.a.now) (terms_of c.args.b.now)) (offer_of c.bindings.result.now) (pairs_of c.push_pairs.new.work.items) =
    begun _ _ _ _ _ _ c.bindings.ensures.offer c.bindings.ensures.list c.new-work.ensures.items c.in_ok-push_pairs.ensures in
    clash_turn _ _ _ (offer_of c.bindings.result.now) _ (pairs_of c.step.new.work.items) _ start c.in_ok-step.ensures.means c.in-Clash.is

pub with-requires : goal.with-requires
with-requires c =
    open_turn c.bindings.result.now _ _ _ _ c.in-Bind.binding c.in_ok-step.ensures.means c.in-Bind.is
    (c.in_ok-copied-in-Bind.ensures ∙ c.bindings-in-Bind.ensures.list ∙ sym c.bindings.ensures.list)

pub loop-s-init : goal.loop-s-init
loop-s-init c = record {
  partial =
      let start : IsPartial (offer_of c.args.given.now) (zipped (terms_of c.args.a.now) (terms_of c.args.b.now)) (offer_of c.bindings.result.now) (pairs_of c.push_pairs.new.work.items) =
      begun _ _ _ _ _ _ c.bindings.ensures.offer c.bindings.ensures.list c.new-work.ensures.items c.in_ok-push_pairs.ensures in
      bound_turn _ _ c.bindings.result.now _ _ _ _ c.in-Bind.binding start c.in_ok-step.ensures.means c.in-Bind.is
      (c.in_ok-s-in-Bind.ensures.list ∙ ap (λ z. z ++ c.in-Bind.binding ∷ []) (c.in_ok-copied-in-Bind.ensures ∙ c.bindings-in-Bind.ensures.list ∙ sym c.bindings.ensures.list));
  memo = memo_turn c.bindings.result.now _ _ _ _ c.in-Bind.binding c.in_ok-step.ensures.memo c.in-Bind.is
      (c.in_ok-s-in-Bind.ensures.list ∙ ap (λ z. z ++ c.in-Bind.binding ∷ []) (c.in_ok-copied-in-Bind.ensures ∙ c.bindings-in-Bind.ensures.list ∙ sym c.bindings.ensures.list));
  nested = c.in_ok-s-in-Bind.ensures.nested;
}

pub of-requires-clause-offer : goal.of-requires-clause-offer
of-requires-clause-offer c = c.loop-s.invariant.partial.offer

pub returns-in-Agreed-2 : goal.returns-in-Agreed-2
returns-in-Agreed-2 c =
    agreed_turn _ c.args.a.now c.args.b.now c.loop-s.s c.of.result _ _ _ c.requires c.loop-s.invariant.partial c.in_ok-step-2.ensures.means c.in_ok-step-2.ensures.done
    c.in-Agreed-2.is c.of.ensures

pub returns-in-Clash-2 : goal.returns-in-Clash-2
returns-in-Clash-2 c =
    clash_turn _ _ _ (offer_of c.loop-s.s) _ (pairs_of c.step-in-loop-s.new.work.items) _ c.loop-s.invariant.partial c.in_ok-step-2.ensures.means c.in-Clash-2.is

pub with-requires-in-Bind-2 : goal.with-requires-in-Bind-2
with-requires-in-Bind-2 c = open_turn c.loop-s.s _ _ _ _ c.in-Bind-2.binding c.in_ok-step-2.ensures.means c.in-Bind-2.is refl

pub loop-s-smaller : goal.loop-s-smaller
loop-s-smaller c =
    bound_less _ _ c.loop-s.s _ _ (pairs_of c.step-in-loop-s.new.work.items) _ c.in-Bind-2.binding c.loop-s.invariant.partial c.in_ok-step-2.ensures.means c.in-Bind-2.is
    c.in_ok-s-in-Bind-2.ensures.list

pub loop-s-preserved : goal.loop-s-preserved
loop-s-preserved c = record {
  partial =
      bound_turn _ _ c.loop-s.s _ _ _ _ c.in-Bind-2.binding c.loop-s.invariant.partial c.in_ok-step-2.ensures.means c.in-Bind-2.is
      c.in_ok-s-in-Bind-2.ensures.list;
  memo = memo_turn c.loop-s.s _ _ _ _ c.in-Bind-2.binding c.in_ok-step-2.ensures.memo c.in-Bind-2.is c.in_ok-s-in-Bind-2.ensures.list;
  nested = c.in_ok-s-in-Bind-2.ensures.nested;
}
