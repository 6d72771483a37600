use Rattle.std.proofs.Common.{◌∙◌, sym, ap, Some}
use Rattle.std.proofs.lemmas.Option.{slice_get-get_or}
use Rattle.nego_node.proofs.Members.{some_at}
use Rattle.nego_node.proofs.bans.entails_some_near.Goals as goal

pub returns-then-entails : goal.returns-then-entails
returns-then-entails g c =
    let at = c.in-Some.ensures.lookup.3 in
    let b = c.in-Some.near.now in
    c.if-entails.true ∙ sym (some_at (g.F.Field.tree c.args.field.now) c.args.s.now b c.args.list.now c.args.place (slice_get-get_or c.args.list.now c.args.place b at.0 ∙ ap Some (sym (at.1 b))) (rw (← c.get-in-Some.ensures) (sym c.entails.ensures ∙ c.if-entails.true)))
