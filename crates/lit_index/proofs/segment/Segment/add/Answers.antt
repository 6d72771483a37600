use Rattle.std.proofs.Common.{rules, ◌≡◌, ◌++◌, ◌∷◌, [], ◌<◌, All, Some, length, subst, sym}
use Rattle.std.specs.HashMap.{get, Updates}
use Rattle.lit_index.specs.Chain.{Chain, occurrences_above}
use Rattle.lit_index.specs.Links.{own_of, is_same}
use Rattle.lit_index.specs.declared.segment.Held.{Held}
use Rattle.lit_index.proofs.Linked.{segment_push}
use Rattle.lit_index.proofs.segment.Segment.add.Goals as goal

pub invariant_of-self-2 : goal.invariant_of-self-2
invariant_of-self-2 c =
    let below : All (λ o. o.place < c.args.place) (occurrences_above c.self.inside.above ++ own_of c.self.inside.held.items) =
    subst (λ (d : Chain). All (λ o. o.place < c.args.place) d.occurrences) (sym c.self.view_is) c.requires in
    let h : Held = record { place = c.args.place; literal = c.args.literal; earlier = c.copied-earlier.result } in
    let earlier : h.earlier ≡ get is_same c.self.inside.newest c.args.literal = search rules in
    let len : c.len.result ≡ length c.self.inside.held.items = search rules in
    let updates : Updates is_same c.self.inside.newest c.insert.new.self c.args.literal (Some (length c.self.inside.held.items)) =
    subst (λ n. Updates is_same c.self.inside.newest c.insert.new.self c.args.literal (Some n)) len c.in_ok-insert.ensures.updates in
    let pushed : c.push.new.self.items ≡ c.self.inside.held.items ++ h ∷ [] = search rules in
    let kept = segment_push (occurrences_above c.self.inside.above) c.self.inside.held.items c.push.new.self.items h c.self.inside.newest c.insert.new.self
    c.self.invariant.1 c.self.invariant.2 c.self.invariant.3 below earlier updates pushed in
    (c.self.invariant.0, kept.0, kept.1, kept.2)
