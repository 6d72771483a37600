use Rattle.std.proofs.Common.{◌≡◌, ◌≤◌, ℕ, ◌++◌, List, ap, sym, subst, ◌∙◌}
use Rattle.seg_list.specs.Chain.{Chain, chain_shortened, items_above}
use Rattle.seg_list.proofs.Places.{front_of_both}
use Rattle.seg_list.proofs.segment.Segment.truncate.Goals as goal

pub returns : goal.returns
returns g c =
    ap (λ (items : List _). record { items = items; start = c.self.inside.start; depth = c.self.inside.depth })
    (ap (λ (items : List _). items_above c.self.inside.above ++ items) c.truncate.ensures.items ∙ sym (front_of_both (items_above c.self.inside.above) _ c.self.inside.start c.args.len c.self.invariant.0 (subst (λ (v : Chain _). v.start ≤ c.args.len) (sym c.self.view_is) c.requires)))
    ∙ ap (λ (v : Chain _). chain_shortened v c.args.len) c.self.view_is
