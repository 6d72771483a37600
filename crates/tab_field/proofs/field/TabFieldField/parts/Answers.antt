use Rattle.std.proofs.Common.{ap, ◌∙◌, sym, subst, ◌*◌, ◌+◌}
use Rattle.tab_tree.specs.SiteValue.{segment_of, IsOfRound}
use Rattle.round_offers.specs.Places.{segments_at, has_parts}
use Rattle.round_offers.specs.RoundTableau.{segments_of}
use Rattle.round_offers.specs.RoundOffer.{tree_of_round}
use Rattle.round_offers.specs.Sites.{StandsIn}
use Rattle.round_offers.proofs.Sites.{left_stands, right_stands, left_name, right_name, parts_stand}
use Rattle.tab_field.proofs.Answered.{of_some, of_none}
use Rattle.tab_field.proofs.InRound.{stands, is_leaf, parts_in}
use Rattle.tab_field.proofs.field.TabFieldField.parts.Goals as goal

pub split-requires : goal.split-requires
split-requires c =
    subst (λ r. IsOfRound r c.site.result.now) (sym c.get.ensures)
    (stands c.args.self.now.round c.args.site.now c.site.result.now c.requires c.site.ensures.name c.site.ensures.stands).of_round

pub new-left-requires : goal.new-left-requires
new-left-requires c =
    let parts = of_some c.in_ok-split.field-0 _ _ (c.in-Some.left, c.in-Some.right) c.in-Some.is c.in_ok-split.ensures.parts in
    subst (λ r. StandsIn r c.in-Some.left) (c.get.ensures ∙ sym c.in_ok-first.ensures)
    (left_stands c.get.result.now (segment_of c.site.result.now) c.in-Some.left c.in-Some.right parts)

pub new-right-requires : goal.new-right-requires
new-right-requires c =
    let parts = of_some c.in_ok-split.field-0 _ _ (c.in-Some.left, c.in-Some.right) c.in-Some.is c.in_ok-split.ensures.parts in
    subst (λ r. StandsIn r c.in-Some.right) (c.get.ensures ∙ sym c.in_ok-second.ensures)
    (right_stands c.get.result.now (segment_of c.site.result.now) c.in-Some.left c.in-Some.right parts)

pub returns-in-None : goal.returns-in-None
returns-in-None c =
    let leaf = of_none c.in_ok-split.field-0 _ _ c.in-None.is c.in_ok-split.ensures.parts in
    record { some = is_leaf c.args.self.now.round c.args.site.now c.site.result.now c.requires c.site.ensures.name c.site.ensures.stands leaf }

pub returns-in-Some : goal.returns-in-Some
returns-in-Some c =
    let here = of_some c.in_ok-split.field-0 _ _ (c.in-Some.left, c.in-Some.right) c.in-Some.is c.in_ok-split.ensures.parts in
    let parts = parts_in c.get.result.now c.args.self.now.round c.site.result.now c.in-Some.left c.in-Some.right c.get.ensures here in
    record {
      some = (
        ap (λ n. has_parts (segments_at (segments_of c.args.self.now.round) n)) (sym c.site.ensures.name)
            ∙ parts_stand c.args.self.now.round (segment_of c.site.result.now) c.in-Some.left c.in-Some.right parts,
        ap tree_of_round (c.new-left.ensures.round ∙ c.in_ok-first.ensures),
        ap tree_of_round (c.new-right.ensures.round ∙ c.in_ok-second.ensures),
        c.new-left.ensures.name ∙ left_name c.args.self.now.round (segment_of c.site.result.now) c.in-Some.left c.in-Some.right parts
            ∙ ap (λ n. 2 * n) c.site.ensures.name,
        c.new-right.ensures.name
            ∙ right_name c.args.self.now.round (segment_of c.site.result.now) c.in-Some.left c.in-Some.right parts
            ∙ ap (λ n. 2 * n + 1) c.site.ensures.name,
      );
    }
