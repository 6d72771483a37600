use Rattle.std.proofs.Common.{ap, ◌∙◌, sym, subst}
use Rattle.round_offers.specs.Sites.{StandsIn}
use Rattle.round_offers.specs.RoundOffer.{tree_of_round}
use Rattle.round_offers.proofs.Sites.{root_stands, root_name}
use Rattle.tab_field.proofs.field.TabFieldField.root.Goals as goal

pub new-requires : goal.new-requires
new-requires c =
    subst (λ r. StandsIn r c.in_ok-site.site) (c.get.ensures ∙ sym c.in_ok-copy.ensures)
    (root_stands c.get.result.now c.in_ok-site.site c.in_ok-site.ensures.root)

pub returns : goal.returns
returns c = (
  ap tree_of_round (c.new.ensures.round ∙ c.in_ok-copy.ensures),
  c.new.ensures.name ∙ root_name c.get.result.now c.in_ok-site.site c.in_ok-site.ensures.root,
)
