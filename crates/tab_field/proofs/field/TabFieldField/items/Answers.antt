use Rattle.std.proofs.Common.{ap, ◌∙◌, sym, length}
use Rattle.std.proofs.lemmas.List.{length-map}
use Rattle.tab_tree.specs.SiteValue.{item_of}
use Rattle.tab_field.proofs.InRound.{item_count}
use Rattle.tab_field.proofs.field.TabFieldField.items.Goals as goal

pub returns : goal.returns
returns c =
    c.len.ensures ∙ sym (length-map c.pairs.result.now item_of) ∙ ap length c.pairs.ensures
    ∙ item_count c.args.self.now.round c.args.site.now c.site.result.now c.requires c.site.ensures.name c.site.ensures.stands
