use Rattle.std.proofs.Common.{ap, ◌∙◌, sym, is_some}
use Rattle.tab_field.proofs.InRound.{splits, parts_have_names}
use Rattle.tab_field.proofs.field.TabFieldField.has_parts.Goals as goal

pub returns-clause-parted : goal.returns-clause-parted
returns-clause-parted c =
    c.is_some.ensures ∙ ap is_some c.split_place.ensures
    ∙ splits c.args.self.now.round c.args.site.now c.site.result.now c.requires c.site.ensures.name c.site.ensures.stands

pub returns-clause-names : goal.returns-clause-names
returns-clause-names c = λ e.
    parts_have_names c.args.self.now.round c.args.site.now c.site.result.now c.requires c.site.ensures.name c.site.ensures.stands
    (sym (c.is_some.ensures ∙ ap is_some c.split_place.ensures) ∙ e)
