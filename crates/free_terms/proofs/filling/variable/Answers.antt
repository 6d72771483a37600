use Rattle.std.proofs.Common.{Some, None, option_map, ap, sym, ◌∙◌}
use Rattle.free_terms.specs.View.{fill_of, fills_of}
use Rattle.std.proofs.lemmas.Option.{slice_get-map}
use Rattle.free_terms.proofs.Filled.{filled_beyond}
use Rattle.free_terms.proofs.Trees.{term_of_bound}
use Rattle.free_terms.proofs.filling.variable.Goals as goal

pub returns-in-Some-Unused : goal.returns-in-Some-Unused
returns-in-Some-Unused c =
    term_of_bound c.args.n ∙ sym (filled_beyond (fills_of c.args.fills.now) c.args.level c.args.n (Some None) c.if-n-level.false
    (slice_get-map fill_of c.args.fills.now _ ∙ ap (option_map fill_of) (sym c.in-Some-Unused.ensures.value ∙ ap (λ z. Some z) c.in-Some-Unused.field-0-is)))

pub returns-in-None : goal.returns-in-None
returns-in-None c =
    term_of_bound c.args.n ∙ sym (filled_beyond (fills_of c.args.fills.now) c.args.level c.args.n None c.if-n-level.false
    (slice_get-map fill_of c.args.fills.now _ ∙ ap (option_map fill_of) (sym c.in-None.ensures.value)))
