use Rattle.std.proofs.Common.{Some, option_map, ap, sym, ◌∙◌}
use Rattle.std.proofs.lemmas.Option.{slice_get-map}
use Rattle.free_terms.specs.View.{fill_of, fills_of, term_of}
use Rattle.free_terms.proofs.Matched.{tells_given, tells_beyond, tells_open}
use Rattle.free_terms.proofs.matching.match_variable.Goals as goal

pub returns-in-Some-Given : goal.returns-in-Some-Given
returns-in-Some-Given c =
    tells_given (fills_of c.args.fills.now) c.args.n _ (term_of c.in-Some-Given.u) c.same_term.result
    (slice_get-map fill_of c.args.fills.now _ ∙ ap (option_map fill_of) (sym c.in-Some-Given.ensures.value ∙ ap (λ z. Some z) c.in-Some-Given.field-0-is)) c.same_term.ensures

pub returns-in-None : goal.returns-in-None
returns-in-None c =
    tells_beyond (fills_of c.args.fills.now) c.args.n _ c.is_bound.result
    (slice_get-map fill_of c.args.fills.now _ ∙ ap (option_map fill_of) (sym c.in-None.ensures.value)) c.is_bound.ensures

pub returns : goal.returns
returns c =
    tells_open c.args.fills.now c.set.new.self c.args.n c.in_ok-term.term _
    (slice_get-map fill_of c.args.fills.now _ ∙ ap (option_map fill_of) (sym c.in-Some-Unused.ensures.value ∙ ap (λ z. Some z) c.in-Some-Unused.field-0-is))
    c.set.ensures (ap term_of c.in_ok-term.ensures)
