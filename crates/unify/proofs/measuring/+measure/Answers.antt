use Rattle.std.proofs.Common.{sym, arith}
use Rattle.free_terms.specs.View.{name_of, term_of}
use Rattle.free_terms.specs.declared.term.FTerm.{size-FTerm}
use Rattle.unify.specs.View.{offer_of}
use Rattle.unify.specs.Weight.{weight}
use Rattle.unify.proofs.Extents.{measured_more, measured_value}
use Rattle.unify.proofs.Occurs.{settled_more, settled_next, follows_less}
use Rattle.unify.proofs.measuring.+measure.Goals as goal

pub measure_value-measure_term-requires : goal.measure_value-measure_term-requires
measure_value-measure_term-requires t c = (
  omega (
    arith,
    follows_less c.args.m (size-FTerm c.in-Some-value.v.now) (weight c.args.s.now)
        (settled_more (offer_of c.args.s.now) (name_of c.args.x.now) (term_of c.in-Some-value.v.now) c.args.m c.requires.settled (sym c.in-Some-value.ensures.value))
        c.in-Some-value.ensures.bounded,
    c.decreases,
  ),
  (c.requires.offer, (settled_next (offer_of c.args.s.now) (name_of c.args.x.now) (term_of c.in-Some-value.v.now) c.args.m c.requires.settled (sym c.in-Some-value.ensures.value), c.requires.done)),
)

pub measure_value-returns-in_ok-note-in-Some-value-clause-extent : goal.measure_value-returns-in_ok-note-in-Some-value-clause-extent
measure_value-returns-in_ok-note-in-Some-value-clause-extent t c =
    measured_value (offer_of c.args.s.now) c.args.lengths.now c.args.most (name_of c.args.x.now) (term_of c.in-Some-value.v.now) c.in_ok-extent-in-Some-value.extent
    c.requires.offer (sym c.in-Some-value.ensures.value) c.in_ok-extent-in-Some-value.ensures.extent

pub measure_value-returns-in_ok-note-in-Some-value-clause-done : goal.measure_value-returns-in_ok-note-in-Some-value-clause-done
measure_value-returns-in_ok-note-in-Some-value-clause-done t c =
    measured_more (offer_of c.args.s.now) c.args.lengths.now c.args.most c.measure_term.new.done c.note.new.done c.args.x.now c.in_ok-extent-in-Some-value.extent
    c.in_ok-extent-in-Some-value.ensures.done
    (measured_value (offer_of c.args.s.now) c.args.lengths.now c.args.most (name_of c.args.x.now) (term_of c.in-Some-value.v.now) c.in_ok-extent-in-Some-value.extent
    c.requires.offer (sym c.in-Some-value.ensures.value) c.in_ok-extent-in-Some-value.ensures.extent)
    c.in_ok-note-in-Some-value.ensures
