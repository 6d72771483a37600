use Rattle.gl_outside.specs.Outside.{texts_of}
use Rattle.goeland_run.specs.declared.ways.Threading.TheVariants as threadings
use Rattle.goeland_run.proofs.Plans.{ran}
use Rattle.goeland_run.proofs.printing.run_alone.Goals as goal

pub returns-clause-ran : goal.returns-clause-ran
returns-clause-ran g c =
    ran threadings.OneThread (texts_of c.args.words.now)
    (record {
      holds = g.S.Shelf.holds c.args.shelf.now;
      unread = g.S.Shelf.faults c.args.shelf.now;
      unread_after = g.S.Shelf.faults c.decide_alone-decided.new.shelf;
    })
    (record {
      written = g.K.Sink.written c.args.out.now;
      written_after = g.K.Sink.written c.end_run.new.out;
      unwritten = g.K.Sink.faults c.args.out.now;
      unwritten_after = g.K.Sink.faults c.end_run.new.out;
    })
    c.end_run.new.kept c.end_run.result c.decide_alone-decided.result c.decide_alone-decided.ensures.decides c.decide_alone-decided.ensures.err c.end_run.ensures
