use Rattle.std.proofs.Common.{refl}
use Rattle.gl_outside.specs.Outside.{texts_of}
use Rattle.goeland_run.proofs.Answered.{words_refused, benched}
use Rattle.goeland_run.proofs.planning.plan_words.Goals as goal

pub returns-in_ok-job-in-Ok-Bench-clause-plan : goal.returns-in_ok-job-in-Ok-Bench-clause-plan
returns-in_ok-job-in-Ok-Bench-clause-plan g c = (
  c.in_ok-job-in-Ok-Bench.ensures.job,
  λ d finishes.
      benched c.args.threads
      (record {
        holds = g.S.Shelf.holds c.args.shelf.now;
        unread = g.S.Shelf.faults c.args.shelf.now;
        unread_after = g.S.Shelf.faults c.args.shelf.now;
      })
      (texts_of c.args.words.now) c.in-Ok-Bench.n c.in-Ok-Bench.workers d
      (rw c.in-Ok-Bench.field-0-is at c.in-Ok-Bench.ensures.ok) refl (c.in_ok-job-in-Ok-Bench.ensures.decides d finishes),
)

pub returns-in-Err-Usage-clause-plan : goal.returns-in-Err-Usage-clause-plan
returns-in-Err-Usage-clause-plan g c =
    words_refused c.args.threads
    (record {
      holds = g.S.Shelf.holds c.args.shelf.now;
      unread = g.S.Shelf.faults c.args.shelf.now;
      unread_after = g.S.Shelf.faults c.args.shelf.now;
    })
    (texts_of c.args.words.now) c.usage.result
    (record {
      none = c.in-Err-Usage.ensures.usage c.in-Err-Usage.field-0-is;
      readable = refl;
      empty = c.usage.ensures.empty;
    })
    c.usage.ensures
