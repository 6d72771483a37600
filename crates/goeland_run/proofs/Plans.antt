-- What a run has to do, and what comes of it.
use Rattle.std.proofs.Common.{◌≡◌, ℕ, Bool, true, false, List, Option, None, Some, Result, Ok, Err, inl, inr, nat_le, refl, sym, subst, arith, if◌then◌else◌}
use Rattle.std.specs.Prelude.{IfOk, OnErr}
use Rattle.std.proofs.Common.{leb-true}
use Rattle.goeland_words.specs.declared.prove.Schedule.{Schedule}
use Rattle.deepening.specs.Ways.{HasWorkers}
use Rattle.deepening.specs.declared.kept.Kept.{Kept}
use Rattle.deepening.specs.declared.order.Way.{Way}
use Rattle.deepening.specs.declared.order.Order.TheVariants.{Plain}
use Rattle.deepening.specs.declared.order.Way.TheVariants.{Alone, Agents}
use Rattle.goeland_report.specs.Output.{output}
use Rattle.goeland_run.specs.Histories.{offer_words}
use Rattle.goeland_run.specs.Outside.{Reading, Writing, Prints}
use Rattle.goeland_run.specs.Deciding.{Decides, EndsRun}
use Rattle.goeland_run.specs.Jobs.{PlansTo, Fits}
use Rattle.goeland_run.specs.Run.{Ran}
use Rattle.goeland_run.specs.Searched.{way_of}
use Rattle.goeland_run.specs.declared.decided.Decided.{Decided}
use Rattle.goeland_run.specs.declared.planning.Plan.{Plan}
use Rattle.goeland_run.specs.declared.planning.Plan.TheVariants.{AtOnce, Search}
use Rattle.goeland_run.specs.declared.status.Status.{Status}
use Rattle.goeland_run.specs.declared.ways.Threading.{Threading}
use Rattle.goeland_run.specs.declared.ways.Threading.TheVariants.{OneThread, ManyThreads}

-- a plan that leads to one thing leads to what follows from it
pub plans-further : (threads : Threading) (P Q : Decided → Type 0) (plan : Plan) → ((d : Decided) → P d → Q d) → PlansTo threads P plan
    → PlansTo threads Q plan
plans-further threads P Q (AtOnce d) further leads = further d leads
plans-further threads P Q (Search job) further (is_job, leads) = (is_job, λ d finishes. further d (leads d finishes))

more-than-one : (workers : ℕ) (b : Bool) → nat_le 2 workers ≡ b → HasWorkers (if b then Agents workers else Alone Plain)
more-than-one workers true is = omega (arith, leb-true 2 workers is)
more-than-one workers false is = tt

-- a run can settle rounds in the way that is asked for
pub fits-way : (threads : Threading) (workers : ℕ) (schedule : Option Schedule) → Fits threads (way_of threads workers schedule)
fits-way OneThread workers schedule = tt
fits-way ManyThreads workers (Some schedule) = tt
fits-way ManyThreads workers None = more-than-one workers (nat_le 2 workers) refl

-- what holds whether there is an error or not
pub on-error : {T E P : Type 0} (r : Result T E) → P → OnErr r P
on-error (Ok x) p = tt
on-error (Err e) p = p

-- what was decided is told, or there was no memory
pub ran : {E : Type 0} (threads : Threading) (words : List (List ℕ)) (r : Reading) (w : Writing) (kept : Kept) (end : Status)
    (decided : Result Decided E) → IfOk decided (Decides threads r words) → OnErr decided (r.unread_after ≡ r.unread)
    → EndsRun w kept end decided → Ran threads words r w kept end
ran threads words r w kept end (Ok d) decides same (prints, is) =
    let decides_ = subst (λ (k : Kept). Decides threads r words (record { printed = d.printed; status = d.status; kept = k })) (sym is) decides in
    inl (record {
      file = decides_.file;
      functions = decides_.functions;
      outcome = decides_.outcome;
      cause = decides_.cause;
      prints =
          subst (λ (s : Status). Prints w (output (offer_words decides_.functions) decides_.file decides_.outcome) s end) decides_.status
          (subst (λ (text : List ℕ). Prints w text d.status end) decides_.text prints);
    })
ran threads words r w kept end (Err error) decides same (is, untouched, empty) =
    inr (record { is_end = is; readable = same; untouched = untouched; empty = empty })
