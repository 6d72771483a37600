-- What is reported of a text, of a file and of the words.
use Rattle.std.proofs.Common.{◌≡◌, ◌∙◌, append-nil, ℕ, ◌+◌, ◌<◌, ◌≤◌, List, [], length, Option, None, Some, Result, Err, ap, arith, sym, subst, refl}
use Rattle.std.specs.Prelude.{IfSome}
use Rattle.fol_core.specs.Symbol.{Symbol}
use Rattle.gl_outside.specs.Outside.{HasRisen}
use Rattle.gl_outside.specs.declared.shelf.FetchError.{FetchError}
use Rattle.gl_outside.specs.declared.shelf.FetchError.TheVariants as fetch
use Rattle.gl_outside.proofs.Told.{told_too}
use Rattle.fof_parse.specs.Problem.{PlainProblem}
use Rattle.fof_parse.specs.TheProblem.{most_bytes, IsTheProblem, IsNoProblem}
use Rattle.fof_parse.specs.Refused.{Refuses}
use Rattle.fof_parse.specs.declared.read.ReadError.{ReadError}
use Rattle.fof_parse.specs.declared.read.ReadError.TheVariants as error
use Rattle.round_offers.specs.RoundOffer.{RoundOffer}
use Rattle.goeland_words.specs.Words.{IsCommand}
use Rattle.goeland_words.specs.declared.words.Command.TheVariants.{Prove, Bench}
use Rattle.goeland_words.specs.declared.prove.ProveWords.{ProveWords}
use Rattle.fof_gen.specs.Generated.{problem_text}
use Rattle.deepening.specs.Kept.{IsEmpty}
use Rattle.deepening.specs.declared.order.Way.{Way}
use Rattle.goeland_report.specs.Outcome.{Outcome, usage, too_large, read_fault, no_tokens, no_problem, give_up, proof, bench}
use Rattle.goeland_report.specs.declared.cause.BenchResult.{BenchResult}
use Rattle.goeland_run.specs.Outside.{Reading, IsReadable}
use Rattle.goeland_run.specs.Histories.{offer_words}
use Rattle.goeland_run.specs.PrintedText.{printed_text}
use Rattle.goeland_run.specs.Searched.{bench_limits, way_of, way_asked, HasAnswer, IsFoundOut}
use Rattle.goeland_run.specs.Reports.{Reports, ReportsFile, Reads, Under, EndsBench, HasBenched, IsUsage}
use Rattle.goeland_run.specs.Telling.{TellsOutcome}
use Rattle.goeland_run.specs.Benching.{Benches, BenchesProblem, result_of}
use Rattle.goeland_run.specs.Deciding.{Decides, DecidesFile, DecidesText, DecidesAtOnce, DecidesRefusal, DecidesUsage, ReportsText}
use Rattle.goeland_run.specs.declared.answers.Answer.{Answer}
use Rattle.goeland_run.specs.declared.answers.Answer.TheVariants as answer
use Rattle.goeland_run.specs.declared.decided.Decided.{Decided}
use Rattle.goeland_run.specs.declared.printed.Printed.TheVariants as printed
use Rattle.goeland_run.specs.declared.status.Status.TheVariants as status
use Rattle.goeland_run.specs.declared.ways.Threading.{Threading}

-- the search of a text's problem
pub text_searched : (way : Way) (p : ProveWords) (bytes : List ℕ) (problem : PlainProblem) (d : Decided) → IsTheProblem bytes problem
    → TellsOutcome way p problem d.kept d.printed d.status → DecidesText way p bytes d
text_searched way p bytes problem d of_text tells =
    record {
      functions = problem.symbols.functions;
      outcome = tells.outcome;
      cause = by_outcome tells.outcome tells.found_out;
      text = tells.text;
      status = tells.status;
    }
  where
    by_outcome : (o : Outcome RoundOffer) → IsFoundOut way p problem d.kept o → ReportsText way bytes p d.kept problem.symbols.functions o
    by_outcome (give_up g) h = record { problem = problem; of_text = of_text; symbols = refl; outcome = h }
    by_outcome (proof told) h = record { problem = problem; of_text = of_text; symbols = refl; outcome = h }
    by_outcome usage h = absurd h
    by_outcome too_large h = absurd h
    by_outcome read_fault h = absurd h
    by_outcome (no_tokens offset) h = absurd h
    by_outcome (no_problem kind offset) h = absurd h
    by_outcome (bench n result) h = absurd h

-- a text that is refused
pub text_refused : (way : Way) (p : ProveWords) (bytes : List ℕ) (e : ReadError) (d : Decided) → Refuses bytes e
    → ((e ≡ error.OutOfMemory → ⊥) → IsNoProblem bytes) → DecidesRefusal e d → DecidesText way p bytes d
text_refused way p bytes error.TooLarge d refused none h =
    record { functions = []; outcome = too_large; cause = (refused, h.empty); text = h.text (offer_words []) p.file; status = h.status }
text_refused way p bytes (error.Lex offset) d refused none h =
    record {
      functions = [];
      outcome = no_tokens offset;
      cause = (none (λ e. cc), refused, h.empty);
      text = h.text (offer_words []) p.file;
      status = h.status;
    }
text_refused way p bytes (error.Bad offset kind) d refused none h =
    record {
      functions = [];
      outcome = no_problem kind offset;
      cause = (none (λ e. cc), refused, h.empty);
      text = h.text (offer_words []) p.file;
      status = h.status;
    }
text_refused way p bytes error.OutOfMemory d refused none h = absurd h

-- the text of a file that was read
pub file_read : (way : Way) (r : Reading) (p : ProveWords) (bytes : List ℕ) (d : Decided) → IsReadable r
    → IfSome (r.holds p.file) (λ held. bytes ≡ held) → length bytes ≤ most_bytes → DecidesText way p bytes d → DecidesFile way r p d
file_read way r p bytes d readable told within h =
    record {
      functions = h.functions;
      outcome = h.outcome;
      cause = by_outcome h.outcome h.cause;
      text = h.text;
      status = h.status;
    }
  where
    reads : Reads way r p d.kept bytes
    reads = record { readable = readable; told = told; within = within }

    by_outcome : (o : Outcome RoundOffer) → ReportsText way bytes p d.kept h.functions o → ReportsFile way r p d.kept h.functions o
    by_outcome too_large c =
        record { readable = readable; large = told_too (r.holds p.file) (λ b. most_bytes < length b) bytes told c.0; empty = c.1 }
    by_outcome (no_tokens offset) c = record { bytes = bytes; reads = reads; none = c.0; at_offset = c.1; empty = c.2 }
    by_outcome (no_problem kind offset) c = record { bytes = bytes; reads = reads; none = c.0; at_offset = c.1; empty = c.2 }
    by_outcome (give_up g) c =
        record { bytes = bytes; reads = reads; problem = c.problem; of_text = c.of_text; symbols = c.symbols; outcome = c.outcome }
    by_outcome (proof told) c =
        record { bytes = bytes; reads = reads; problem = c.problem; of_text = c.of_text; symbols = c.symbols; outcome = c.outcome }
    by_outcome usage c = absurd c
    by_outcome read_fault c = absurd c
    by_outcome (bench n result) c = absurd c

-- a file that could not be read
pub file_failed : (way : Way) (r : Reading) (p : ProveWords) (d : Decided) → HasRisen r.unread r.unread_after
    → d.printed ≡ printed.ReadFault → d.status ≡ status.ReadFault → IsEmpty d.kept → DecidesFile way r p d
file_failed way r p d risen is end empty =
    record {
      functions = [];
      outcome = read_fault;
      cause = record { fault = risen; empty = empty };
      text = ap printed_text is;
      status = end;
    }

-- a fetch that found too much did not fail
pub has_not_failed : {T : Type 0} (r : Result T FetchError) → r ≡ Err fetch.TooLong → r ≡ Err fetch.Failed → ⊥
has_not_failed r is failed = cc

longer : (o : Option (List ℕ)) → IfSome o (λ b. most_bytes + 1 ≤ length b) → IfSome o (λ b. most_bytes < length b)
longer None h = tt
longer (Some b) h = omega (arith, h)

-- a file that is too large
pub file_too_large : (way : Way) (r : Reading) (p : ProveWords) (d : Decided) → IsReadable r
    → IfSome (r.holds p.file) (λ b. most_bytes + 1 ≤ length b) → d.printed ≡ printed.TooLarge → d.status ≡ status.Refused
    → IsEmpty d.kept → DecidesFile way r p d
file_too_large way r p d readable long is end empty =
    record {
      functions = [];
      outcome = too_large;
      cause = record { readable = readable; large = longer (r.holds p.file) long; empty = empty };
      text = ap printed_text is;
      status = end;
    }

-- the file of the words
pub words_asked : (threads : Threading) (r : Reading) (words : List (List ℕ)) (p : ProveWords) (d : Decided)
    → IsCommand words (Prove p) → DecidesFile (way_asked threads p) r p d → Decides threads r words d
words_asked threads r words p d asked h =
    record {
      file = p.file;
      functions = h.functions;
      outcome = h.outcome;
      cause = by_outcome h.outcome h.cause;
      text = h.text;
      status = h.status;
    }
  where
    under : (o : Outcome RoundOffer) → ReportsFile (way_asked threads p) r p d.kept h.functions o
        → Under threads r words d.kept p.file h.functions o
    under o c = record { asked = p; asks = asked; of_file = refl; cause = c }

    by_outcome : (o : Outcome RoundOffer) → ReportsFile (way_asked threads p) r p d.kept h.functions o
        → Reports threads r words d.kept p.file h.functions o
    by_outcome too_large c = under too_large c
    by_outcome read_fault c = under read_fault c
    by_outcome (no_tokens offset) c = under (no_tokens offset) c
    by_outcome (no_problem kind offset) c = under (no_problem kind offset) c
    by_outcome (give_up g) c = under (give_up g) c
    by_outcome (proof told) c = under (proof told) c
    by_outcome usage c = absurd c
    by_outcome (bench n result) c = absurd c

-- a problem of the bench
pub benched : (threads : Threading) (r : Reading) (words : List (List ℕ)) (n workers : ℕ) (d : Decided)
    → IsCommand words (Bench n workers) → IsReadable r → Benches (way_of threads workers None) n d → Decides threads r words d
benched threads r words n workers d asked readable h =
    record {
      file = [];
      functions = [];
      outcome = bench n (result_of h.benches.found d.kept.depth (length (problem_text n)));
      cause =
          record {
            workers = workers;
            asked = asked;
            readable = readable;
            problem = h.problem;
            of_text = h.of_text;
            rules = h.benches.rules;
            of_problem = h.benches.of_problem;
            ends = by_answer h.benches.found h.benches.has_answer;
          };
      text = h.benches.text ∙ sym (append-nil _);
      status = h.benches.status;
    }
  where
    by_answer : (found : Answer) → HasAnswer h.problem h.benches.rules bench_limits (way_of threads workers None) d.kept found
        → EndsBench threads r words d.kept (way_of threads workers None) n h.problem h.benches.rules (result_of found d.kept.depth (length (problem_text n)))
    by_answer (answer.Steps steps) has = ((has.found, has.is_found), refl, refl)
    by_answer (answer.GaveUp cause) has = has

-- words that are no command
pub words_refused : (threads : Threading) (r : Reading) (words : List (List ℕ)) (d : Decided) → IsUsage threads r words d.kept
    → DecidesUsage d → Decides threads r words d
words_refused threads r words d is h =
    record { file = []; functions = []; outcome = usage; cause = is; text = h.text (offer_words []) []; status = h.status }
