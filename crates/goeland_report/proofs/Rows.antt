-- Worked texts, computed.
use Rattle.std.proofs.Common.{◌≡◌, ℕ, List, [], ◌∷◌, refl, None, Some, true, false, ◌++◌}
use Rattle.std.specs.Prelude.{codes}
use Rattle.std.specs.Fmt.{digits}
use Rattle.fof_parse.specs.declared.refusal.BadKind.TheVariants.{FreeVariable}
use Rattle.gs3_rules.specs.Rules.{close, beta}
use Rattle.gs3_text.specs.ProofText.{proof_lines, text_of}
use Rattle.nego_node.specs.declared.events.Event.TheVariants as event
use Rattle.tab_tree.specs.declared.words.Engine.TheVariants.{Plain, Board}
use Rattle.tab_tree.specs.declared.words.OpenAnswer.TheVariants.{Branch, Conflict, Unsearched}
use Rattle.goeland_report.specs.Outcome.{Outcome, usage, too_large, read_fault, no_tokens, no_problem, give_up, proof, bench}
use Rattle.goeland_report.specs.Output.{output, file_text}
use Rattle.goeland_report.specs.declared.cause.Cause.{Cause}
use Rattle.goeland_report.specs.declared.cause.Cause.TheVariants.{Depth, Tries, Bytes, Nesting}
use Rattle.goeland_report.specs.declared.cause.BenchResult.TheVariants as result

-- numbers as offers, none of which stands in these texts
abbrev no_text : ℕ → List ℕ
no_text s = []

abbrev printed : Outcome ℕ → List ℕ
printed o = output no_text (codes "-") o

-- p, p=>q, and the conjecture q
abbrev a_proof : Outcome ℕ
a_proof =
    proof (record {
      theorem = true;
      depth = 1;
      engine = Plain;
      history = None;
      text = text_of (proof_lines [] (beta 1 ∷ close 0 3 ∷ close 3 2 ∷ []));
    })

whole_proof : printed a_proof
    ≡ text_of (codes "% SZS status Theorem for -" ∷ codes "% depth 1" ∷ codes "% engine plain" ∷ codes "% SZS output start Proof for -"
    ∷ codes "gs3 1" ∷ codes "beta 1" ∷ codes "close 0 3" ∷ codes "close 3 2" ∷ codes "% SZS output end Proof for -" ∷ [])
unfolding digits
whole_proof = refl

-- no conjecture, and the histories are asked for
abbrev a_history : Outcome ℕ
a_history =
    proof (record {
      theorem = false;
      depth = 12;
      engine = Board;
      history = Some (record { name = 1; events = event.Split ∷ [] } ∷ record { name = 2; events = event.Exhausted ∷ [] } ∷ []);
      text = codes "gs3 1\nfalse 0\n";
    })

whole_history : output no_text (codes "a b") a_history
    ≡ text_of (codes "% SZS status Unsatisfiable for a b" ∷ codes "% depth 12" ∷ codes "% engine board" ∷ codes "% node 1 split" ∷ codes "% node 2 exhausted"
    ∷ codes "% SZS output start Proof for a b" ∷ codes "gs3 1" ∷ codes "false 0" ∷ codes "% SZS output end Proof for a b" ∷ [])
unfolding digits
whole_history = refl

abbrev stopped : Cause → Outcome ℕ
stopped cause = give_up (record { cause = cause; engine = Plain; history = None })

-- no tableau up to depth 8 closes
whole_give_up : printed (stopped (Depth 8 (Branch 1)))
    ≡ text_of (codes "% SZS status GaveUp for -" ∷ codes "% reason depth 8 open 1" ∷ codes "% engine plain" ∷ [])
unfolding digits
whole_give_up = refl

without_leaf : printed (stopped (Depth 1 Conflict))
    ≡ text_of (codes "% SZS status GaveUp for -" ∷ codes "% reason depth 1 conflict" ∷ codes "% engine plain" ∷ [])
unfolding digits
without_leaf = refl

cut_walk : printed (stopped (Depth 64 Unsearched))
    ≡ text_of (codes "% SZS status GaveUp for -" ∷ codes "% reason depth 64 unsearched" ∷ codes "% engine plain" ∷ [])
unfolding digits
cut_walk = refl

long_proof : printed (stopped (Bytes 100))
    ≡ text_of (codes "% SZS status GaveUp for -" ∷ codes "% reason bytes 100" ∷ codes "% engine plain" ∷ [])
unfolding digits
long_proof = refl

deep_proof : printed (stopped Nesting)
    ≡ text_of (codes "% SZS status GaveUp for -" ∷ codes "% reason nesting" ∷ codes "% engine plain" ∷ [])
unfolding digits
deep_proof = refl

bench_proof : printed (bench 100 (result.Proved 1 3819)) ≡ text_of (codes "% bench 100 status Theorem depth 1 bytes 3819" ∷ [])
unfolding digits
bench_proof = refl

bench_reason : printed (bench 2 (result.GaveUp (Tries 36 1))) ≡ text_of (codes "% bench 2 reason tries 36 depth 1" ∷ [])
unfolding digits
bench_reason = refl

other_lines : printed usage ++ printed too_large ++ printed read_fault ++ printed (no_tokens 0) ++ printed (no_problem FreeVariable 17)
    ≡ text_of (codes "% usage: goeland prove [OPTIONS] [FILE] or goeland bench N [--workers W]" ∷ codes "% refused TooLarge" ∷ codes "% read fault"
    ∷ codes "% refused Lex at 0" ∷ codes "% refused FreeVariable at 17" ∷ [])
unfolding digits
other_lines = refl

-- a name with bytes that are not printable
file_name : file_text (97 ∷ 195 ∷ 169 ∷ 10 ∷ 32 ∷ 126 ∷ 127 ∷ []) ≡ codes "a??? ~?"
file_name = refl
