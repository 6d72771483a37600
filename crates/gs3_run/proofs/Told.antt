-- What is reported of bytes that were fetched is reported of the bytes that the shelf tells.
use Rattle.std.proofs.Common.{◌≡◌, ℕ, ◌<◌, ◌∙◌, List, length, Option, Some, None, refl, ◌≤◌}
use Rattle.fof_parse.specs.Problem.{PlainProblem}
use Rattle.fof_parse.specs.TheProblem.{most_bytes}
use Rattle.gl_outside.proofs.Told.{told_too}
use Rattle.gs3_run.specs.Run.{Tells, ReadsProblem, ReadsNoProblem, RefusesText, FitsBoth}
use Rattle.gs3_run.specs.declared.run.Report.{Report}
use Rattle.gs3_run.specs.declared.run.Report.TheVariants.{Usage, TooLarge, Refused, TooLargeProof, ReadFault, Valid, Invalid}

same_told : (told : Option (List ℕ)) (bytes x : List ℕ) → Tells told bytes → x ≡ bytes → Tells told x
same_told None bytes x h e = tt
same_told (Some b) bytes x h e = e ∙ h

problem_told : (told : Option (List ℕ)) (bytes : List ℕ) (p : PlainProblem) → Tells told bytes → ReadsProblem (Some bytes) p → ReadsProblem told p
problem_told told bytes p h r = record { bytes = r.bytes; are = same_told told bytes r.bytes h r.are; within = r.within; is_the = r.is_the }

none_told : (told : Option (List ℕ)) (bytes text : List ℕ) → Tells told bytes → ReadsNoProblem (Some bytes) text → ReadsNoProblem told text
none_told told bytes text h r = record {
  bytes = r.bytes;
  are = same_told told bytes r.bytes h r.are;
  within = r.within;
  none = r.none;
  refusal = r.refusal;
}

pub fits_told : (told proof : Option (List ℕ)) (bytes : List ℕ) (before after : ℕ) → Tells told bytes → (r : Report) → FitsBoth (Some bytes) proof before after r → FitsBoth told proof before after r
fits_told told proof bytes before after h Usage f = f
fits_told told proof bytes before after h TooLarge f = (f.0, told_too told (λ b. most_bytes < length b) bytes h f.1)
fits_told told proof bytes before after h (Refused text) f = (f.0, none_told told bytes text.items h f.1)
fits_told told proof bytes before after h ReadFault f = f
fits_told told proof bytes before after h TooLargeProof f = (f.0, problem_told told bytes f.0 h f.1, f.2)
fits_told told proof bytes before after h Valid f = (f.0, problem_told told bytes f.0 h f.1, f.2)
fits_told told proof bytes before after h (Invalid text) f = (f.0, problem_told told bytes f.0 h f.1, f.2)

-- a text within the limit that is refused
pub fits_refused : (bytes : List ℕ) (proof : Option (List ℕ)) (before : ℕ) → length bytes ≤ most_bytes → (r : Report) → RefusesText bytes r → FitsBoth (Some bytes) proof before before r
fits_refused bytes proof before within Usage h = h
fits_refused bytes proof before within TooLarge h = (refl, h)
fits_refused bytes proof before within (Refused text) h =
    (refl, record { bytes = bytes; are = refl; within = within; none = h.0; refusal = h.1 })
fits_refused bytes proof before within TooLargeProof h = absurd h
fits_refused bytes proof before within ReadFault h = absurd h
fits_refused bytes proof before within Valid h = absurd h
fits_refused bytes proof before within (Invalid text) h = absurd h
