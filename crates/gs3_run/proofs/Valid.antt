-- A proof that the shelf holds is found to be one.
use Rattle.std.proofs.Common.{◌≡◌, ◌⊎◌, inl, inr, ℕ, ◌<◌, ◌≤◌, List, [], ◌∷◌, Option, Some, IfSome, length, refl, ap, sym, ◌∙◌, subst, arith}
use Rattle.std.specs.List.{AllByRecursion}
use Rattle.fol_core.specs.Symbol.{AreSymbols}
use Rattle.gl_outside.specs.Outside.{HasRisen}
use Rattle.fof_parse.specs.Problem.{PlainProblem, Start}
use Rattle.fof_parse.specs.TheProblem.{most_bytes, IsProblemText}
use Rattle.gs3_rules.specs.Refutes.{ProofTree, Refutes, preorder}
use Rattle.gs3_rules.proofs.Shapes.{refutation_shape}
use Rattle.gs3_text.specs.ProofText.{IsSpellable, proof_lines, text_of}
use Rattle.gs3_text.proofs.Names.{names_are_lines}
use Rattle.gs3_text.proofs.Written.{written_text}
use Rattle.gs3_run.specs.Run.{IsValid, ReadsProblem, FitsBoth, Prints, Ran, status_of}
use Rattle.gs3_text.specs.declared.limit.TheConstants.{MAX_PROOF_BYTES}
use Rattle.gs3_run.specs.Held.{HoldsProof, EndsValid}
use Rattle.gs3_run.specs.declared.run.Report.{Report}
use Rattle.gs3_run.specs.declared.run.Report.TheVariants.{Usage, TooLarge, Refused, TooLargeProof, ReadFault, Valid, Invalid}
use Rattle.gs3_run.specs.declared.run.CheckStatus.{CheckStatus}

-- what is written for a tree that refutes the start list
pub written_valid : (problem : PlainProblem) (tree : ProofTree) → AreSymbols problem.symbols.functions → Refutes (Start problem) tree
    → AllByRecursion (IsSpellable problem.symbols.functions) (preorder tree) → IsValid problem (text_of (proof_lines problem.symbols.functions (preorder tree)))
written_valid problem tree symbols refutes spellable = record {
  tree = tree;
  text = written_text problem.symbols.functions (names_are_lines problem.symbols.functions symbols) (preorder tree) spellable tree (refutation_shape (Start problem) tree refutes) refl;
  refutes = refutes;
}

told : (Q : List ℕ → Type 0) (o : Option (List ℕ)) (bytes : List ℕ) → o ≡ Some bytes → IfSome o Q → Q bytes
told Q o bytes e h = subst (λ x. IfSome x Q) e h

-- the same text is the same problem's
same_problem : (o : Option (List ℕ)) (bytes : List ℕ) (p q : PlainProblem) → o ≡ Some bytes → IsProblemText bytes p → ReadsProblem o q → p ≡ q
same_problem o bytes p q e is_text r =
    r.is_the.only p (subst (λ b. IsProblemText b p) (sym (told (λ b. r.bytes ≡ b) o bytes e r.are)) is_text)

same_names : (a b c d : List ℕ) → a ∷ b ∷ [] ≡ c ∷ d ∷ [] → (a ≡ c) × (b ≡ d)
same_names a b c d e = (cc, cc)

module _ (before after : ℕ) (problem_told proof_told : Option (List ℕ)) (problem_bytes proof_bytes : List ℕ) (problem : PlainProblem) (pe : problem_told ≡ Some problem_bytes) (qe : proof_told ≡ Some proof_bytes)
    (is_text : IsProblemText problem_bytes problem) (within : length proof_bytes ≤ MAX_PROOF_BYTES) (is_valid : IsValid problem proof_bytes) where
  -- a report that fits is Valid, or a read fault
  pub fits_valid : (r : Report) → FitsBoth problem_told proof_told before after r → (r ≡ Valid) ⊎ ((r ≡ ReadFault) × HasRisen before after)
  fits_valid Usage f = absurd f
  fits_valid TooLarge f = absurd (omega (arith, told (λ b. most_bytes < length b) problem_told problem_bytes pe f.1, is_text.within))
  fits_valid (Refused text) f = absurd (f.1.none problem (subst (λ b. IsProblemText b problem) (sym (told (λ b. f.1.bytes ≡ b) problem_told problem_bytes pe f.1.are)) is_text))
  fits_valid TooLargeProof f = absurd (omega (arith, told (λ b. MAX_PROOF_BYTES < length b) proof_told proof_bytes qe f.2.1, within))
  fits_valid ReadFault f = inr (refl, f)
  fits_valid Valid f = inl refl
  fits_valid (Invalid text) f =
      let same : problem ≡ f.0 = same_problem problem_told problem_bytes problem f.0 pe is_text f.1 in
      let bytes : f.2.1.bytes ≡ proof_bytes = told (λ b. f.2.1.bytes ≡ b) proof_told proof_bytes qe f.2.1.are in
      let valid : IsValid f.0 f.2.1.bytes = subst (λ b. IsValid f.0 b) (sym bytes) (subst (λ p. IsValid p proof_bytes) same is_valid) in
      elim f.2.1.judged [
        | inl m ↦ absurd (m.1.no_text valid.tree valid.text)
        | inr w ↦ absurd (w.1.not_valid valid)
      ]

-- how a report ends that is Valid or a read fault
ends : (r : Report) (before after faults faults' : ℕ) (old new : Option (List ℕ)) (s : CheckStatus) → (r ≡ Valid) ⊎ ((r ≡ ReadFault) × HasRisen before after)
    → Prints r old new faults faults' s → EndsValid before after faults faults' s
ends r before after faults faults' old new s (inl valid) (inl p) = inl (p.0 ∙ ap status_of valid)
ends r before after faults faults' old new s (inr failed) (inl p) = inr (inr (inl (p.0 ∙ ap status_of failed.0, failed.1)))
ends r before after faults faults' old new s fits (inr p) = inr (inr (inr (p.0, p.2)))

pub ends_valid : (words : List (List ℕ)) (holds : List ℕ → Option (List ℕ)) (before after : ℕ) (old new : Option (List ℕ)) (faults faults' : ℕ) (s : CheckStatus)
    → HoldsProof words holds → Ran words holds before after old new faults faults' s → EndsValid before after faults faults' s
ends_valid words holds before after old new faults faults' s h (inl ran) = inr (inl ran.0)
ends_valid words holds before after old new faults faults' s h (inr (r, inl usage, prints)) = absurd (usage.1 h.problem_name h.proof_name h.named)
ends_valid words holds before after old new faults faults' s h (inr (r, inr (problem, proof, names, both), prints)) =
    let same = same_names h.problem_name h.proof_name problem proof (sym h.named.two ∙ names.two) in
    ends r before after faults faults' old new s
    (fits_valid before after (holds problem) (holds proof) h.problem_bytes h.proof_bytes h.problem
    (ap holds (sym same.0) ∙ h.problem_told) (ap holds (sym same.1) ∙ h.proof_told) h.is_text h.within h.is_valid r both)
    prints
