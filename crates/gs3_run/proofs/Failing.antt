-- The step that fails is one of the proof's steps, and so has a line.
use Rattle.std.proofs.Common.{◌≡◌, ℕ, suc, ◌<◌, Bool, true, false, inl, inr, List, [], ◌∷◌, map, drop, length, get_or, slice_get, Some, if◌then◌else◌, refl, ap, sym, subst, ◌∙◌, arith, length-append}
use Rattle.std.specs.List.{filter}
use Rattle.std.proofs.lemmas.List.{length-map}
use Rattle.std.proofs.lemmas.Option.{slice_get-get_or}
use Rattle.fol_core.specs.Syntax.{PlainFormula}
use Rattle.fol_core.specs.Symbol.{Symbol}
use Rattle.fof_parse.specs.Problem.{PlainProblem, Start}
use Rattle.gs3_rules.specs.Rules.{Rule}
use Rattle.gs3_rules.specs.Refutes.{ProofTree, by, Premises, no_premises, premise, FailsAt, SomeFailsAt, HasShape, preorder, preorder_each, Refutes, RefutedBy}
use Rattle.gs3_rules.proofs.Shapes.{refutation_shape}
use Rattle.gs3_text.specs.ProofText.{ProofText, IsReading, says, numbers_from, step_lines, line_of, heading}
use Rattle.gs3_text.proofs.Shapes.{one_tree_of}
use Rattle.gs3_run.specs.Run.{IsValid, IsWrongAt}

mutual
  pub fails_within : (list : List PlainFormula) (t : ProofTree) (n : ℕ) → FailsAt list t n → n < length (preorder t)
  fails_within list (by rule us) n (inl f) = omega (arith, f.0)
  fails_within list (by rule us) n (inr f) = omega (arith, f.3, some_fails_within f.0 us f.2 f.4)

  some_fails_within : (lists : List (List PlainFormula)) (us : Premises) (n : ℕ) → SomeFailsAt lists us n → n < length (preorder_each us)
  some_fails_within [] us n f = absurd f
  some_fails_within (l ∷ ls) no_premises n f = absurd f
  some_fails_within (l ∷ ls) (premise t us) n (inl f) = omega (arith, fails_within l t n f, length-append (preorder t) (preorder_each us))
  some_fails_within (l ∷ ls) (premise t us) n (inr f) = omega (arith, f.2, some_fails_within ls us f.1 f.3, length-append (preorder t) (preorder_each us))

numbered_when : (b : Bool) (n : ℕ) (line : List ℕ) (ms : List ℕ) (ls : List (List ℕ)) → length ms ≡ length ls
    → length (if b then n ∷ ms else ms) ≡ length (if b then line ∷ ls else ls)
numbered_when true n line ms ls h = ap suc h
numbered_when false n line ms ls h = h

numbered : (n : ℕ) (lines : List (List ℕ)) → length (numbers_from n lines) ≡ length (filter says lines)
numbered n [] = refl
numbered n (line ∷ lines) = numbered_when (says line) n line (numbers_from (suc n) lines) (filter says lines) (numbered (suc n) lines)

without_first : {A B : Type 0} (xs : List A) (y : B) (ys : List B) → length xs ≡ length (y ∷ ys) → length (drop 1 xs) ≡ length ys
without_first [] y ys h = absurd (omega (arith, h))
without_first (x ∷ xs) y ys h = omega (arith, h)

-- each step has its line
pub lined : (functions : List Symbol) (bytes : List ℕ) (t : ProofTree) (p : ProofText functions bytes t) → length (step_lines p.lines) ≡ length (preorder t)
lined functions bytes t p =
    without_first (numbers_from 1 p.lines) heading (map (line_of functions) (preorder t)) (numbered 1 p.lines ∙ ap length p.of_tree.said)
    ∙ length-map (preorder t) (line_of functions)

-- what the check of a proof that was read says of the step that it names
abbrev pub FailsAlways : List PlainFormula → List Rule → ℕ → Type 0
FailsAlways list rules n = (tree : ProofTree) → HasShape tree → preorder tree ≡ rules → FailsAt list tree n

failing : (functions : List Symbol) (bytes : List ℕ) (rules : List Rule) (numbers : List ℕ) (list : List PlainFormula) (n : ℕ)
    → (r : IsReading functions bytes rules numbers) → FailsAlways list rules n → FailsAt list r.tree n
failing functions bytes rules numbers list n r h = h r.tree r.text.of_tree.shaped r.are

pub within : (functions : List Symbol) (bytes : List ℕ) (rules : List Rule) (numbers : List ℕ) (list : List PlainFormula) (n : ℕ)
    → IsReading functions bytes rules numbers → FailsAlways list rules n → n < length numbers
within functions bytes rules numbers list n r h =
    omega (arith, fails_within list r.tree n (failing functions bytes rules numbers list n r h), lined functions bytes r.tree r.text, ap length r.stand)

pub wrong_at : (problem : PlainProblem) (bytes : List ℕ) (rules : List Rule) (numbers : List ℕ) (n : ℕ)
    → IsReading problem.symbols.functions bytes rules numbers → FailsAlways (Start problem) rules n → (RefutedBy (Start problem) rules → ⊥)
    → IsWrongAt problem bytes (get_or numbers n 0)
wrong_at problem bytes rules numbers n r h none =
    record {
      tree = r.tree;
      text = r.text;
      step = n;
      fails = failing problem.symbols.functions bytes rules numbers (Start problem) n r h;
      stands =
          subst (λ ms. slice_get ms n ≡ Some (get_or numbers n 0)) r.stand
          (slice_get-get_or numbers n 0 (within problem.symbols.functions bytes rules numbers (Start problem) n r h));
      not_valid = λ v. none (r.tree, r.are, subst (Refutes (Start problem)) (r.only v.tree v.text) v.refutes);
    }

-- a proof that was read and that refutes the start list
pub valid : (problem : PlainProblem) (bytes : List ℕ) (rules : List Rule) (numbers : List ℕ)
    → (r : IsReading problem.symbols.functions bytes rules numbers) → RefutedBy (Start problem) rules → IsValid problem bytes
valid problem bytes rules numbers r (tree, same, refutes) =
    record {
      tree = r.tree;
      text = r.text;
      refutes =
          subst (Refutes (Start problem))
          (one_tree_of tree r.tree (refutation_shape (Start problem) tree refutes) r.text.of_tree.shaped (same ∙ sym r.are))
          refutes;
    }
