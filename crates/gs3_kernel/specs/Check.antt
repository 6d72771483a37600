-- What a check of steps answers.
use Rattle.std.specs.Prelude.{◌≡◌, ℕ, List, [], ◌∷◌, Result, Err, OnOk}
use Rattle.fol_core.specs.Syntax.{PlainFormula}
use Rattle.gs3_rules.specs.Rules.{Rule}
use Rattle.gs3_rules.specs.Refutes.{ProofTree, preorder, RefutedBy, HasShape, FailsAt}
use Rattle.gs3_rules.specs.InTurn.{StopAt}
use Rattle.gs3_kernel.specs.declared.checking.CheckError.{CheckError}
use Rattle.gs3_kernel.specs.declared.checking.CheckError.TheVariants.{Wrong}

-- Ok comes only where the steps are those of a tree that refutes the list, and Wrong only where there is no such tree.
-- Then it has the place where the steps stop: of a whole proof, the place of the first step whose condition fails.
pub record Checks (list : List PlainFormula) (rules : List Rule) (result : Result (Unit {0}) CheckError) : Type 0 where
  pub refuted : OnOk result (RefutedBy list rules)
  pub not_refuted : (n : ℕ) → result ≡ Err (Wrong n) → RefutedBy list rules → ⊥
  pub stops : (n : ℕ) → result ≡ Err (Wrong n) → StopAt (list ∷ []) rules n
  pub fails : (tree : ProofTree) → HasShape tree → preorder tree ≡ rules
      → (n : ℕ) → result ≡ Err (Wrong n) → FailsAt list tree n
