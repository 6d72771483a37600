-- A tree that refutes a list has the shape of a proof.
use Rattle.std.proofs.Common.{◌≡◌, suc, List, [], ◌∷◌, length, ap, refl, ◌∙◌}
use Rattle.fol_core.specs.Syntax.{PlainFormula}
use Rattle.gs3_rules.specs.Rules.{Rule}
use Rattle.gs3_rules.specs.Refutes.{ProofTree, by, Premises, no_premises, premise, Refutes, AllRefute, RefutedBy, number_of, HasShape, HaveShape, IsWhole}
use Rattle.gs3_rules.proofs.InTurn.{step_premises}

number_refuted : (lists : List (List PlainFormula)) (us : Premises) → AllRefute lists us → number_of us ≡ length lists
number_refuted [] no_premises h = refl
number_refuted [] (premise t us) h = absurd h
number_refuted (l ∷ ls) no_premises h = absurd h
number_refuted (l ∷ ls) (premise t us) h = ap suc (number_refuted ls us h.1)

mutual
  pub refutation_shape : (list : List PlainFormula) (t : ProofTree) → Refutes list t → HasShape t
  refutation_shape list (by rule us) (lists, step, below) = (
    number_refuted lists us below ∙ step_premises list rule lists step,
    refutations_shape lists us below,
  )

  refutations_shape : (lists : List (List PlainFormula)) (us : Premises) → AllRefute lists us → HaveShape us
  refutations_shape [] no_premises h = tt
  refutations_shape [] (premise t us) h = absurd h
  refutations_shape (l ∷ ls) no_premises h = absurd h
  refutations_shape (l ∷ ls) (premise t us) h = (refutation_shape l t h.0, refutations_shape ls us h.1)

pub whole : (list : List PlainFormula) (rules : List Rule) → RefutedBy list rules → IsWhole rules
whole list rules (t, same, h) = (t, refutation_shape list t h, same)
