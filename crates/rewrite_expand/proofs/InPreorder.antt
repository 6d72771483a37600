-- An expansion is the rewriting's tree in preorder.
use Rattle.std.proofs.Common.{◌≡◌, ℕ, suc, ◌+◌, Bool, true, false, List, [], ◌∷◌, ◌++◌, length, refl, ap, sym, ◌∙◌, append-nil, append_assoc}
use Rattle.fol_core.specs.Syntax.{PlainTerm}
use Rattle.gs3_rules.specs.Rules.{beta, gamma}
use Rattle.gs3_rules.specs.Refutes.{ProofTree, preorder}
use Rattle.rewrite_expand.specs.Expansion.{gammas, gamma_steps, last_of, beta_on_literal, Expansion, expansion, rewriting, whole}

gammas_first : (place len : ℕ) (us : List PlainTerm) (t : ProofTree) → preorder (gammas place len us t) ≡ gamma_steps place len us ++ preorder t
gammas_first place len [] t = refl
gammas_first place len (u ∷ us) t =
    ap (λ steps. gamma place u ∷ steps) (append-nil (preorder (gammas len (suc len) us t)) ∙ gammas_first len (suc len) us t)

pub in_preorder : (len axiom_place literal_place : ℕ) (positive head_left : Bool) (us : List PlainTerm) (go_on : ℕ → ProofTree)
    → preorder (rewriting len axiom_place literal_place positive head_left us go_on)
    ≡ whole (expansion len axiom_place literal_place positive head_left us) (preorder (go_on (expansion len axiom_place literal_place positive head_left us).result))
in_preorder len axiom_place literal_place true head_left us go_on =
    let x = expansion len axiom_place literal_place true head_left us in
    gammas_first axiom_place len us (beta_on_literal head_left true literal_place (last_of axiom_place len us) (len + length us) go_on)
    ∙ sym (append_assoc (gamma_steps axiom_place len us) (beta (last_of axiom_place len us) ∷ []) (preorder (go_on x.result) ++ x.closing ∷ []))
in_preorder len axiom_place literal_place false head_left us go_on =
    let x = expansion len axiom_place literal_place false head_left us in
    gammas_first axiom_place len us (beta_on_literal head_left false literal_place (last_of axiom_place len us) (len + length us) go_on)
    ∙ ap (λ steps. gamma_steps axiom_place len us ++ beta (last_of axiom_place len us) ∷ x.closing ∷ steps) (append-nil (preorder (go_on x.result)))
    ∙ sym (append_assoc (gamma_steps axiom_place len us) (beta (last_of axiom_place len us) ∷ []) (x.closing ∷ preorder (go_on x.result)))

-- the same of steps that are an expansion
pub are_whole : (x : Expansion) (len axiom_place literal_place : ℕ) (positive head_left : Bool) (us : List PlainTerm)
    → x ≡ expansion len axiom_place literal_place positive head_left us → (go_on : ℕ → ProofTree)
    → preorder (rewriting len axiom_place literal_place positive head_left us go_on) ≡ whole x (preorder (go_on x.result))
are_whole x len axiom_place literal_place positive head_left us is go_on =
    in_preorder len axiom_place literal_place positive head_left us go_on ∙ sym (ap (λ y. whole y (preorder (go_on y.result))) is)
