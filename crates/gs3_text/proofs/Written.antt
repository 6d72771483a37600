-- What is written is a text of the proof.
use Rattle.std.proofs.Common.{◌≡◌, ℕ, Result, Ok, Err, IfOk, OnOk, List, [], ◌∷◌, map, refl, ap, subst, sym, ◌∙◌, true}
use Rattle.std.specs.List.{AllByRecursion, filter}
use Rattle.fol_core.specs.Symbol.{Symbol}
use Rattle.gs3_rules.specs.Rules.{Rule, close, false_at, not_true, alpha, beta, delta, gamma}
use Rattle.gs3_rules.specs.Refutes.{ProofTree, preorder}
use Rattle.gs3_rules.specs.Refutes.{HasShape}
use Rattle.gs3_text.specs.ProofText.{heading, line_of, proof_lines, text_of, says, IsLine, IsSpellable, IsSpellableTerm, HasSmallNumbers, ProofText}
use Rattle.gs3_text.proofs.Feeds.{NamesAreLines, line_is_line}

pub says_line : (functions : List Symbol) (rule : Rule) → says (line_of functions rule) ≡ true
says_line functions (close i j) = refl
says_line functions (false_at i) = refl
says_line functions (not_true i) = refl
says_line functions (alpha i) = refl
says_line functions (beta i) = refl
says_line functions (delta i n) = refl
says_line functions (gamma i t) = refl

pub all_said : (functions : List Symbol) (rules : List Rule) → filter says (map (line_of functions) rules) ≡ map (line_of functions) rules
all_said functions [] = refl
all_said functions (rule ∷ rules) = rw (says_line functions rule) (ap (λ ls. line_of functions rule ∷ ls) (all_said functions rules))

pub all_lines : (functions : List Symbol) → NamesAreLines functions → (rules : List Rule) → AllByRecursion (IsSpellable functions) rules → AllByRecursion IsLine (map (line_of functions) rules)
all_lines functions names [] h = tt
all_lines functions names (rule ∷ rules) h = (line_is_line functions names rule h.0, all_lines functions names rules h.1)

pub written_text : (functions : List Symbol) → NamesAreLines functions → (rules : List Rule) → AllByRecursion (IsSpellable functions) rules → (tree : ProofTree) → HasShape tree → preorder tree ≡ rules → ProofText functions (text_of (proof_lines functions rules)) tree
written_text functions names rules h tree shape is = record {
  lines = proof_lines functions rules;
  text = refl;
  of_tree = record {
    whole = (refl, all_lines functions names rules h);
    said = ap (λ ls. heading ∷ ls) (all_said functions rules) ∙ ap (proof_lines functions) (sym is);
    shaped = shape;
    spellable = subst (AllByRecursion (IsSpellable functions)) (sym is) h;
  };
}

both : (functions : List Symbol) (rules : List Rule) → AllByRecursion HasSmallNumbers rules → AllByRecursion (IsSpellableTerm functions) rules → AllByRecursion (IsSpellable functions) rules
both functions [] p q = tt
both functions (rule ∷ rules) p q = ((p.0, q.0), both functions rules p.1 q.1)

-- the text of the steps is a text of each proof tree that has them
pub texts : {V E : Type 0} (items : V → List ℕ) (functions : List Symbol) → NamesAreLines functions → (written rules : List Rule) → written ≡ rules → AllByRecursion (IsSpellableTerm functions) rules → (r : Result V E) → IfOk r (λ v. items v ≡ text_of (proof_lines functions written)) → OnOk r (AllByRecursion HasSmallNumbers written) → IfOk r (λ v. (tree : ProofTree) → HasShape tree → preorder tree ≡ rules → ProofText functions (items v) tree)
texts items functions names written rules same h (Ok v) is small =
    let spellable = both functions written small (subst (AllByRecursion (IsSpellableTerm functions)) (sym same) h) in
    λ tree shape steps. subst (λ bytes. ProofText functions bytes tree) (sym is) (written_text functions names written spellable tree shape (steps ∙ sym same))
texts items functions names written rules same h (Err e) is small = tt
