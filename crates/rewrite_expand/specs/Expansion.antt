-- A rewriting of a literal in the calculus: the quantifiers of the rule's axiom get their terms by gamma steps, the
-- equivalence that this ends with is split by beta, and the premise that has the literal's opposite is closed.
use Rattle.std.specs.Prelude.{ℕ, suc, ◌+◌, Bool, true, false, not, if◌then◌else◌, List, [], ◌∷◌, ◌++◌, length}
use Rattle.fol_core.specs.Syntax.{PlainTerm}
use Rattle.gs3_rules.specs.Rules.{Rule, close, beta, gamma}
use Rattle.gs3_rules.specs.Refutes.{ProofTree, by, Premises, no_premises, premise}

-- a step with one premise
abbrev pub one : Rule → ProofTree → ProofTree
one rule t = by rule (premise t no_premises)

-- gamma steps for the terms on a list of len formulas: the first on the formula at the place, and each of the others on
-- what the one before it appended
abbrev pub gammas : ℕ → ℕ → List PlainTerm → ProofTree → ProofTree
gammas place len [] t = t
gammas place len (u ∷ us) t = one (gamma place u) (gammas len (suc len) us t)

-- the place of the formula that these end with
abbrev pub last_of : ℕ → ℕ → List PlainTerm → ℕ
last_of place len [] = place
last_of place len (u ∷ us) = last_of len (suc len) us

-- where the two sides of the equivalence stand in each premise of its split, behind a list of len formulas: the side
-- that is the rule's head, and the other one, its body
abbrev pub head_place : Bool → ℕ → ℕ
head_place head_left len = if head_left then len else suc len

abbrev pub body_place : Bool → ℕ → ℕ
body_place head_left len = if head_left then suc len else len

-- the literal at place i, an atom or a negated one, with its opposite at place k
abbrev pub opposite : Bool → ℕ → ℕ → Rule
opposite positive i k = if positive then close i k else close k i

-- The literal at place i and the equivalence at place e of a list of len formulas. The left premise of the split has
-- both sides, and the right one the negation of both. So an atom goes on with the body in the left premise, and closes
-- the right one; a negated atom closes the left premise, and goes on with the body's negation in the right one.
abbrev pub beta_on_literal : Bool → Bool → ℕ → ℕ → ℕ → (ℕ → ProofTree) → ProofTree
beta_on_literal head_left positive i e len go_on = by (beta e) (sides positive) where
  closed : ProofTree
  closed = by (opposite positive i (head_place head_left len)) no_premises

  sides : Bool → Premises
  sides true = premise (go_on (body_place head_left len)) (premise closed no_premises)
  sides false = premise closed (premise (go_on (body_place head_left len)) no_premises)

-- The whole rewriting of the literal by the axiom on a list of len formulas, as a tree. The terms are those of the
-- axiom's quantifiers, from the outermost on. The proof goes on by the tree for the place of the body or its negation.
abbrev pub rewriting : ℕ → ℕ → ℕ → Bool → Bool → List PlainTerm → (ℕ → ProofTree) → ProofTree
rewriting len axiom_place literal_place positive head_left us go_on =
    gammas axiom_place len us
    (beta_on_literal head_left positive literal_place (last_of axiom_place len us) (len + length us) go_on)

-- the gamma steps in preorder
abbrev pub gamma_steps : ℕ → ℕ → List PlainTerm → List Rule
gamma_steps place len [] = []
gamma_steps place len (u ∷ us) = gamma place u ∷ gamma_steps len (suc len) us

-- The steps of a rewriting up to the split, the step that closes one premise, the place of what the other premise goes
-- on with, and whether the closed premise is the left one.
pub record Expansion : Type 0 where
  pub before : List Rule
  pub closing : Rule
  pub result : ℕ
  pub close_first : Bool

-- the expansion of the rewriting
abbrev pub expansion : ℕ → ℕ → ℕ → Bool → Bool → List PlainTerm → Expansion
expansion len axiom_place literal_place positive head_left us = record {
  before = gamma_steps axiom_place len us ++ beta (last_of axiom_place len us) ∷ [];
  closing = opposite positive literal_place (head_place head_left (len + length us));
  result = body_place head_left (len + length us);
  close_first = not positive;
}

-- the whole proof in preorder, where these are the steps with which it goes on
abbrev pub whole : Expansion → List Rule → List Rule
whole x steps = x.before ++ (if x.close_first then x.closing ∷ steps else steps ++ x.closing ∷ [])
