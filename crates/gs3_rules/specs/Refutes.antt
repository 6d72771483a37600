-- A GS3 proof as a tree of steps, and what it refutes.
use Rattle.std.specs.Prelude.{◌≡◌, ◌⊎◌, ℕ, suc, ◌+◌, List, [], ◌∷◌, ◌++◌, length}
use Rattle.fol_core.specs.Syntax.{PlainFormula}
use Rattle.gs3_rules.specs.Rules.{Rule, close, false_at, not_true, alpha, beta, delta, gamma, Step}

mutual
  pub data ProofTree : Type 0 where
    by : Rule → Premises → ProofTree

  pub data Premises : Type 0 where
    no_premises : Premises
    premise : ProofTree → Premises → Premises

-- The first step is a step on the list, and for each of its premises the subtree refutes the premise's list.
abbrev mutual
  pub Refutes : List PlainFormula → ProofTree → Type 0
  Refutes list (by rule subtrees) =
      (lists : List (List PlainFormula)) × Step list rule lists × AllRefute lists subtrees

  -- each subtree refutes the list in its place
  pub AllRefute : List (List PlainFormula) → Premises → Type 0
  AllRefute [] no_premises = Unit {0}
  AllRefute [] (premise tree subtrees) = ⊥
  AllRefute (list ∷ lists) no_premises = ⊥
  AllRefute (list ∷ lists) (premise tree subtrees) = Refutes list tree × AllRefute lists subtrees

-- the steps of a tree, each before those of its premises, and these from left to right
abbrev mutual
  pub preorder : ProofTree → List Rule
  preorder (by rule subtrees) = rule ∷ preorder_each subtrees

  pub preorder_each : Premises → List Rule
  preorder_each no_premises = []
  preorder_each (premise tree subtrees) = preorder tree ++ preorder_each subtrees

-- the steps are those of a tree that refutes the list
abbrev pub RefutedBy : List PlainFormula → List Rule → Type 0
RefutedBy list rules = (tree : ProofTree) × (preorder tree ≡ rules) × Refutes list tree

-- how many premises a step of this kind has
abbrev pub premises_of : Rule → ℕ
premises_of (close i j) = 0
premises_of (false_at i) = 0
premises_of (not_true i) = 0
premises_of (alpha i) = 1
premises_of (beta i) = 2
premises_of (delta i n) = 1
premises_of (gamma i t) = 1

abbrev pub number_of : Premises → ℕ
number_of no_premises = 0
number_of (premise tree subtrees) = suc (number_of subtrees)

-- each step has its kind's number of premises
abbrev mutual
  pub HasShape : ProofTree → Type 0
  HasShape (by rule subtrees) = (number_of subtrees ≡ premises_of rule) × HaveShape subtrees

  pub HaveShape : Premises → Type 0
  HaveShape no_premises = Unit {0}
  HaveShape (premise tree subtrees) = HasShape tree × HaveShape subtrees

-- the steps are one whole proof by their numbers of premises
abbrev pub IsWhole : List Rule → Type 0
IsWhole rules = (tree : ProofTree) × HasShape tree × (preorder tree ≡ rules)

abbrev pub IsNoStep : List PlainFormula → Rule → Type 0
IsNoStep list rule = (lists : List (List PlainFormula)) → Step list rule lists → ⊥

-- The step n of the tree in preorder, from 0, is the first one whose condition fails on its list.
abbrev mutual
  pub FailsAt : List PlainFormula → ProofTree → ℕ → Type 0
  FailsAt list (by rule subtrees) n = ((n ≡ 0) × IsNoStep list rule)
      ⊎ ((lists : List (List PlainFormula)) × Step list rule lists
      × (m : ℕ) × (n ≡ suc m) × SomeFailsAt lists subtrees m)

  -- the same among the steps of the subtrees, each on the list in its place
  pub SomeFailsAt : List (List PlainFormula) → Premises → ℕ → Type 0
  SomeFailsAt [] subtrees n = ⊥
  SomeFailsAt (list ∷ lists) no_premises n = ⊥
  SomeFailsAt (list ∷ lists) (premise tree subtrees) n = FailsAt list tree n
      ⊎ (Refutes list tree × (m : ℕ) × (n ≡ length (preorder tree) + m) × SomeFailsAt lists subtrees m)
