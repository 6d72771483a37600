-- A proof read step by step is the proof of a tree, and where its steps stop a step of the tree fails.
use Rattle.std.proofs.Common.{◌≡◌, ◌↔◌, ◌⊎◌, inl, inr, ◌+◌, ℕ, List, [], ◌∷◌, ◌++◌, length, Option, Some, refl, ap, sym, ◌∙◌, append_assoc, append-nil, subst, arith, length-append}
use Rattle.fol_core.specs.Syntax.{PlainFormula}
use Rattle.gs3_rules.specs.Rules.{Rule, close, false_at, not_true, alpha, beta, delta, gamma, Step}
use Rattle.gs3_rules.specs.Refutes.{ProofTree, by, Premises, no_premises, premise, Refutes, AllRefute, preorder, preorder_each, RefutedBy, premises_of, number_of, HasShape, HaveShape, FailsAt, SomeFailsAt}
use Rattle.gs3_rules.specs.InTurn.{RefuteInTurn, StopAt}

abbrev joined : Premises → Premises → Premises
joined no_premises us = us
joined (premise t ts) us = premise t (joined ts us)

preorder_joined : (ts us : Premises) → preorder_each (joined ts us) ≡ preorder_each ts ++ preorder_each us
preorder_joined no_premises us = refl
preorder_joined (premise t ts) us =
    ap (λ x. preorder t ++ x) (preorder_joined ts us) ∙ sym (append_assoc (preorder t) (preorder_each ts) (preorder_each us))

-- lists refuted by joined trees are refuted by the trees on either side
split : (lists more : List (List PlainFormula)) (ts : Premises) → AllRefute (lists ++ more) ts
    → (us vs : Premises) × (ts ≡ joined us vs) × AllRefute lists us × AllRefute more vs
split [] more ts all = (no_premises, ts, refl, tt, all)
split (list ∷ lists) more no_premises all = absurd all
split (list ∷ lists) more (premise t ts) all =
    let rest = split lists more ts all.1 in
    (premise t rest.0, rest.1, ap (λ x. premise t x) rest.2, (all.0, rest.3), rest.4)

pub trees_of_turns : (rules : List Rule) (lists : List (List PlainFormula)) → RefuteInTurn lists rules
    → (ts : Premises) × (preorder_each ts ≡ rules) × AllRefute lists ts
trees_of_turns [] [] h = (no_premises, refl, tt)
trees_of_turns [] (list ∷ lists) h = absurd h
trees_of_turns (rule ∷ rules) [] h = absurd h
trees_of_turns (rule ∷ rules) (list ∷ lists) h =
    let later = trees_of_turns rules (h.0 ++ lists) h.2 in
    let parts = split h.0 lists later.0 later.2 in (
      premise (by rule parts.0) parts.1,
      ap (λ x. rule ∷ x) (sym (preorder_joined parts.0 parts.1) ∙ ap preorder_each (sym parts.2) ∙ later.1),
      ((h.0, h.1, parts.3), parts.4),
    )

mutual
  turns_of_tree : (t : ProofTree) (list : List PlainFormula) (lists : List (List PlainFormula)) (rules : List Rule)
      → Refutes list t → RefuteInTurn lists rules → RefuteInTurn (list ∷ lists) (preorder t ++ rules)
  turns_of_tree (by rule ts) list lists rules h later =
      (h.0, h.1, turns_of_trees ts h.0 lists rules h.2 later)

  turns_of_trees : (ts : Premises) (first lists : List (List PlainFormula)) (rules : List Rule)
      → AllRefute first ts → RefuteInTurn lists rules → RefuteInTurn (first ++ lists) (preorder_each ts ++ rules)
  turns_of_trees no_premises [] lists rules h later = later
  turns_of_trees no_premises (list ∷ first) lists rules h later = absurd h
  turns_of_trees (premise t ts) [] lists rules h later = absurd h
  turns_of_trees (premise t ts) (list ∷ first) lists rules h later =
      subst (λ x. RefuteInTurn (list ∷ (first ++ lists)) x) (sym (append_assoc (preorder t) (preorder_each ts) rules))
      (turns_of_tree t list (first ++ lists) (preorder_each ts ++ rules) h.0 (turns_of_trees ts first lists rules h.1 later))

only : (ts : Premises) (list : List PlainFormula) → AllRefute (list ∷ []) ts → (t : ProofTree) × (preorder_each ts ≡ preorder t) × Refutes list t
only no_premises list all = absurd all
only (premise t no_premises) list all = (t, append-nil (preorder t), all.0)
only (premise t (premise u us)) list all = absurd all.1

pub refuted_in_turn : (list : List PlainFormula) (rules : List Rule) → RefutedBy list rules ↔ RefuteInTurn (list ∷ []) rules
refuted_in_turn list rules = (
  λ h. subst (λ x. RefuteInTurn (list ∷ []) x) (append-nil (preorder h.0) ∙ h.1) (turns_of_tree h.0 list [] [] h.2 tt),
  λ h. let trees = trees_of_turns rules (list ∷ []) h in
      let tree = only trees.0 list trees.2 in
      (tree.0, sym tree.1 ∙ trees.1, tree.2),
)

some_once : {A : Type 0} (o : Option A) (x y : A) → o ≡ Some x → o ≡ Some y → x ≡ y
some_once o x y ex ey = cc

-- a step has one list of premises
pub step_once : (list : List PlainFormula) (rule : Rule) (a b : List (List PlainFormula)) → Step list rule a → Step list rule b → a ≡ b
step_once list (close i j) a b x y = x.1 ∙ sym y.1
step_once list (false_at i) a b x y = x.1 ∙ sym y.1
step_once list (not_true i) a b x y = x.1 ∙ sym y.1
step_once list (alpha i) a b x y = x.2 ∙ ap (λ p. (list ++ p) ∷ []) (some_once _ _ _ x.1 y.1) ∙ sym y.2
step_once list (beta i) a b x y =
    x.3 ∙ ap (λ p. (list ++ p.0) ∷ (list ++ p.1) ∷ []) (some_once _ (x.0, x.1) (y.0, y.1) x.2 y.2) ∙ sym y.3
step_once list (delta i n) a b x y = x.3 ∙ ap (λ p. (list ++ p ∷ []) ∷ []) (some_once _ _ _ x.1 y.1) ∙ sym y.3
step_once list (gamma i t) a b x y = x.3 ∙ ap (λ p. (list ++ p ∷ []) ∷ []) (some_once _ _ _ x.1 y.1) ∙ sym y.3

pub step_premises : (list : List PlainFormula) (rule : Rule) (a : List (List PlainFormula)) → Step list rule a → length a ≡ premises_of rule
step_premises list (close i j) a x = ap length x.1
step_premises list (false_at i) a x = ap length x.1
step_premises list (not_true i) a x = ap length x.1
step_premises list (alpha i) a x = ap length x.2
step_premises list (beta i) a x = ap length x.3
step_premises list (delta i n) a x = ap length x.3
step_premises list (gamma i t) a x = ap length x.3

-- steps that refute the lists stop nowhere
pub refuted_or_stops : (lists : List (List PlainFormula)) (rules : List Rule) (n : ℕ) → RefuteInTurn lists rules → StopAt lists rules n → ⊥
refuted_or_stops [] [] n h s = s
refuted_or_stops [] (rule ∷ rules) n h s = h
refuted_or_stops (list ∷ lists) [] n h s = h
refuted_or_stops (list ∷ lists) (rule ∷ rules) n h (inl s) = s.1 h.0 h.1
refuted_or_stops (list ∷ lists) (rule ∷ rules) n h (inr s) =
    refuted_or_stops (s.0 ++ lists) rules s.2 (subst (λ a. RefuteInTurn (a ++ lists) rules) (step_once list rule h.0 s.0 h.1 s.1) h.2) s.4

mutual
  stops_in_tree : (t : ProofTree) (list : List PlainFormula) (lists : List (List PlainFormula)) (rules : List Rule) (n : ℕ)
      → HasShape t → StopAt (list ∷ lists) (preorder t ++ rules) n
      → FailsAt list t n ⊎ (Refutes list t × (m : ℕ) × (n ≡ length (preorder t) + m) × StopAt lists rules m)
  stops_in_tree (by rule ts) list lists rules n shape (inl s) = inl (inl s)
  stops_in_tree (by rule ts) list lists rules n shape (inr s) =
      elim (stops_in_trees ts s.0 lists rules s.2 (shape.0 ∙ sym (step_premises list rule s.0 s.1)) shape.1 s.4) [
        | inl f ↦ inl (inr (s.0, s.1, s.2, s.3, f))
        | inr g ↦ inr ((s.0, s.1, g.0), g.1, omega (arith, s.3, g.2), g.3)
      ]

  stops_in_trees : (ts : Premises) (first lists : List (List PlainFormula)) (rules : List Rule) (n : ℕ)
      → number_of ts ≡ length first → HaveShape ts → StopAt (first ++ lists) (preorder_each ts ++ rules) n
      → SomeFailsAt first ts n ⊎ (AllRefute first ts × (m : ℕ) × (n ≡ length (preorder_each ts) + m) × StopAt lists rules m)
  stops_in_trees no_premises [] lists rules n e shape s = inr (tt, n, omega arith, s)
  stops_in_trees no_premises (list ∷ first) lists rules n e shape s = absurd (omega arith)
  stops_in_trees (premise t ts) [] lists rules n e shape s = absurd (omega arith)
  stops_in_trees (premise t ts) (list ∷ first) lists rules n e shape s =
      elim (stops_in_tree t list (first ++ lists) (preorder_each ts ++ rules) n shape.0 (subst (λ x. StopAt (list ∷ (first ++ lists)) x n) (append_assoc (preorder t) (preorder_each ts) rules) s)) [
        | inl f ↦ inl (inl f)
        | inr h ↦ elim (stops_in_trees ts first lists rules h.1 (omega arith) shape.1 h.3) [
          | inl g ↦ inl (inr (h.0, h.1, h.2, g))
          | inr g ↦ inr ((h.0, g.0), g.1, omega (arith, h.2, g.2, length-append (preorder t) (preorder_each ts)), g.3)
        ]
      ]

-- where a whole proof stops, its tree has its first failing step
pub stops_where_fails : (tree : ProofTree) (list : List PlainFormula) (n : ℕ) → HasShape tree → StopAt (list ∷ []) (preorder tree) n → FailsAt list tree n
stops_where_fails tree list n shape s =
    elim (stops_in_tree tree list [] [] n shape (subst (λ x. StopAt (list ∷ []) x n) (sym (append-nil (preorder tree))) s)) [
      | inl f ↦ f
      | inr h ↦ absurd h.3
    ]
