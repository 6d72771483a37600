-- Steps are one whole proof where the count of open premises comes to 0 at their end, and of one tree alone.
use Rattle.std.proofs.Common.{◌≡◌, ℕ, zero, suc, ◌+◌, List, [], ◌∷◌, ◌++◌, Option, Some, None, refl, ap, sym, ◌∙◌, arith, append_assoc}
use Rattle.std.proofs.lemmas.List.{append-nil}
use Rattle.std.proofs.lemmas.Option.{none-some, same_Some}
use Rattle.gs3_rules.specs.Rules.{Rule, false_at}
use Rattle.gs3_rules.specs.Refutes.{ProofTree, by, Premises, no_premises, premise, preorder, preorder_each, premises_of, number_of, HasShape, HaveShape, IsWhole}

-- how many premises are open after the steps
abbrev pub owed_after : ℕ → List Rule → Option ℕ
owed_after k [] = Some k
owed_after zero (rule ∷ rules) = None
owed_after (suc k) (rule ∷ rules) = owed_after (k + premises_of rule) rules

pub owed-append : (rules more : List Rule) (j k : ℕ) → owed_after j rules ≡ Some k → owed_after j (rules ++ more) ≡ owed_after k more
owed-append [] more j k e = ap (λ n. owed_after n more) (same_Some j k e)
owed-append (rule ∷ rules) more zero k e = absurd (none-some k e)
owed-append (rule ∷ rules) more (suc j) k e = owed-append rules more (j + premises_of rule) k e

-- A tree closes one premise.
mutual
  pub tree_owes : (t : ProofTree) → HasShape t → (k : ℕ) (rules : List Rule) → owed_after (suc k) (preorder t ++ rules) ≡ owed_after k rules
  tree_owes (by rule ts) shape k rules = ap (λ n. owed_after (k + n) (preorder_each ts ++ rules)) (sym shape.0) ∙ trees_owe ts shape.1 k rules

  trees_owe : (ts : Premises) → HaveShape ts → (k : ℕ) (rules : List Rule) → owed_after (k + number_of ts) (preorder_each ts ++ rules) ≡ owed_after k rules
  trees_owe no_premises shape k rules = let e : k + 0 ≡ k = omega arith in ap (λ n. owed_after n rules) e
  trees_owe (premise t ts) shape k rules =
      let e : k + suc (number_of ts) ≡ suc (k + number_of ts) = omega arith in
      (λ i. owed_after (e i) (append_assoc (preorder t) (preorder_each ts) rules i))
      ∙ tree_owes t shape.0 (k + number_of ts) (preorder_each ts ++ rules) ∙ trees_owe ts shape.1 k rules

pub whole_owes : (t : ProofTree) → HasShape t → owed_after 1 (preorder t) ≡ Some 0
whole_owes t shape = ap (owed_after 1) (sym (append-nil (preorder t))) ∙ tree_owes t shape 0 []

-- that many trees, with these steps
record Forest (k : ℕ) (rules : List Rule) : Type 0 where
  trees : Premises
  number : number_of trees ≡ k
  shape : HaveShape trees
  steps : preorder_each trees ≡ rules

record Cut (p k : ℕ) (rules : List Rule) : Type 0 where
  first : Premises
  others : Premises
  first_number : number_of first ≡ p
  others_number : number_of others ≡ k
  first_shape : HaveShape first
  others_shape : HaveShape others
  steps : preorder_each first ++ preorder_each others ≡ rules

cut_forest : (p k : ℕ) (ts : Premises) → number_of ts ≡ k + p → HaveShape ts → Cut p k (preorder_each ts)
cut_forest zero k ts e shape =
    record { first = no_premises; others = ts; first_number = refl; others_number = omega arith; first_shape = tt; others_shape = shape; steps = refl }
cut_forest (suc p) k no_premises e shape = absurd (omega (arith, e))
cut_forest (suc p) k (premise t ts) e shape =
    let more = cut_forest p k ts (omega (arith, e)) shape.1 in record {
      first = premise t more.first;
      others = more.others;
      first_number = ap (λ n. suc n) more.first_number;
      others_number = more.others_number;
      first_shape = (shape.0, more.first_shape);
      others_shape = more.others_shape;
      steps = append_assoc (preorder t) (preorder_each more.first) (preorder_each more.others) ∙ ap (λ rs. preorder t ++ rs) more.steps;
    }

plant : (rule : Rule) (rules : List Rule) (k : ℕ) → Forest (k + premises_of rule) rules → Forest (suc k) (rule ∷ rules)
plant rule rules k forest =
    let parts = cut_forest (premises_of rule) k forest.trees forest.number forest.shape in record {
      trees = premise (by rule parts.first) parts.others;
      number = ap (λ n. suc n) parts.others_number;
      shape = ((parts.first_number, parts.first_shape), parts.others_shape);
      steps = ap (λ rs. rule ∷ rs) (parts.steps ∙ forest.steps);
    }

forest_of : (rules : List Rule) (k : ℕ) → owed_after k rules ≡ Some 0 → Forest k rules
forest_of [] k e = record { trees = no_premises; number = sym (same_Some k 0 e); shape = tt; steps = refl }
forest_of (rule ∷ rules) zero e = absurd (none-some 0 e)
forest_of (rule ∷ rules) (suc k) e = plant rule rules k (forest_of rules (k + premises_of rule) e)

lone_tree : (ts : Premises) (rules : List Rule) → number_of ts ≡ 1 → HaveShape ts → preorder_each ts ≡ rules → IsWhole rules
lone_tree no_premises rules e shape steps = absurd (omega (arith, e))
lone_tree (premise t no_premises) rules e shape steps = (t, shape.0, sym (append-nil (preorder t)) ∙ steps)
lone_tree (premise t (premise u us)) rules e shape steps = absurd (omega (arith, e))

-- Steps after which no premise is open are one whole proof.
pub whole_from : (rules : List Rule) → owed_after 1 rules ≡ Some 0 → IsWhole rules
whole_from rules e = let forest = forest_of rules 1 e in lone_tree forest.trees rules forest.number forest.shape forest.steps

pub heads : {A : Type 0} (a b : A) (xs ys : List A) → a ∷ xs ≡ b ∷ ys → a ≡ b
heads a b xs ys e = cc

pub tails : {A : Type 0} (a b : A) (xs ys : List A) → a ∷ xs ≡ b ∷ ys → xs ≡ ys
tails a b xs ys e = cc

-- The steps are those of one tree.
mutual
  one_tree_front : (s t : ProofTree) → HasShape s → HasShape t → (xs ys : List Rule) → preorder s ++ xs ≡ preorder t ++ ys → (s ≡ t) × (xs ≡ ys)
  one_tree_front (by r ss) (by q ts) a b xs ys e =
      let same = heads r q (preorder_each ss ++ xs) (preorder_each ts ++ ys) e in
      let more = one_forest ss ts a.1 b.1 (a.0 ∙ ap premises_of same ∙ sym b.0) xs ys (tails r q (preorder_each ss ++ xs) (preorder_each ts ++ ys) e) in
      (λ i. by (same i) (more.0 i), more.1)

  one_forest : (ss ts : Premises) → HaveShape ss → HaveShape ts → number_of ss ≡ number_of ts → (xs ys : List Rule) → preorder_each ss ++ xs ≡ preorder_each ts ++ ys → (ss ≡ ts) × (xs ≡ ys)
  one_forest no_premises no_premises a b n xs ys e = (refl, e)
  one_forest no_premises (premise t ts) a b n xs ys e = absurd (omega (arith, n))
  one_forest (premise s ss) no_premises a b n xs ys e = absurd (omega (arith, n))
  one_forest (premise s ss) (premise t ts) a b n xs ys e =
      let first = one_tree_front s t a.0 b.0 (preorder_each ss ++ xs) (preorder_each ts ++ ys) (sym (append_assoc (preorder s) (preorder_each ss) xs) ∙ e ∙ append_assoc (preorder t) (preorder_each ts) ys) in
      let more = one_forest ss ts a.1 b.1 (omega (arith, n)) xs ys first.1 in
      (λ i. premise (first.0 i) (more.0 i), more.1)

pub one_tree_of : (s t : ProofTree) → HasShape s → HasShape t → preorder s ≡ preorder t → s ≡ t
one_tree_of s t a b e = (one_tree_front s t a b [] [] (ap (λ rs. rs ++ []) e)).0

-- steps that close each open premise at once
abbrev pub closing : ℕ → List Rule
closing zero = []
closing (suc k) = false_at 0 ∷ closing k

pub closing_owes : (k : ℕ) → owed_after k (closing k) ≡ Some 0
closing_owes zero = refl
closing_owes (suc k) = let e : k + 0 ≡ k = omega arith in ap (λ n. owed_after n (closing k)) e ∙ closing_owes k
