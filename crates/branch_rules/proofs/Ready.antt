-- A place whose split comes next is ready.
use Rattle.std.proofs.Common.{◌≡◌, ℕ, ◌<◌, ◌≤◌, ◌⊎◌, refl, ap, sym, subst, arith, inl, inr}
use Rattle.branch_rules.specs.Branch.{Branch, Done, go_left, go_right, splits_done}
use Rattle.branch_rules.specs.Next.{disjunctive, rank, most_splits, IsPending, ComesFirst, Serves, ComesNext}
use Rattle.branch_rules.specs.BranchView.{IsReady}
use Rattle.branch_rules.proofs.Served.{splits_disjunctive}
use Rattle.branch_rules.proofs.Nexts.{disjunctive_free, free_disjunctive}

pub ready_split : (b : Branch) (d i : ℕ) → ComesNext b d (go_left i) → IsReady b i
ready_split b d i x = record {
  pending = λ n. free_disjunctive b n i few (disjunctive_free b d i pending);
  first = λ n j lt p. comes_later j lt (x.served.first disjunctive j (free_disjunctive b d j few (disjunctive_free b n j p)));
  few = few;
  left_room = x.room (go_left i) (subst (λ c. Serves b c i x.entry.formula (go_left i)) (sym class) (inl refl));
  right_room = x.room (go_right i) (subst (λ c. Serves b c i x.entry.formula (go_right i)) (sym class) (inr refl));
} where
  class : x.class ≡ disjunctive
  class = splits_disjunctive b x.class i x.entry.formula (go_left i) x.serves refl

  pending : IsPending b d disjunctive i
  pending = subst (λ c. IsPending b d c i) class x.served.pending

  few : splits_done b < most_splits
  few = pending.3.2

  comes_later : (j : ℕ) → j < i → (rank x.class < rank disjunctive) ⊎ ((disjunctive ≡ x.class) × ComesFirst b x.class i j) → ⊥
  comes_later j lt (inl less) = (let same : rank x.class ≡ 3 = ap rank class in omega (arith, less, same))
  comes_later j lt (inr order) = (let le : i ≤ j = subst (λ c. ComesFirst b c i j) class order.1 in omega (arith, le, lt))
