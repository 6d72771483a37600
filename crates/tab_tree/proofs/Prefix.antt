-- The branch at the end of a segment begins with the entries of the segment above.
use Rattle.std.proofs.Common.{◌≡◌, ℕ, List, [], ◌∷◌, ◌++◌, length, take, refl, ap, sym, ◌∙◌, append_assoc}
use Rattle.std.proofs.lemmas.List.{append-nil}
use Rattle.lit_index.specs.Occurrences.{Occurrence}
use Rattle.branch_rules.specs.Branch.{Branch, Done, Entry, entries, after}
use Rattle.branch_rules.specs.BranchValue.{BranchValue, branch_of}
use Rattle.branch_rules.specs.Steps.{IsAfter}
use Rattle.branch_rules.proofs.Grown.{appended, entries_grow}
use Rattle.tab_tree.specs.Literals.{occurrences}
use Rattle.tab_tree.specs.Runs.{Runs, begins, goes_on}
use Rattle.tab_tree.specs.RunView.{DidRun}
use Rattle.tab_tree.specs.declared.segment.Run.{Run}

-- the entries of the first branch, with more behind them, are those of the second
record Extends (b c : Branch) : Type 0 where
  more : List Entry
  entries_are : entries c ≡ entries b ++ more

one_step : (b c : Branch) (s : Done) → Extends b c → Extends b (after c s)
one_step b c s so_far = record {
  more = so_far.more ++ appended c s;
  entries_are =
      entries_grow c s ∙ ap (λ z. z ++ appended c s) so_far.entries_are ∙ append_assoc (entries b) so_far.more (appended c s);
}

run_extends : (d : ℕ) (b c : Branch) (ds : List Done) → Runs d b ds c → Extends b c
run_extends d b c ds begins = record { more = []; entries_are = sym (append-nil (entries b)) }
run_extends d b c ds (goes_on s r e x) = one_step b _ s (run_extends d b _ _ r)

begins_with : {A : Type 0} (xs ys : List A) → take (length xs) (xs ++ ys) ≡ xs
begins_with [] ys = refl
begins_with (x ∷ xs) ys = ap (λ z. x ∷ z) (begins_with xs ys)

-- the literals above a part are those of the segment that was split
pub part_literals : (d from : ℕ) (b left : BranchValue) (s : Done) (r : Run) (held index : List Occurrence) → IsAfter b s left → DidRun d left r
    → from ≡ length (entries (branch_of b)) → held ≡ occurrences (entries (branch_of b)) → index ≡ held
    → index ≡ occurrences (take from (entries (branch_of r.branch)))
part_literals d from b left s r held index is did at kept same =
    let first : Extends (branch_of b) (branch_of left) = record { more = appended (branch_of b) s; entries_are = ap entries is.branch ∙ entries_grow (branch_of b) s } in
    let then : Extends (branch_of left) (branch_of r.branch) = run_extends d (branch_of left) (branch_of r.branch) _ did.runs in
    let long : entries (branch_of r.branch) ≡ entries (branch_of b) ++ first.more ++ then.more =
    then.entries_are ∙ ap (λ z. z ++ then.more) first.entries_are in
    same ∙ kept
    ∙ ap (λ z. occurrences z) (sym (begins_with (entries (branch_of b)) (first.more ++ then.more)))
    ∙ ap (λ z. occurrences (take (length (entries (branch_of b))) z)) (sym (append_assoc (entries (branch_of b)) first.more then.more))
    ∙ ap (λ z. occurrences (take (length (entries (branch_of b))) z)) (sym long)
    ∙ ap (λ n. occurrences (take n (entries (branch_of r.branch)))) (sym at)
