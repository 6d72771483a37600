-- The loop that runs a segment's steps.
use Rattle.std.proofs.Common.{◌≡◌, ℕ, ◌+◌, ◌*◌, ◌-◌, ◌<◌, ◌≤◌, Bool, false, List, [], ◌∷◌, ◌++◌, length, map, Option, Some, None, refl, ap, sym, ◌∙◌, subst, arith}
use Rattle.std.proofs.lemmas.List.{map-append}
use Rattle.branch_rules.specs.Branch.{Branch, Done, go_left, go_right, is_split, entries, after, root}
use Rattle.branch_rules.specs.Next.{ComesNext, IsLeaf, most_entries}
use Rattle.branch_rules.specs.BranchValue.{BranchValue, branch_of, done_as}
use Rattle.branch_rules.specs.Steps.{IsAfter, IsNextAnswer, AreHalves, done_by, with_ready}
use Rattle.branch_rules.specs.declared.step.TabStep.{TabStep}
use Rattle.branch_rules.specs.declared.step.TabKind.{TabKind}
use Rattle.branch_rules.specs.declared.step.TabKind.TheVariants.{Alpha, Rewrite, Skolem, Instance}
use Rattle.branch_rules.specs.declared.outcome.Next as next
use Rattle.tab_tree.specs.Runs.{Runs, begins, goes_on, Ends}
use Rattle.tab_tree.specs.RunView.{DidRun, HasRun, site_by}
use Rattle.tab_tree.specs.RoundValue.{RoundValue, root_of, HasRulesOfProblem}
use Rattle.tab_tree.specs.Tableau.{IsTableau}
use Rattle.tab_tree.specs.Segments.{Segment, node, all_segments, top, IsAmong, itself, on_left, on_right}
use Rattle.tab_tree.specs.SiteValue.{SiteValue, segment_of, root_under, IsSegment, IsOfRound, IsRoot, AreParts}
use Rattle.tab_tree.specs.declared.segment.Run.{Run}
use Rattle.tab_tree.proofs.Exists.{grows}
use Rattle.tab_tree.proofs.Running.{FirstOf, SidesOf, first_is, sides_are, among_through}

no_split : (i : ℕ) (kind : TabKind) → is_split (done_as i kind) ≡ false
no_split i Alpha = refl
no_split i (Rewrite r) = refl
no_split i (Skolem x) = refl
no_split i (Instance x) = refl

pub begun : (d : ℕ) (b : BranchValue) (steps : List TabStep) → steps ≡ [] → b.ready ≡ None → HasRun d b steps b
begun d b steps none ready = record {
  runs = subst (λ z. Runs d (branch_of b) (map done_by z) (branch_of b)) (sym none) begins;
  rules = refl;
  ready = ready;
}

pub one_more : (d : ℕ) (b c e : BranchValue) (steps more : List TabStep) (s : TabStep) → HasRun d b steps c
    → IsNextAnswer c d (next.TheVariants.One e s) → more ≡ steps ++ s ∷ [] → HasRun d b more e
one_more d b c e steps more s so_far is at = record {
  runs =
      subst (λ z. Runs d (branch_of b) (map done_by z) (branch_of e)) (sym at)
      (subst (λ z. Runs d (branch_of b) z (branch_of e)) (sym (map-append done_by steps (s ∷ [])))
      (subst (λ z. Runs d (branch_of b) (map done_by steps ++ done_by s ∷ []) z) (sym is.1.branch)
      (goes_on (done_by s) so_far.runs (no_split s.place s.kind) is.0)));
  rules = is.1.rules ∙ so_far.rules;
  ready = is.1.ready;
}

-- how many entries may still come
abbrev pub room_of : BranchValue → ℕ
room_of b = most_entries - length (entries (branch_of b))

pub smaller : (d : ℕ) (c e : BranchValue) (s : TabStep) → IsNextAnswer c d (next.TheVariants.One e s) → room_of e < room_of c
smaller d c e s is =
    let more = grows (branch_of c) d (done_by s) is.0 in
    let long : length (entries (branch_of e)) ≡ length (entries (after (branch_of c) (done_by s))) = ap (λ z. length (entries z)) is.1.branch in
    omega (arith, more.0, more.1, long)

pub at_leaf : (d : ℕ) (b c e : BranchValue) (steps : List TabStep) → HasRun d b steps c → IsNextAnswer c d (next.TheVariants.Done e)
    → DidRun d b (record { branch = e; steps = steps; splits_at = None })
at_leaf d b c e steps so_far is = record {
  runs = subst (λ z. Runs d (branch_of b) (map done_by steps) (branch_of z)) (sym is.0) so_far.runs;
  ends = subst (λ z. IsLeaf (branch_of z) d) (sym is.0) is.1;
  rules = ap (λ z. z.rules) is.0 ∙ so_far.rules;
  ready = ap (λ z. z.ready) is.0 ∙ so_far.ready;
}

pub at_split : (d : ℕ) (b c e : BranchValue) (steps : List TabStep) (place : ℕ) → HasRun d b steps c
    → IsNextAnswer c d (next.TheVariants.Splits e place) → DidRun d b (record { branch = e; steps = steps; splits_at = Some place })
at_split d b c e steps place so_far is = record {
  runs = subst (λ z. Runs d (branch_of b) (map done_by steps) z) same so_far.runs;
  ends = subst (λ z. ComesNext z d (go_left place)) same is.0;
  rules = ap (λ z. z.rules) is.1 ∙ so_far.rules;
  ready = ap (λ z. z.ready) is.1;
} where
  same : branch_of c ≡ branch_of e
  same = ap branch_of (sym is.1)

-- the steps of a run leave the start list and the rules
run_root : (d : ℕ) (b c : Branch) (ds : List Done) → Runs d b ds c → root c.start c.rules ≡ root b.start b.rules
run_root d b c ds begins = refl
run_root d b c ds (goes_on s r e x) = run_root d b _ _ r

pub same_root : (d : ℕ) (b : BranchValue) (r : Run) → DidRun d b r → root_under r.branch ≡ root_under b
same_root d b r did = run_root d (branch_of b) (branch_of r.branch) (map done_by r.steps) did.runs

-- the site of a run from the root is the first segment
pub first_segment : (d : ℕ) (b : BranchValue) (r : Run) → branch_of b ≡ root_under b → DidRun d b r
    → FirstOf d (root_under b) (segment_of (site_by 1 d 0 r))
first_segment d b r is did =
    first_is d (root_under b) (branch_of r.branch) (map done_by r.steps) r.splits_at
    (subst (λ z. Runs d z (map done_by r.steps) (branch_of r.branch)) is did.runs) did.ends

pub first_is_segment : (d : ℕ) (root : Branch) (g : Segment) → FirstOf d root g → IsSegment d root g
first_is_segment d root g of = record {
  tableau = of.tableau;
  whole = of.whole;
  below = all_segments root of.tableau;
  among = itself;
  first = of.first;
}

-- the sites of the runs of both halves are the parts
pub parts_are : (s : SiteValue) (place : ℕ) (left right : BranchValue) (one two : Run) → IsSegment s.depth (root_under s.branch) (segment_of s)
    → s.splits_at ≡ Some place → AreHalves s.branch place left right → DidRun s.depth left one → DidRun s.depth right two
    → SidesOf s.depth (root_under s.branch) (segment_of s)
    (segment_of (site_by (2 * s.name) s.depth (length (entries (branch_of s.branch))) one))
    (segment_of (site_by (2 * s.name + 1) s.depth (length (entries (branch_of s.branch))) two))
parts_are s place left right one two is at halves l r =
    sides_are s.depth (root_under s.branch) (segment_of s) place (branch_of one.branch) (branch_of two.branch) (map done_by one.steps)
    (map done_by two.steps) one.splits_at two.splits_at is at
    (subst (λ z. Runs s.depth z (map done_by one.steps) (branch_of one.branch)) halves.left_side.branch l.runs) l.ends
    (subst (λ z. Runs s.depth z (map done_by two.steps) (branch_of two.branch)) halves.right_side.branch r.runs) r.ends

pub left_is_segment : (d : ℕ) (root : Branch) (g left right : Segment) → SidesOf d root g left right → IsSegment d root left
left_is_segment d root g left right of = record {
  tableau = of.tableau;
  whole = of.whole;
  below = of.below_left;
  among = among_through of.below_left _ _ (on_left itself) of.among;
  first = of.first_left;
}

pub right_is_segment : (d : ℕ) (root : Branch) (g left right : Segment) → SidesOf d root g left right → IsSegment d root right
right_is_segment d root g left right of = record {
  tableau = of.tableau;
  whole = of.whole;
  below = of.below_right;
  among = among_through of.below_right _ _ (on_right itself) of.among;
  first = of.first_right;
}

after_root : (b c : BranchValue) (s : Done) → IsAfter b s c → root_under c ≡ root_under b
after_root b c s is = ap (λ z. root z.start z.rules) is.branch

-- the root of a part's branch
pub part_root : (d : ℕ) (b c : BranchValue) (s : Done) (r : Run) → IsAfter b s c → DidRun d c r → root_under r.branch ≡ root_under b
part_root d b c s r is did = same_root d c r did ∙ after_root b c s is

pub sides_parts : (r : RoundValue) (s left right : SiteValue) → IsOfRound r s → left.depth ≡ s.depth → right.depth ≡ s.depth
    → root_under left.branch ≡ root_under s.branch → root_under right.branch ≡ root_under s.branch
    → SidesOf s.depth (root_under s.branch) (segment_of s) (segment_of left) (segment_of right)
    → AreParts r (segment_of s) left right
sides_parts r s left right of d e a b sides = record {
  left_of_round = record { depth = d ∙ of.depth; root = a ∙ of.root; rules = of.rules };
  right_of_round = record { depth = e ∙ of.depth; root = b ∙ of.root; rules = of.rules };
  tableau = sides.tableau;
  whole = subst (λ n. IsTableau n (root_of r) sides.tableau) of.depth (subst (λ z. IsTableau s.depth z sides.tableau) of.root sides.whole);
  below_left = sides.below_left;
  below_right = sides.below_right;
  among = subst (λ z. IsAmong (node (segment_of s) sides.below_left sides.below_right) (all_segments z sides.tableau)) of.root sides.among;
  first_left = sides.first_left;
  first_right = sides.first_right;
}

pub is_root : (r : RoundValue) (s : SiteValue) → HasRulesOfProblem r → s.depth ≡ r.depth → root_under s.branch ≡ root_of r
    → FirstOf s.depth (root_under s.branch) (segment_of s) → IsRoot r s
is_root r s rules d a of = record {
  of_round = record { depth = d; root = a; rules = rules };
  tableau = of.tableau;
  whole = subst (λ n. IsTableau n (root_of r) of.tableau) d (subst (λ z. IsTableau s.depth z of.tableau) a of.whole);
  first = ap (λ z. top (all_segments z of.tableau)) (sym a) ∙ of.first;
}

pub root_segment : (v : RoundValue) (d : ℕ) (b : BranchValue) (r : Run) → branch_of b ≡ root_of v → DidRun d b r
    → IsSegment d (root_under r.branch) (segment_of (site_by 1 d 0 r))
root_segment v d b r is did =
    subst (λ z. IsSegment d z (segment_of (site_by 1 d 0 r))) (sym (same_root d b r did))
    (first_is_segment d (root_under b) (segment_of (site_by 1 d 0 r)) (first_segment d b r (is ∙ ap (λ z. root z.start z.rules) (sym is)) did))

pub root_site : (v : RoundValue) (d : ℕ) (b : BranchValue) (r : Run) (site : SiteValue) → HasRulesOfProblem v → branch_of b ≡ root_of v → d ≡ v.depth
    → DidRun d b r → site ≡ site_by 1 d 0 r → IsRoot v site
root_site v d b r site rules is deep did same =
    let start : branch_of b ≡ root_under b = is ∙ ap (λ z. root z.start z.rules) (sym is) in
    let from : root_under r.branch ≡ root_under b = same_root d b r did in
    subst (IsRoot v) (sym same)
    (is_root v (site_by 1 d 0 r) rules deep (from ∙ ap (λ z. root z.start z.rules) is)
    (subst (λ z. FirstOf d z (segment_of (site_by 1 d 0 r))) (sym from) (first_segment d b r start did)))

-- what the runs of both halves of a site make, where the parts' own entries begin at the place
module _ (s : SiteValue) (place from : ℕ) (left right : BranchValue) (one two : Run) (is : IsSegment s.depth (root_under s.branch) (segment_of s))
    (at : s.splits_at ≡ Some place) (begin : from ≡ length (entries (branch_of s.branch))) (halves : AreHalves s.branch place left right)
    (l : DidRun s.depth left one) (r : DidRun s.depth right two) where
  abbrev left_site : SiteValue
  left_site = site_by (2 * s.name) s.depth from one

  abbrev right_site : SiteValue
  right_site = site_by (2 * s.name + 1) s.depth from two

  sides : SidesOf s.depth (root_under s.branch) (segment_of s) (segment_of left_site) (segment_of right_site)
  sides =
      subst
      (λ n. SidesOf s.depth (root_under s.branch) (segment_of s) (segment_of (site_by (2 * s.name) s.depth n one)) (segment_of (site_by (2 * s.name + 1) s.depth n two)))
      (sym begin) (parts_are s place left right one two is at halves l r)

  left_root : root_under one.branch ≡ root_under s.branch
  left_root = part_root s.depth s.branch left (go_left place) one halves.left_side l

  right_root : root_under two.branch ≡ root_under s.branch
  right_root = part_root s.depth s.branch right (go_right place) two halves.right_side r

  pub left_made : IsSegment s.depth (root_under one.branch) (segment_of left_site)
  left_made =
      subst (λ z. IsSegment s.depth z (segment_of left_site)) (sym left_root)
      (left_is_segment s.depth (root_under s.branch) (segment_of s) (segment_of left_site) (segment_of right_site) sides)

  pub right_made : IsSegment s.depth (root_under two.branch) (segment_of right_site)
  right_made =
      subst (λ z. IsSegment s.depth z (segment_of right_site)) (sym right_root)
      (right_is_segment s.depth (root_under s.branch) (segment_of s) (segment_of left_site) (segment_of right_site) sides)

  made : (v : RoundValue) → IsOfRound v s → AreParts v (segment_of s) left_site right_site
  made v of = sides_parts v s left_site right_site of refl refl left_root right_root sides

pub parts_made : (v : RoundValue) (s whole : SiteValue) (place from : ℕ) (left right : BranchValue) (one two : Run) (a b : SiteValue) → whole ≡ s
    → IsOfRound v whole → IsSegment s.depth (root_under s.branch) (segment_of s) → s.splits_at ≡ Some place
    → from ≡ length (entries (branch_of s.branch)) → AreHalves s.branch place left right → DidRun s.depth left one → DidRun s.depth right two
    → a ≡ site_by (2 * s.name) s.depth from one → b ≡ site_by (2 * s.name + 1) s.depth from two → AreParts v (segment_of whole) a b
parts_made v s whole place from left right one two a b same of is at begin halves l r first second =
    subst (λ z. AreParts v (segment_of z) a b) (sym same)
    (subst (λ z. AreParts v (segment_of s) z b) (sym first)
    (subst (λ z. AreParts v (segment_of s) (site_by (2 * s.name) s.depth from one) z) (sym second)
    (made s place from left right one two is at begin halves l r v (subst (IsOfRound v) same of))))
