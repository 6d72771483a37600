-- What contracts see of a site.
use Rattle.std.specs.Prelude.{◌≡◌, ℕ, List, map, Option, refl}
use Rattle.std.specs.Coded.{Coded, code_by, coded×, coded_ℕ, coded_list, coded_option}
use Rattle.branch_rules.specs.Branch.{Branch, root}
use Rattle.branch_rules.specs.BranchValue.{BranchValue, branch_code, branch_of}
use Rattle.branch_rules.specs.Steps.{done_by}
use Rattle.branch_rules.specs.declared.step.TabStep.{TabStep}
use Rattle.branch_rules.specs.contracts.step.TabStep as tab_step
use Rattle.tab_tree.specs.Tableau.{Tableau, IsTableau}
use Rattle.tab_tree.specs.Items as spec
use Rattle.tab_tree.specs.Segments.{Segment, Segments, node, all_segments, top, IsAmong}
use Rattle.tab_tree.specs.RoundValue.{RoundValue, root_of, HasRulesOfProblem}
use Rattle.tab_tree.specs.declared.item.Item.{Item}
use Rattle.tab_tree.specs.declared.item.Item.TheVariants.{Pair, FalseAt, NotTrue}

-- its name, the depth of the tableau, where its own entries begin, the branch at its end, its steps, and the principal
-- of its split
pub record SiteValue : Type 0 where
  pub name : ℕ
  pub depth : ℕ
  pub from : ℕ
  pub branch : BranchValue
  pub steps : List TabStep
  pub splits_at : Option ℕ

abbrev pub site_code : Coded SiteValue
site_code =
    code_by (ℕ × (ℕ × (ℕ × (BranchValue × (List TabStep × Option ℕ)))))
    (coded× coded_ℕ (coded× coded_ℕ (coded× coded_ℕ
    (coded× branch_code (coded× (coded_list tab_step.the_row.coded) (coded_option coded_ℕ))))))
    (λ s. (s.name, (s.depth, (s.from, (s.branch, (s.steps, s.splits_at))))))
    (λ p. record {
      name = p.0;
      depth = p.1.0;
      from = p.1.1.0;
      branch = p.1.1.1.0;
      steps = p.1.1.1.1.0;
      splits_at = p.1.1.1.1.1;
    })
    (λ _. refl)

abbrev pub segment_of : SiteValue → Segment
segment_of s =
    record {
      name = s.name;
      from = s.from;
      branch = branch_of s.branch;
      steps = map done_by s.steps;
      splits_at = s.splits_at;
    }

abbrev pub item_of : Item → spec.Item
item_of (Pair i j) = spec.pair i j
item_of (FalseAt i) = spec.false_at i
item_of (NotTrue i) = spec.not_true i

abbrev pub items_in : List Item → List spec.Item
items_in is = map item_of is

-- a segment of the tableau of the depth below the branch
pub record IsSegment (d : ℕ) (b : Branch) (g : Segment) : Type 0 where
  pub tableau : Tableau
  pub whole : IsTableau d b tableau
  pub below : Segments
  pub among : IsAmong below (all_segments b tableau)
  pub first : top below ≡ g

-- the root of the branch's tableau
abbrev pub root_under : BranchValue → Branch
root_under b = root (branch_of b).start (branch_of b).rules

-- the site is one of the round's tableau, and the round's rules are its problem's
pub record IsOfRound (r : RoundValue) (s : SiteValue) : Type 0 where
  pub depth : s.depth ≡ r.depth
  pub root : root_under s.branch ≡ root_of r
  pub rules : HasRulesOfProblem r

-- the site is the first segment of the round's tableau
pub record IsRoot (r : RoundValue) (s : SiteValue) : Type 0 where
  pub of_round : IsOfRound r s
  pub tableau : Tableau
  pub whole : IsTableau r.depth (root_of r) tableau
  pub first : top (all_segments (root_of r) tableau) ≡ segment_of s

-- the sites are the parts of a segment of the round's tableau
pub record AreParts (r : RoundValue) (g : Segment) (left right : SiteValue) : Type 0 where
  pub left_of_round : IsOfRound r left
  pub right_of_round : IsOfRound r right
  pub tableau : Tableau
  pub whole : IsTableau r.depth (root_of r) tableau
  pub below_left : Segments
  pub below_right : Segments
  pub among : IsAmong (node g below_left below_right) (all_segments (root_of r) tableau)
  pub first_left : top below_left ≡ segment_of left
  pub first_right : top below_right ≡ segment_of right
