-- How a site of the program stands for what contracts see of it.
use Rattle.std.specs.Prelude.{◌≡◌}
use Rattle.branch_rules.specs.Branch.{entries}
use Rattle.branch_rules.specs.BranchValue.{branch_of}
use Rattle.tab_tree.specs.Segments.{items}
use Rattle.tab_tree.specs.Literals.{occurrences}
use Rattle.tab_tree.specs.SiteValue.{SiteValue, segment_of, items_in, IsSegment, root_under}
use Rattle.tab_tree.specs.declared.site.Site.TheInside.{Inside}

abbrev pub value_of : Inside → SiteValue
value_of a =
    record {
      name = a.name;
      depth = a.depth;
      from = a.from;
      branch = a.branch;
      steps = a.steps;
      splits_at = a.splits_at;
    }

-- It is a segment of its tableau, its items are those of the segment, the place of its split is ready, and the index
-- holds the literals of its branch.
pub record IsKept (a : Inside) : Type 0 where
  pub segment : IsSegment a.depth (root_under a.branch) (segment_of (value_of a))
  pub items_are : items_in a.items ≡ items (segment_of (value_of a))
  pub ready : a.branch.ready ≡ a.splits_at
  pub indexed : a.index ≡ occurrences (entries (branch_of a.branch))
