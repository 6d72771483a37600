use Rattle.std.proofs.Common.{◌≡◌, [], ◌∷◌, ◌++◌, take, slice_get, Ok, Err, refl, ap, sym, subst, ◌∙◌}
use Rattle.branch_rules.specs.Branch.{entries}
use Rattle.branch_rules.specs.BranchValue.{branch_of}
use Rattle.tab_tree.specs.ClosedTree.{forked}
use Rattle.tab_tree.specs.ClosingView.{closed_tree_of}
use Rattle.tab_tree.specs.SiteValue.{segment_of}
use Rattle.translation.specs.StepTree.{or_zero}
use Rattle.translation.specs.Translation.{place_in}
use Rattle.deskolem.specs.Walked.{left_of, right_of}
use Rattle.deskolem.specs.Walking.{Walks}
use Rattle.deskolem.specs.declared.line.Line.TheVariants.{Beta}
use Rattle.tab_tree.proofs.ClosedTreeViews.{tree_of_leaf, tree_of_fork}
use Rattle.deskolem.proofs.Walks.{kept_front}
use Rattle.deskolem.proofs.Written.{fork_steps_refused, fork_refused, fork_written, side_written, left_refused, sides_written}
use Rattle.deskolem.proofs.walk.+walk.Goals as goal

pub walk_fork-returns-in-Err-clause-walks : goal.walk_fork-returns-in-Err-clause-walks
walk_fork-returns-in-Err-clause-walks t c =
    fork_steps_refused (segment_of c.args.site.now) (closed_tree_of c.args.left.now) (closed_tree_of c.args.right.now) c.args.walk.now c.walk_steps.new.walk c.walk_steps.new.walk c.in-Err.e
    c.in-Err.ensures.walked

pub walk_fork-returns-in-Err-walk_sides-clause-walks : goal.walk_fork-returns-in-Err-walk_sides-clause-walks
walk_fork-returns-in-Err-walk_sides-clause-walks t c =
    fork_refused (segment_of c.args.site.now) (closed_tree_of c.args.left.now) (closed_tree_of c.args.right.now) c.args.walk.now c.walk_steps.new.walk c.walk_sides.new.walk c.walk_sides.new.walk
    c.in-Ok.closings c.in-Err-walk_sides.e c.in-Ok.ensures.walked c.in-Err-walk_sides.ensures.walks

pub walk_fork-returns-clause-walks : goal.walk_fork-returns-clause-walks
walk_fork-returns-clause-walks t c =
    fork_written (segment_of c.args.site.now) (closed_tree_of c.args.left.now) (closed_tree_of c.args.right.now) c.args.walk.now c.walk_steps.new.walk c.walk_sides.new.walk c.close_all.new.walk
    c.in-Ok.closings tt tt c.in-Ok.ensures.walked c.in-Ok-walk_sides.ensures.walks c.in_ok-close_all.ensures.rules c.in_ok-close_all.ensures.symbols c.in_ok-close_all.ensures.left

pub walk_side-returns-in-Err-clause-walks : goal.walk_side-returns-in-Err-clause-walks
walk_side-returns-in-Err-clause-walks t c =
    side_written c.args.parts (closed_tree_of c.args.tree.now) c.args.walk.now c.append.new.walk c.walk_tree.new.walk c.walk_tree.new.walk (Err c.in-Err.e) c.in_ok-append.ensures.places
    c.in_ok-append.ensures.len c.in_ok-append.ensures.lines c.in_ok-append.ensures.left refl refl c.in-Err.ensures.walks

pub walk_side-returns-clause-walks : goal.walk_side-returns-clause-walks
walk_side-returns-clause-walks t c =
    side_written c.args.parts (closed_tree_of c.args.tree.now) c.args.walk.now c.append.new.walk c.walk_tree.new.walk _ (Ok tt) c.in_ok-append.ensures.places
    c.in_ok-append.ensures.len c.in_ok-append.ensures.lines c.in_ok-append.ensures.left refl refl c.in-Ok.ensures.walks

pub walk_side-returns-clause-places : goal.walk_side-returns-clause-places
walk_side-returns-clause-places t c =
    c.truncate.ensures.items ∙ ap (λ n. take n c.walk_tree.new.walk.places.items) (c.len-entries.ensures ∙ c.args.walk.now.places.ok.0)
    ∙ kept_front c.args.walk.now.places.items c.append.new.walk.places.items c.walk_tree.new.walk.places.items _ c.in_ok-append.ensures.places c.in-Ok.ensures.kept

pub walk_sides-returns-in-Err-walk_side-clause-walks : goal.walk_sides-returns-in-Err-walk_side-clause-walks
walk_sides-returns-in-Err-walk_side-clause-walks t c =
    let i = or_zero c.args.site.now.splits_at in
    let n = c.side_at-parts.result in
    let b = branch_of c.args.site.now.branch in
    let old = c.args.walk.now in
    let at : place_in c.as_slice.result.now c.principal_of-principal.result ≡ place_in old.places.items i =
    ap (λ p. place_in p c.principal_of-principal.result) c.as_slice.ensures.value ∙ ap (place_in old.places.items) c.principal_of-principal.ensures in
    left_refused b i n (closed_tree_of c.args.left.now) (closed_tree_of c.args.right.now) old c.put.new.walk
    (c.in-Ok.ensures.lines ∙ ap (λ p. old.lines ++ Beta p ∷ []) (c.place_in-place.ensures ∙ at)) c.in-Ok.ensures.left c.in-Ok.ensures.places c.in-Ok.ensures.len
    (c.side_at-parts.ensures.left ∙ ap (λ g. left_of (slice_get (entries (branch_of g)) c.principal_of-principal.result)) c.branch-site.ensures ∙ ap (λ j. left_of (slice_get (entries b) j)) c.principal_of-principal.ensures)
    (c.side_at-parts.ensures.right ∙ ap (λ g. right_of (slice_get (entries (branch_of g)) c.principal_of-principal.result)) c.branch-site.ensures ∙ ap (λ j. right_of (slice_get (entries b) j)) c.principal_of-principal.ensures)
    c.walk_side.new.walk c.walk_side.new.walk c.in-Err-walk_side.e c.in-Err-walk_side.ensures.walks

pub walk_sides-returns-clause-walks : goal.walk_sides-returns-clause-walks
walk_sides-returns-clause-walks t c =
    let i = or_zero c.args.site.now.splits_at in
    let n = c.side_at-parts.result in
    let b = branch_of c.args.site.now.branch in
    let old = c.args.walk.now in
    let at : place_in c.as_slice.result.now c.principal_of-principal.result ≡ place_in old.places.items i =
    ap (λ p. place_in p c.principal_of-principal.result) c.as_slice.ensures.value ∙ ap (place_in old.places.items) c.principal_of-principal.ensures in
    sides_written b i n (closed_tree_of c.args.left.now) (closed_tree_of c.args.right.now) old c.put.new.walk
    (c.in-Ok.ensures.lines ∙ ap (λ p. old.lines ++ Beta p ∷ []) (c.place_in-place.ensures ∙ at)) c.in-Ok.ensures.left c.in-Ok.ensures.places c.in-Ok.ensures.len
    (c.side_at-parts.ensures.left ∙ ap (λ g. left_of (slice_get (entries (branch_of g)) c.principal_of-principal.result)) c.branch-site.ensures ∙ ap (λ j. left_of (slice_get (entries b) j)) c.principal_of-principal.ensures)
    (c.side_at-parts.ensures.right ∙ ap (λ g. right_of (slice_get (entries (branch_of g)) c.principal_of-principal.result)) c.branch-site.ensures ∙ ap (λ j. right_of (slice_get (entries b) j)) c.principal_of-principal.ensures)
    c.walk_side.new.walk c.walk_side-2.new.walk tt c.walk_side-2.result c.in-Ok-walk_side.ensures.walks c.in-Ok-walk_side.ensures.places c.in-Ok-walk_side.ensures.len c.walk_side-2.ensures.walks

pub walk_tree-returns-in-Leaf-clause-walks : goal.walk_tree-returns-in-Leaf-clause-walks
walk_tree-returns-in-Leaf-clause-walks t c =
    subst (λ k. Walks k c.args.walk.now c.walk_leaf.new.walk c.walk_leaf.result)
    (sym (ap closed_tree_of c.in-Leaf.is ∙ tree_of_leaf c.in-Leaf.site c.in-Leaf.item)) c.walk_leaf.ensures.walks

pub walk_tree-returns-in-Fork-clause-walks : goal.walk_tree-returns-in-Fork-clause-walks
walk_tree-returns-in-Fork-clause-walks t c =
    let g = segment_of c.in-Fork.site in
    subst (λ k. Walks k c.args.walk.now c.walk_fork.new.walk c.walk_fork.result)
    (sym (ap closed_tree_of c.in-Fork.is ∙ tree_of_fork c.in-Fork.site c.in-Fork.left c.in-Fork.right
    ∙ ap (λ l. forked g (closed_tree_of l) (closed_tree_of c.in-Fork.right)) (sym c.get.ensures) ∙ ap (λ r. forked g (closed_tree_of c.get.result.now) (closed_tree_of r)) (sym c.get-in-Fork.ensures)))
    c.walk_fork.ensures.walks
