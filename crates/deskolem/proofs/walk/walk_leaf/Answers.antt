use Rattle.std.proofs.Common.{[], ◌∷◌, ◌++◌, Some, Ok, Err, ap, subst, ◌∙◌}
use Rattle.tab_tree.specs.ClosedTree.{closed}
use Rattle.tab_tree.specs.SiteValue.{item_of, segment_of}
use Rattle.deskolem.specs.Walking.{Walks, WalksSteps, closing_line}
use Rattle.deskolem.proofs.Written.{leaf_steps_refused, leaf_refused, leaf_written}
use Rattle.deskolem.proofs.walk.walk_leaf.Goals as goal

pub returns-in-Err-clause-walks : goal.returns-in-Err-clause-walks
returns-in-Err-clause-walks c =
    let g = segment_of c.args.site.now in
    let item = item_of c.item_at-item.result in
    let new = c.walk_steps.new.walk in
    subst (λ i. Walks (closed g i) c.args.walk.now new (Err c.in-Err.e)) c.item_at-item.ensures
    (leaf_steps_refused g item c.args.walk.now new new c.in-Err.e
    (subst (λ n. WalksSteps c.args.walk.now g.branch g.steps (Some n) new (Err c.in-Err.e)) c.newest.ensures c.in-Err.ensures.walked))

pub returns-in-Err-put-clause-walks : goal.returns-in-Err-put-clause-walks
returns-in-Err-put-clause-walks c =
    let g = segment_of c.args.site.now in
    let item = item_of c.item_at-item.result in
    let now = c.walk_steps.new.walk in
    subst (λ i. Walks (closed g i) c.args.walk.now c.put.new.walk (Err c.in-Err-put.e)) c.item_at-item.ensures
    (leaf_refused g item c.args.walk.now now c.put.new.walk c.in-Ok.closings c.in-Err-put.e
    (subst (λ n. WalksSteps c.args.walk.now g.branch g.steps (Some n) now (Ok c.in-Ok.closings)) c.newest.ensures c.in-Ok.ensures.walked)
    c.in-Err-put.ensures.refused)

pub returns-clause-walks : goal.returns-clause-walks
returns-clause-walks c =
    let g = segment_of c.args.site.now in
    let item = item_of c.item_at-item.result in
    let now = c.walk_steps.new.walk in
    subst (λ i. Walks (closed g i) c.args.walk.now c.close_all.new.walk (Ok tt)) c.item_at-item.ensures
    (leaf_written g item c.args.walk.now now c.put.new.walk c.close_all.new.walk c.in-Ok.closings tt
    (subst (λ n. WalksSteps c.args.walk.now g.branch g.steps (Some n) now (Ok c.in-Ok.closings)) c.newest.ensures c.in-Ok.ensures.walked)
    (c.in-Ok-put.ensures.lines ∙ ap (λ l. now.lines ++ l ∷ []) (c.line_of-line.ensures ∙ ap (λ p. closing_line p item) c.as_slice.ensures.value))
    c.in-Ok-put.ensures.left c.in_ok-close_all.ensures.rules c.in_ok-close_all.ensures.symbols c.in_ok-close_all.ensures.left)
