use Rattle.std.proofs.Common.{sym, ◌∙◌}
use Rattle.std.proofs.lemmas.Bool.{false≢true}
use Rattle.unify.specs.View.{offer_of}
use Rattle.tab_tree.specs.SiteValue.{segment_of}
use Rattle.closing_tree.proofs.ClosedTrees.{next_none, first_found}
use Rattle.closing_tree.proofs.closing_tree.first_closed.Goals as goal

pub returns-then-is_closed_by : goal.returns-then-is_closed_by
returns-then-is_closed_by c =
    first_found (offer_of c.args.s.now) (segment_of c.args.site.now) c.loop-item.item c.loop-item.invariant (c.is_closed_by.ensures.0 c.if-is_closed_by.true)

pub loop-item-preserved : goal.loop-item-preserved
loop-item-preserved c =
    next_none (offer_of c.args.s.now) (segment_of c.args.site.now) c.loop-item.item c.loop-item.invariant
    (λ h. false≢true (sym c.if-is_closed_by.false ∙ c.is_closed_by.ensures.1 h))
