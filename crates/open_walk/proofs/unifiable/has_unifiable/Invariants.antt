use Rattle.tab_tree.specs.SiteValue.{segment_of}
use Rattle.open_walk.proofs.Found.{NoneUnifiable}
use Rattle.open_walk.proofs.unifiable.has_unifiable.Given as goal

abbrev pub invariant-loop-item : goal.invariant-loop-item
invariant-loop-item l = NoneUnifiable (segment_of l.site) l.item
