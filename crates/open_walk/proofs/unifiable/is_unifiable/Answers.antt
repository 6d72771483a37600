use Rattle.std.proofs.Common.{refl}
use Rattle.tab_tree.specs.SiteValue.{segment_of}
use Rattle.open_walk.proofs.Found.{alone_unifiable}
use Rattle.open_walk.proofs.unifiable.is_unifiable.Goals as goal

pub returns-in-None : goal.returns-in-None
returns-in-None c = (λ t. alone_unifiable (segment_of c.args.site.now) c.args.item c.in-None.ensures, λ u. refl)
