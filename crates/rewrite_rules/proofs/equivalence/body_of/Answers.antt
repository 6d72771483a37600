use Rattle.fol_core.specs.View as plain
use Rattle.rewrite_rules.proofs.Sides.{holds_none}
use Rattle.rewrite_rules.proofs.equivalence.body_of.Goals as goal

pub lift-requires : goal.lift-requires
lift-requires c = holds_none (plain.formula_of c.args.f.now) c.requires
