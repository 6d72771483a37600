use Rattle.std.proofs.Common.{◌≡◌, ◌≤◌, drop, length}
use Rattle.fol_core.specs.Around.{around, plain_around}
use Rattle.fol_core.specs.Syntax.{map_atoms}
use Rattle.fol_core.specs.View.{formula_by}
use Rattle.fol_core.specs.declared.formula.Formula.{size-Formula}
use Rattle.fol_core.proofs.change.+change.Given as goal

abbrev pub invariant-changed-loop-at : goal.invariant-changed-loop-at
invariant-changed-loop-at g l = record {
  smaller : size-Formula _ l.at ≤ size-Formula _ l.initial.at;
  whole : plain_around g.C.Change.plain l.wraps.items (map_atoms (g.C.Change.image l.change) l.level (formula_by g.C.Change.plain l.at)) ≡ map_atoms (g.C.Change.image l.change) l.fn.level (formula_by g.C.Change.plain l.f);
  within : l.kept ≤ length l.wraps.items;
  below : around (drop l.kept l.wraps.items) l.at ≡ l.base;
  first : l.kept ≡ 0 → l.base ≡ l.f;
}
