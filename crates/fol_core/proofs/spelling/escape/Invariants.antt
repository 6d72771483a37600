use Rattle.std.proofs.Common.{◌≡◌, ◌++◌, take}
use Rattle.std.specs.List.{flat_map}
use Rattle.fol_core.specs.Spelling.{escaped, IsGrown}
use Rattle.fol_core.proofs.spelling.escape.Given as goal

abbrev pub invariant-loop-byte : goal.invariant-loop-byte
invariant-loop-byte l = record {
  value : l.out.items ≡ l.fn.out.items ++ flat_map escaped (take l.byte-index l.name);
  grows : IsGrown l.fn.out.items l.out.items;
}
