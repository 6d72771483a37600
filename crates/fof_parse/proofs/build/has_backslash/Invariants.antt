use Rattle.std.proofs.Common.{◌≡◌, drop}
use Rattle.fof_parse.specs.Reader.Building.{has_backslash}
use Rattle.fof_parse.proofs.build.has_backslash.Given as goal

abbrev pub invariant-loop-c : goal.invariant-loop-c
invariant-loop-c l = has_backslash (drop l.c-index l.text) ≡ has_backslash l.text
