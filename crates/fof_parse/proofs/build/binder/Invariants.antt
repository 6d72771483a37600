use Rattle.std.proofs.Common.{◌≡◌, drop, None}
use Rattle.fof_parse.specs.Problem.{binder}
use Rattle.fof_parse.specs.Reader.Building.{names}
use Rattle.fof_parse.proofs.build.binder.Given as goal

abbrev pub invariant-loop-i : goal.invariant-loop-i
invariant-loop-i l = binder (names (drop l.i l.scope)) l.word ≡ None
