use Rattle.std.proofs.Common.{◌≡◌, ◌++◌, drop}
use Rattle.fof_parse.specs.Token.{unescaped, unescaped_from}
use Rattle.fof_parse.proofs.build.unescaped.Given as goal

abbrev pub invariant-loop-c : goal.invariant-loop-c
invariant-loop-c l = l.out.items ++ unescaped_from l.escape (drop l.c-index l.text) ≡ unescaped l.text
