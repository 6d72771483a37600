use Rattle.std.proofs.Common.{◌≡◌, ◌++◌, drop}
use Rattle.deskolem.specs.View.{names_of}
use Rattle.deskolem.specs.Lines.{symbols_of}
use Rattle.deskolem.proofs.build.parameters_of.Given as goal

abbrev pub invariant-loop-line : goal.invariant-loop-line
invariant-loop-line l = names_of l.names ++ symbols_of (drop l.line-index l.lines) ≡ symbols_of l.lines
