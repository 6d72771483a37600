use Rattle.std.proofs.Common.{◌≡◌, ◌++◌, drop, false, option_map}
use Rattle.gs3_text.specs.Reading.{unescaped}
use Rattle.gs3_text.proofs.spelling.unescape.Given as goal

abbrev pub invariant-loop-b : goal.invariant-loop-b
invariant-loop-b l = option_map (λ more. l.name.items ++ more) (unescaped l.escape (drop l.b-index l.text)) ≡ unescaped false l.text
