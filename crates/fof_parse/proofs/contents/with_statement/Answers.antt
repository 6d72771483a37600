use Rattle.std.proofs.Common.{refl, ◌∙◌}
use Rattle.fof_parse.proofs.Taking.{takes, has_as}
use Rattle.fof_parse.proofs.contents.with_statement.Goals as goal

pub returns-in_ok-with_formula-in-Ok : goal.returns-in_ok-with_formula-in-Ok
returns-in_ok-with_formula-in-Ok c =
    let g = rw c.in-Ok.is at c.in_ok-kind.ensures in
    takes _ _ _ _ _ c.is_some.result _ _ _ _ _ g (c.is_some.ensures ∙ has_as c.args.contents.conjecture) refl refl refl refl refl c.in_ok-name-in-Ok.ensures refl c.in_ok-with_formula-in-Ok.ensures
