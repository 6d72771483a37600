use Rattle.std.proofs.Common.{ap, sym, ◌∙◌}
use Rattle.gs3_text.specs.Reading.{place_in}
use Rattle.gs3_text.proofs.Names.{place_is}
use Rattle.gs3_text.proofs.spelling.find.Goals as goal

pub returns-in-Some : goal.returns-in-Some
returns-in-Some c =
    let arity = c.in-Ok.ensures in let number = c.in-Some.ensures in
    ap (place_in c.args.symbols.now.functions c.args.name.now) (sym arity.1) ∙ place_is c.args.symbols.now.functions c.args.name.now c.in-Ok.arity _ number

pub returns-in-None : goal.returns-in-None
returns-in-None c =
    let arity = c.in-Ok.ensures in let number = c.in-None.ensures in
    ap (place_in c.args.symbols.now.functions c.args.name.now) (sym arity.1) ∙ place_is c.args.symbols.now.functions c.args.name.now c.in-Ok.arity _ number
