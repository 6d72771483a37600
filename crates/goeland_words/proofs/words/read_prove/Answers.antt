use Rattle.std.proofs.Common.{subst, Option, IfSome, refl}
use Rattle.goeland_words.specs.Parsed.{IsProveLine}
use Rattle.gl_outside.specs.Outside.{texts_of}
use Rattle.goeland_words.specs.declared.command.ProveTexts.{ProveTexts}
use Rattle.goeland_words.proofs.Texts.{prove_none}
use Rattle.goeland_words.proofs.words.read_prove.Goals as goal

pub returns-in-None-clause-usage : goal.returns-in-None-clause-usage
returns-in-None-clause-usage c =
    λ usage. prove_none _ c.in-Some.texts (subst (λ (o : Option ProveTexts). IfSome o (IsProveLine (texts_of c.args.words.now))) c.in-Some.is c.in_ok-texts.ensures.some)
    (c.in_ok-asked.ensures.none (rw c.in-None.is refl))
