use Rattle.std.proofs.Common.{ap, ◌∙◌}
use Rattle.gs3_rules.specs.Apply.{rules_of}
use Rattle.gs3_text.proofs.Names.{names_are_lines}
use Rattle.gs3_text.proofs.Written.{texts}
use Rattle.gs3_text.proofs.writing.write_tree.Goals as goal

pub returns-clause-text : goal.returns-clause-text
returns-clause-text c =
    texts (λ v. v.items) c.args.symbols.now.functions (names_are_lines _ c.keeps_symbols.ensures) (rules_of c.as_slice.result.now) (rules_of c.args.tree.now)
    (ap rules_of (c.as_slice.ensures ∙ c.steps.ensures.steps)) c.requires c.text_of_steps.result c.text_of_steps.ensures.text c.text_of_steps.ensures.numbers
