use Rattle.std.proofs.Common.{ap, sym, subst}
use Rattle.std.specs.List.{AllByRecursion}
use Rattle.gs3_rules.specs.Apply.{rules_of}
use Rattle.gs3_text.specs.ProofText.{IsSpellableTerm}
use Rattle.gs3_text.proofs.Texts.{reading_spellable}
use Rattle.gs3_text.proofs.reading.read_tree.Goals as goal

pub returns-in-Ok-clause-spellable : goal.returns-in-Ok-clause-spellable
returns-in-Ok-clause-spellable c =
    let read = c.in-Ok.ensures.read in
    subst (AllByRecursion (IsSpellableTerm c.args.symbols.now.functions)) (sym (ap rules_of c.tree_of.ensures))
    (reading_spellable c.args.symbols.now.functions c.args.bytes.now (rules_of c.in-Ok.field-0.steps) c.in-Ok.field-0.lines read)
