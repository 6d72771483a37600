use Rattle.std.proofs.Common.{ap, sym, ◌∙◌, subst}
use Rattle.std.specs.Prelude.{◌↔◌, IsTrue}
use Rattle.std.proofs.lemmas.Result.{IfOk-weaker}
use Rattle.fol_core.specs.View as plain
use Rattle.fol_core.specs.Syntax.{PlainFormula}
use Rattle.fol_core.proofs.Trees.{formula_of_atom}
use Rattle.rewrite_rules.specs.Rules.{FitsWith}
use Rattle.rewrite_rules.specs.Fitting.{uses_only}
use Rattle.rewrite_rules.proofs.Stripping.{fits_where}
use Rattle.rewrite_rules.proofs.equivalence.fits.Goals as goal

pub returns-in_ok-variables-in-Atom : goal.returns-in_ok-variables-in-Atom
returns-in_ok-variables-in-Atom c =
    IfOk-weaker _ _ _ (λ r e. subst (λ (a : PlainFormula). IsTrue r ↔ FitsWith a (plain.formula_of c.args.body.now))
    (sym (ap plain.formula_of c.in-Atom.is ∙ formula_of_atom c.in-Atom.field-0 c.in-Atom.args))
    (fits_where c.in-Atom.field-0 (plain.terms_of c.in-Atom.args) (plain.formula_of c.args.body.now) c.in_ok-variables-in-Atom.variables r c.in_ok-variables-in-Atom.ensures
    (e ∙ ap (λ marks. uses_only 0 marks (plain.formula_of c.args.body.now)) c.as_slice.ensures))) c.uses_only.ensures
