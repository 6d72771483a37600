use Rattle.std.proofs.Common.{None, sym, ap, ◌∙◌, refl, arith}
use Rattle.fof_parse.specs.Reader.Reading.{atom_of}
use Rattle.fof_parse.specs.Reader.Views.{symbol_of, raw_of, raws_of}
use Rattle.fof_parse.proofs.Raws.{raw_of_applied, raw_of_variable, raw_of_number, raw_of_distinct}
use Rattle.fof_parse.proofs.Formulas.{no_term_no_unit, reads_atom, reads_equation}
use Rattle.fof_parse.proofs.Found.{atom_parsed, equation_parsed}
use Rattle.fof_parse.proofs.formula.atomic_at.Goals as goal

pub returns-in_default : goal.returns-in_default
returns-in_default c = no_term_no_unit _ c.requires.lead (rw c.in_default.is at c.in_ok-left.ensures)

pub returns-in_default-2 : goal.returns-in_default-2
returns-in_default-2 c =
    let found = rw c.in-Some.is at c.in_ok-left.ensures in
    reads_equation _ _ _ c.in-Some-equality_at._equality _ None None c.requires.lead found.0 (sym c.in-Some-equality_at.ensures.equality) (rw c.in_default-2.is at c.in_ok-right.ensures) refl

pub returns-in-Some-equality_at : goal.returns-in-Some-equality_at
returns-in-Some-equality_at c =
    let found = rw c.in-Some.is at c.in_ok-left.ensures in
    let right = rw c.in-Some-2.is at c.in_ok-right.ensures in (
      equation_parsed _ _ _ _ _ _ _ c.in-Some-equality_at._equality _ _ _ c.requires.lead found.0 (sym c.in-Some-equality_at.ensures.equality) right.0 (c.in_ok-formula.ensures c.in-Some-equality_at._equality),
      omega (arith, found.2, right.2),
    )

pub returns-in-Applied : goal.returns-in-Applied
returns-in-Applied c =
    let found = rw c.in-Some.is at c.in_ok-left.ensures in (
      atom_parsed _ _ _ _ _ (symbol_of c.in-Applied.symbol) (raws_of c.in-Applied.arguments) _ _ c.requires.lead found.0 (ap raw_of c.in-Applied.is ∙ raw_of_applied c.in-Applied.symbol c.in-Applied.arguments)
          (sym c.in_default-equality_at.ensures.equality) c.in_ok-formula-in-Applied.ensures,
      found.2,
    )

pub returns-in-Variable : goal.returns-in-Variable
returns-in-Variable c =
    let found = rw c.in-Some.is at c.in_ok-left.ensures in
    reads_atom _ _ _ None None c.requires.lead found.0 (sym c.in_default-equality_at.ensures.equality) (ap atom_of (ap raw_of c.in-Variable.is ∙ raw_of_variable c.in-Variable._word)) refl

pub returns-in-Number : goal.returns-in-Number
returns-in-Number c =
    let found = rw c.in-Some.is at c.in_ok-left.ensures in
    reads_atom _ _ _ None None c.requires.lead found.0 (sym c.in_default-equality_at.ensures.equality) (ap atom_of (ap raw_of c.in-Number.is ∙ raw_of_number c.in-Number._word)) refl

pub returns : goal.returns
returns c =
    let found = rw c.in-Some.is at c.in_ok-left.ensures in
    reads_atom _ _ _ None None c.requires.lead found.0 (sym c.in_default-equality_at.ensures.equality) (ap atom_of (ap raw_of c.in-Distinct.is ∙ raw_of_distinct c.in-Distinct._word)) refl
