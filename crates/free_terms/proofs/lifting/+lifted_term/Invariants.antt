use Rattle.std.proofs.Common.{◌≡◌, take, drop, map}
use Rattle.fol_core.specs.View as plain
use Rattle.free_terms.specs.Free.{lift_term}
use Rattle.free_terms.specs.NoParam.{NoParamInTerms}
use Rattle.free_terms.specs.View.{term_of}
use Rattle.free_terms.proofs.lifting.+lifted_term.Given as goal

abbrev pub invariant-lifted_terms-loop-u : goal.invariant-lifted_terms-loop-u
invariant-lifted_terms-loop-u l = record {
  lifted : map term_of l.out ≡ map (λ u. lift_term (plain.term_of u)) (take l.u-index l.u-items);
  no_param : NoParamInTerms (plain.terms_of (drop l.u-index l.u-items));
}
