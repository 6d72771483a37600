use Rattle.std.proofs.Common.{◌≤◌, subst, sym, arith}
use Rattle.unify.specs.Nesting.{nesting_of, most_nested}
use Rattle.unify.specs.Offers.{IsOffer}
use Rattle.unify.specs.View.{offer_of}
use Rattle.unify.proofs.Extend.{no_bindings}
use Rattle.unify.proofs.subst.empty.Goals as goal

pub of-requires-clause-offer : goal.of-requires-clause-offer
of-requires-clause-offer c = subst (λ bs. IsOffer (offer_of bs)) (sym c.new.ensures) no_bindings

pub of-requires-clause-nested : goal.of-requires-clause-nested
of-requires-clause-nested c = subst (λ bs. nesting_of (offer_of bs) ≤ most_nested) (sym c.new.ensures) (omega arith)
