use Rattle.std.proofs.Common.{◌≡◌, rules, sym, arith, subst}
use Rattle.std.specs.List.{insert}
use Rattle.std.proofs.lemmas.List.Sorted.{IsNonDecreasingBy-insert}
use Rattle.fol_core.specs.SymbolList.{IsRising}
use Rattle.fol_core.proofs.numbering.with_number.Goals as goal

pub returns-clause-rising : goal.returns-clause-rising
returns-clause-rising c =
    let inserted : c.insert.new.self.items ≡ insert c.args.numbers.now c.place_of-place.result c.args.new = search rules in
    subst IsRising (sym inserted) (IsNonDecreasingBy-insert (λ n. n.arity) _ _ c.args.new c.requires c.place_of-place.ensures.within
    (λ k d lt. let less = c.place_of-place.ensures.place.0 k d (omega arith) lt in omega arith) (λ k d le lt. c.place_of-place.ensures.place.1 k d le lt))
