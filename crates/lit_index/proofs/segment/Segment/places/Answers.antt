use Rattle.std.proofs.Common.{◌≡◌, ◌<◌, ℕ, AllPairs, subst, sym, arith}
use Rattle.std.proofs.lemmas.Grind.{common_steps}
use Rattle.std.proofs.lemmas.List.{reverse-reverse}
use Rattle.lit_index.specs.Occurrences.{IsBefore, places_of}
use Rattle.lit_index.specs.Chain.{Chain}
use Rattle.lit_index.proofs.Linked.{places_rise}
use Rattle.lit_index.proofs.segment.Segment.places.Goals as goal

pub returns-clause-rising : goal.returns-clause-rising
returns-clause-rising c =
    let rise = subst (λ (d : Chain). AllPairs IsBefore d.occurrences) c.self.view_is c.self.invariant.1 in
    let is : c.from_vec.result ≡ places_of c.args.literal.negated c.args.literal.predicate c.args.self.now.occurrences = grind (arith, common_steps, reverse-reverse) in
    subst (AllPairs (λ (m n : ℕ). m < n)) (sym is) (places_rise c.args.literal c.args.self.now.occurrences rise)
