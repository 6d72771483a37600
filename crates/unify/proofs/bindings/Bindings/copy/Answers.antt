use Rattle.std.proofs.Common.{◌≡◌, ap, ◌∙◌, arith}
use Rattle.std.proofs.lemmas.Grind.{common_steps}
use Rattle.std.proofs.lemmas.Map.Entries.{entries_from_clone}
use Rattle.unify.proofs.Index.{index_of_copy}
use Rattle.unify.specs.View.{offer_of}
use Rattle.unify.specs.Nesting.{nesting_of}
use Rattle.unify.proofs.bindings.Bindings.copy.Goals as goal

pub invariant_of-result : goal.invariant_of-result
invariant_of-result c =
    let same : c.loop-b.list.items ≡ c.self.inside.list.items = grind (arith, common_steps) in (
      index_of_copy c.self.inside.list.items c.loop-b.list.items c.self.inside.places c.in_ok-clone.field-0 c.self.invariant.0 same
          (entries_from_clone _ _ (λ x y e. e) (λ v w e. e) c.self.inside.places.entries c.in_ok-clone.field-0.entries c.in_ok-clone.ensures.cases),
      (ap (λ z. nesting_of (offer_of z)) same ∙ c.self.invariant.1.0, c.self.invariant.1.1),
    )
