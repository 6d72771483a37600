use Rattle.std.proofs.Common.{◌≡◌, Some, None, length, sym, subst, arith}
use Rattle.unify.proofs.Index.{index_with}
use Rattle.unify.proofs.Depths.{nesting_more}
use Rattle.unify.specs.View.{offer_of}
use Rattle.std.specs.HashMap.{Updates}
use Rattle.free_terms.specs.View.{name_of}
use Rattle.unify.specs.Offers.{value_of}
use Rattle.unify.specs.Index.{IsIndex, is_same}
use Rattle.unify.proofs.bindings.Bindings.with.Goals as goal

pub invariant_of-result : goal.invariant_of-result
invariant_of-result c =
    let more = nesting_more c.self.inside.list.items c.args.binding c.push.new.self.items c.self.inside.nested c.in-Some.more c.self.invariant.1.0 c.in-Some.ensures.0 c.in_ok-push.ensures.items in
    let len : c.len.result ≡ length c.self.inside.list.items = omega (arith, c.len.ensures, c.self.inside.list.ok.0) in (
      subst (λ s. IsIndex s c.insert.new.self) (sym c.in_ok-push.ensures.items)
          (index_with c.self.inside.list.items c.args.binding c.self.inside.places c.insert.new.self c.self.invariant.0
          (subst (λ s. value_of (offer_of s) (name_of c.args.binding.name) ≡ None) (sym c.self.view_is) c.requires)
          (subst (λ n. Updates is_same c.self.inside.places c.insert.new.self c.args.binding.name (Some n)) len c.in_ok-insert.ensures.updates)),
      (more, omega (arith, c.in-Some.ensures.0, c.in-Some.ensures.1, c.self.invariant.1.1)),
    )

pub returns-clause-nested : goal.returns-clause-nested
returns-clause-nested c =
    let more = nesting_more c.self.inside.list.items c.args.binding c.push.new.self.items c.self.inside.nested c.in-Some.more c.self.invariant.1.0 c.in-Some.ensures.0 c.in_ok-push.ensures.items in
    omega (arith, more, c.in-Some.ensures.0, c.in-Some.ensures.1, c.self.invariant.1.1)
