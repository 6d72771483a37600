use Rattle.std.proofs.Common.{sym, ap, ◌∙◌}
use Rattle.std.specs.Prelude.{option_copied}
use Rattle.unify.specs.View.{binding_of}
use Rattle.fol_core.proofs.Grown.{grown_on}
use Rattle.offer_text.specs.Text.{binding_text}
use Rattle.offer_text.proofs.Joined.{more_written, all_written}
use Rattle.offer_text.proofs.offer.append_bindings.Goals as goal

pub returns-in_default-clause-ok : goal.returns-in_default-clause-ok
returns-in_default-clause-ok c =
    all_written (binding_text c.args.symbols.now.functions) binding_of c.args.offer.now c.loop-place.place c.args.out.now.items c.loop-place.out.items (sym c.binding.ensures ∙ ap option_copied c.in_default.is) c.loop-place.invariant.value

pub loop-place-preserved : goal.loop-place-preserved
loop-place-preserved c = record {
  value = more_written (λ b. binding_text c.args.symbols.now.functions (binding_of b)) c.args.offer.now c.loop-place.place c.in-Some.bound.now c.args.out.now.items c.loop-place.out.items c.append_next.new.out.items (sym c.binding.ensures ∙ ap option_copied c.in-Some.is) c.in_ok-append_next.ensures.ok c.loop-place.invariant.value;
  grows = grown_on _ _ _ c.loop-place.invariant.grows c.in_ok-append_next.ensures.grows;
}
