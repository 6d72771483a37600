use Rattle.std.proofs.Common.{◌≡◌, ◌++◌}
use Rattle.fol_core.specs.Spelling.{IsGrown}
use Rattle.unify.specs.View.{binding_of}
use Rattle.offer_text.specs.Text.{binding_text}
use Rattle.offer_text.specs.Separated.{rest_from}
use Rattle.offer_text.proofs.offer.append_bindings.Given as goal

abbrev pub invariant-loop-place : goal.invariant-loop-place
invariant-loop-place l = record {
  value : l.out.items ++ rest_from (λ b. binding_text l.symbols.functions (binding_of b)) l.place l.offer
      ≡ l.fn.out.items ++ rest_from (λ b. binding_text l.symbols.functions (binding_of b)) 0 l.offer;
  grows : IsGrown l.fn.out.items l.out.items;
}
