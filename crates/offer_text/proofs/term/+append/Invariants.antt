use Rattle.std.proofs.Common.{◌≡◌, ◌++◌, drop, if◌then◌else◌}
use Rattle.fol_core.specs.Spelling.{IsGrown}
use Rattle.free_terms.specs.View.{terms_of}
use Rattle.offer_text.specs.Text.{arguments_text, rest_text}
use Rattle.offer_text.proofs.term.+append.Given as goal

abbrev pub invariant-append_arguments-loop-argument : goal.invariant-append_arguments-loop-argument
invariant-append_arguments-loop-argument l = record {
  value : l.out.items ++ (if l.opened then rest_text l.symbols.functions (terms_of (drop l.argument-index l.arguments)) else arguments_text l.symbols.functions (terms_of (drop l.argument-index l.arguments)))
      ≡ l.fn.out.items ++ arguments_text l.symbols.functions (terms_of l.arguments);
  grows : IsGrown l.fn.out.items l.out.items;
}
