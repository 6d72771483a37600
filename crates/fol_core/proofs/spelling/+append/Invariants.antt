use Rattle.std.proofs.Common.{◌≡◌, ◌++◌, drop, if◌then◌else◌}
use Rattle.fol_core.specs.Spelling.{spelled_arguments, spelled_rest, AreOver, IsGrown}
use Rattle.fol_core.specs.View.{terms_of}
use Rattle.fol_core.proofs.spelling.+append.Given as goal

abbrev pub invariant-append_arguments-loop-argument : goal.invariant-append_arguments-loop-argument
invariant-append_arguments-loop-argument l = record {
  over : AreOver l.symbols.functions (terms_of (drop l.argument-index l.arguments));
  value : l.out.items ++ (if l.opened then spelled_rest l.symbols.functions (terms_of (drop l.argument-index l.arguments)) else spelled_arguments l.symbols.functions (terms_of (drop l.argument-index l.arguments)))
      ≡ l.fn.out.items ++ spelled_arguments l.symbols.functions (terms_of l.arguments);
  grows : IsGrown l.fn.out.items l.out.items;
}
