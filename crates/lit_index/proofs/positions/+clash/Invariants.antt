use Rattle.std.proofs.Common.{◌↔◌, drop}
use Rattle.free_terms.specs.View.{terms_of}
use Rattle.lit_index.specs.Apart.{AreApart}
use Rattle.lit_index.proofs.positions.+clash.Given as goal

abbrev pub invariant-some_clash-loop-i : goal.invariant-some_clash-loop-i
invariant-some_clash-loop-i l =
    AreApart (terms_of (drop l.i l.us)) (terms_of (drop l.i l.vs)) ↔ AreApart (terms_of l.us) (terms_of l.vs)
