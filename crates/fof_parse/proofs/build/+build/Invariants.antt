use Rattle.std.proofs.Common.{drop, map}
use Rattle.fol_core.specs.View.{term_of}
use Rattle.fof_parse.specs.Reader.Views.{raws_of}
use Rattle.fof_parse.specs.Reader.Parsing.{AreProperTerms}
use Rattle.fof_parse.specs.Reader.Building.{names, state_of}
use Rattle.fof_parse.proofs.Effects.{TermsBuiltSoFar}
use Rattle.fof_parse.proofs.build.+build.Given as goal

abbrev pub invariant-terms-loop-raw : goal.invariant-terms-loop-raw
invariant-terms-loop-raw l = record {
  so_far : TermsBuiltSoFar (names l.scope) (state_of l.fn.draft) (state_of l.draft) (raws_of l.raw-items) (raws_of (drop l.raw-index l.raw-items)) (map term_of l.out);
  proper : AreProperTerms (raws_of (drop l.raw-index l.raw-items));
}
