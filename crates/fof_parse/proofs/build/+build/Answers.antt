use Rattle.std.proofs.Common.{◌+◌, [], ◌∷◌, length, map, drop, refl, sym, ap, subst, ◌∙◌}
use Rattle.std.proofs.lemmas.Option.{slice_get_read}
use Rattle.std.proofs.lemmas.Result.{IfOk-weaker}
use Rattle.std.proofs.lemmas.List.{map-append}
use Rattle.fol_core.proofs.Trees.{term_of_app}
use Rattle.fol_core.specs.View.{term_of, terms_of}
use Rattle.fol_core.specs.declared.term.Term.TheVariants.{App}
use Rattle.fof_parse.specs.Reader.Views.{symbol_of, raw_of, raws_of}
use Rattle.fof_parse.specs.Reader.Parsing.{AreProperTerms}
use Rattle.fof_parse.specs.Reader.Building.{names, state_of, IsFunctionHead, TermBuilt, TermsBuilt}
use Rattle.fof_parse.proofs.Raws.{raw_of_applied, raws_at, raws_end}
use Rattle.fof_parse.proofs.Effects.{TermsBuiltSoFar, applied_built, one_more_built, all_built}
use Rattle.fof_parse.proofs.build.+build.Goals as goal

pub term-returns-in_ok-arguments-in-Applied : goal.term-returns-in_ok-arguments-in-Applied
term-returns-in_ok-arguments-in-Applied t c =
    let f = symbol_of c.in-Applied.symbol in
    let us = raws_of c.in-Applied.arguments in
    let number = c.in_ok-number-in-Applied.number in
    let head = subst (λ k. IsFunctionHead f k (state_of c.args.draft.now) (state_of c.function_head.new.draft) number) c.in_ok-arity-in-Applied.ensures c.in_ok-number-in-Applied.ensures in
    subst (λ u. TermBuilt (names c.args.scope.now) (state_of c.args.draft.now) (state_of c.terms.new.draft) u (term_of (App number c.in_ok-arguments-in-Applied.arguments)))
    (sym (ap raw_of c.in-Applied.is ∙ raw_of_applied c.in-Applied.symbol c.in-Applied.arguments))
    (applied_built _ _ _ _ f us number _ _ head c.in_ok-arguments-in-Applied.ensures (term_of_app number c.in_ok-arguments-in-Applied.arguments))

pub terms-loop-raw-preserved : goal.terms-loop-raw-preserved
terms-loop-raw-preserved t c =
    let items = c.as_slice-raw-items.result.now in
    let got = slice_get_read items (length items) c.loop-raw.raw-index c.raw-item.result refl c.loop-raw-test.true c.raw-item.is in
    let step = raws_at items c.loop-raw.raw-index c.raw-item.result got in
    let rest = raws_of (drop (c.loop-raw.raw-index + 1) items) in
    let pushed = ap (map term_of) c.in_ok-push.ensures.ok ∙ map-append term_of c.loop-raw.out (c.in_ok-term.term ∷ []) in
    record {
      so_far = one_more_built (names c.args.scope.now) (state_of c.args.draft.now) (state_of c.loop-raw.draft) (state_of c.term.new.draft) (raws_of items) rest (raw_of c.raw-item.result) _ _ (term_of c.in_ok-term.term)
          (subst (λ us. TermsBuiltSoFar (names c.args.scope.now) (state_of c.args.draft.now) (state_of c.loop-raw.draft) (raws_of items) us (map term_of c.loop-raw.out)) step c.loop-raw.invariant.so_far)
          c.in_ok-term.ensures pushed;
      proper = (subst AreProperTerms step c.loop-raw.invariant.proper).1;
    }

pub terms-returns : goal.terms-returns
terms-returns t c =
    let items = c.as_slice-raw-items.result.now in
    let done = subst (λ us. TermsBuiltSoFar (names c.args.scope.now) (state_of c.args.draft.now) (state_of c.loop-raw.draft) (raws_of items) us (map term_of c.loop-raw.out))
    (raws_end items c.loop-raw.raw-index c.loop-raw-test.false) c.loop-raw.invariant.so_far in
    let built = subst (λ us. TermsBuilt (names c.args.scope.now) (state_of c.args.draft.now) (state_of c.loop-raw.draft) (raws_of us) (terms_of c.loop-raw.out)) c.as_slice-raw-items.ensures (all_built _ _ _ _ _ done) in
    IfOk-weaker c.new.result _ _ (λ ts is. subst (λ us. TermsBuilt (names c.args.scope.now) (state_of c.args.draft.now) (state_of c.loop-raw.draft) (raws_of c.args.raws.now) (terms_of us)) (sym is) built) c.new.ensures
