use Rattle.std.proofs.Common.{◌≡◌, rules, arith, ap, sym, ◌∙◌, length, unwrap_or}
use Rattle.std.proofs.lemmas.Result.{IfOk-weaker}
use Rattle.fol_core.specs.Around.{in_wrap, plain_in_wrap}
use Rattle.fol_core.specs.Syntax.{map_atoms}
use Rattle.fol_core.specs.View.{formula_by}
use Rattle.fol_core.specs.declared.formula.Formula.TheViews.{the_lemmas}
use Rattle.fol_core.proofs.Around.{plain_around_below, around_none, not_first, kept_below, around_unchanged, changed_not, changed_and, changed_or, changed_imp, changed_iff, changed_all, changed_ex, kept_not, kept_and, kept_or, kept_imp, kept_iff, kept_all, kept_ex, verum_stays, falsum_stays, atom_stays, atom_changed}
use Rattle.fol_core.proofs.change.+change.Goals as goal
use Rattle.fol_core.proofs.change.+change.Goals.{changed-in-Not, changed-in-And+in_ok-right-in-And, changed-in-Or+in_ok-right-in-Or, changed-in-Imp+in_ok-right-in-Imp, changed-in-Iff+in_ok-right-in-Iff, changed-in-All+in_ok-level-in-All, changed-in-Ex+in_ok-level-in-Ex}

pub changed-loop-at-preserved-then-is_changed : goal.changed-loop-at-preserved-then-is_changed
changed-loop-at-preserved-then-is_changed g t c =
    let is_level : plain_in_wrap g.C.Change.plain c.match-at.wrap.0 (map_atoms (g.C.Change.image c.args.change.now) c.match-at.level (formula_by g.C.Change.plain c.get-at.result.now)) ≡ map_atoms (g.C.Change.image c.args.change.now) c.loop-at.level (formula_by g.C.Change.plain c.loop-at.at.now) = elim c.match-at.branch [
      | changed-in-Not w ↦ changed_not g.C.Change.plain (g.C.Change.image c.args.change.now) _ _ _ _ _ _ w.in-Not.is (ap (λ p. p.0) w.wrap-is) (c.get-at.ensures ∙ ap (λ p. p.2.now) w.wrap-is) w.level-is
      | changed-in-And+in_ok-right-in-And w ↦ changed_and g.C.Change.plain (g.C.Change.image c.args.change.now) _ _ _ _ _ _ _ _ w.in-And.is (ap (λ p. p.0) w.wrap-is) (c.get-at.ensures ∙ ap (λ p. p.2.now) w.wrap-is) w.level-is w.in_ok-right-in-And.ensures.value
      | changed-in-Or+in_ok-right-in-Or w ↦ changed_or g.C.Change.plain (g.C.Change.image c.args.change.now) _ _ _ _ _ _ _ _ w.in-Or.is (ap (λ p. p.0) w.wrap-is) (c.get-at.ensures ∙ ap (λ p. p.2.now) w.wrap-is) w.level-is w.in_ok-right-in-Or.ensures.value
      | changed-in-Imp+in_ok-right-in-Imp w ↦ changed_imp g.C.Change.plain (g.C.Change.image c.args.change.now) _ _ _ _ _ _ _ _ w.in-Imp.is (ap (λ p. p.0) w.wrap-is) (c.get-at.ensures ∙ ap (λ p. p.2.now) w.wrap-is) w.level-is w.in_ok-right-in-Imp.ensures.value
      | changed-in-Iff+in_ok-right-in-Iff w ↦ changed_iff g.C.Change.plain (g.C.Change.image c.args.change.now) _ _ _ _ _ _ _ _ w.in-Iff.is (ap (λ p. p.0) w.wrap-is) (c.get-at.ensures ∙ ap (λ p. p.2.now) w.wrap-is) w.level-is w.in_ok-right-in-Iff.ensures.value
      | changed-in-All+in_ok-level-in-All w ↦ changed_all g.C.Change.plain (g.C.Change.image c.args.change.now) _ _ _ _ _ _ w.in-All.is (ap (λ p. p.0) w.wrap-is) (c.get-at.ensures ∙ ap (λ p. p.2.now) w.wrap-is) (w.level-is ∙ w.in_ok-level-in-All.ensures)
      | changed-in-Ex+in_ok-level-in-Ex w ↦ changed_ex g.C.Change.plain (g.C.Change.image c.args.change.now) _ _ _ _ _ _ w.in-Ex.is (ap (λ p. p.0) w.wrap-is) (c.get-at.ensures ∙ ap (λ p. p.2.now) w.wrap-is) (w.level-is ∙ w.in_ok-level-in-Ex.ensures)
    ]
    in let is_len : c.len-kept.result ≡ length c.push.new.self.items = search (rules, arith)
    in record {
      smaller = search (rules, the_lemmas);
      whole = plain_around_below g.C.Change.plain _ _ _ _ _ _ c.in_ok-push.ensures.items is_level c.loop-at.invariant.whole;
      within = search (rules, arith);
      below = around_none _ _ _ is_len;
      first = λ e. absurd (not_first _ _ _ _ c.in_ok-push.ensures.items is_len e);
    }

pub changed-loop-at-preserved : goal.changed-loop-at-preserved
changed-loop-at-preserved g t c =
    let is_level : plain_in_wrap g.C.Change.plain c.match-at.wrap.0 (map_atoms (g.C.Change.image c.args.change.now) c.match-at.level (formula_by g.C.Change.plain c.get-at.result.now)) ≡ map_atoms (g.C.Change.image c.args.change.now) c.loop-at.level (formula_by g.C.Change.plain c.loop-at.at.now) = elim c.match-at.branch [
      | changed-in-Not w ↦ changed_not g.C.Change.plain (g.C.Change.image c.args.change.now) _ _ _ _ _ _ w.in-Not.is (ap (λ p. p.0) w.wrap-is) (c.get-at.ensures ∙ ap (λ p. p.2.now) w.wrap-is) w.level-is
      | changed-in-And+in_ok-right-in-And w ↦ changed_and g.C.Change.plain (g.C.Change.image c.args.change.now) _ _ _ _ _ _ _ _ w.in-And.is (ap (λ p. p.0) w.wrap-is) (c.get-at.ensures ∙ ap (λ p. p.2.now) w.wrap-is) w.level-is w.in_ok-right-in-And.ensures.value
      | changed-in-Or+in_ok-right-in-Or w ↦ changed_or g.C.Change.plain (g.C.Change.image c.args.change.now) _ _ _ _ _ _ _ _ w.in-Or.is (ap (λ p. p.0) w.wrap-is) (c.get-at.ensures ∙ ap (λ p. p.2.now) w.wrap-is) w.level-is w.in_ok-right-in-Or.ensures.value
      | changed-in-Imp+in_ok-right-in-Imp w ↦ changed_imp g.C.Change.plain (g.C.Change.image c.args.change.now) _ _ _ _ _ _ _ _ w.in-Imp.is (ap (λ p. p.0) w.wrap-is) (c.get-at.ensures ∙ ap (λ p. p.2.now) w.wrap-is) w.level-is w.in_ok-right-in-Imp.ensures.value
      | changed-in-Iff+in_ok-right-in-Iff w ↦ changed_iff g.C.Change.plain (g.C.Change.image c.args.change.now) _ _ _ _ _ _ _ _ w.in-Iff.is (ap (λ p. p.0) w.wrap-is) (c.get-at.ensures ∙ ap (λ p. p.2.now) w.wrap-is) w.level-is w.in_ok-right-in-Iff.ensures.value
      | changed-in-All+in_ok-level-in-All w ↦ changed_all g.C.Change.plain (g.C.Change.image c.args.change.now) _ _ _ _ _ _ w.in-All.is (ap (λ p. p.0) w.wrap-is) (c.get-at.ensures ∙ ap (λ p. p.2.now) w.wrap-is) (w.level-is ∙ w.in_ok-level-in-All.ensures)
      | changed-in-Ex+in_ok-level-in-Ex w ↦ changed_ex g.C.Change.plain (g.C.Change.image c.args.change.now) _ _ _ _ _ _ w.in-Ex.is (ap (λ p. p.0) w.wrap-is) (c.get-at.ensures ∙ ap (λ p. p.2.now) w.wrap-is) (w.level-is ∙ w.in_ok-level-in-Ex.ensures)
    ]
    in let is_old : in_wrap c.match-at.wrap.0 c.get-at.result.now ≡ c.loop-at.at.now = elim c.match-at.branch [
      | changed-in-Not w ↦ kept_not _ _ _ _ w.in-Not.is (ap (λ p. p.0) w.wrap-is) (c.get-at.ensures ∙ ap (λ p. p.2.now) w.wrap-is)
      | changed-in-And+in_ok-right-in-And w ↦ kept_and _ _ _ _ _ _ w.in-And.is (ap (λ p. p.0) w.wrap-is) (c.get-at.ensures ∙ ap (λ p. p.2.now) w.wrap-is) (w.in_ok-right-in-And.ensures.unchanged (sym (ap (λ p. p.1) w.wrap-is) ∙ c.if-is_changed.false))
      | changed-in-Or+in_ok-right-in-Or w ↦ kept_or _ _ _ _ _ _ w.in-Or.is (ap (λ p. p.0) w.wrap-is) (c.get-at.ensures ∙ ap (λ p. p.2.now) w.wrap-is) (w.in_ok-right-in-Or.ensures.unchanged (sym (ap (λ p. p.1) w.wrap-is) ∙ c.if-is_changed.false))
      | changed-in-Imp+in_ok-right-in-Imp w ↦ kept_imp _ _ _ _ _ _ w.in-Imp.is (ap (λ p. p.0) w.wrap-is) (c.get-at.ensures ∙ ap (λ p. p.2.now) w.wrap-is) (w.in_ok-right-in-Imp.ensures.unchanged (sym (ap (λ p. p.1) w.wrap-is) ∙ c.if-is_changed.false))
      | changed-in-Iff+in_ok-right-in-Iff w ↦ kept_iff _ _ _ _ _ _ w.in-Iff.is (ap (λ p. p.0) w.wrap-is) (c.get-at.ensures ∙ ap (λ p. p.2.now) w.wrap-is) (w.in_ok-right-in-Iff.ensures.unchanged (sym (ap (λ p. p.1) w.wrap-is) ∙ c.if-is_changed.false))
      | changed-in-All+in_ok-level-in-All w ↦ kept_all _ _ _ _ w.in-All.is (ap (λ p. p.0) w.wrap-is) (c.get-at.ensures ∙ ap (λ p. p.2.now) w.wrap-is)
      | changed-in-Ex+in_ok-level-in-Ex w ↦ kept_ex _ _ _ _ w.in-Ex.is (ap (λ p. p.0) w.wrap-is) (c.get-at.ensures ∙ ap (λ p. p.2.now) w.wrap-is)
    ]
    in record {
      smaller = search (rules, the_lemmas);
      whole = plain_around_below g.C.Change.plain _ _ _ _ _ _ c.in_ok-push.ensures.items is_level c.loop-at.invariant.whole;
      within = search (rules, arith);
      below = kept_below _ _ _ _ _ _ _ c.in_ok-push.ensures.items c.loop-at.invariant.within is_old c.loop-at.invariant.below;
      first = c.loop-at.invariant.first;
    }

pub changed-returns-in_ok-whole-in-Some : goal.changed-returns-in_ok-whole-in-Some
changed-returns-in_ok-whole-in-Some g t c =
    atom_changed g.C.Change.plain (g.C.Change.image c.args.change.now) _ _ _ _ _ _ _ _ c.in-Atom.is (ap (λ new. g.C.Change.plain (unwrap_or new c.in-Atom.args)) (sym c.in-Some.is) ∙ c.in_ok-args-in-Atom.ensures) c.loop-at.invariant.whole c.in_ok-whole-in-Some.ensures

pub changed-returns-in-None : goal.changed-returns-in-None
changed-returns-in-None g t c =
    let same : map_atoms (g.C.Change.image c.args.change.now) c.loop-at.level (formula_by g.C.Change.plain c.loop-at.at.now) ≡ formula_by g.C.Change.plain c.loop-at.at.now = atom_stays g.C.Change.plain (g.C.Change.image c.args.change.now) _ _ _ _ c.in-Atom.is (ap (λ new. g.C.Change.plain (unwrap_or new c.in-Atom.args)) (sym c.in-None.is) ∙ c.in_ok-args-in-Atom.ensures)
    in IfOk-weaker c.unchanged_below.result _ _ (λ found is. around_unchanged g.C.Change.plain _ _ _ _ _ _ _ c.loop-at.invariant.below same c.loop-at.invariant.whole is) c.unchanged_below.ensures

pub changed-returns-in-Verum : goal.changed-returns-in-Verum
changed-returns-in-Verum g t c =
    IfOk-weaker c.unchanged_below-in-Verum.result _ _ (λ found is. around_unchanged g.C.Change.plain _ _ _ _ _ _ _ c.loop-at.invariant.below (verum_stays g.C.Change.plain (g.C.Change.image c.args.change.now) _ _ c.in-Verum.is) c.loop-at.invariant.whole is) c.unchanged_below-in-Verum.ensures

pub changed-returns-in-Falsum : goal.changed-returns-in-Falsum
changed-returns-in-Falsum g t c =
    IfOk-weaker c.unchanged_below-in-Falsum.result _ _ (λ found is. around_unchanged g.C.Change.plain _ _ _ _ _ _ _ c.loop-at.invariant.below (falsum_stays g.C.Change.plain (g.C.Change.image c.args.change.now) _ _ c.in-Falsum.is) c.loop-at.invariant.whole is) c.unchanged_below-in-Falsum.ensures
