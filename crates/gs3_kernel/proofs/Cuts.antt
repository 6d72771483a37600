-- The stack of cuts, as the list grows, forks and is cut back.
use Rattle.std.proofs.Common.{◌≡◌, ℕ, ◌≤◌, List, [], ◌∷◌, ◌++◌, map, length, take, reverse, refl, ap, sym, ◌∙◌, max, subst, arith, Result, Ok, IfOk, length-append}
use Rattle.std.proofs.lemmas.List.{take-append-le, take_all, map-append, reverse-append}
use Rattle.fol_core.specs.Syntax.{PlainFormula}
use Rattle.fol_core.specs.View.{TermFormula, formula_of, formulas_of}
use Rattle.gs3_rules.specs.Rules.{Rule, Step}
use Rattle.gs3_rules.specs.Apply.{lists_after, Answers}
use Rattle.gs3_rules.specs.ParamBound.{list_bound, rule_bound, AreBelow}
use Rattle.gs3_rules.specs.declared.step.Premises.{Premises}
use Rattle.gs3_rules.specs.declared.step.ApplyError.{ApplyError}
use Rattle.gs3_rules.proofs.ParamBounds.{bounded_after}
use Rattle.gs3_kernel.specs.OpenLists.{lists_behind, AreCuts}
use Rattle.gs3_kernel.specs.declared.open.Cut.{Cut}

-- what is appended changes nothing behind the list
behind_append : (list more : List TermFormula) (cuts : List Cut) → AreCuts list cuts → lists_behind (list ++ more) cuts ≡ lists_behind list cuts
behind_append list more [] h = refl
behind_append list more (cut ∷ cuts) h =
    ap (λ front. (front ++ cut.more) ∷ lists_behind front cuts) (take-append-le cut.keep list more h.0.within)

cuts_append : (list more : List TermFormula) (cuts : List Cut) → AreCuts list cuts → AreCuts (list ++ more) cuts
cuts_append list more [] h = tt
cuts_append list more (cut ∷ cuts) h =
    let front = sym (take-append-le cut.keep list more h.0.within) in (
      record {
        within = omega (arith, h.0.within, length-append list more);
        bounded = subst (λ f. list_bound (formulas_of (f ++ cut.more)) ≤ cut.above) front h.0.bounded;
      },
      subst (λ f. AreCuts f cuts) front h.1,
    )

-- The list and the cuts stand for these lists, and are sound.
pub record Opens (list : List TermFormula) (above : ℕ) (cuts : List Cut) (lists : List (List PlainFormula)) : Type 0 where
  pub left : formulas_of list ∷ map formulas_of (lists_behind list cuts) ≡ lists
  pub bounded : list_bound (formulas_of list) ≤ above
  pub sound : AreCuts list cuts

pub grown : (list more next : List TermFormula) (above : ℕ) (cuts : List Cut) → next ≡ list ++ more
    → list_bound (formulas_of list ++ formulas_of more) ≤ above → AreCuts list cuts
    → Opens next above cuts ((formulas_of list ++ formulas_of more) ∷ map formulas_of (lists_behind list cuts))
grown list more next above cuts e below h =
    let is : formulas_of next ≡ formulas_of list ++ formulas_of more = ap formulas_of e ∙ map-append formula_of list more in record {
      left =
          ap (λ l. l ∷ map formulas_of (lists_behind next cuts)) is
          ∙ ap (λ ls. (formulas_of list ++ formulas_of more) ∷ map formulas_of ls) (ap (λ l. lists_behind l cuts) e ∙ behind_append list more cuts h);
      bounded = subst (λ l. list_bound l ≤ above) (sym is) below;
      sound = subst (λ l. AreCuts l cuts) (sym e) (cuts_append list more cuts h);
    }

cut_at_end : (list right : List TermFormula) (above : ℕ) (cuts : List Cut) (cut : Cut) → cut.keep ≡ length list → cut.more ≡ right → cut.above ≡ above
    → list_bound (formulas_of list ++ formulas_of right) ≤ above → AreCuts list cuts → AreCuts list (cut ∷ cuts)
cut_at_end list right above cuts cut ke re ae below h =
    let front : list ≡ take cut.keep list = sym (take_all cut.keep list (omega (arith, ke))) in (
      record {
        within = omega (arith, ke);
        bounded =
            omega (
              arith,
              ae,
              subst (λ l. list_bound l ≤ above) (sym (map-append formula_of list right) ∙ ap formulas_of (ap (λ f. f ++ right) front ∙ ap (λ r. take cut.keep list ++ r) (sym re))) below,
            );
      },
      subst (λ f. AreCuts f cuts) front h,
    )

pub forked : (list left right next : List TermFormula) (above : ℕ) (all cuts : List Cut) (cut : Cut) → all ≡ cuts ++ cut ∷ [] → cut.keep ≡ length list → cut.more ≡ right → cut.above ≡ above
    → next ≡ list ++ left → list_bound (formulas_of list ++ formulas_of left) ≤ above → list_bound (formulas_of list ++ formulas_of right) ≤ above → AreCuts list (reverse cuts)
    → Opens next above (reverse all) ((formulas_of list ++ formulas_of left) ∷ (formulas_of list ++ formulas_of right) ∷ map formulas_of (lists_behind list (reverse cuts)))
forked list left right next above all cuts cut e ke re ae ne below_left below_right h =
    let top : cut ∷ reverse cuts ≡ reverse all = sym (ap reverse e ∙ reverse-append cuts (cut ∷ [])) in
    let front : take cut.keep list ≡ list = take_all cut.keep list (omega (arith, ke)) in
    let right_is : formulas_of (take cut.keep list ++ cut.more) ≡ formulas_of list ++ formulas_of right
    = ap formulas_of (ap (λ f. f ++ cut.more) front ∙ ap (λ r. list ++ r) re) ∙ map-append formula_of list right in
    let all_open = grown list left next above (cut ∷ reverse cuts) ne below_left (cut_at_end list right above (reverse cuts) cut ke re ae below_right h) in
    subst (λ cs. Opens next above cs ((formulas_of list ++ formulas_of left) ∷ (formulas_of list ++ formulas_of right) ∷ map formulas_of (lists_behind list (reverse cuts)))) top record {
      left =
          all_open.left
          ∙ ap (λ l. (formulas_of list ++ formulas_of left) ∷ l ∷ map formulas_of (lists_behind (take cut.keep list) (reverse cuts))) right_is
          ∙ ap (λ f. (formulas_of list ++ formulas_of left) ∷ (formulas_of list ++ formulas_of right) ∷ map formulas_of (lists_behind f (reverse cuts))) front;
      bounded = all_open.bounded;
      sound = all_open.sound;
    }

-- the list is cut back, and the next branch begins
pub closed : (list next : List TermFormula) (all cuts : List Cut) (cut : Cut) → all ≡ cuts ++ cut ∷ [] → next ≡ take cut.keep list ++ cut.more
    → AreCuts list (reverse all) → Opens next cut.above (reverse cuts) (map formulas_of (lists_behind list (reverse all)))
closed list next all cuts cut e ne h =
    let top : reverse all ≡ cut ∷ reverse cuts = ap reverse e ∙ reverse-append cuts (cut ∷ []) in
    let here : AreCuts list (cut ∷ reverse cuts) = subst (λ cs. AreCuts list cs) top h in
    let more = grown (take cut.keep list) cut.more next cut.above (reverse cuts) ne
    (subst (λ l. list_bound l ≤ cut.above) (map-append formula_of (take cut.keep list) cut.more) here.0.bounded) here.1 in record {
      left =
          more.left ∙ ap (λ l. l ∷ map formulas_of (lists_behind (take cut.keep list) (reverse cuts))) (sym (map-append formula_of (take cut.keep list) cut.more))
          ∙ ap (λ cs. map formulas_of (lists_behind list cs)) (sym top);
      bounded = more.bounded;
      sound = more.sound;
    }

-- the parameters of each premise's list are below the number that comes after the step
pub below_after : (list : List TermFormula) (rule : Rule) (r : Result Premises ApplyError) (p : Premises) (above n : ℕ) → r ≡ Ok p → Answers list rule r
    → above ≡ max n (rule_bound rule) → list_bound (formulas_of list) ≤ n → AreBelow above (lists_after (formulas_of list) p)
below_after list rule r p above n e answers is h =
    subst (λ m. AreBelow m (lists_after (formulas_of list) p)) (sym is)
    (bounded_after (formulas_of list) rule (lists_after (formulas_of list) p) n (subst (λ x. IfOk x (λ q. Step (formulas_of list) rule (lists_after (formulas_of list) q))) e answers.step) h)
