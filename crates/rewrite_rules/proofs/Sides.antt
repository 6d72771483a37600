-- The rule that an equivalence gives.
use Rattle.std.proofs.Common.{◌≡◌, ℕ, zero, suc, Bool, true, false, ◌||◌, Option, Some, None, refl, ap, sym, ◌∙◌, subst}
use Rattle.std.specs.Prelude.{MatchOption, option_map}
use Rattle.fol_core.specs.Syntax.{PlainTerm, PlainTerms, PlainFormula, bound, param, app, no_terms, terms, atom, verum, falsum, not, and, or, imp, iff, all, ex, param_in_term, param_in_terms}
use Rattle.free_terms.specs.Free.{HoldsNoParam}
use Rattle.free_terms.specs.NoParam.{NoParamIn, NoParamInTerm, NoParamInTerms}
use Rattle.rewrite_rules.specs.Rules.{RewriteRule, FitsWith, IsRuleOf, by_left, by_right}
use Rattle.rewrite_rules.specs.Fitting.{under, IsStripped, rule_with_head}
use Rattle.rewrite_rules.specs.RuleView.{rule_of}
use Rattle.rewrite_rules.specs.declared.rule.Rule.{Rule}
use Rattle.rewrite_rules.proofs.Stripping.{equivalence_under, equivalence_is}

none_or : (p q : Bool) → p ≡ false → q ≡ false → (p || q) ≡ false
none_or p q a b = ap (λ z. z || q) a ∙ b

mutual
  none_in_term : (q : ℕ) (t : PlainTerm) → NoParamInTerm t → param_in_term q t ≡ false
  none_in_term q (bound n) h = refl
  none_in_term q (param n) h = absurd h
  none_in_term q (app f us) h = none_in_terms q us h

  none_in_terms : (q : ℕ) (us : PlainTerms) → NoParamInTerms us → param_in_terms q us ≡ false
  none_in_terms q no_terms h = refl
  none_in_terms q (terms u us) h = none_or _ _ (none_in_term q u h.0) (none_in_terms q us h.1)

pub holds_none : (a : PlainFormula) → NoParamIn a → HoldsNoParam a
holds_none (atom p us) h q = none_in_terms q us h
holds_none verum h q = refl
holds_none falsum h q = refl
holds_none (not a) h q = holds_none a h q
holds_none (and a b) h q = none_or _ _ (holds_none a h.0 q) (holds_none b h.1 q)
holds_none (or a b) h q = none_or _ _ (holds_none a h.0 q) (holds_none b h.1 q)
holds_none (imp a b) h q = none_or _ _ (holds_none a h.0 q) (holds_none b h.1 q)
holds_none (iff a b) h q = none_or _ _ (holds_none a h.0 q) (holds_none b h.1 q)
holds_none (all a) h q = holds_none a h q
holds_none (ex a) h q = holds_none a h q

pub no_param_under : (n : ℕ) (a : PlainFormula) → NoParamIn (under n a) → NoParamIn a
no_param_under zero a h = h
no_param_under (suc n) a h = no_param_under n a h

some_once : {A : Type 0} (x y : A) → Some x ≡ Some y → x ≡ y
some_once x y e = cc

none_is_some : {A : Type 0} (x : A) → None ≡ Some x → ⊥
none_is_some x e = cc

pub left_rule : (place n : ℕ) (a b : PlainFormula) (P : Type 0) (o : Option Rule) → FitsWith a b → option_map rule_of o ≡ rule_with_head place n true a b
    → MatchOption o P (λ r. IsRuleOf place (under n (iff a b)) (rule_of r))
left_rule place n (atom p us) b P None fits e = absurd (none_is_some _ e)
left_rule place n (atom p us) b P (Some r) fits e =
    subst (IsRuleOf place (under n (iff (atom p us) b))) (sym (some_once _ _ e)) (by_left n p us b (equivalence_under n (atom p us) b) fits)
left_rule place n a b P o fits e = absurd fits

pub right_rule : (place n : ℕ) (a b : PlainFormula) (P : Type 0) (o : Option Rule) → (FitsWith a b → ⊥) → FitsWith b a → option_map rule_of o ≡ rule_with_head place n false b a
    → MatchOption o P (λ r. IsRuleOf place (under n (iff a b)) (rule_of r))
right_rule place n a (atom p us) P None not_left fits e = absurd (none_is_some _ e)
right_rule place n a (atom p us) P (Some r) not_left fits e =
    subst (IsRuleOf place (under n (iff a (atom p us)))) (sym (some_once _ _ e)) (by_right n p us a (equivalence_under n a (atom p us)) not_left fits)
right_rule place n a b P o not_left fits e = absurd fits

pub no_rule : (place n : ℕ) (a b : PlainFormula) (r : RewriteRule) → (FitsWith a b → ⊥) → (FitsWith b a → ⊥) → IsRuleOf place (under n (iff a b)) r → ⊥
no_rule place n a b r not_left not_right (by_left m p us right e fits) =
    let sides = (equivalence_is n m (iff a b) (atom p us) right tt e).sides in
    let left_is : atom p us ≡ a = cc (sides) in
    let right_is : right ≡ b = cc (sides) in
    not_left (subst (λ x. FitsWith x b) left_is (subst (FitsWith (atom p us)) right_is fits))
no_rule place n a b r not_left not_right (by_right m p us left e other fits) =
    let sides = (equivalence_is n m (iff a b) left (atom p us) tt e).sides in
    let left_is : left ≡ a = cc (sides) in
    let right_is : atom p us ≡ b = cc (sides) in
    not_right (subst (λ x. FitsWith x a) right_is (subst (FitsWith (atom p us)) left_is fits))

pub no_sides : (place n : ℕ) (a : PlainFormula) (r : RewriteRule) → IsStripped a → ((left right : PlainFormula) → a ≡ iff left right → ⊥) → IsRuleOf place (under n a) r → ⊥
no_sides place n a r stripped none (by_left m p us right e fits) = none (atom p us) right (equivalence_is n m a (atom p us) right stripped e).sides
no_sides place n a r stripped none (by_right m p us left e other fits) = none left (atom p us) (equivalence_is n m a left (atom p us) stripped e).sides
