-- A literal is rewritten in one way, and whether it is rewritten can be decided.
use Rattle.std.proofs.Common.{◌≡◌, List, [], ◌∷◌, Option, Some, None, refl, ap, sym, ◌∙◌, inl, inr}
use Rattle.fol_core.specs.Syntax.{atom, not}
use Rattle.free_terms.specs.Free.{FreeTerm, FreeFormula, fill_all}
use Rattle.free_terms.specs.Matching.{IsMatch}
use Rattle.rewrite_rules.specs.Rules.{RewriteRule}
use Rattle.rewrite_rules.specs.Firing.{IsLiteral}
use Rattle.rewrite_rules.specs.Rewriting.{Rewriting, Fires, Rewrites, rewriting_by}
use Rattle.rewrite_rules.proofs.Equal.{Decided, same_number}
use Rattle.rewrite_rules.proofs.Found.{one_match, match_decided}

fires_once : (rule : RewriteRule) (a : FreeFormula) (r s : Rewriting) → Fires rule a r → Fires rule a s → r ≡ s
fires_once rule (atom p us) r s x y =
    x.3 ∙ ap (λ f. rewriting_by rule f (fill_all f rule.body)) (one_match rule.arguments rule.count us x.1 y.1 x.2 y.2) ∙ sym y.3
fires_once rule (not (atom p us)) r s x y =
    x.3 ∙ ap (λ f. rewriting_by rule f (not (fill_all f rule.body))) (one_match rule.arguments rule.count us x.1 y.1 x.2 y.2) ∙ sym y.3
fires_once rule a r s x y = absurd x

pub fires_literal : (rule : RewriteRule) (a : FreeFormula) (r : Rewriting) → Fires rule a r → IsLiteral a
fires_literal rule (atom p us) r x = tt
fires_literal rule (not (atom p us)) r x = tt
fires_literal rule a r x = absurd x

some_once : {A : Type 0} (x y : A) → Some x ≡ Some y → x ≡ y
some_once x y e = cc

some_is_none : {A : Type 0} (x : A) → Some x ≡ None → ⊥
some_is_none x e = cc

pub rewrites_once : (rules : List RewriteRule) (a : FreeFormula) (o q : Option Rewriting) → Rewrites rules a o → Rewrites rules a q → o ≡ q
rewrites_once [] a o q x y = x ∙ sym y
rewrites_once (rule ∷ rules) a o q (inl x) (inl y) = x.1 ∙ ap (λ r. Some r) (fires_once rule a x.0 y.0 x.2 y.2) ∙ sym y.1
rewrites_once (rule ∷ rules) a o q (inl x) (inr y) = absurd (y.0 x.0 x.2)
rewrites_once (rule ∷ rules) a o q (inr x) (inl y) = absurd (x.0 y.0 y.2)
rewrites_once (rule ∷ rules) a o q (inr x) (inr y) = rewrites_once rules a o q x.1 y.1

-- only a literal is rewritten
pub rewrites_literal : (rules : List RewriteRule) (a : FreeFormula) (r : Rewriting) → Rewrites rules a (Some r) → IsLiteral a
rewrites_literal [] a r x = absurd (some_is_none r x)
rewrites_literal (rule ∷ rules) a r (inl x) = fires_literal rule a x.0 x.2
rewrites_literal (rule ∷ rules) a r (inr x) = rewrites_literal rules a r x.1

pub rewrites_none : (rules : List RewriteRule) (a : FreeFormula) → (IsLiteral a → ⊥) → Rewrites rules a None
rewrites_none [] a h = refl
rewrites_none (rule ∷ rules) a h = inr ((λ r f. h (fires_literal rule a r f)), rewrites_none rules a h)

abbrev FiresSome : RewriteRule → FreeFormula → Type 0
FiresSome rule a = (r : Rewriting) × Fires rule a r

fires_decided : (rule : RewriteRule) (a : FreeFormula) → Decided (FiresSome rule a)
fires_decided rule (atom p us) = by_tests (same_number p rule.predicate) (match_decided rule.arguments rule.count us) where
  by_tests : Decided (p ≡ rule.predicate) → Decided ((g : List (Option FreeTerm)) × IsMatch rule.arguments rule.count us g) → Decided (FiresSome rule (atom p us))
  by_tests (inl e) (inl m) = inl (rewriting_by rule m.0 (fill_all m.0 rule.body), (e, m.0, m.1, refl))
  by_tests (inr e) m = inr (λ h. e h.1.0)
  by_tests (inl e) (inr m) = inr (λ h. m (h.1.1, h.1.2))
fires_decided rule (not (atom p us)) = by_tests (same_number p rule.predicate) (match_decided rule.arguments rule.count us) where
  by_tests : Decided (p ≡ rule.predicate) → Decided ((g : List (Option FreeTerm)) × IsMatch rule.arguments rule.count us g) → Decided (FiresSome rule (not (atom p us)))
  by_tests (inl e) (inl m) = inl (rewriting_by rule m.0 (not (fill_all m.0 rule.body)), (e, m.0, m.1, refl))
  by_tests (inr e) m = inr (λ h. e h.1.0)
  by_tests (inl e) (inr m) = inr (λ h. m (h.1.1, h.1.2))
fires_decided rule a = inr (λ h. h.1)

-- each literal has its rewriting, or has none
pub rewriting_of : (rules : List RewriteRule) (a : FreeFormula) → (o : Option Rewriting) × Rewrites rules a o
rewriting_of [] a = (None, refl)
rewriting_of (rule ∷ rules) a = by_first (fires_decided rule a) (rewriting_of rules a) where
  by_first : Decided (FiresSome rule a) → ((o : Option Rewriting) × Rewrites rules a o) → (o : Option Rewriting) × Rewrites (rule ∷ rules) a o
  by_first (inl f) rest = (Some f.0, inl (f.0, refl, f.1))
  by_first (inr n) rest = (rest.0, inr ((λ r f. n (r, f)), rest.1))

pub rewritable_decided : (rules : List RewriteRule) (a : FreeFormula) → Decided ((r : Rewriting) × Rewrites rules a (Some r))
rewritable_decided rules a = by_answer (rewriting_of rules a) where
  by_answer : ((o : Option Rewriting) × Rewrites rules a o) → Decided ((r : Rewriting) × Rewrites rules a (Some r))
  by_answer (None, h) = inr (λ x. some_is_none x.0 (rewrites_once rules a (Some x.0) None x.1 h))
  by_answer (Some r, h) = inl (r, h)
