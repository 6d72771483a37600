-- The rules of a problem keep terms over its symbols.
use Rattle.std.proofs.Common.{◌≡◌, ℕ, zero, suc, ◌+◌, ◌-◌, ◌<◌, ◌≤◌, Bool, true, false, ◌||◌, List, [], ◌∷◌, length, Option, Some, None, slice_get, refl, ap, sym, ◌∙◌, subst, arith, ◌⊎◌, inl, inr, leb, if◌then◌else◌}
use Rattle.std.specs.List.{All}
use Rattle.std.proofs.lemmas.Bool.{false≢true, eqb-true, eq-eqb}
use Rattle.std.proofs.lemmas.Bool.Decides.{leb_tells}
use Rattle.fol_core.specs.Symbol.{Symbol, SymbolTable}
use Rattle.fol_core.specs.Spelling.{HasArity}
use Rattle.fol_core.specs.Syntax as plain
use Rattle.fol_core.specs.Syntax.{FormulaOver, PlainFormula, map_atoms, atom, verum, falsum, not, and, or, imp, iff, all, ex}
use Rattle.fof_parse.specs.WellFormed.{IsWellFormedTerm, AreWellFormedTerms, IsWellFormed, IsClosedOver}
use Rattle.free_terms.specs.Free.{FreeTerm, FreeTerms, FreeFormula, bound, lift_term, lift_terms, lift, fill_term, fill_terms, filled_with, or_variable, fill_at, fill_all}
use Rattle.free_terms.specs.Matching.{IsMatch, variable_in_term, variable_in_terms}
use Rattle.rewrite_rules.specs.Rules.{RewriteRule, variable_in, Equivalence, IsRuleOf, by_left, by_right, AreRules, RulesOf}
use Rattle.rewrite_rules.specs.Rewriting.{Rewriting, Fires}
use Rattle.round_offers.proofs.OverTerms.{Over, AllOver, OverFormula, weaker, lift_count, fill_count}
use Rattle.round_offers.proofs.RoundTerms.{RulesKeep}
use Rattle.round_offers.proofs.Somes.{some_once, some_is_none}

-- The rule is over the function symbols, and its head has all variables of its body.
pub record RuleFits (table : SymbolTable) (rule : RewriteRule) : Type 0 where
  pub plain_body : PlainFormula
  pub body_is : rule.body ≡ lift plain_body
  pub arguments : AreWellFormedTerms table.functions rule.count rule.arguments
  pub body : IsWellFormed table rule.count plain_body
  pub used : (n : ℕ) → variable_in n plain_body ≡ true → variable_in_terms n rule.arguments ≡ true

abbrev pub AllFit : SymbolTable → List RewriteRule → Type 0
AllFit table [] = Unit {0}
AllFit table (rule ∷ rules) = RuleFits table rule × AllFit table rules

either_true : (p q : Bool) → (p || q) ≡ true → (p ≡ true) ⊎ (q ≡ true)
either_true true q e = inl refl
either_true false q e = inr e

left_true : (p q : Bool) → p ≡ true → (p || q) ≡ true
left_true true q e = refl
left_true false q e = absurd (false≢true e)

right_true : (p q : Bool) → q ≡ true → (p || q) ≡ true
right_true true q e = refl
right_true false q e = e

within : {A : Type 0} (xs : List A) (n : ℕ) → n < length xs → (x : A) × (slice_get xs n ≡ Some x)
within [] n lt = let none : ⊥ = omega (arith, lt) in absurd none
within (x ∷ xs) zero lt = (x, refl)
within (x ∷ xs) (suc n) lt = within xs n (omega (arith, lt))

module _ (fs : List Symbol) (S : FreeTerm → Type 0) (fills : List (Option FreeTerm)) where
  -- the variable that lies n quantifiers further out is filled with a term
  abbrev Gives : ℕ → Type 0
  Gives m = (t : FreeTerm) × (slice_get fills m ≡ Some (Some t)) × Over fs S 0 t

  abbrev GoodTerm : ℕ → plain.PlainTerm → Type 0
  GoodTerm k u = (m : ℕ) → variable_in_term (m + k) u ≡ true → Gives m

  abbrev GoodTerms : ℕ → plain.PlainTerms → Type 0
  GoodTerms k us = (m : ℕ) → variable_in_terms (m + k) us ≡ true → Gives m

  abbrev Good : ℕ → PlainFormula → Type 0
  Good k a = (m : ℕ) → variable_in (m + k) a ≡ true → Gives m

  filled_variable : (k j : ℕ) → GoodTerm k (plain.bound j) → Over fs S k (filled_with fills k j)
  filled_variable k j good = by_test (leb_tells (suc j) k) where
    by_test : ((leb (suc j) k ≡ true) × (suc j ≤ k)) ⊎ ((leb (suc j) k ≡ false) × (k < suc j)) → Over fs S k (filled_with fills k j)
    by_test (inl e) = subst (Over fs S k) (sym (ap (λ (q : Bool). if q then bound j else or_variable j (slice_get fills (j - k))) e.0)) e.1
    by_test (inr e) =
        let out : j ≡ (j - k) + k = omega (arith, e.1) in
        let g : Gives (j - k) = good (j - k) (eq-eqb j ((j - k) + k) out) in
        subst (Over fs S k)
        (sym (ap (λ (q : Bool). if q then bound j else or_variable j (slice_get fills (j - k))) e.0 ∙ ap (or_variable j) g.1))
        (weaker fs S 0 k (omega arith) g.0 g.2)

  mutual
    term_filled : (k n : ℕ) (u : plain.PlainTerm) → IsWellFormedTerm fs n u → GoodTerm k u → Over fs S k (fill_term fills k (lift_term u))
    term_filled k n (plain.bound j) h good = filled_variable k j good
    term_filled k n (plain.param j) h good = absurd h
    term_filled k n (plain.app f us) h good =
        (subst (HasArity (slice_get fs f)) (sym (fill_count fs S fills k (lift_terms us) ∙ lift_count fs S us)) h.0, terms_filled k n us h.1 good)

    terms_filled : (k n : ℕ) (us : plain.PlainTerms) → AreWellFormedTerms fs n us → GoodTerms k us → AllOver fs S k (fill_terms fills k (lift_terms us))
    terms_filled k n plain.no_terms h good = tt
    terms_filled k n (plain.terms u us) h good = (
      term_filled k n u h.0 (λ m e. good m (left_true (variable_in_term (m + k) u) (variable_in_terms (m + k) us) e)),
      terms_filled k n us h.1 (λ m e. good m (right_true (variable_in_term (m + k) u) (variable_in_terms (m + k) us) e)),
    )

  under : (k m : ℕ) (a : PlainFormula) → variable_in (m + suc k) a ≡ true → variable_in (suc (m + k)) a ≡ true
  under k m a e = let same : m + suc k ≡ suc (m + k) = omega arith in subst (λ n. variable_in n a ≡ true) same e

  formula_filled : (table : SymbolTable) → table.functions ≡ fs → (k c n : ℕ) (a : PlainFormula) → IsWellFormed table n a → Good k a
      → OverFormula fs S k (fill_at fills k (map_atoms (λ _ us. lift_terms us) c a))
  formula_filled table e k c n (atom p us) h good = terms_filled k n us (subst (λ gs. AreWellFormedTerms gs n us) e h.1) good
  formula_filled table e k c n verum h good = tt
  formula_filled table e k c n falsum h good = tt
  formula_filled table e k c n (not a) h good = formula_filled table e k c n a h good
  formula_filled table e k c n (and a b) h good = (
    formula_filled table e k c n a h.0 (λ m v. good m (left_true (variable_in (m + k) a) (variable_in (m + k) b) v)),
    formula_filled table e k c n b h.1 (λ m v. good m (right_true (variable_in (m + k) a) (variable_in (m + k) b) v)),
  )
  formula_filled table e k c n (or a b) h good = (
    formula_filled table e k c n a h.0 (λ m v. good m (left_true (variable_in (m + k) a) (variable_in (m + k) b) v)),
    formula_filled table e k c n b h.1 (λ m v. good m (right_true (variable_in (m + k) a) (variable_in (m + k) b) v)),
  )
  formula_filled table e k c n (imp a b) h good = (
    formula_filled table e k c n a h.0 (λ m v. good m (left_true (variable_in (m + k) a) (variable_in (m + k) b) v)),
    formula_filled table e k c n b h.1 (λ m v. good m (right_true (variable_in (m + k) a) (variable_in (m + k) b) v)),
  )
  formula_filled table e k c n (iff a b) h good = (
    formula_filled table e k c n a h.0 (λ m v. good m (left_true (variable_in (m + k) a) (variable_in (m + k) b) v)),
    formula_filled table e k c n b h.1 (λ m v. good m (right_true (variable_in (m + k) a) (variable_in (m + k) b) v)),
  )
  formula_filled table e k c n (all a) h good = formula_filled table e (suc k) (suc c) (suc n) a h (λ m v. good m (under k m a v))
  formula_filled table e k c n (ex a) h good = formula_filled table e (suc k) (suc c) (suc n) a h (λ m v. good m (under k m a v))

  -- what stands for a variable of the head stands in the literal
  mutual
    in_term : (m : ℕ) (u : plain.PlainTerm) → Over fs S 0 (fill_term fills 0 (lift_term u)) → variable_in_term m u ≡ true → Over fs S 0 (filled_with fills 0 m)
    in_term m (plain.bound j) h v = subst (λ k. Over fs S 0 (filled_with fills 0 k)) (eqb-true j m v) h
    in_term m (plain.param j) h v = absurd (false≢true v)
    in_term m (plain.app f us) h v = in_terms m us h.1 v

    in_terms : (m : ℕ) (us : plain.PlainTerms) → AllOver fs S 0 (fill_terms fills 0 (lift_terms us)) → variable_in_terms m us ≡ true → Over fs S 0 (filled_with fills 0 m)
    in_terms m plain.no_terms h v = absurd (false≢true v)
    in_terms m (plain.terms u us) h v = by_side (either_true (variable_in_term m u) (variable_in_terms m us) v) (in_term m u h.0) (in_terms m us h.1) where
      by_side : (variable_in_term m u ≡ true) ⊎ (variable_in_terms m us ≡ true) → (variable_in_term m u ≡ true → Over fs S 0 (filled_with fills 0 m))
          → (variable_in_terms m us ≡ true → Over fs S 0 (filled_with fills 0 m)) → Over fs S 0 (filled_with fills 0 m)
      by_side (inl e) f g = f e
      by_side (inr e) f g = g e

  mutual
    below_term : (n m : ℕ) (u : plain.PlainTerm) → IsWellFormedTerm fs n u → variable_in_term m u ≡ true → m < n
    below_term n m (plain.bound j) h v = subst (λ k. k < n) (eqb-true j m v) h
    below_term n m (plain.param j) h v = absurd h
    below_term n m (plain.app f us) h v = below_terms n m us h.1 v

    below_terms : (n m : ℕ) (us : plain.PlainTerms) → AreWellFormedTerms fs n us → variable_in_terms m us ≡ true → m < n
    below_terms n m plain.no_terms h v = absurd (false≢true v)
    below_terms n m (plain.terms u us) h v = by_side (either_true (variable_in_term m u) (variable_in_terms m us) v) (below_term n m u h.0) (below_terms n m us h.1) where
      by_side : (variable_in_term m u ≡ true) ⊎ (variable_in_terms m us ≡ true) → (variable_in_term m u ≡ true → m < n) → (variable_in_terms m us ≡ true → m < n) → m < n
      by_side (inl e) f g = f e
      by_side (inr e) f g = g e

  filled_at : (n : ℕ) → filled_with fills 0 n ≡ or_variable n (slice_get fills n)
  filled_at n = by_test (leb_tells (suc n) 0) where
    by_test : ((leb (suc n) 0 ≡ true) × (suc n ≤ 0)) ⊎ ((leb (suc n) 0 ≡ false) × (0 < suc n)) → filled_with fills 0 n ≡ or_variable n (slice_get fills n)
    by_test (inl e) = let none : ⊥ = omega (arith, e.1) in absurd none
    by_test (inr e) =
        let same : n - 0 ≡ n = omega arith in
        ap (λ (q : Bool). if q then bound n else or_variable n (slice_get fills (n - 0))) e.0 ∙ ap (λ k. or_variable n (slice_get fills k)) same

  fires_over : (table : SymbolTable) → table.functions ≡ fs → (rule : RewriteRule) → RuleFits table rule → (ts : FreeTerms) → AllOver fs S 0 ts → IsMatch rule.arguments rule.count ts fills
      → OverFormula fs S 0 (fill_all fills rule.body)
  fires_over table e rule fit ts h match = subst (λ a. OverFormula fs S 0 (fill_all fills a)) (sym fit.body_is) (formula_filled table e 0 0 rule.count fit.plain_body fit.body good) where
    formed : AreWellFormedTerms fs rule.count rule.arguments
    formed = subst (λ gs. AreWellFormedTerms gs rule.count rule.arguments) e fit.arguments

    given : (m : ℕ) → variable_in_terms m rule.arguments ≡ true → (o : Option FreeTerm) → slice_get fills m ≡ Some o → Gives m
    given m v None at = absurd (false≢true (sym ((match.used m (below_terms rule.count m rule.arguments formed v)).0 at) ∙ v))
    given m v (Some t) at =
        (t, at, subst (Over fs S 0) (filled_at m ∙ ap (or_variable m) at) (in_terms m rule.arguments (subst (AllOver fs S 0) (sym match.same) h) v))

    good : Good 0 fit.plain_body
    good m v =
        let here : m + 0 ≡ m = omega arith in
        let used : variable_in_terms m rule.arguments ≡ true = fit.used m (subst (λ k. variable_in k fit.plain_body ≡ true) here v) in
        let found = within fills m (omega (arith, match.one_each, below_terms rule.count m rule.arguments formed used)) in
        given m used found.0 found.1

one_rule : (table : SymbolTable) (S : FreeTerm → Type 0) (rule : RewriteRule) → RuleFits table rule → (a : FreeFormula) (r : Rewriting)
    → OverFormula table.functions S 0 a → Fires rule a r → OverFormula table.functions S 0 r.result
one_rule table S rule fit (atom p us) r o f =
    subst (λ x. OverFormula table.functions S 0 x.result) (sym f.3) (fires_over table.functions S f.1 table refl rule fit us o f.2)
one_rule table S rule fit (not (atom p us)) r o f =
    subst (λ x. OverFormula table.functions S 0 x.result) (sym f.3) (fires_over table.functions S f.1 table refl rule fit us o f.2)
one_rule table S rule fit a r o f = absurd f

pub rules_keep : (table : SymbolTable) (S : FreeTerm → Type 0) (rules : List RewriteRule) → AllFit table rules → RulesKeep table.functions S rules
rules_keep table S [] h a r o x = absurd (some_is_none r x)
rules_keep table S (rule ∷ rules) h a r o (inl x) =
    subst (λ z. OverFormula table.functions S 0 z.result) (sym (some_once r x.0 x.1)) (one_rule table S rule h.0 a x.0 o x.2)
rules_keep table S (rule ∷ rules) h a r o (inr x) = rules_keep table S rules h.1 a r o x.1

-- ---- the rules of closed axioms
sides_formed : (table : SymbolTable) (k n : ℕ) (a left right : PlainFormula) → Equivalence n a left right → IsWellFormed table k a
    → IsWellFormed table (n + k) left × IsWellFormed table (n + k) right
sides_formed table k zero a left right e h =
    let same : k ≡ 0 + k = omega arith in
    subst (λ m. IsWellFormed table m left × IsWellFormed table m right) same (subst (IsWellFormed table k) e h)
sides_formed table k (suc n) a left right e h =
    let same : n + suc k ≡ suc n + k = omega arith in
    subst (λ m. IsWellFormed table m left × IsWellFormed table m right) same
    (sides_formed table (suc k) n e.0 left right e.2 (subst (IsWellFormed table k) e.1 h))

at_zero : (table : SymbolTable) (n : ℕ) (a : PlainFormula) → IsWellFormed table (n + 0) a → IsWellFormed table n a
at_zero table n a h = let same : n + 0 ≡ n = omega arith in subst (λ m. IsWellFormed table m a) same h

rule_fits : (table : SymbolTable) (place : ℕ) (a : PlainFormula) (rule : RewriteRule) → IsRuleOf place a rule → IsClosedOver table a → RuleFits table rule
rule_fits table place a rule (by_left n p us right e fits) h =
    let both = sides_formed table 0 n a (atom p us) right e h in
    record { plain_body = right; body_is = refl; arguments = (at_zero table n (atom p us) both.0).1; body = at_zero table n right both.1; used = fits }
rule_fits table place a rule (by_right n p us left e misfit fits) h =
    let both = sides_formed table 0 n a left (atom p us) e h in
    record { plain_body = left; body_is = refl; arguments = (at_zero table n (atom p us) both.1).1; body = at_zero table n left both.0; used = fits }

all_head : (P : PlainFormula → Type 0) (a : PlainFormula) (as_ : List PlainFormula) → All P (a ∷ as_) → P a × All P as_
all_head P a as_ h = (h 0 a (omega arith), λ k d lt. h (suc k) d (omega (arith, lt)))

rules_fit : (table : SymbolTable) (place : ℕ) (as_ : List PlainFormula) (rules : List RewriteRule) → AreRules place as_ rules → All (IsClosedOver table) as_ → AllFit table rules
rules_fit table place [] rules e h = subst (AllFit table) (sym e) tt
rules_fit table place (a ∷ as_) rules (inl x) h =
    let p = all_head (IsClosedOver table) a as_ h in
    subst (AllFit table) (sym x.2) (rule_fits table place a x.0 x.3 p.0, rules_fit table (suc place) as_ x.1 x.4 p.1)
rules_fit table place (a ∷ as_) rules (inr x) h = rules_fit table (suc place) as_ rules x.1 (all_head (IsClosedOver table) a as_ h).1

-- The rules that closed axioms give, with rewriting on or off, keep terms over the axioms' symbols.
pub problem_rules_keep : (table : SymbolTable) (S : FreeTerm → Type 0) (on : Bool) (as_ : List PlainFormula) (rules : List RewriteRule) → RulesOf on as_ rules
    → All (IsClosedOver table) as_ → RulesKeep table.functions S rules
problem_rules_keep table S true as_ rules e h = rules_keep table S rules (rules_fit table 0 as_ rules e h)
problem_rules_keep table S false as_ rules e h = rules_keep table S rules (subst (AllFit table) (sym e) tt)
