-- The formulas of a round's tableau are over the round's terms.
use Rattle.std.proofs.Common.{◌≡◌, ℕ, zero, suc, ◌+◌, ◌*◌, List, [], ◌∷◌, ◌++◌, map, length, Option, Some, None, slice_get, refl, ap, sym, ◌∙◌, subst, arith, inl, inr}
use Rattle.fol_core.specs.Symbol.{Symbol}
use Rattle.free_terms.specs.Free.{Name, FreeTerm, FreeTerms, FreeFormula, bound, metavar, skolem, app, no_terms, terms, terms_of_list}
use Rattle.unify.specs.Offers.{Offer, IsSubterm, IsSubtermOfSome, IsSubtermOfBound, StandsIn, AreNew, IsMostGeneral}
use Rattle.rewrite_rules.specs.Rules.{RewriteRule}
use Rattle.rewrite_rules.specs.Rewriting.{Rewriting, Rewrites}
use Rattle.branch_rules.specs.Branch.{Branch, Done, Entry, expand, rewrite, skolemize, instantiate, go_left, go_right, principal, entry, entries, metavars, after, made_of, level_of, appended_to, skolem_term}
use Rattle.branch_rules.specs.Next.{Class, conjunctive, existential, disjunctive, universal, Serves, ComesNext}
use Rattle.branch_rules.proofs.Grown.{appended, entries_grow}
use Rattle.branch_rules.proofs.Served.{right_side}
use Rattle.tab_tree.specs.Tableau.{Tableau, leaf, step, split, IsTableau}
use Rattle.tab_tree.specs.Segments.{top, segments}
use Rattle.tab_tree.specs.Round.{MakesOf, Introduces, IsTermOf, AreTermsOf, IsOfRound}
use Rattle.round_offers.proofs.Everywhere.{Everywhere}
use Rattle.round_offers.proofs.OverTerms.{Over, AllOver, OverFormula, AllOverFormula, AreMetavars, OnMetavars, alpha_over, left_over, right_over, delta_over, gamma_over}
use Rattle.round_offers.proofs.Somes.{some_once, none_is_some, some_is_none}

-- ---- Skolem terms
metavars_are : (xs : List Name) → AreMetavars (terms_of_list (map metavar xs))
metavars_are [] = tt
metavars_are (x ∷ xs) = metavars_are xs

arguments_of : FreeTerm → FreeTerms
arguments_of (skolem x us) = us
arguments_of t = no_terms

made_on : (b : Branch) (d : Done) (o : Option Entry) (x : Name) (us : FreeTerms) → MakesOf b d o (skolem x us) → AreMetavars us
unfolding arguments_of
made_on b (skolemize i y) (Some e) x us m = subst AreMetavars (sym (ap arguments_of m)) (metavars_are (metavars b))
made_on b (skolemize i y) None x us m = absurd m
made_on b (expand i) o x us m = absurd m
made_on b (rewrite i r) o x us m = absurd m
made_on b (instantiate i y) o x us m = absurd m
made_on b (go_left i) o x us m = absurd m
made_on b (go_right i) o x us m = absurd m

-- the arguments of the Skolem terms that a tableau introduces are metavariables
pub introduced_on : (b : Branch) (t : Tableau) → OnMetavars (Introduces b t)
introduced_on b leaf x us m = absurd m
introduced_on b (step d t) x us (inl m) = made_on b d (slice_get (entries b) (principal d)) x us m
introduced_on b (step d t) x us (inr m) = introduced_on (after b d) t x us m
introduced_on b (split i l r) x us (inl m) = introduced_on (after b (go_left i)) l x us m
introduced_on b (split i l r) x us (inr m) = introduced_on (after b (go_right i)) r x us m

-- ---- entries
abbrev pub EntriesOver : List Symbol → (FreeTerm → Type 0) → List Entry → Type 0
EntriesOver fs S [] = Unit {0}
EntriesOver fs S (e ∷ es) = OverFormula fs S 0 e.formula × EntriesOver fs S es

-- what the rules make of a formula over the terms is one too
abbrev pub RulesKeep : List Symbol → (FreeTerm → Type 0) → List RewriteRule → Type 0
RulesKeep fs S rules = (a : FreeFormula) (r : Rewriting) → OverFormula fs S 0 a → Rewrites rules a (Some r) → OverFormula fs S 0 r.result

pub no_rules_keep : (fs : List Symbol) (S : FreeTerm → Type 0) → RulesKeep fs S []
no_rules_keep fs S a r o e = absurd (some_is_none r e)

result_of : Done → Option Rewriting
result_of (rewrite i r) = Some r
result_of (expand i) = None
result_of (skolemize i x) = None
result_of (instantiate i x) = None
result_of (go_left i) = None
result_of (go_right i) = None

module _ (fs : List Symbol) (S : FreeTerm → Type 0) where
  over_both : (es gs : List Entry) → EntriesOver fs S es → EntriesOver fs S gs → EntriesOver fs S (es ++ gs)
  over_both [] gs h k = k
  over_both (e ∷ es) gs h k = (h.0, over_both es gs h.1 k)

  over_map : (n : ℕ) (as_ : List FreeFormula) → AllOverFormula fs S as_ → EntriesOver fs S (map (entry n) as_)
  over_map n [] h = tt
  over_map n (a ∷ as_) h = (h.0, over_map n as_ h.1)

  pub over_at : (es : List Entry) (i : ℕ) (e : Entry) → EntriesOver fs S es → slice_get es i ≡ Some e → OverFormula fs S 0 e.formula
  over_at [] i e h at = absurd (none_is_some e at)
  over_at (x ∷ es) zero e h at = subst (λ z. OverFormula fs S 0 z.formula) (some_once x e at) h.0
  over_at (x ∷ es) (suc i) e h at = over_at es i e h.1 at

  -- the rewriting of a step that comes next
  rewritten_next : (b : Branch) (c : Class) (i j : ℕ) (a : FreeFormula) (r : Rewriting) → Serves b c i a (rewrite j r) → Rewrites b.rules a (Some r)
  unfolding result_of
  rewritten_next b conjunctive i j a r (inl x) = absurd (some_is_none r (ap result_of x.1))
  rewritten_next b conjunctive i j a r (inr x) = subst (Rewrites b.rules a) (sym (ap result_of x.2)) x.1
  rewritten_next b existential i j a r x = absurd (some_is_none r (ap result_of x))
  rewritten_next b disjunctive i j a r (inl x) = absurd (some_is_none r (ap result_of x))
  rewritten_next b disjunctive i j a r (inr x) = absurd (some_is_none r (ap result_of x))
  rewritten_next b universal i j a r x = absurd (some_is_none r (ap result_of x))

  made_over : OnMetavars S → (d : ℕ) (b : Branch) (s : Done) → RulesKeep fs S b.rules → ComesNext b d s → (e : Entry) → slice_get (entries b) (principal s) ≡ Some e
      → ((t : FreeTerm) → MakesOf b s (Some e) t → S t) → OverFormula fs S 0 e.formula → AllOverFormula fs S (made_of (metavars b) e.formula s)
  made_over on d b (expand i) keep x e at makes o = alpha_over fs S e.formula o
  made_over on d b (rewrite i r) keep x e at makes o =
      let same : x.entry ≡ e = some_once x.entry e (sym x.at ∙ at) in
      (keep e.formula r o (rewritten_next b x.class i i e.formula r (subst (λ z. Serves b x.class i z.formula (rewrite i r)) same x.serves)), tt)
  made_over on d b (skolemize i y) keep x e at makes o =
      delta_over fs S on (skolem_term (metavars b) e.formula y) (makes (skolem_term (metavars b) e.formula y) refl) e.formula o
  made_over on d b (instantiate i y) keep x e at makes o = gamma_over fs S on (metavar y) tt e.formula o
  made_over on d b (go_left i) keep x e at makes o = left_over fs S e.formula o
  made_over on d b (go_right i) keep x e at makes o = right_over fs S e.formula o

  after_over : OnMetavars S → (d : ℕ) (b : Branch) (s : Done) → RulesKeep fs S b.rules → ComesNext b d s
      → ((t : FreeTerm) → MakesOf b s (slice_get (entries b) (principal s)) t → S t) → EntriesOver fs S (entries b) → EntriesOver fs S (entries (after b s))
  after_over on d b s keep x makes h =
      subst (EntriesOver fs S) (sym (entries_grow b s)) (over_both (entries b) (appended b s) h (by_entry (slice_get (entries b) (principal s)) refl))
    where
      by_entry : (o : Option Entry) → slice_get (entries b) (principal s) ≡ o → EntriesOver fs S (appended b s)
      by_entry None at = subst (λ o. EntriesOver fs S (appended_to (metavars b) o s)) (sym at) tt
      by_entry (Some e) at =
          subst (λ o. EntriesOver fs S (appended_to (metavars b) o s)) (sym at)
          (over_map (level_of e.level s) (made_of (metavars b) e.formula s)
          (made_over on d b s keep x e at (λ t m. makes t (subst (λ o. MakesOf b s o t) (sym at) m)) (over_at (entries b) (principal s) e h at)))

  pub segments_over : OnMetavars S → (d n from : ℕ) (ds : List Done) (b : Branch) (t : Tableau) → RulesKeep fs S b.rules → IsTableau d b t
      → ((u : FreeTerm) → Introduces b t u → S u) → EntriesOver fs S (entries b)
      → Everywhere (λ _ gs. EntriesOver fs S (entries (top gs).branch)) n (segments n from ds b t)
  segments_over on d n from ds b leaf keep is makes h = h
  segments_over on d n from ds b (step s t) keep is makes h =
      segments_over on d n from (ds ++ s ∷ []) (after b s) t keep is.2 (λ u m. makes u (inr m))
      (after_over on d b s keep is.1 (λ u m. makes u (inl m)) h)
  segments_over on d n from ds b (split i l r) keep is makes h = (
    h,
    segments_over on d (2 * n) (length (entries b)) [] (after b (go_left i)) l keep is.1 (λ u m. makes u (inl m))
        (after_over on d b (go_left i) keep is.0 (λ u m. absurd m) h),
    segments_over on d (2 * n + 1) (length (entries b)) [] (after b (go_right i)) r keep is.2 (λ u m. makes u (inr m))
        (after_over on d b (go_right i) keep (right_side b d i is.0) (λ u m. absurd m) h),
  )

-- ---- terms of the round
module _ (fs : List Symbol) (b : Branch) (t : Tableau) where
  mutual
    over_is_term : (u : FreeTerm) → Over fs (Introduces b t) 0 u → IsTermOf fs b t u
    over_is_term (bound n) h = let none : ⊥ = omega (arith, h) in absurd none
    over_is_term (metavar x) h = tt
    over_is_term (skolem x us) h = h
    over_is_term (app f us) h = (h.0, all_are_terms us h.1)

    all_are_terms : (us : FreeTerms) → AllOver fs (Introduces b t) 0 us → AreTermsOf fs b t us
    all_are_terms no_terms h = tt
    all_are_terms (terms u us) h = (over_is_term u h.0, all_are_terms us h.1)

  pub over_are_terms : (us : FreeTerms) → AllOver fs (Introduces b t) 0 us → AreTermsOf fs b t us
  over_are_terms us h = all_are_terms us h

  of_metavars : (u : FreeTerm) (us : FreeTerms) → AreMetavars us → IsSubtermOfSome u us → IsTermOf fs b t u
  of_metavars u no_terms h s = absurd s
  of_metavars u (terms (metavar x) us) h (inl s) = subst (IsTermOf fs b t) (sym s) tt
  of_metavars u (terms (metavar x) us) h (inr s) = of_metavars u us h s
  of_metavars u (terms (bound n) us) h s = absurd h
  of_metavars u (terms (skolem x vs) us) h s = absurd h
  of_metavars u (terms (app f vs) us) h s = absurd h

  mutual
    subterm : (u v : FreeTerm) → IsTermOf fs b t v → IsSubterm u v → IsTermOf fs b t u
    subterm u (bound n) h s = absurd h
    subterm u (metavar x) h s = subst (IsTermOf fs b t) (sym s) tt
    subterm u (skolem x us) h (inl s) = subst (IsTermOf fs b t) (sym s) h
    subterm u (skolem x us) h (inr s) = of_metavars u us (introduced_on b t x us h) s
    subterm u (app f us) h (inl s) = subst (IsTermOf fs b t) (sym s) h
    subterm u (app f us) h (inr s) = subterm_of_some u us h.1 s

    subterm_of_some : (u : FreeTerm) (us : FreeTerms) → AreTermsOf fs b t us → IsSubtermOfSome u us → IsTermOf fs b t u
    subterm_of_some u no_terms h s = absurd s
    subterm_of_some u (terms v us) h (inl s) = subterm u v h.0 s
    subterm_of_some u (terms v us) h (inr s) = subterm_of_some u us h.1 s

  subterm_of_bound : (u : FreeTerm) (s : Offer) → IsOfRound fs b t s → IsSubtermOfBound u s → IsTermOf fs b t u
  subterm_of_bound u [] h x = absurd x
  subterm_of_bound u (c ∷ s) h (inl x) = subterm u c.term h.0 x
  subterm_of_bound u (c ∷ s) h (inr x) = subterm_of_bound u s h.1 x

  standing : (given : Offer) (us vs : FreeTerms) (u : FreeTerm) → IsOfRound fs b t given → AreTermsOf fs b t us → AreTermsOf fs b t vs → StandsIn given us vs u → IsTermOf fs b t u
  standing given us vs u g hu hv (inl x) = subterm_of_some u us hu x
  standing given us vs u g hu hv (inr (inl x)) = subterm_of_some u vs hv x
  standing given us vs u g hu hv (inr (inr x)) = subterm_of_bound u given g x

  new_of_round : (given : Offer) (us vs : FreeTerms) (more : Offer) → IsOfRound fs b t given → AreTermsOf fs b t us → AreTermsOf fs b t vs → AreNew given us vs more → IsOfRound fs b t more
  new_of_round given us vs [] g hu hv n = tt
  new_of_round given us vs (c ∷ more) g hu hv n = (standing given us vs c.term g hu hv n.1, new_of_round given us vs more g hu hv n.2)

  both_of_round : (s u : Offer) → IsOfRound fs b t s → IsOfRound fs b t u → IsOfRound fs b t (s ++ u)
  both_of_round [] u h k = k
  both_of_round (c ∷ s) u h k = (h.0, both_of_round s u h.1 k)

  -- What unification answers for lists of the round's terms, from an offer of the round, is of the round.
  pub unified_of_round : (given : Offer) (us vs : FreeTerms) (found : Offer) → IsOfRound fs b t given → AreTermsOf fs b t us → AreTermsOf fs b t vs
      → IsMostGeneral given us vs found → IsOfRound fs b t found
  unified_of_round given us vs found g hu hv m =
      subst (IsOfRound fs b t) (sym m.begins) (both_of_round given m.more g (new_of_round given us vs m.more g hu hv m.fresh))
