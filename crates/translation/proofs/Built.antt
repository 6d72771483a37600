-- Closed formulas of the calculus over a problem's function symbols, by the parameters that may stand in them.
use Rattle.std.proofs.Common.{◌≡◌, ℕ, zero, suc, ◌<◌, ◌≤◌, ◌^◌, Bool, true, false, ◌||◌, eqb, if◌then◌else◌, List, [], ◌∷◌, ◌++◌, Option, Some, None, slice_get, refl, ap, ap₂, sym, subst, arith, ◌⊎◌, inl, inr, ◌≢◌}
use Rattle.std.proofs.lemmas.Bool.Decides.{eqb_tells}
use Rattle.fol_core.specs.Syntax.{PlainTerm, PlainTerms, bound, param, app, no_terms, terms, PlainFormula, atom, verum, falsum, not, and, or, imp, iff, all, ex, open_term, open_terms, open_at, instance, free_in_term, free_in_terms, param_in_term, param_in_terms, param_in}
use Rattle.fol_core.specs.Symbol.{Symbol, SymbolTable}
use Rattle.fol_core.specs.Spelling.{HasArity, count, IsOver, AreOver}
use Rattle.fof_parse.specs.WellFormed.{IsWellFormedTerm, AreWellFormedTerms, IsWellFormed}
use Rattle.gs3_rules.specs.Rules.{Rule, close, false_at, not_true, alpha, beta, delta, gamma, alpha_parts, beta_parts, delta_part, gamma_part, IsFresh}
use Rattle.gs3_rules.specs.Refutes.{ProofTree, by, Premises, no_premises, premise, Refutes}

-- A term over these function symbols, each with its number of arguments, where n quantifiers stand around it, and
-- the parameters in it are of the kind P.
abbrev mutual
  pub IsBuiltTerm : List Symbol → (ℕ → Type 0) → ℕ → PlainTerm → Type 0
  IsBuiltTerm fs P n (bound k) = k < n
  IsBuiltTerm fs P n (param q) = P q
  IsBuiltTerm fs P n (app f us) = HasArity (slice_get fs f) (count us) × AreBuiltTerms fs P n us

  pub AreBuiltTerms : List Symbol → (ℕ → Type 0) → ℕ → PlainTerms → Type 0
  AreBuiltTerms fs P n no_terms = Unit {0}
  AreBuiltTerms fs P n (terms u us) = IsBuiltTerm fs P n u × AreBuiltTerms fs P n us

abbrev pub IsBuilt : List Symbol → (ℕ → Type 0) → ℕ → PlainFormula → Type 0
IsBuilt fs P n (atom p us) = AreBuiltTerms fs P n us
IsBuilt fs P n verum = Unit {0}
IsBuilt fs P n falsum = Unit {0}
IsBuilt fs P n (not a) = IsBuilt fs P n a
IsBuilt fs P n (and a b) = IsBuilt fs P n a × IsBuilt fs P n b
IsBuilt fs P n (or a b) = IsBuilt fs P n a × IsBuilt fs P n b
IsBuilt fs P n (imp a b) = IsBuilt fs P n a × IsBuilt fs P n b
IsBuilt fs P n (iff a b) = IsBuilt fs P n a × IsBuilt fs P n b
IsBuilt fs P n (all a) = IsBuilt fs P (suc n) a
IsBuilt fs P n (ex a) = IsBuilt fs P (suc n) a

-- the closed formulas of a list
abbrev pub AreBuilt : List Symbol → (ℕ → Type 0) → List PlainFormula → Type 0
AreBuilt fs P [] = Unit {0}
AreBuilt fs P (a ∷ list) = IsBuilt fs P 0 a × AreBuilt fs P list

pub both_built : (fs : List Symbol) (P : ℕ → Type 0) (xs ys : List PlainFormula) → AreBuilt fs P xs → AreBuilt fs P ys → AreBuilt fs P (xs ++ ys)
both_built fs P [] ys a b = b
both_built fs P (x ∷ xs) ys a b = (a.0, both_built fs P xs ys a.1 b)

some_once : {A : Type 0} (a b : A) → Some a ≡ Some b → a ≡ b
some_once a b e = cc

none_is_some : {A : Type 0} (a : A) → None ≡ Some a → ⊥
none_is_some a e = cc

pub built_at : (fs : List Symbol) (P : ℕ → Type 0) (list : List PlainFormula) (i : ℕ) (a : PlainFormula) → AreBuilt fs P list → slice_get list i ≡ Some a → IsBuilt fs P 0 a
built_at fs P [] i a h e = absurd (none_is_some a e)
built_at fs P (x ∷ list) zero a h e = subst (λ b. IsBuilt fs P 0 b) (some_once x a e) h.0
built_at fs P (x ∷ list) (suc i) a h e = built_at fs P list i a h.1 e

-- Other parameters, and more quantifiers.
module _ (fs : List Symbol) (P Q : ℕ → Type 0) (more : (q : ℕ) → P q → Q q) where
  mutual
    pub wider_term : (m n : ℕ) (t : PlainTerm) → m ≤ n → IsBuiltTerm fs P m t → IsBuiltTerm fs Q n t
    wider_term m n (bound k) le h = omega (arith, le, h)
    wider_term m n (param q) le h = more q h
    wider_term m n (app f us) le h = (h.0, wider_terms m n us le h.1)

    pub wider_terms : (m n : ℕ) (us : PlainTerms) → m ≤ n → AreBuiltTerms fs P m us → AreBuiltTerms fs Q n us
    wider_terms m n no_terms le h = tt
    wider_terms m n (terms u us) le h = (wider_term m n u le h.0, wider_terms m n us le h.1)

  pub wider : (n : ℕ) (a : PlainFormula) → IsBuilt fs P n a → IsBuilt fs Q n a
  wider n (atom p us) h = wider_terms n n us (omega arith) h
  wider n verum h = tt
  wider n falsum h = tt
  wider n (not a) h = wider n a h
  wider n (and a b) h = (wider n a h.0, wider n b h.1)
  wider n (or a b) h = (wider n a h.0, wider n b h.1)
  wider n (imp a b) h = (wider n a h.0, wider n b h.1)
  wider n (iff a b) h = (wider n a h.0, wider n b h.1)
  wider n (all a) h = wider (suc n) a h
  wider n (ex a) h = wider (suc n) a h

  pub all_wider : (list : List PlainFormula) → AreBuilt fs P list → AreBuilt fs Q list
  all_wider [] h = tt
  all_wider (a ∷ list) h = (wider 0 a h.0, all_wider list h.1)

module _ (fs : List Symbol) (P : ℕ → Type 0) where
  -- its variables are bound by the quantifiers around it
  mutual
    pub few_free : (n : ℕ) (t : PlainTerm) → IsBuiltTerm fs P n t → free_in_term t ≤ n
    few_free n (bound k) h = omega (arith, h)
    few_free n (param q) h = omega arith
    few_free n (app f us) h = few_free_all n us h.1

    pub few_free_all : (n : ℕ) (us : PlainTerms) → AreBuiltTerms fs P n us → free_in_terms us ≤ n
    few_free_all n no_terms h = omega arith
    few_free_all n (terms u us) h = omega (arith, few_free n u h.0, few_free_all n us h.1)

  pub closed_term : (t : PlainTerm) → IsBuiltTerm fs P 0 t → free_in_term t ≡ 0
  closed_term t h = omega (arith, few_free 0 t h)

  -- with its own parameters alone
  mutual
    pub own_term : (n : ℕ) (t : PlainTerm) → IsBuiltTerm fs P n t → IsBuiltTerm fs (λ q. P q × (param_in_term q t ≡ true)) n t
    own_term n (bound k) h = h
    own_term n (param q) h = (h, at_itself (eqb_tells q q)) where
      at_itself : ((eqb q q ≡ true) × (q ≡ q)) ⊎ ((eqb q q ≡ false) × (q ≢ q)) → eqb q q ≡ true
      at_itself (inl e) = e.0
      at_itself (inr e) = absurd (e.1 refl)
    own_term n (app f us) h = (h.0, own_terms n us h.1)

    pub own_terms : (n : ℕ) (us : PlainTerms) → AreBuiltTerms fs P n us → AreBuiltTerms fs (λ q. P q × (param_in_terms q us ≡ true)) n us
    own_terms n no_terms h = tt
    own_terms n (terms u us) h = (
      wider_term fs (λ q. P q × (param_in_term q u ≡ true)) (λ q. P q × ((param_in_term q u || param_in_terms q us) ≡ true))
          (λ q p. (p.0, ap (λ c. c || param_in_terms q us) p.1)) n n u (omega arith) (own_term n u h.0),
      wider_terms fs (λ q. P q × (param_in_terms q us ≡ true)) (λ q. P q × ((param_in_term q u || param_in_terms q us) ≡ true))
          (λ q p. (p.0, after_or (param_in_term q u) (param_in_terms q us) p.1)) n n us (omega arith) (own_terms n us h.1),
    ) where
      after_or : (c d : Bool) → d ≡ true → (c || d) ≡ true
      after_or true d e = refl
      after_or false d e = e

  -- spelled in a proof's text
  mutual
    pub over_term : ((q : ℕ) → P q → q < 2 ^ 64) → (t : PlainTerm) → IsBuiltTerm fs P 0 t → IsOver fs t
    over_term small (bound k) h = let no_place : ⊥ = omega (arith, h) in absurd no_place
    over_term small (param q) h = small q h
    over_term small (app f us) h = (h.0, over_terms small us h.1)

    pub over_terms : ((q : ℕ) → P q → q < 2 ^ 64) → (us : PlainTerms) → AreBuiltTerms fs P 0 us → AreOver fs us
    over_terms small no_terms h = tt
    over_terms small (terms u us) h = (over_term small u h.0, over_terms small us h.1)

  -- a parameter of another kind does not occur
  mutual
    param_not_in_term : (q n : ℕ) → (P q → ⊥) → (t : PlainTerm) → IsBuiltTerm fs P n t → param_in_term q t ≡ false
    param_not_in_term q n other (bound k) h = refl
    param_not_in_term q n other (param m) h = by_test (eqb_tells m q) where
      by_test : ((eqb m q ≡ true) × (m ≡ q)) ⊎ ((eqb m q ≡ false) × (m ≢ q)) → eqb m q ≡ false
      by_test (inl e) = absurd (other (subst P e.1 h))
      by_test (inr e) = e.0
    param_not_in_term q n other (app f us) h = param_not_in_terms q n other us h.1

    param_not_in_terms : (q n : ℕ) → (P q → ⊥) → (us : PlainTerms) → AreBuiltTerms fs P n us → param_in_terms q us ≡ false
    param_not_in_terms q n other no_terms h = refl
    param_not_in_terms q n other (terms u us) h =
        ap₂ (λ c d. c || d) (param_not_in_term q n other u h.0) (param_not_in_terms q n other us h.1)

  param_not_in : (q n : ℕ) → (P q → ⊥) → (a : PlainFormula) → IsBuilt fs P n a → param_in q a ≡ false
  param_not_in q n other (atom p us) h = param_not_in_terms q n other us h
  param_not_in q n other verum h = refl
  param_not_in q n other falsum h = refl
  param_not_in q n other (not a) h = param_not_in q n other a h
  param_not_in q n other (and a b) h = ap₂ (λ c d. c || d) (param_not_in q n other a h.0) (param_not_in q n other b h.1)
  param_not_in q n other (or a b) h = ap₂ (λ c d. c || d) (param_not_in q n other a h.0) (param_not_in q n other b h.1)
  param_not_in q n other (imp a b) h = ap₂ (λ c d. c || d) (param_not_in q n other a h.0) (param_not_in q n other b h.1)
  param_not_in q n other (iff a b) h = ap₂ (λ c d. c || d) (param_not_in q n other a h.0) (param_not_in q n other b h.1)
  param_not_in q n other (all a) h = param_not_in q (suc n) other a h
  param_not_in q n other (ex a) h = param_not_in q (suc n) other a h

  pub fresh_in : (q : ℕ) → (P q → ⊥) → (list : List PlainFormula) → AreBuilt fs P list → IsFresh q list
  fresh_in q other [] h = tt
  fresh_in q other (a ∷ list) h = (param_not_in q 0 other a h.0, fresh_in q other list h.1)

  -- a closed term in place of the outermost variable
  mutual
    count_opened : (k : ℕ) (t : PlainTerm) (us : PlainTerms) → count us ≡ count (open_terms k t us)
    count_opened k t no_terms = refl
    count_opened k t (terms u us) = ap suc (count_opened k t us)

  mutual
    opened_term : (n : ℕ) (t u : PlainTerm) → IsBuiltTerm fs P 0 t → IsBuiltTerm fs P (suc n) u → IsBuiltTerm fs P n (open_term n t u)
    opened_term n t (bound k) c h = by_test (eqb_tells k n) where
      by_test : ((eqb k n ≡ true) × (k ≡ n)) ⊎ ((eqb k n ≡ false) × (k ≢ n)) → IsBuiltTerm fs P n (if eqb k n then t else bound k)
      by_test (inl e) = subst (λ b. IsBuiltTerm fs P n (if b then t else bound k)) (sym e.0) (wider_term fs P P (λ q p. p) 0 n t (omega arith) c)
      by_test (inr e) = subst (λ b. IsBuiltTerm fs P n (if b then t else bound k)) (sym e.0) (omega (arith, h, e.1))
    opened_term n t (param q) c h = h
    opened_term n t (app f us) c h = (subst (λ m. HasArity (slice_get fs f) m) (count_opened n t us) h.0, opened_terms n t us c h.1)

    opened_terms : (n : ℕ) (t : PlainTerm) (us : PlainTerms) → IsBuiltTerm fs P 0 t → AreBuiltTerms fs P (suc n) us → AreBuiltTerms fs P n (open_terms n t us)
    opened_terms n t no_terms c h = tt
    opened_terms n t (terms u us) c h = (opened_term n t u c h.0, opened_terms n t us c h.1)

  pub opened : (n : ℕ) (t : PlainTerm) (a : PlainFormula) → IsBuiltTerm fs P 0 t → IsBuilt fs P (suc n) a → IsBuilt fs P n (open_at n t a)
  opened n t (atom p us) c h = opened_terms n t us c h
  opened n t verum c h = tt
  opened n t falsum c h = tt
  opened n t (not a) c h = opened n t a c h
  opened n t (and a b) c h = (opened n t a c h.0, opened n t b c h.1)
  opened n t (or a b) c h = (opened n t a c h.0, opened n t b c h.1)
  opened n t (imp a b) c h = (opened n t a c h.0, opened n t b c h.1)
  opened n t (iff a b) c h = (opened n t a c h.0, opened n t b c h.1)
  opened n t (all a) c h = opened (suc n) t a c h
  opened n t (ex a) c h = opened (suc n) t a c h

  -- the parts of a formula
  abbrev pub PartsBuilt : Option (List PlainFormula) → Type 0
  PartsBuilt None = Unit {0}
  PartsBuilt (Some parts) = AreBuilt fs P parts

  abbrev pub SidesBuilt : Option (List PlainFormula × List PlainFormula) → Type 0
  SidesBuilt None = Unit {0}
  SidesBuilt (Some sides) = AreBuilt fs P sides.0 × AreBuilt fs P sides.1

  abbrev pub PartBuilt : Option PlainFormula → Type 0
  PartBuilt None = Unit {0}
  PartBuilt (Some part) = IsBuilt fs P 0 part

  pub alpha_built : (a : PlainFormula) → IsBuilt fs P 0 a → PartsBuilt (alpha_parts a)
  alpha_built (not (not a)) h = (h, tt)
  alpha_built (and a b) h = (h.0, (h.1, tt))
  alpha_built (not (or a b)) h = (h.0, (h.1, tt))
  alpha_built (not (imp a b)) h = (h.0, (h.1, tt))
  alpha_built a h = tt

  pub beta_built : (a : PlainFormula) → IsBuilt fs P 0 a → SidesBuilt (beta_parts a)
  beta_built (or a b) h = ((h.0, tt), (h.1, tt))
  beta_built (not (and a b)) h = ((h.0, tt), (h.1, tt))
  beta_built (imp a b) h = ((h.0, tt), (h.1, tt))
  beta_built (iff a b) h = ((h.0, (h.1, tt)), (h.0, (h.1, tt)))
  beta_built (not (iff a b)) h = ((h.0, (h.1, tt)), (h.0, (h.1, tt)))
  beta_built a h = tt

  pub delta_built : (t : PlainTerm) → IsBuiltTerm fs P 0 t → (a : PlainFormula) → IsBuilt fs P 0 a → PartBuilt (delta_part (λ b. instance b t) a)
  delta_built t c (ex a) h = opened 0 t a c h
  delta_built t c (not (all a)) h = opened 0 t a c h
  delta_built t c a h = tt

  pub gamma_built : (t : PlainTerm) → IsBuiltTerm fs P 0 t → (a : PlainFormula) → IsBuilt fs P 0 a → PartBuilt (gamma_part (λ b. instance b t) a)
  gamma_built t c (all a) h = opened 0 t a c h
  gamma_built t c (not (ex a)) h = opened 0 t a c h
  gamma_built t c a h = tt

-- a problem's formulas hold no parameter
module _ (table : SymbolTable) (P : ℕ → Type 0) where
  mutual
    well_formed_term : (n : ℕ) (t : PlainTerm) → IsWellFormedTerm table.functions n t → IsBuiltTerm table.functions P n t
    well_formed_term n (bound k) h = h
    well_formed_term n (param q) h = absurd h
    well_formed_term n (app f us) h = (h.0, well_formed_terms n us h.1)

    well_formed_terms : (n : ℕ) (us : PlainTerms) → AreWellFormedTerms table.functions n us → AreBuiltTerms table.functions P n us
    well_formed_terms n no_terms h = tt
    well_formed_terms n (terms u us) h = (well_formed_term n u h.0, well_formed_terms n us h.1)

  pub well_formed : (n : ℕ) (a : PlainFormula) → IsWellFormed table n a → IsBuilt table.functions P n a
  well_formed n (atom p us) h = well_formed_terms n us h.1
  well_formed n verum h = tt
  well_formed n falsum h = tt
  well_formed n (not a) h = well_formed n a h
  well_formed n (and a b) h = (well_formed n a h.0, well_formed n b h.1)
  well_formed n (or a b) h = (well_formed n a h.0, well_formed n b h.1)
  well_formed n (imp a b) h = (well_formed n a h.0, well_formed n b h.1)
  well_formed n (iff a b) h = (well_formed n a h.0, well_formed n b h.1)
  well_formed n (all a) h = well_formed (suc n) a h
  well_formed n (ex a) h = well_formed (suc n) a h

-- each term of the proof's steps has the property
abbrev pub HasTerm : (PlainTerm → Type 0) → Rule → Type 0
HasTerm P (close i j) = Unit {0}
HasTerm P (false_at i) = Unit {0}
HasTerm P (not_true i) = Unit {0}
HasTerm P (alpha i) = Unit {0}
HasTerm P (beta i) = Unit {0}
HasTerm P (delta i n) = Unit {0}
HasTerm P (gamma i t) = P t

abbrev mutual
  pub HasTerms : (PlainTerm → Type 0) → ProofTree → Type 0
  HasTerms P (by rule subtrees) = HasTerm P rule × HaveTerms P subtrees

  pub HaveTerms : (PlainTerm → Type 0) → Premises → Type 0
  HaveTerms P no_premises = Unit {0}
  HaveTerms P (premise tree subtrees) = HasTerms P tree × HaveTerms P subtrees

-- A refutation of the list whose terms are closed terms over these function symbols, with parameters up to the number.
abbrev pub Proves : List Symbol → ℕ → List PlainFormula → ProofTree → Type 0
Proves fs most list tree = Refutes list tree × HasTerms (IsBuiltTerm fs (λ q. q ≤ most) 0) tree
