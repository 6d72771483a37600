-- What a clash says of the parts of terms, and that no offer makes it go away.
use Rattle.std.proofs.Common.{length, IsTrue, true, false, Bool, not, nat_eq, ◌≡◌, ◌↔◌, ◌⊎◌, inl, inr, ℕ, zero, suc, List, [], ◌∷◌, Option, Some, None, option_and_then, refl, ap, sym, subst, ◌∙◌}
use Rattle.free_terms.specs.Free.{Name, FreeTerm, FreeTerms, bound, metavar, skolem, app, no_terms, terms}
use Rattle.free_terms.specs.View.{name_of, term_of, terms_of}
use Rattle.free_terms.specs.declared.term.FTerm.{FTerm}
use Rattle.free_terms.specs.declared.term.FTerm.TheVariants.{Bound, Meta, Skolem, App}
use Rattle.free_terms.specs.declared.term.Name.{Name as ProgramName}
use Rattle.free_terms.proofs.Trees.{term_of_bound, term_of_meta, term_of_skolem, term_of_app}
use Rattle.std.proofs.lemmas.Bool.{false≢true}
use Rattle.std.proofs.lemmas.Bool.Decides.{eqb_tells}
use Rattle.std.proofs.Common.{eqb, ◌≢◌, ◌&&◌, ◌+◌, ◌<◌, get_or, drop, arith}
use Rattle.std.proofs.Math.Seq.{drop-cons}
use Rattle.unify.proofs.Acyclic.{tells}
use Rattle.unify.specs.Offers.{same_name, substitute, substitute_all, value_within}
use Rattle.lit_index.specs.Apart.{Symbol, variable, skolem_symbol, function_symbol, symbol_of, arguments_of, term_at, symbol_at, Clash, AreApart, NoOfferEquates}

some_is_none : {A : Type 0} (a : A) → Some a ≡ None → ⊥
some_is_none a e = cc

some_once : {A : Type 0} (a b : A) → Some a ≡ Some b → a ≡ b
some_once a b e = cc

-- ---- no offer makes a clash go away

term_in_all : (v : Name → FreeTerm) (i : ℕ) (us : FreeTerms) (t : FreeTerm) → term_at i us ≡ Some t → term_at i (substitute_all v us) ≡ Some (substitute v t)
term_in_all v i no_terms t e = absurd (some_is_none t (sym e))
term_in_all v zero (terms u us) t e = ap (λ (w : FreeTerm). Some (substitute v w)) (some_once u t e)
term_in_all v (suc i) (terms u us) t e = term_in_all v i us t e

-- what leads on from a term leads on from its argument there
argument : (position : List ℕ) (o : Option FreeTerm) (f : Symbol) → option_and_then (λ u. symbol_at position u) o ≡ Some f
    → (u : FreeTerm) × (o ≡ Some u) × (symbol_at position u ≡ Some f)
argument position None f e = absurd (some_is_none f (sym e))
argument position (Some u) f e = (u, refl, e)

symbol_stays : (v : Name → FreeTerm) (position : List ℕ) (t : FreeTerm) (f : Symbol) → symbol_at position t ≡ Some f → symbol_at position (substitute v t) ≡ Some f
symbol_stays v [] (bound n) f e = e
symbol_stays v [] (metavar x) f e = absurd (some_is_none f (sym e))
symbol_stays v [] (skolem x us) f e = e
symbol_stays v [] (app g us) f e = e
symbol_stays v (i ∷ position) (bound n) f e = absurd (some_is_none f (sym e))
symbol_stays v (i ∷ position) (metavar x) f e = absurd (some_is_none f (sym e))
symbol_stays v (i ∷ position) (skolem x us) f e =
    let p = argument position (term_at i us) f e in
    ap (λ (o : Option FreeTerm). option_and_then (λ u. symbol_at position u) o) (term_in_all v i us p.0 p.1) ∙ symbol_stays v position p.0 f p.2
symbol_stays v (i ∷ position) (app g us) f e =
    let p = argument position (term_at i us) f e in
    ap (λ (o : Option FreeTerm). option_and_then (λ u. symbol_at position u) o) (term_in_all v i us p.0 p.1) ∙ symbol_stays v position p.0 f p.2

pub never_equated : (ts us : FreeTerms) → AreApart ts us → NoOfferEquates ts us
never_equated ts us apart s same = apart.clash.differ one where
  v : Name → FreeTerm
  v = value_within (length s) s

  terms_same : substitute v apart.left ≡ substitute v apart.right
  terms_same =
      some_once _ _ (sym (term_in_all v apart.place ts apart.left apart.at_left)
      ∙ (ap (λ (ws : FreeTerms). term_at apart.place ws) same ∙ term_in_all v apart.place us apart.right apart.at_right))

  one : apart.clash.left ≡ apart.clash.right
  one =
      some_once _ _ (sym (symbol_stays v apart.clash.position apart.left apart.clash.left apart.clash.at_left)
      ∙ (ap (λ (w : FreeTerm). symbol_at apart.clash.position w) terms_same ∙ symbol_stays v apart.clash.position apart.right apart.clash.right apart.clash.at_right))

-- ---- lists, part by part

pub none_left : (us : FreeTerms) → AreApart no_terms us → ⊥
none_left us apart = some_is_none apart.left (sym apart.at_left)

pub none_right : (ts : FreeTerms) → AreApart ts no_terms → ⊥
none_right ts apart = some_is_none apart.right (sym apart.at_right)

pub apart_first : (t u : FreeTerm) (ts us : FreeTerms) → Clash t u → AreApart (terms t ts) (terms u us)
apart_first t u ts us clash = record { place = zero; left = t; right = u; at_left = refl; at_right = refl; clash = clash }

pub apart_later : (t u : FreeTerm) (ts us : FreeTerms) → AreApart ts us → AreApart (terms t ts) (terms u us)
apart_later t u ts us apart = record {
  place = suc apart.place;
  left = apart.left;
  right = apart.right;
  at_left = apart.at_left;
  at_right = apart.at_right;
  clash = apart.clash;
}

pub apart_cases : (t u : FreeTerm) (ts us : FreeTerms) → AreApart (terms t ts) (terms u us) → Clash t u ⊎ AreApart ts us
apart_cases t u ts us apart = by_place apart.place apart.at_left apart.at_right where
  by_place : (i : ℕ) → term_at i (terms t ts) ≡ Some apart.left → term_at i (terms u us) ≡ Some apart.right → Clash t u ⊎ AreApart ts us
  by_place zero l r =
      inl (subst (λ (w : FreeTerm). Clash t w) (some_once apart.right u (sym r)) (subst (λ (w : FreeTerm). Clash w apart.right) (some_once apart.left t (sym l)) apart.clash))
  by_place (suc i) l r = inr (record { place = i; left = apart.left; right = apart.right; at_left = l; at_right = r; clash = apart.clash })

-- ---- terms, by their symbols

pub clash_symbols : (t u : FreeTerm) (f g : Symbol) → symbol_of t ≡ Some f → symbol_of u ≡ Some g → (f ≡ g → ⊥) → Clash t u
clash_symbols t u f g l r differ = record { position = []; left = f; right = g; at_left = l; at_right = r; differ = differ }

pub clash_arguments : (t u : FreeTerm) → AreApart (arguments_of t) (arguments_of u) → Clash t u
clash_arguments t u apart = record {
  position = apart.place ∷ apart.clash.position;
  left = apart.clash.left;
  right = apart.clash.right;
  at_left = ap (λ (o : Option FreeTerm). option_and_then (λ w. symbol_at apart.clash.position w) o) apart.at_left ∙ apart.clash.at_left;
  at_right = ap (λ (o : Option FreeTerm). option_and_then (λ w. symbol_at apart.clash.position w) o) apart.at_right ∙ apart.clash.at_right;
  differ = apart.clash.differ;
}

pub clash_cases : (t u : FreeTerm) (f g : Symbol) → symbol_of t ≡ Some f → symbol_of u ≡ Some g → Clash t u
    → (f ≡ g → ⊥) ⊎ AreApart (arguments_of t) (arguments_of u)
clash_cases t u f g l r clash = by_position clash.position clash.at_left clash.at_right where
  by_position : (p : List ℕ) → symbol_at p t ≡ Some clash.left → symbol_at p u ≡ Some clash.right → (f ≡ g → ⊥) ⊎ AreApart (arguments_of t) (arguments_of u)
  by_position [] a b = inl (λ e. clash.differ (some_once _ _ (sym a ∙ l) ∙ (e ∙ some_once _ _ (sym r ∙ b))))
  by_position (i ∷ p) a b =
      let x = argument p (term_at i (arguments_of t)) clash.left a in
      let y = argument p (term_at i (arguments_of u)) clash.right b in
      inr (record {
        place = i;
        left = x.0;
        right = y.0;
        at_left = x.1;
        at_right = y.1;
        clash = record { position = p; left = clash.left; right = clash.right; at_left = x.2; at_right = y.2; differ = clash.differ };
      })

-- ---- the program's terms

pub bound_has : (t : FTerm) (n : ℕ) → t ≡ Bound n → symbol_of (term_of t) ≡ Some (variable n)
bound_has t n is = ap (λ (w : FTerm). symbol_of (term_of w)) is ∙ ap symbol_of (term_of_bound n)

pub meta_has : (t : FTerm) (x : ProgramName) → t ≡ Meta x → symbol_of (term_of t) ≡ None
meta_has t x is = ap (λ (w : FTerm). symbol_of (term_of w)) is ∙ ap symbol_of (term_of_meta x)

pub skolem_has : (t : FTerm) (x : ProgramName) (us : List FTerm) → t ≡ Skolem x us → symbol_of (term_of t) ≡ Some (skolem_symbol (name_of x))
skolem_has t x us is = ap (λ (w : FTerm). symbol_of (term_of w)) is ∙ ap symbol_of (term_of_skolem x us)

pub app_has : (t : FTerm) (f : ℕ) (us : List FTerm) → t ≡ App f us → symbol_of (term_of t) ≡ Some (function_symbol f)
app_has t f us is = ap (λ (w : FTerm). symbol_of (term_of w)) is ∙ ap symbol_of (term_of_app f us)

pub skolem_arguments : (t : FTerm) (x : ProgramName) (us : List FTerm) → t ≡ Skolem x us → arguments_of (term_of t) ≡ terms_of us
skolem_arguments t x us is = ap (λ (w : FTerm). arguments_of (term_of w)) is ∙ ap arguments_of (term_of_skolem x us)

pub app_arguments : (t : FTerm) (f : ℕ) (us : List FTerm) → t ≡ App f us → arguments_of (term_of t) ≡ terms_of us
app_arguments t f us is = ap (λ (w : FTerm). arguments_of (term_of w)) is ∙ ap arguments_of (term_of_app f us)

-- ---- answers by the symbols of both

abbrev pub Tells : Bool → FreeTerm → FreeTerm → Type 0
Tells b t u = (IsTrue b → Clash t u) × (Clash t u → IsTrue b)

pub differ : (t u : FreeTerm) (f g : Symbol) → symbol_of t ≡ Some f → symbol_of u ≡ Some g → (f ≡ g → ⊥) → Tells true t u
differ t u f g l r apart = (λ _. clash_symbols t u f g l r apart, λ _. refl)

no_symbol : (t : FreeTerm) (position : List ℕ) (f : Symbol) → symbol_of t ≡ None → symbol_at position t ≡ Some f → ⊥
no_symbol (bound n) position f none e = some_is_none _ none
no_symbol (metavar x) [] f none e = some_is_none f (sym e)
no_symbol (metavar x) (i ∷ position) f none e = some_is_none f (sym e)
no_symbol (skolem x us) position f none e = some_is_none _ none
no_symbol (app g us) position f none e = some_is_none _ none

pub open_left : (t u : FreeTerm) → symbol_of t ≡ None → Tells false t u
open_left t u none = (λ h. absurd (false≢true h), λ clash. absurd (no_symbol t clash.position clash.left none clash.at_left))

pub open_right : (t u : FreeTerm) → symbol_of u ≡ None → Tells false t u
open_right t u none = (λ h. absurd (false≢true h), λ clash. absurd (no_symbol u clash.position clash.right none clash.at_right))

-- of one symbol, the arguments decide
pub same_symbol : (t u : FreeTerm) (f g : Symbol) (ts us : FreeTerms) (b : Bool) → symbol_of t ≡ Some f → symbol_of u ≡ Some g → f ≡ g
    → arguments_of t ≡ ts → arguments_of u ≡ us → (IsTrue b → AreApart ts us) × (AreApart ts us → IsTrue b) → Tells b t u
same_symbol t u f g ts us b l r same ats aus below = (
  λ h. clash_arguments t u (back (below.0 h)),
  λ clash. by_case (clash_cases t u f g l r clash),
) where
  back : AreApart ts us → AreApart (arguments_of t) (arguments_of u)
  back apart = subst (λ (w : FreeTerms). AreApart (arguments_of t) w) (sym aus) (subst (λ (w : FreeTerms). AreApart w us) (sym ats) apart)

  on : AreApart (arguments_of t) (arguments_of u) → AreApart ts us
  on apart = subst (λ (w : FreeTerms). AreApart ts w) aus (subst (λ (w : FreeTerms). AreApart w (arguments_of u)) ats apart)

  by_case : (f ≡ g → ⊥) ⊎ AreApart (arguments_of t) (arguments_of u) → IsTrue b
  by_case (inl apart) = absurd (apart same)
  by_case (inr apart) = below.1 (on apart)

no_argument : (n : ℕ) (t : FreeTerm) → symbol_of t ≡ Some (variable n) → arguments_of t ≡ no_terms
no_argument n (bound m) e = refl
no_argument n (metavar x) e = refl
no_argument n (skolem x us) e = absurd (let none : ⊥ = cc in none)
no_argument n (app f us) e = absurd (let none : ⊥ = cc in none)

pub variables : (t u : FreeTerm) (m n : ℕ) → symbol_of t ≡ Some (variable m) → symbol_of u ≡ Some (variable n) → Tells (not (nat_eq m n)) t u
variables t u m n l r = by_case (eqb_tells m n) where
  by_case : ((eqb m n ≡ true) × (m ≡ n)) ⊎ ((eqb m n ≡ false) × (m ≢ n)) → Tells (not (nat_eq m n)) t u
  by_case (inl p) =
      let Q : Bool → Type 0 = λ b. Tells (not b) t u in
      subst Q (sym p.0)
      (same_symbol t u (variable m) (variable n) no_terms no_terms false l r (ap variable p.1) (no_argument m t l) (no_argument n u r)
      (λ h. absurd (false≢true h), λ apart. absurd (none_left no_terms apart)))
  by_case (inr p) =
      let Q : Bool → Type 0 = λ b. Tells (not b) t u in
      subst Q (sym p.0) (differ t u (variable m) (variable n) l r (λ e. p.1 (let q : m ≡ n = cc in q)))

pub name_differs : (x y : ProgramName) → (eqb x.segment y.segment && eqb x.count y.count) ≡ false → skolem_symbol (name_of x) ≡ skolem_symbol (name_of y) → ⊥
name_differs x y unequal same = by_case (tells (name_of x) (name_of y)) where
  by_case : ((same_name (name_of x) (name_of y) ≡ true) × (name_of x ≡ name_of y)) ⊎ ((same_name (name_of x) (name_of y) ≡ false) × (name_of x ≢ name_of y)) → ⊥
  by_case (inl p) = false≢true (sym unequal ∙ p.0)
  by_case (inr p) = p.1 (let q : name_of x ≡ name_of y = cc (same) in q)

-- ---- the program's lists, from a place on

rest_is : (us : List FTerm) (i : ℕ) (u : FTerm) → u ≡ get_or us i u → i < length us → terms_of (drop i us) ≡ terms (term_of u) (terms_of (drop (i + 1) us))
rest_is us i u is within =
    ap terms_of (drop-cons us i u within)
    ∙ (ap (λ (w : FTerm). terms (term_of w) (terms_of (drop (suc i) us))) (sym is)
    ∙ ap (λ (n : ℕ). terms (term_of u) (terms_of (drop n us))) (let e : suc i ≡ i + 1 = omega arith in e))

-- from a place on, the terms there clash, or those behind
pub step_apart : (us vs : List FTerm) (i : ℕ) (u v : FTerm) → u ≡ get_or us i u → v ≡ get_or vs i v → i < length us → i < length vs
    → AreApart (terms_of (drop i us)) (terms_of (drop i vs)) ↔ (Clash (term_of u) (term_of v) ⊎ AreApart (terms_of (drop (i + 1) us)) (terms_of (drop (i + 1) vs)))
step_apart us vs i u v at_u at_v in_us in_vs = (
  λ apart. apart_cases (term_of u) (term_of v) (terms_of (drop (i + 1) us)) (terms_of (drop (i + 1) vs))
      (subst (λ (w : FreeTerms). AreApart (terms (term_of u) (terms_of (drop (i + 1) us))) w) (rest_is vs i v at_v in_vs)
      (subst (λ (w : FreeTerms). AreApart w (terms_of (drop i vs))) (rest_is us i u at_u in_us) apart)),
  λ found.
      subst (λ (w : FreeTerms). AreApart (terms_of (drop i us)) w) (sym (rest_is vs i v at_v in_vs))
      (subst (λ (w : FreeTerms). AreApart w (terms (term_of v) (terms_of (drop (i + 1) vs)))) (sym (rest_is us i u at_u in_us)) (either found)),
) where
  either : Clash (term_of u) (term_of v) ⊎ AreApart (terms_of (drop (i + 1) us)) (terms_of (drop (i + 1) vs))
      → AreApart (terms (term_of u) (terms_of (drop (i + 1) us))) (terms (term_of v) (terms_of (drop (i + 1) vs)))
  either (inl clash) = apart_first (term_of u) (term_of v) (terms_of (drop (i + 1) us)) (terms_of (drop (i + 1) vs)) clash
  either (inr apart) = apart_later (term_of u) (term_of v) (terms_of (drop (i + 1) us)) (terms_of (drop (i + 1) vs)) apart
