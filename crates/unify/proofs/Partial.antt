-- Unification on its way: an offer that goes on from the given one, and the pairs that are left. Each
-- step keeps that they come to what the given offer and the first pairs came to.
use Rattle.std.proofs.Common.{◌≡◌, ℕ, suc, ◌+◌, ◌≤◌, Bool, true, false, List, [], ◌∷◌, ◌++◌, map, Option, Some, None, refl, ap, sym, ◌∙◌, subst, arith, ◌⊎◌, inl, inr, append_assoc, if◌then◌else◌}
use Rattle.std.specs.List.{IsDistinct, AllByRecursion}
use Rattle.free_terms.specs.Free.{Name, FreeTerm, FreeTerms, bound, metavar, skolem, app, no_terms, terms}
use Rattle.unify.specs.Offers.{Offer, Binding, Equates, Entails, OccursIn, IsOffer, IsSubterm, IsSubtermOfSome, IsSubtermOfBound, AreNew, IsMostGeneral, Unifies, value_of, resolved, same_name}
use Rattle.unify.specs.Work.{Pairs, Agrees, count, zipped, IsSubtermOfPair, Stands, AllStand, Reduces, Binds, Clashes}
use Rattle.unify.proofs.Acyclic.{resolved_binding}
use Rattle.unify.proofs.Extend.{extended_acyclic}
use Rattle.unify.proofs.Subterms.{stands_in, stands_deeper, stands_at, all_stand_in}
use Rattle.unify.proofs.Parts.{true_of_name, zipped_agree, zipped_equate}

-- bindings that the given offer leaves open, of terms that stand in it or in the first pairs
abbrev pub AreFrom : Offer → Pairs → Offer → Type 0
AreFrom given start [] = Unit {0}
AreFrom given start (b ∷ more) = (value_of given b.name ≡ None) × Stands given start b.term × AreFrom given start more

pub record IsPartial (given : Offer) (start : Pairs) (s : Offer) (work : Pairs) : Type 0 where
  pub offer : IsOffer s
  pub more : Offer
  pub begins : s ≡ given ++ more
  pub fresh : AreFrom given start more
  pub stand : AllStand given start work
  pub sound : (r : Offer) → Entails r s → Agrees r work → Agrees r start
  pub general : (r : Offer) → IsOffer r → Entails r given → Agrees r start → Entails r s × Agrees r work

-- ---- lists of bindings
value_before : (s t : Offer) (x : Name) → value_of (s ++ t) x ≡ None → value_of s x ≡ None
value_before [] t x e = refl
value_before (b ∷ s) t x e = by_case (same_name b.name x) (value_before s t x) e where
  by_case : (q : Bool) → (value_of (s ++ t) x ≡ None → value_of s x ≡ None)
      → (if q then Some b.term else value_of (s ++ t) x) ≡ None → (if q then Some b.term else value_of s x) ≡ None
  by_case true later z = z
  by_case false later z = later z

-- an unbound name is none of the bound ones
apart_of_unbound : (s : Offer) (x : Name) → value_of s x ≡ None → AllByRecursion (λ y. same_name y x ≡ false) (map (λ b. b.name) s)
apart_of_unbound [] x e = tt
apart_of_unbound (b ∷ s) x e = by_case (same_name b.name x) refl (apart_of_unbound s x) e where
  some_is_none : {A : Type 0} (a : A) → Some a ≡ None → ⊥
  some_is_none a z = cc

  by_case : (q : Bool) → same_name b.name x ≡ q → (value_of s x ≡ None → AllByRecursion (λ y. same_name y x ≡ false) (map (λ b. b.name) s))
      → (if q then Some b.term else value_of s x) ≡ None → (same_name b.name x ≡ false) × AllByRecursion (λ y. same_name y x ≡ false) (map (λ b. b.name) s)
  by_case true n later z = absurd (some_is_none _ z)
  by_case false n later z = (n, later z)

names_with : (s : Offer) (b : Binding) → map (λ c. c.name) (s ++ b ∷ []) ≡ map (λ c. c.name) s ++ b.name ∷ []
names_with [] b = refl
names_with (c ∷ s) b = ap (λ ns. c.name ∷ ns) (names_with s b)

all_with : (P : Name → Type 0) (xs : List Name) (x : Name) → AllByRecursion P xs → P x → AllByRecursion P (xs ++ x ∷ [])
all_with P [] x a p = (p, tt)
all_with P (y ∷ xs) x a p = (a.0, all_with P xs x a.1 p)

distinct_with : (xs : List Name) (x : Name) → IsDistinct same_name xs → AllByRecursion (λ y. same_name y x ≡ false) xs → IsDistinct same_name (xs ++ x ∷ [])
unfolding IsDistinct
distinct_with [] x d a = (tt, tt)
distinct_with (y ∷ xs) x d a = (all_with (λ z. same_name y z ≡ false) xs x d.0 a.0, distinct_with xs x d.1 a.1)

pub extended : (s : Offer) (x : Name) (t : FreeTerm) → IsOffer s → value_of s x ≡ None → (OccursIn x (resolved s t) → ⊥)
    → IsOffer (s ++ record { name = x; term = t } ∷ [])
extended s x t o e fresh = record {
  distinct = subst (IsDistinct same_name) (sym (names_with s (record { name = x; term = t })))
      (distinct_with (map (λ b. b.name) s) x o.distinct (apart_of_unbound s x e));
  acyclic = extended_acyclic s o x t e fresh;
}

-- each binding of an offer is the first of its name, so that the offer entails itself
abbrev Names : Offer → List Name
Names s = map (λ b. b.name) s

skipped : (b c : Binding) (s : Offer) → same_name b.name c.name ≡ false → value_of (b ∷ s) c.name ≡ value_of s c.name
skipped b c s e = ap (λ q. if q then Some b.term else value_of s c.name) e

abbrev AreFirst : Offer → Offer → Type 0
AreFirst s [] = Unit {0}
AreFirst s (b ∷ t) = (value_of s b.name ≡ Some b.term) × AreFirst s t

still_first : (b : Binding) (s t : Offer) → AllByRecursion (λ y. same_name b.name y ≡ false) (Names t) → AreFirst s t → AreFirst (b ∷ s) t
still_first b s [] a f = tt
still_first b s (c ∷ t) a f = (skipped b c s a.0 ∙ f.0, still_first b s t a.1 f.1)

all_first : (s : Offer) → IsDistinct same_name (Names s) → AreFirst s s
unfolding IsDistinct
all_first [] d = tt
all_first (b ∷ s) d =
    (ap (λ q. if q then Some b.term else value_of s b.name) (true_of_name b.name b.name refl), still_first b s s d.0 (all_first s d.1))

entails_first : (s t : Offer) → IsOffer s → AreFirst s t → Entails s t
entails_first s [] o f = tt
entails_first s (b ∷ t) o f = (resolved_binding s o b.name b.term f.0, entails_first s t o f.1)

pub entails_itself : (s : Offer) → IsOffer s → Entails s s
entails_itself s o = entails_first s s o (all_first s o.distinct)

entails_both : (r s : Offer) (b : Binding) → Entails r s → Equates r (metavar b.name) b.term → Entails r (s ++ b ∷ [])
entails_both r [] b e q = (q, tt)
entails_both r (c ∷ s) b e q = (e.0, entails_both r s b e.1 q)

pub entails_old : (r s : Offer) (b : Binding) → Entails r (s ++ b ∷ []) → Entails r s
entails_old r [] b e = tt
entails_old r (c ∷ s) b e = (e.0, entails_old r s b e.1)

pub entails_last : (r s : Offer) (b : Binding) → Entails r (s ++ b ∷ []) → Equates r (metavar b.name) b.term
entails_last r [] b e = e.0
entails_last r (c ∷ s) b e = entails_last r s b e.1

from_with : (given : Offer) (start : Pairs) (more : Offer) (b : Binding) → AreFrom given start more → value_of given b.name ≡ None
    → Stands given start b.term → AreFrom given start (more ++ b ∷ [])
from_with given start [] b f e p = (e, p, tt)
from_with given start (c ∷ more) b f e p = (f.0, f.1, from_with given start more b f.2 e p)

-- ---- what stands
bound_stands : (given : Offer) (start : Pairs) (more : Offer) (t : FreeTerm) → AreFrom given start more → IsSubtermOfBound t more → Stands given start t
bound_stands given start [] t f q = absurd q
bound_stands given start (b ∷ more) t f (inl q) = stands_deeper given start t b.term q f.1
bound_stands given start (b ∷ more) t f (inr q) = bound_stands given start more t f.2 q

in_either : (given more : Offer) (t : FreeTerm) → IsSubtermOfBound t (given ++ more) → IsSubtermOfBound t given ⊎ IsSubtermOfBound t more
in_either [] more t q = inr q
in_either (b ∷ given) more t (inl q) = inl (inl q)
in_either (b ∷ given) more t (inr q) = further (in_either given more t q) where
  further : IsSubtermOfBound t given ⊎ IsSubtermOfBound t more → IsSubtermOfBound t (b ∷ given) ⊎ IsSubtermOfBound t more
  further (inl p) = inl (inr p)
  further (inr p) = inr p

pub stands_from : (given : Offer) (start : Pairs) (s : Offer) (work : Pairs) (t : FreeTerm) → IsPartial given start s work → Stands s work t → Stands given start t
stands_from given start s work t p (inl q) = stands_at given start work t p.stand q
stands_from given start s work t p (inr q) = either (in_either given p.more t (subst (IsSubtermOfBound t) p.begins q)) where
  either : IsSubtermOfBound t given ⊎ IsSubtermOfBound t p.more → Stands given start t
  either (inl z) = inr z
  either (inr z) = bound_stands given start p.more t p.fresh z

all_from : (given : Offer) (start : Pairs) (s : Offer) (work new : Pairs) → IsPartial given start s work → AllStand s work new → AllStand given start new
all_from given start s work [] p a = tt
all_from given start s work (x ∷ new) p a =
    (stands_from given start s work x.0 p a.0, stands_from given start s work x.1 p a.1, all_from given start s work new p a.2)

-- ---- the steps
nil_behind : (s : Offer) → s ++ [] ≡ s
nil_behind [] = refl
nil_behind (b ∷ s) = ap (λ t. b ∷ t) (nil_behind s)

pub partial_start : (given : Offer) (start : Pairs) → IsOffer given → IsPartial given start given start
partial_start given start o = record {
  offer = o;
  more = [];
  begins = sym (nil_behind given);
  fresh = tt;
  stand = all_stand_in given start start (λ t q. q);
  sound = λ r e a. a;
  general = λ r o e a. (e, a);
}

pub partial_reduces : (given : Offer) (start : Pairs) (s : Offer) (work new : Pairs) → IsPartial given start s work → Reduces s work new → IsPartial given start s new
partial_reduces given start s work new p a = record {
  offer = p.offer;
  more = p.more;
  begins = p.begins;
  fresh = p.fresh;
  stand = all_from given start s work new p a.stand;
  sound = λ r e x. p.sound r e (a.back r e x);
  general = λ r o e x. ((p.general r o e x).0, a.forward r (p.general r o e x).0 (p.general r o e x).1);
}

abbrev pub with : Offer → Binding → Offer
with s b = s ++ b ∷ []

pub partial_binds : (given : Offer) (start : Pairs) (s : Offer) (work new : Pairs) (b : Binding) → IsPartial given start s work → Binds s work new b
    → IsPartial given start (with s b) new
partial_binds given start s work new b p c =
    let q = partial_reduces given start s work ((metavar b.name, b.term) ∷ new) p c.reduces in record {
      offer = extended s b.name b.term p.offer c.unbound c.fresh;
      more = p.more ++ b ∷ [];
      begins = ap (λ z. z ++ b ∷ []) p.begins ∙ append_assoc given p.more (b ∷ []);
      fresh = from_with given start p.more b p.fresh
          (value_before given p.more b.name (subst (λ z. value_of z b.name ≡ None) p.begins c.unbound)) q.stand.1;
      stand = q.stand.2;
      sound = λ r e x. q.sound r (entails_old r s b e) (entails_last r s b e, x);
      general = λ r o e x. (entails_both r s b (q.general r o e x).0 (q.general r o e x).1.0, (q.general r o e x).1.1);
    }

are_new : (given : Offer) (us vs : FreeTerms) (more : Offer) → AreFrom given (zipped us vs) more → AreNew given us vs more
are_new given us vs [] f = tt
are_new given us vs (b ∷ more) f = (f.0, stands_in given us vs b.term f.1, are_new given us vs more f.2)

pub partial_done : (given : Offer) (us vs : FreeTerms) (s : Offer) → count us ≡ count vs → IsPartial given (zipped us vs) s []
    → IsMostGeneral given us vs s
partial_done given us vs s len p = record {
  offer = p.offer;
  more = p.more;
  begins = p.begins;
  fresh = are_new given us vs p.more p.fresh;
  equates = zipped_equate s us vs len (p.sound s (entails_itself s p.offer) tt);
  general = λ r o e q. (p.general r o e (zipped_agree r us vs q)).0;
}

pub partial_clash : (given : Offer) (us vs : FreeTerms) (s : Offer) (work : Pairs) → IsPartial given (zipped us vs) s work → Clashes s work
    → Unifies given us vs None
partial_clash given us vs s work p c =
    λ r o e q. c r (p.general r o e (zipped_agree r us vs q)).0 (p.general r o e (zipped_agree r us vs q)).1

-- ---- how many of the metavariables that stand anywhere are still unbound
abbrev mutual
  metavars : FreeTerm → List Name
  metavars (bound n) = []
  metavars (metavar x) = x ∷ []
  metavars (skolem x us) = all_metavars us
  metavars (app f us) = all_metavars us

  all_metavars : FreeTerms → List Name
  all_metavars no_terms = []
  all_metavars (terms u us) = metavars u ++ all_metavars us

abbrev pair_metavars : Pairs → List Name
pair_metavars [] = []
pair_metavars (p ∷ ps) = metavars p.0 ++ (metavars p.1 ++ pair_metavars ps)

abbrev bound_metavars : Offer → List Name
bound_metavars [] = []
bound_metavars (b ∷ s) = metavars b.term ++ bound_metavars s

abbrev one_if_none : Option FreeTerm → ℕ
one_if_none None = 1
one_if_none (Some t) = 0

abbrev unbound_of : Offer → List Name → ℕ
unbound_of s [] = 0
unbound_of s (x ∷ xs) = one_if_none (value_of s x) + unbound_of s xs

abbrev pub unbound : Offer → Pairs → Offer → ℕ
unbound given start s = unbound_of s (pair_metavars start ++ bound_metavars given)

abbrev Member : Name → List Name → Type 0
Member x [] = ⊥
Member x (y ∷ ys) = (x ≡ y) ⊎ Member x ys

member_front : (x : Name) (xs ys : List Name) → Member x xs → Member x (xs ++ ys)
member_front x [] ys m = absurd m
member_front x (z ∷ xs) ys (inl e) = inl e
member_front x (z ∷ xs) ys (inr m) = inr (member_front x xs ys m)

member_behind : (x : Name) (xs ys : List Name) → Member x ys → Member x (xs ++ ys)
member_behind x [] ys m = m
member_behind x (z ∷ xs) ys m = inr (member_behind x xs ys m)

mutual
  in_term : (x : Name) (t : FreeTerm) → IsSubterm (metavar x) t → Member x (metavars t)
  in_term x (bound n) e = absurd (apart e) where
    apart : metavar x ≡ bound n → ⊥
    apart z = cc
  in_term x (metavar y) e = inl (same e) where
    same : metavar x ≡ metavar y → x ≡ y
    same z = cc
  in_term x (skolem y us) (inl e) = absurd (apart e) where
    apart : metavar x ≡ skolem y us → ⊥
    apart z = cc
  in_term x (skolem y us) (inr q) = in_some x us q
  in_term x (app f us) (inl e) = absurd (apart e) where
    apart : metavar x ≡ app f us → ⊥
    apart z = cc
  in_term x (app f us) (inr q) = in_some x us q

  in_some : (x : Name) (us : FreeTerms) → IsSubtermOfSome (metavar x) us → Member x (all_metavars us)
  in_some x no_terms q = absurd q
  in_some x (terms u us) (inl q) = member_front x (metavars u) (all_metavars us) (in_term x u q)
  in_some x (terms u us) (inr q) = member_behind x (metavars u) (all_metavars us) (in_some x us q)

in_pair : (x : Name) (ps : Pairs) → IsSubtermOfPair (metavar x) ps → Member x (pair_metavars ps)
in_pair x [] q = absurd q
in_pair x (p ∷ ps) (inl q) = member_front x (metavars p.0) _ (in_term x p.0 q)
in_pair x (p ∷ ps) (inr (inl q)) = member_behind x (metavars p.0) _ (member_front x (metavars p.1) _ (in_term x p.1 q))
in_pair x (p ∷ ps) (inr (inr q)) = member_behind x (metavars p.0) _ (member_behind x (metavars p.1) _ (in_pair x ps q))

in_bound : (x : Name) (s : Offer) → IsSubtermOfBound (metavar x) s → Member x (bound_metavars s)
in_bound x [] q = absurd q
in_bound x (b ∷ s) (inl q) = member_front x (metavars b.term) _ (in_term x b.term q)
in_bound x (b ∷ s) (inr q) = member_behind x (metavars b.term) _ (in_bound x s q)

in_all : (given : Offer) (start : Pairs) (x : Name) → Stands given start (metavar x) → Member x (pair_metavars start ++ bound_metavars given)
in_all given start x (inl q) = member_front x (pair_metavars start) _ (in_pair x start q)
in_all given start x (inr q) = member_behind x (pair_metavars start) _ (in_bound x given q)

-- a binding more leaves no more unbound
value_with : (s : Offer) (b : Binding) (x : Name) → one_if_none (value_of (with s b) x) ≤ one_if_none (value_of s x)
value_with [] b x = by_case (same_name b.name x) where
  by_case : (q : Bool) → one_if_none (if q then Some b.term else None) ≤ 1
  by_case true = omega arith
  by_case false = omega arith
value_with (c ∷ s) b x = by_case (same_name c.name x) (value_with s b x) where
  by_case : (q : Bool) → one_if_none (value_of (with s b) x) ≤ one_if_none (value_of s x)
      → one_if_none (if q then Some c.term else value_of (with s b) x) ≤ one_if_none (if q then Some c.term else value_of s x)
  by_case true le = omega arith
  by_case false le = le

no_more : (s : Offer) (b : Binding) (xs : List Name) → unbound_of (with s b) xs ≤ unbound_of s xs
no_more s b [] = omega arith
no_more s b (x ∷ xs) = omega (arith, value_with s b x, no_more s b xs)

now_bound : (s : Offer) (b : Binding) → one_if_none (value_of (with s b) b.name) ≡ 0
now_bound [] b = ap (λ q. one_if_none (if q then Some b.term else None)) (true_of_name b.name b.name refl)
now_bound (c ∷ s) b = by_case (same_name c.name b.name) (now_bound s b) where
  by_case : (q : Bool) → one_if_none (value_of (with s b) b.name) ≡ 0 → one_if_none (if q then Some c.term else value_of (with s b) b.name) ≡ 0
  by_case true later = refl
  by_case false later = later

one_less : (s : Offer) (b : Binding) (xs : List Name) → value_of s b.name ≡ None → Member b.name xs → suc (unbound_of (with s b) xs) ≤ unbound_of s xs
one_less s b [] e m = absurd m
one_less s b (x ∷ xs) e (inl same) =
    let before : one_if_none (value_of s x) ≡ 1 = ap one_if_none (subst (λ z. value_of s z ≡ None) same e) in
    let after : one_if_none (value_of (with s b) x) ≡ 0 = subst (λ z. one_if_none (value_of (with s b) z) ≡ 0) same (now_bound s b) in
    omega (arith, before, after, no_more s b xs)
one_less s b (x ∷ xs) e (inr m) = omega (arith, value_with s b x, one_less s b xs e m)

pub less_unbound : (given : Offer) (start : Pairs) (s : Offer) (work new : Pairs) (b : Binding) → IsPartial given start s work → Binds s work new b
    → suc (unbound given start (with s b)) ≤ unbound given start s
less_unbound given start s work new b p c =
    one_less s b (pair_metavars start ++ bound_metavars given) c.unbound
    (in_all given start b.name (stands_from given start s work (metavar b.name) p c.reduces.stand.0))
