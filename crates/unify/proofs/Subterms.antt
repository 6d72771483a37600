-- What stands in a term, in a pair and in a bound term.
use Rattle.std.proofs.Common.{[], ◌∷◌, ◌++◌, refl, subst, ◌⊎◌, inl, inr}
use Rattle.free_terms.specs.Free.{FreeTerm, FreeTerms, bound, metavar, skolem, app, no_terms, terms}
use Rattle.unify.specs.Offers.{Offer, IsSubterm, IsSubtermOfSome, IsSubtermOfBound, StandsIn}
use Rattle.unify.specs.Work.{Pairs, zipped, IsSubtermOfPair, Stands, AllStand}

pub itself : (t : FreeTerm) → IsSubterm t t
itself (bound n) = refl
itself (metavar x) = refl
itself (skolem x us) = inl refl
itself (app f us) = inl refl

mutual
  pub deeper : (t u v : FreeTerm) → IsSubterm t u → IsSubterm u v → IsSubterm t v
  deeper t u (bound n) p q = subst (λ w. IsSubterm t w) q p
  deeper t u (metavar x) p q = subst (λ w. IsSubterm t w) q p
  deeper t u (skolem x us) p (inl e) = subst (λ w. IsSubterm t w) e p
  deeper t u (skolem x us) p (inr q) = inr (deeper_some t u us p q)
  deeper t u (app f us) p (inl e) = subst (λ w. IsSubterm t w) e p
  deeper t u (app f us) p (inr q) = inr (deeper_some t u us p q)

  pub deeper_some : (t u : FreeTerm) (vs : FreeTerms) → IsSubterm t u → IsSubtermOfSome u vs → IsSubtermOfSome t vs
  deeper_some t u no_terms p q = q
  deeper_some t u (terms v vs) p (inl q) = inl (deeper t u v p q)
  deeper_some t u (terms v vs) p (inr q) = inr (deeper_some t u vs p q)

deeper_bound : (t u : FreeTerm) (s : Offer) → IsSubterm t u → IsSubtermOfBound u s → IsSubtermOfBound t s
deeper_bound t u [] p q = q
deeper_bound t u (b ∷ s) p (inl q) = inl (deeper t u b.term p q)
deeper_bound t u (b ∷ s) p (inr q) = inr (deeper_bound t u s p q)

deeper_pair : (t u : FreeTerm) (ps : Pairs) → IsSubterm t u → IsSubtermOfPair u ps → IsSubtermOfPair t ps
deeper_pair t u [] p q = q
deeper_pair t u (x ∷ ps) p (inl q) = inl (deeper t u x.0 p q)
deeper_pair t u (x ∷ ps) p (inr (inl q)) = inr (inl (deeper t u x.1 p q))
deeper_pair t u (x ∷ ps) p (inr (inr q)) = inr (inr (deeper_pair t u ps p q))

pub stands_deeper : (s : Offer) (ps : Pairs) (t u : FreeTerm) → IsSubterm t u → Stands s ps u → Stands s ps t
stands_deeper s ps t u p (inl q) = inl (deeper_pair t u ps p q)
stands_deeper s ps t u p (inr q) = inr (deeper_bound t u s p q)

-- what stands in a pair of pairs that stand
pub stands_at : (s : Offer) (old new : Pairs) (t : FreeTerm) → AllStand s old new → IsSubtermOfPair t new → Stands s old t
stands_at s old [] t all q = absurd q
stands_at s old (p ∷ new) t all (inl q) = stands_deeper s old t p.0 q all.0
stands_at s old (p ∷ new) t all (inr (inl q)) = stands_deeper s old t p.1 q all.1
stands_at s old (p ∷ new) t all (inr (inr q)) = stands_at s old new t all.2 q

pub stands_through : (s : Offer) (old new : Pairs) (t : FreeTerm) → AllStand s old new → Stands s new t → Stands s old t
stands_through s old new t all (inl q) = stands_at s old new t all q
stands_through s old new t all (inr q) = inr q

pub all_stand_through : (s : Offer) (old mid new : Pairs) → AllStand s old mid → AllStand s mid new → AllStand s old new
all_stand_through s old mid [] all more = tt
all_stand_through s old mid (p ∷ new) all more =
    (stands_through s old mid p.0 all more.0, stands_through s old mid p.1 all more.1, all_stand_through s old mid new all more.2)

pub all_stand_in : (s : Offer) (old new : Pairs) → ((t : FreeTerm) → IsSubtermOfPair t new → IsSubtermOfPair t old) → AllStand s old new
all_stand_in s old [] within = tt
all_stand_in s old (p ∷ new) within =
    (inl (within p.0 (inl (itself p.0))), inl (within p.1 (inr (inl (itself p.1)))), all_stand_in s old new (λ t q. within t (inr (inr q))))

pub all_stand_both : (s : Offer) (old ps qs : Pairs) → AllStand s old ps → AllStand s old qs → AllStand s old (ps ++ qs)
all_stand_both s old [] qs a b = b
all_stand_both s old (p ∷ ps) qs a b = (a.0, a.1, all_stand_both s old ps qs a.2 b)

pub in_front : (t : FreeTerm) (ps qs : Pairs) → IsSubtermOfPair t ps → IsSubtermOfPair t (ps ++ qs)
in_front t [] qs q = absurd q
in_front t (p ∷ ps) qs (inl q) = inl q
in_front t (p ∷ ps) qs (inr (inl q)) = inr (inl q)
in_front t (p ∷ ps) qs (inr (inr q)) = inr (inr (in_front t ps qs q))

pub behind : (t : FreeTerm) (ps qs : Pairs) → IsSubtermOfPair t qs → IsSubtermOfPair t (ps ++ qs)
behind t [] qs q = q
behind t (p ∷ ps) qs q = inr (inr (behind t ps qs q))

-- what stands in two lists put side by side stands in one of them
pub in_zipped : (t : FreeTerm) (us vs : FreeTerms) → IsSubtermOfPair t (zipped us vs) → IsSubtermOfSome t us ⊎ IsSubtermOfSome t vs
in_zipped t no_terms vs q = absurd q
in_zipped t (terms u us) no_terms q = absurd q
in_zipped t (terms u us) (terms v vs) (inl q) = inl (inl q)
in_zipped t (terms u us) (terms v vs) (inr (inl q)) = inr (inl q)
in_zipped t (terms u us) (terms v vs) (inr (inr q)) = further (in_zipped t us vs q) where
  further : IsSubtermOfSome t us ⊎ IsSubtermOfSome t vs → IsSubtermOfSome t (terms u us) ⊎ IsSubtermOfSome t (terms v vs)
  further (inl p) = inl (inr p)
  further (inr p) = inr (inr p)

pub stands_in : (given : Offer) (us vs : FreeTerms) (t : FreeTerm) → Stands given (zipped us vs) t → StandsIn given us vs t
stands_in given us vs t (inr q) = inr (inr q)
stands_in given us vs t (inl q) = either (in_zipped t us vs q) where
  either : IsSubtermOfSome t us ⊎ IsSubtermOfSome t vs → StandsIn given us vs t
  either (inl p) = inl p
  either (inr p) = inr (inl p)
