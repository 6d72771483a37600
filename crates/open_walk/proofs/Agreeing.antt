-- Whether some offer makes two lists of terms equal can be decided.
use Rattle.std.proofs.Common.{◌≡◌, ℕ, zero, suc, ◌-◌, ◌≤◌, ◌≢◌, true, false, [], ◌∷◌, ◌++◌, Option, Some, None, refl, ap, sym, subst, arith, ◌⊎◌, inl, inr}
use Rattle.free_terms.specs.Free.{Name, FreeTerm, FreeTerms, bound, metavar, skolem, app, no_terms, terms}
use Rattle.unify.specs.Offers as unify
use Rattle.unify.specs.Offers.{Offer, Binding, IsOffer, OccursIn, OccursInSome, EquatesAll, value_of, resolved}
use Rattle.unify.specs.Work.{Pairs, IsHead, IsMetavar, Reduces, Binds, Clashes, load, count, parts, zipped}
use Rattle.unify.proofs.Acyclic.{tells}
use Rattle.unify.proofs.Extend.{no_bindings}
use Rattle.unify.proofs.Heads.{Followed, followed_start, followed_more, followed_next, head_unbound, head_other}
use Rattle.unify.proofs.Parts.{same_count}
use Rattle.unify.proofs.Reduce.{one, reduces_self, reduces_on, clashes_on, binds_on, reduce_same, reduce_parts, reduce_clash, reduce_no_parts, reduce_bind, reduce_bind_right, held_clash, less_same, less_parts}
use Rattle.unify.proofs.Partial.{IsPartial, unbound, partial_start, partial_reduces, partial_binds, partial_done, partial_clash, less_unbound, with}
use Rattle.rewrite_rules.proofs.Equal.{Decided, same_number}
use Rattle.open_walk.specs.Unifiability.{AreUnifiable}

-- ---- what one pair comes to
same_name : (x y : Name) → Decided (x ≡ y)
same_name x y = by_test (tells x y) where
  by_test : ((unify.same_name x y ≡ true) × (x ≡ y)) ⊎ ((unify.same_name x y ≡ false) × (x ≢ y)) → Decided (x ≡ y)
  by_test (inl p) = inl p.1
  by_test (inr p) = inr p.1

mutual
  occurs : (x : Name) (t : FreeTerm) → Decided (OccursIn x t)
  occurs x (bound n) = inr (λ o. o)
  occurs x (metavar y) = same_name x y
  occurs x (skolem y us) = occurs_in_some x us
  occurs x (app f us) = occurs_in_some x us

  occurs_in_some : (x : Name) (us : FreeTerms) → Decided (OccursInSome x us)
  occurs_in_some x no_terms = inr (λ o. o)
  occurs_in_some x (terms u us) = either (occurs x u) (occurs_in_some x us) where
    either : Decided (OccursIn x u) → Decided (OccursInSome x us) → Decided (OccursIn x u ⊎ OccursInSome x us)
    either (inl p) q = inl (inl p)
    either (inr p) (inl q) = inl (inr q)
    either (inr p) (inr q) = inr (both p q) where
      both : (OccursIn x u → ⊥) → (OccursInSome x us → ⊥) → OccursIn x u ⊎ OccursInSome x us → ⊥
      both p q (inl o) = p o
      both p q (inr o) = q o

metavar_or_not : (t : FreeTerm) → ((x : Name) × (t ≡ metavar x)) ⊎ (IsMetavar t → ⊥)
metavar_or_not (bound n) = inr (λ m. m)
metavar_or_not (metavar x) = inl (x, refl)
metavar_or_not (skolem x us) = inr (λ m. m)
metavar_or_not (app f us) = inr (λ m. m)

follow : (s : Offer) → IsOffer s → (t at : FreeTerm) (left : ℕ) → Followed s t at left → (h : FreeTerm) × IsHead s t h
follow s o t at zero f = by_head (metavar_or_not at) where
  by_value : (x : Name) → Followed s t (metavar x) 0 → (v : Option FreeTerm) → value_of s x ≡ v → (h : FreeTerm) × IsHead s t h
  by_value x g None e = (metavar x, head_unbound s t x 0 g e)
  by_value x g (Some v) e = let more = followed_more s t x v 0 g e in let none : ⊥ = omega (arith, more) in absurd none

  by_head : ((x : Name) × (at ≡ metavar x)) ⊎ (IsMetavar at → ⊥) → (h : FreeTerm) × IsHead s t h
  by_head (inl p) = by_value p.0 (subst (λ z. Followed s t z 0) p.1 f) (value_of s p.0) refl
  by_head (inr n) = (at, head_other s t at 0 f n)
follow s o t at (suc left) f = by_head (λ v. follow s o t v left) (metavar_or_not at) where
  by_value : ((v : FreeTerm) → Followed s t v left → (h : FreeTerm) × IsHead s t h) → (x : Name) → Followed s t (metavar x) (suc left) → (v : Option FreeTerm) → value_of s x ≡ v
      → (h : FreeTerm) × IsHead s t h
  by_value on x g None e = (metavar x, head_unbound s t x (suc left) g e)
  by_value on x g (Some v) e =
      let less : suc left - 1 ≡ left = omega arith in
      on v (subst (Followed s t v) less (followed_next s t x v (suc left) o g e))

  by_head : ((v : FreeTerm) → Followed s t v left → (h : FreeTerm) × IsHead s t h) → ((x : Name) × (at ≡ metavar x)) ⊎ (IsMetavar at → ⊥) → (h : FreeTerm) × IsHead s t h
  by_head on (inl p) = by_value on p.0 (subst (λ z. Followed s t z (suc left)) p.1 f) (value_of s p.0) refl
  by_head on (inr n) = (at, head_other s t at (suc left) f n)

head : (s : Offer) → IsOffer s → (t : FreeTerm) → (h : FreeTerm) × IsHead s t h
head s o t = follow s o t t _ (followed_start s t o)

-- Pairs come to less work, to a clash or to a binding.
data Turn (s : Offer) (old : Pairs) : Type 0 where
  less : (new : Pairs) → Reduces s old new → suc (load s new) ≤ load s old → Turn s old
  clash : Clashes s old → Turn s old
  binding : (new : Pairs) (b : Binding) → Binds s old new b → Turn s old

turn_by : (s : Offer) (w : Pairs) (a b h k : FreeTerm) → IsHead s a h → IsHead s b k → Turn s (w ++ one a b)
turn_by s w a b h k l m = by_left (metavar_or_not h) where
  to_name : (t : FreeTerm) (x : Name) → Decided (t ≡ metavar x)
  to_name (bound n) x = inr (λ e. cc (e))
  to_name (metavar y) x = same (same_name y x) where
    same : Decided (y ≡ x) → Decided (metavar y ≡ metavar x)
    same (inl p) = inl (ap metavar p)
    same (inr p) = inr (λ e. p (cc (e)))
  to_name (skolem y us) x = inr (λ e. cc (e))
  to_name (app f us) x = inr (λ e. cc (e))

  left_apart : (x : Name) → IsHead s a (metavar x) → (k ≡ metavar x → ⊥) → Decided (OccursIn x (resolved s k)) → Turn s (w ++ one a b)
  left_apart x l apart (inl o) = clash (reduce_clash s w a b (metavar x) k l m (held_clash s x k m.unbound apart o))
  left_apart x l apart (inr fresh) = binding w (record { name = x; term = k }) (reduce_bind s w a b x k l m fresh)

  left_is : (x : Name) → IsHead s a (metavar x) → Decided (k ≡ metavar x) → Turn s (w ++ one a b)
  left_is x l (inl e) = less w (reduce_same s w a b (metavar x) k l m (sym e)) (less_same s w a b)
  left_is x l (inr apart) = left_apart x l apart (occurs x (resolved s k))

  right_is : (y : Name) → IsHead s b (metavar y) → (IsMetavar h → ⊥) → Decided (OccursIn y (resolved s h)) → Turn s (w ++ one a b)
  right_is y m apart (inl o) =
      clash (reduce_clash s w a b h (metavar y) l m (λ r e q. held_clash s y h l.unbound (λ z. apart (subst IsMetavar (sym z) tt)) o r e (sym q)))
  right_is y m apart (inr fresh) = binding w (record { name = y; term = h }) (reduce_bind_right s w a b y h l m fresh)

  by_parts : (IsMetavar h → ⊥) → (IsMetavar k → ⊥) → (ps : Option Pairs) → parts h k ≡ ps → Turn s (w ++ one a b)
  by_parts nh nk None e = clash (reduce_no_parts s w a b h k l m nh nk e)
  by_parts nh nk (Some ps) e = less (w ++ ps) (reduce_parts s w a b h k ps l m e) (less_parts s w a b h k ps l e)

  by_right : (IsMetavar h → ⊥) → ((y : Name) × (k ≡ metavar y)) ⊎ (IsMetavar k → ⊥) → Turn s (w ++ one a b)
  by_right nh (inl p) = right_is p.0 (subst (IsHead s b) p.1 m) nh (occurs p.0 (resolved s h))
  by_right nh (inr nk) = by_parts nh nk (parts h k) refl

  by_left : ((x : Name) × (h ≡ metavar x)) ⊎ (IsMetavar h → ⊥) → Turn s (w ++ one a b)
  by_left (inl p) = left_is p.0 (subst (IsHead s a) p.1 l) (to_name k p.0)
  by_left (inr nh) = by_right nh (metavar_or_not k)

-- ---- what all pairs come to, up to the first binding
data Settled (s : Offer) (old : Pairs) : Type 0 where
  agreed : Reduces s old [] → Settled s old
  clashed : Clashes s old → Settled s old
  bound_one : (new : Pairs) (b : Binding) → Binds s old new b → Settled s old

settled_on : (s : Offer) (old mid : Pairs) → Reduces s old mid → Settled s mid → Settled s old
settled_on s old mid r (agreed a) = agreed (reduces_on s old mid [] r a)
settled_on s old mid r (clashed c) = clashed (clashes_on s old mid r c)
settled_on s old mid r (bound_one new b c) = bound_one new b (binds_on s old mid new b r c)

data Last (ps : Pairs) : Type 0 where
  none : ps ≡ [] → Last ps
  last : (w : Pairs) (a b : FreeTerm) → ps ≡ w ++ one a b → Last ps

last_of : (ps : Pairs) → Last ps
last_of [] = none refl
last_of (p ∷ ps) = further (last_of ps) where
  further : Last ps → Last (p ∷ ps)
  further (none e) = last [] p.0 p.1 (ap (λ z. p ∷ z) e)
  further (last w a b e) = last (p ∷ w) a b (ap (λ z. p ∷ z) e)

turn : (s : Offer) → IsOffer s → (w : Pairs) (a b : FreeTerm) → Turn s (w ++ one a b)
turn s o w a b = turn_by s w a b (head s o a).0 (head s o b).0 (head s o a).1 (head s o b).1

settle : (s : Offer) → IsOffer s → (n : ℕ) (ps : Pairs) → load s ps ≤ n → Settled s ps
settle s o zero ps le = by_last (last_of ps) where
  by_turn : Turn s ps → Settled s ps
  by_turn (less new r l) = let no : ⊥ = omega (arith, l, le) in absurd no
  by_turn (clash c) = clashed c
  by_turn (binding new b c) = bound_one new b c

  by_last : Last ps → Settled s ps
  by_last (none e) = agreed (subst (Reduces s ps) e (reduces_self s ps))
  by_last (last w a b e) = by_turn (subst (Turn s) (sym e) (turn s o w a b))
settle s o (suc n) ps le = by_last (settle s o n) (last_of ps) where
  by_turn : ((qs : Pairs) → load s qs ≤ n → Settled s qs) → Turn s ps → Settled s ps
  by_turn on (less new r l) = settled_on s ps new r (on new (omega (arith, l, le)))
  by_turn on (clash c) = clashed c
  by_turn on (binding new b c) = bound_one new b c

  by_last : ((qs : Pairs) → load s qs ≤ n → Settled s qs) → Last ps → Settled s ps
  by_last on (none e) = agreed (subst (Reduces s ps) e (reduces_self s ps))
  by_last on (last w a b e) = by_turn on (subst (Turn s) (sym e) (turn s o w a b))

-- ---- whether the lists can be made equal
decided_on : (us vs : FreeTerms) → count us ≡ count vs → (n : ℕ) (s : Offer) (work : Pairs) → IsPartial [] (zipped us vs) s work → unbound [] (zipped us vs) s ≤ n
    → Decided (AreUnifiable us vs)
decided_on us vs len zero s work p le = by_settled (settle s p.offer (load s work) work (omega arith)) where
  by_settled : Settled s work → Decided (AreUnifiable us vs)
  by_settled (agreed r) = let done = partial_done [] us vs s len (partial_reduces [] (zipped us vs) s work [] p r) in inl (s, done.offer, done.equates)
  by_settled (clashed c) = inr (λ u. partial_clash [] us vs s work p c u.0 u.1 tt u.2)
  by_settled (bound_one new b c) = let l = less_unbound [] (zipped us vs) s work new b p c in let no : ⊥ = omega (arith, l, le) in absurd no
decided_on us vs len (suc n) s work p le = by_settled (decided_on us vs len n) (settle s p.offer (load s work) work (omega arith)) where
  by_settled : ((r : Offer) (new : Pairs) → IsPartial [] (zipped us vs) r new → unbound [] (zipped us vs) r ≤ n → Decided (AreUnifiable us vs)) → Settled s work → Decided (AreUnifiable us vs)
  by_settled on (agreed r) = let done = partial_done [] us vs s len (partial_reduces [] (zipped us vs) s work [] p r) in inl (s, done.offer, done.equates)
  by_settled on (clashed c) = inr (λ u. partial_clash [] us vs s work p c u.0 u.1 tt u.2)
  by_settled on (bound_one new b c) =
      let l = less_unbound [] (zipped us vs) s work new b p c in
      on (with s b) new (partial_binds [] (zipped us vs) s work new b p c) (omega (arith, l, le))

pub unifiable_decided : (us vs : FreeTerms) → Decided (AreUnifiable us vs)
unifiable_decided us vs = by_count (same_number (count us) (count vs)) where
  by_count : Decided (count us ≡ count vs) → Decided (AreUnifiable us vs)
  by_count (inl len) = decided_on us vs len (unbound [] (zipped us vs) []) [] (zipped us vs) (partial_start [] (zipped us vs) no_bindings) (omega arith)
  by_count (inr apart) = inr (λ u. apart (same_count u.0 us vs u.2))
