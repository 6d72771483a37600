-- What comes of one pair, once the bindings that its sides lead to are followed.
use Rattle.std.proofs.Common.{◌≡◌, suc, ◌+◌, ◌≤◌, [], ◌∷◌, ◌++◌, Some, None, refl, ap, sym, ◌∙◌, subst, arith, ◌⊎◌, inl, inr}
use Rattle.free_terms.specs.Free.{Name, FreeTerm, bound, metavar, skolem, app}
use Rattle.unify.specs.Offers.{Offer, Binding, Equates, Entails, OccursIn, IsSubterm, IsSubtermOfBound, value_of, resolved, resolved_all}
use Rattle.unify.specs.Work.{Pairs, Agrees, size, load, parts, IsMetavar, IsHead, Stands, AllStand, Reduces, Binds, Clashes}
use Rattle.unify.proofs.Acyclic.{unbound_still}
use Rattle.unify.proofs.Absorb.{carries, absorbed, occurs_check, occurs_check_skolem}
use Rattle.unify.proofs.Subterms.{stands_deeper, all_stand_through, all_stand_in, all_stand_both, in_front, behind}
use Rattle.unify.proofs.Parts.{parts_agree, parts_equate, parts_load, parts_stand, parts_clash}

pub agrees_both : (r : Offer) (ps qs : Pairs) → Agrees r ps → Agrees r qs → Agrees r (ps ++ qs)
agrees_both r [] qs a b = b
agrees_both r (p ∷ ps) qs a b = (a.0, agrees_both r ps qs a.1 b)

pub agrees_front : (r : Offer) (ps qs : Pairs) → Agrees r (ps ++ qs) → Agrees r ps
agrees_front r [] qs a = tt
agrees_front r (p ∷ ps) qs a = (a.0, agrees_front r ps qs a.1)

pub agrees_behind : (r : Offer) (ps qs : Pairs) → Agrees r (ps ++ qs) → Agrees r qs
agrees_behind r [] qs a = a
agrees_behind r (p ∷ ps) qs a = agrees_behind r ps qs a.1

pub load_both : (s : Offer) (ps qs : Pairs) → load s (ps ++ qs) ≡ load s ps + load s qs
load_both s [] qs = omega arith
load_both s (p ∷ ps) qs = omega (arith, load_both s ps qs)

pub reduces_self : (s : Offer) (w : Pairs) → Reduces s w w
reduces_self s w = record { stand = all_stand_in s w w (λ t q. q); forward = λ r e a. a; back = λ r e a. a }

pub reduces_on : (s : Offer) (old mid new : Pairs) → Reduces s old mid → Reduces s mid new → Reduces s old new
reduces_on s old mid new a b = record {
  stand = all_stand_through s old mid new a.stand b.stand;
  forward = λ r e x. b.forward r e (a.forward r e x);
  back = λ r e x. a.back r e (b.back r e x);
}

pub clashes_on : (s : Offer) (old mid : Pairs) → Reduces s old mid → Clashes s mid → Clashes s old
clashes_on s old mid a c = λ r e x. c r e (a.forward r e x)

pub binds_on : (s : Offer) (old mid new : Pairs) (b : Binding) → Reduces s old mid → Binds s mid new b → Binds s old new b
binds_on s old mid new b a c = record { unbound = c.unbound; fresh = c.fresh; reduces = reduces_on s old mid _ a c.reduces }

-- the last pair, and what its sides lead to
abbrev pub one : FreeTerm → FreeTerm → Pairs
one a b = (a, b) ∷ []

left_stands : (s : Offer) (w : Pairs) (a b h : FreeTerm) → IsHead s a h → Stands s (w ++ one a b) h
left_stands s w a b h l = either l.stands where
  either : IsSubterm h a ⊎ IsSubtermOfBound h s → Stands s (w ++ one a b) h
  either (inl q) = inl (behind h w (one a b) (inl q))
  either (inr q) = inr q

right_stands : (s : Offer) (w : Pairs) (a b k : FreeTerm) → IsHead s b k → Stands s (w ++ one a b) k
right_stands s w a b k l = either l.stands where
  either : IsSubterm k b ⊎ IsSubtermOfBound k s → Stands s (w ++ one a b) k
  either (inl q) = inl (behind k w (one a b) (inr (inl q)))
  either (inr q) = inr q

heads_agree : (s r : Offer) (a b h k : FreeTerm) → IsHead s a h → IsHead s b k → Entails r s → Equates r a b → Equates r h k
heads_agree s r a b h k l m e q = sym (carries r s e a h l.same) ∙ q ∙ carries r s e b k m.same

heads_back : (s r : Offer) (a b h k : FreeTerm) → IsHead s a h → IsHead s b k → Entails r s → Equates r h k → Equates r a b
heads_back s r a b h k l m e q = carries r s e a h l.same ∙ q ∙ sym (carries r s e b k m.same)

last_pair : (r : Offer) (w : Pairs) (a b : FreeTerm) → Agrees r (w ++ one a b) → Equates r a b
last_pair r w a b x = (agrees_behind r w (one a b) x).0

with_last : (r : Offer) (w : Pairs) (a b : FreeTerm) → Agrees r w → Equates r a b → Agrees r (w ++ one a b)
with_last r w a b x q = agrees_both r w (one a b) x (q, tt)

pub front_stands : (s : Offer) (w q : Pairs) → AllStand s (w ++ q) w
front_stands s w q = all_stand_in s (w ++ q) w (λ t p. in_front t w q p)

-- a term against itself
pub reduce_equal : (s : Offer) (w : Pairs) (a b : FreeTerm) → a ≡ b → Reduces s (w ++ one a b) w
reduce_equal s w a b same = record {
  stand = front_stands s w (one a b);
  forward = λ r e x. agrees_front r w (one a b) x;
  back = λ r e x. with_last r w a b x (ap (resolved r) same);
}

pub reduce_same : (s : Offer) (w : Pairs) (a b h k : FreeTerm) → IsHead s a h → IsHead s b k → h ≡ k → Reduces s (w ++ one a b) w
reduce_same s w a b h k l m same = record {
  stand = front_stands s w (one a b);
  forward = λ r e x. agrees_front r w (one a b) x;
  back = λ r e x. with_last r w a b x (heads_back s r a b h k l m e (ap (resolved r) same));
}

pub reduce_parts : (s : Offer) (w : Pairs) (a b h k : FreeTerm) (ps : Pairs) → IsHead s a h → IsHead s b k → parts h k ≡ Some ps
    → Reduces s (w ++ one a b) (w ++ ps)
reduce_parts s w a b h k ps l m p = record {
  stand = all_stand_both s (w ++ one a b) w ps (front_stands s w (one a b))
      (parts_stand s (w ++ one a b) h k ps p (λ v q. stands_deeper s (w ++ one a b) v h q (left_stands s w a b h l)) (λ v q. stands_deeper s (w ++ one a b) v k q (right_stands s w a b k m)));
  forward = λ r e x. agrees_both r w ps (agrees_front r w (one a b) x) (parts_agree r h k ps p (heads_agree s r a b h k l m e (last_pair r w a b x)));
  back = λ r e x. with_last r w a b (agrees_front r w ps x) (heads_back s r a b h k l m e (parts_equate r h k ps p (agrees_behind r w ps x)));
}

pub reduce_clash : (s : Offer) (w : Pairs) (a b h k : FreeTerm) → IsHead s a h → IsHead s b k
    → ((r : Offer) → Entails r s → Equates r h k → ⊥) → Clashes s (w ++ one a b)
reduce_clash s w a b h k l m never = λ r e x. never r e (heads_agree s r a b h k l m e (last_pair r w a b x))

pub reduce_no_parts : (s : Offer) (w : Pairs) (a b h k : FreeTerm) → IsHead s a h → IsHead s b k → (IsMetavar h → ⊥) → (IsMetavar k → ⊥)
    → parts h k ≡ None → Clashes s (w ++ one a b)
reduce_no_parts s w a b h k l m nh nk p = reduce_clash s w a b h k l m (λ r e q. parts_clash r h k nh nk p q)

pub reduce_bind : (s : Offer) (w : Pairs) (a b : FreeTerm) (x : Name) (k : FreeTerm) → IsHead s a (metavar x) → IsHead s b k
    → (OccursIn x (resolved s k) → ⊥) → Binds s (w ++ one a b) w (record { name = x; term = k })
reduce_bind s w a b x k l m fresh = record {
  unbound = l.unbound x refl;
  fresh = fresh;
  reduces = record {
    stand = (left_stands s w a b (metavar x) l, right_stands s w a b k m, front_stands s w (one a b));
    forward = λ r e y. (heads_agree s r a b (metavar x) k l m e (last_pair r w a b y), agrees_front r w (one a b) y);
    back = λ r e y. with_last r w a b y.1 (heads_back s r a b (metavar x) k l m e y.0);
  };
}

pub reduce_bind_right : (s : Offer) (w : Pairs) (a b : FreeTerm) (x : Name) (k : FreeTerm) → IsHead s a k → IsHead s b (metavar x)
    → (OccursIn x (resolved s k) → ⊥) → Binds s (w ++ one a b) w (record { name = x; term = k })
reduce_bind_right s w a b x k l m fresh = record {
  unbound = m.unbound x refl;
  fresh = fresh;
  reduces = record {
    stand = (right_stands s w a b (metavar x) m, left_stands s w a b k l, front_stands s w (one a b));
    forward = λ r e y. (sym (heads_agree s r a b k (metavar x) l m e (last_pair r w a b y)), agrees_front r w (one a b) y);
    back = λ r e y. with_last r w a b y.1 (heads_back s r a b k (metavar x) l m e (sym y.0));
  };
}

-- An unbound metavariable and another term that holds it, with all bindings applied, are never made one.
pub held_clash : (s : Offer) (x : Name) (t : FreeTerm) → ((y : Name) → t ≡ metavar y → value_of s y ≡ None) → (t ≡ metavar x → ⊥)
    → OccursIn x (resolved s t) → (r : Offer) → Entails r s → Equates r (metavar x) t → ⊥
held_clash s x (bound n) head apart o r e q = o
held_clash s x (metavar y) head apart o r e q =
    apart (ap metavar (sym (subst (λ v. OccursIn x v) (unbound_still _ s y (head y refl)) o)))
held_clash s x (skolem y us) head apart o r e q =
    occurs_check_skolem r x y (resolved_all s us) o (q ∙ sym (absorbed r s e (skolem y us)))
held_clash s x (app f us) head apart o r e q =
    occurs_check r x f (resolved_all s us) o (q ∙ sym (absorbed r s e (app f us)))

-- what is left is less
one_size : (t : FreeTerm) → 1 ≤ size t
one_size (bound n) = omega arith
one_size (metavar x) = omega arith
one_size (skolem x us) = omega arith
one_size (app f us) = omega arith

pub less_same : (s : Offer) (w : Pairs) (a b : FreeTerm) → suc (load s w) ≤ load s (w ++ one a b)
less_same s w a b = omega (arith, load_both s w (one a b), one_size (resolved s a))

pub less_parts : (s : Offer) (w : Pairs) (a b h k : FreeTerm) (ps : Pairs) → IsHead s a h → parts h k ≡ Some ps
    → suc (load s (w ++ ps)) ≤ load s (w ++ one a b)
less_parts s w a b h k ps l p =
    omega (arith, load_both s w (one a b), load_both s w ps, parts_load s h k ps p, ap size l.same)
