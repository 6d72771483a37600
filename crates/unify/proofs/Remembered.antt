-- What unification remembers of the pairs that it has met stays true as it goes on.
use Rattle.std.proofs.Common.{◌≡◌, ℕ, zero, suc, ◌<◌, ◌≤◌, Bool, true, false, ◌&&◌, List, [], ◌∷◌, ◌++◌, length, Result, Ok, Err, IfOk, append-nil, refl, ap, sym, ◌∙◌, subst, arith, ◌⊎◌, inl, inr}
use Rattle.std.proofs.lemmas.Bool.{false≢true}
use Rattle.std.proofs.lemmas.List.{length-map}
use Rattle.std.specs.HashSet.{contains, Updates}
use Rattle.std.specs.List.{list_any}
use Rattle.free_terms.specs.Free.{FreeTerm, metavar}
use Rattle.free_terms.specs.View.{name_of}
use Rattle.free_terms.specs.declared.term.Name.{Name}
use Rattle.unify.specs.Index.{is_same}
use Rattle.unify.specs.Memo.{Couples, EquatesNames, Waits, AllWait, AreEquated, Remembers, StillRemembers, GoesOn, KeepsMemory, from, names, with_names, is_same_pair}
use Rattle.unify.specs.Offers.{Offer, Entails, Equates}
use Rattle.unify.specs.View.{binding_of}
use Rattle.unify.specs.declared.work.Pair.{Pair}
use Rattle.unify.specs.Work.{Pairs, pair_of, pairs_of, Agrees, Reduces, Binds, StepMeans, load}
use Rattle.unify.specs.declared.memo.Memo.{Memo}
use Rattle.unify.specs.declared.memo.Met.{Met}
use Rattle.unify.specs.declared.work.Step.{Step}
use Rattle.unify.specs.declared.work.Step.TheVariants as step
use Rattle.unify.proofs.Acyclic.{tells}
use Rattle.unify.proofs.Partial.{entails_old, entails_last}
use Rattle.unify.proofs.Reduce.{one, agrees_both, agrees_front, agrees_behind, front_stands, load_both, less_same}
use Rattle.unify.proofs.Subterms.{behind, all_stand_in, all_stand_through, all_stand_both, stands_through}

-- ---- the pairs from a place on
none_left : (r : Offer) (n : ℕ) → Agrees r (from n [])
none_left r zero = tt
none_left r (suc n) = tt

from_changed : (r : Offer) (n : ℕ) (w more : Pairs) (p : FreeTerm × FreeTerm) → (Agrees r more → Agrees r (p ∷ []))
    → Agrees r (from n (w ++ more)) → Agrees r (from n (w ++ p ∷ []))
from_changed r zero [] more p f a = f a
from_changed r (suc n) [] more p f a = none_left r n
from_changed r zero (q ∷ w) more p f a = (a.0, from_changed r zero w more p f a.1)
from_changed r (suc n) (q ∷ w) more p f a = from_changed r n w more p f a

past_the_end : (r : Offer) (n : ℕ) (w : Pairs) → length w ≤ n → Agrees r (from n w)
past_the_end r zero [] le = tt
past_the_end r zero (q ∷ w) le = let none : ⊥ = omega (arith, le) in absurd none
past_the_end r (suc n) [] le = tt
past_the_end r (suc n) (q ∷ w) le = past_the_end r n w (omega (arith, le))

from_end : (r : Offer) (w more : Pairs) → Agrees r (from (length w) (w ++ more)) → Agrees r more
from_end r [] more a = a
from_end r (q ∷ w) more a = from_end r w more a

-- ---- what waits, after a pair gave way to others
all_wait_after : (s t : Offer) (w more : Pairs) (p : FreeTerm × FreeTerm) (ms : List Met) → ((r : Offer) → Entails r t → Entails r s)
    → ((r : Offer) → Entails r t → Agrees r more → Agrees r (p ∷ [])) → AllWait s (w ++ p ∷ []) ms → AllWait t (w ++ more) ms
all_wait_after s t w more p [] older back all = tt
all_wait_after s t w more p (m ∷ ms) older back all = (
  λ r e a. all.0 r (older r e) (from_changed r m.below w more p (back r e) a),
  all_wait_after s t w more p ms older back all.1,
)

remembers_after : (s t : Offer) (w more : Pairs) (p : FreeTerm × FreeTerm) (memo : Memo) → ((r : Offer) → Entails r t → Entails r s)
    → ((r : Offer) → Entails r t → Agrees r more → Agrees r (p ∷ [])) → Remembers s (w ++ p ∷ []) memo → Remembers t (w ++ more) memo
remembers_after s t w more p memo older back k = record {
  waiting = all_wait_after s t w more p memo.waiting.items older back k.waiting;
  done = λ x y c r e. k.done x y c r (older r e);
}

pub remembers_step : (s : Offer) (w new : Pairs) (p : FreeTerm × FreeTerm) (memo : Memo) (st : Step) → Remembers s (w ++ p ∷ []) memo → GoesOn s w p new st
    → StillRemembers s new memo st
remembers_step s w new p memo step.Agreed k g =
    subst (λ z. Remembers s z memo) (sym g.1) (remembers_after s s w g.0 p memo (λ r e. e) (λ r e a. g.2.back r e a) k)
remembers_step s w new p memo step.Clash k g = tt
remembers_step s w new p memo (step.Bind b) k g =
    let t : Offer = s ++ binding_of b ∷ [] in
    subst (λ z. Remembers t z memo) (append-nil w ∙ sym g.0)
    (remembers_after s t w [] p memo (λ r e. entails_old r s (binding_of b) e)
    (λ r e a. g.1.reduces.back r (entails_old r s (binding_of b) e) (entails_last r s (binding_of b) e, tt)) k)

-- ---- what a pair comes to, with the others before it
beside : (s : Offer) (w more : Pairs) (p : FreeTerm × FreeTerm) → Reduces s (p ∷ []) more → Reduces s (w ++ p ∷ []) (w ++ more)
beside s w more p a = record {
  stand = all_stand_both s (w ++ p ∷ []) w more (front_stands s w (p ∷ []))
      (all_stand_through s (w ++ p ∷ []) (p ∷ []) more (all_stand_in s (w ++ p ∷ []) (p ∷ []) (λ t q. behind t w (p ∷ []) q)) a.stand);
  forward = λ r e x. agrees_both r w more (agrees_front r w (p ∷ []) x) (a.forward r e (agrees_behind r w (p ∷ []) x));
  back = λ r e x. agrees_both r w (p ∷ []) (agrees_front r w more x) (a.back r e (agrees_behind r w more x));
}

bound_beside : (s : Offer) (w : Pairs) (p q : FreeTerm × FreeTerm) → Reduces s (p ∷ []) (q ∷ []) → Reduces s (w ++ p ∷ []) (q ∷ w)
bound_beside s w p q a = record {
  stand = (
    stands_through s (w ++ p ∷ []) (p ∷ []) q.0 (all_stand_in s (w ++ p ∷ []) (p ∷ []) (λ t u. behind t w (p ∷ []) u)) a.stand.0,
    stands_through s (w ++ p ∷ []) (p ∷ []) q.1 (all_stand_in s (w ++ p ∷ []) (p ∷ []) (λ t u. behind t w (p ∷ []) u)) a.stand.1,
    front_stands s w (p ∷ []),
  );
  forward = λ r e x. ((a.forward r e (agrees_behind r w (p ∷ []) x)).0, agrees_front r w (p ∷ []) x);
  back = λ r e x. agrees_both r w (p ∷ []) x.1 (a.back r e (x.0, tt));
}

pub goes_means : (s : Offer) (w new : Pairs) (p : FreeTerm × FreeTerm) (st : Step) → GoesOn s w p new st → StepMeans s (w ++ p ∷ []) new st
goes_means s w new p step.Agreed g = subst (Reduces s (w ++ p ∷ [])) (sym g.1) (beside s w g.0 p g.2)
goes_means s w new p step.Clash g = λ r e x. g r e (agrees_behind r w (p ∷ []) x)
goes_means s w new p (step.Bind b) g =
    subst (λ z. Binds s (w ++ p ∷ []) z (binding_of b)) (sym g.0)
    (record { unbound = g.1.unbound; fresh = g.1.fresh; reduces = bound_beside s w p (metavar (binding_of b).name, (binding_of b).term) g.1.reduces })

pub goes_less : (s : Offer) (w new : Pairs) (p : FreeTerm × FreeTerm) → GoesOn s w p new step.Agreed → load s new < load s (w ++ p ∷ [])
goes_less s w new p g = omega (arith, ap (load s) g.1, load_both s w g.0, load_both s w (p ∷ []), g.3)

pub nothing_more : (s : Offer) (w : Pairs) (a b : FreeTerm) → Reduces s (one a b) [] → GoesOn s w (a, b) w step.Agreed
nothing_more s w a b reduces = ([], sym (append-nil w), reduces, less_same s [] a b)

-- a couple that was met before
pub met_before : (s : Offer) (w : Pairs) (x y : Name) (done : Couples) → AreEquated s done → contains is_same_pair done (x, y) ≡ true
    → GoesOn s w (names x y) w step.Agreed
met_before s w x y done all found =
    nothing_more s w (metavar (name_of x)) (metavar (name_of y)) (record {
      stand = tt;
      forward = λ r e a. tt;
      back = λ r e a. (all x y found r e, tt);
    })

-- ---- the couples that were met
all_before : (s : Offer) (w : Pairs) (ms : List Met) (m : Met) → AllWait s w (ms ++ m ∷ []) → AllWait s w ms
all_before s w [] m all = tt
all_before s w (k ∷ ms) m all = (all.0, all_before s w ms m all.1)

last_waits : (s : Offer) (w : Pairs) (ms : List Met) (m : Met) → AllWait s w (ms ++ m ∷ []) → Waits s w m
last_waits s w [] m all = all.0
last_waits s w (k ∷ ms) m all = last_waits s w ms m all.1

one_more : (s : Offer) (w : Pairs) (ms : List Met) (m : Met) → AllWait s w ms → Waits s w m → AllWait s w (ms ++ m ∷ [])
one_more s w [] m all wait = (wait, tt)
one_more s w (k ∷ ms) m all wait = (all.0, one_more s w ms m all.1 wait)

pub remembers_met : (s : Offer) (w : Pairs) (x y : Name) (old new : Memo) (m : Met) → Remembers s (with_names w x y) old
    → new.waiting.items ≡ old.waiting.items ++ m ∷ [] → new.done ≡ old.done → m.left ≡ x → m.right ≡ y → m.below ≡ length w → Remembers s (with_names w x y) new
remembers_met s w x y old new m k waiting done left right below = record {
  waiting = subst (AllWait s (with_names w x y)) (sym waiting) (one_more s (with_names w x y) old.waiting.items m k.waiting wait);
  done = subst (AreEquated s) (sym done) k.done;
} where
  wait : Waits s (with_names w x y) m
  wait r e a =
      subst (λ z. EquatesNames r z m.right) (sym left)
      (subst (λ z. EquatesNames r x z) (sym right)
      (from_end r w (names x y ∷ []) (subst (λ n. Agrees r (from n (with_names w x y))) below a)).0)

halves : (p q : Bool) → (p && q) ≡ true → (p ≡ true) × (q ≡ true)
halves true q e = (refl, e)
halves false q e = absurd (false≢true e)

named : (x y : Name) → is_same x y ≡ true → name_of x ≡ name_of y
named x y e = by_case (tells (name_of x) (name_of y)) where
  by_case : ((is_same x y ≡ true) × (name_of x ≡ name_of y)) ⊎ ((is_same x y ≡ false) × (name_of x ≡ name_of y → ⊥)) → name_of x ≡ name_of y
  by_case (inl p) = p.1
  by_case (inr p) = absurd (false≢true (sym p.0 ∙ e))

equated_with : (s : Offer) (done more : Couples) (x y : Name) → AreEquated s done → ((r : Offer) → Entails r s → EquatesNames r x y)
    → Updates is_same_pair done more (x, y) true → AreEquated s more
equated_with s done more x y all both updates u v found =
    by_case (is_same_pair (x, y) (u, v)) refl where
      by_case : (q : Bool) → is_same_pair (x, y) (u, v) ≡ q → (r : Offer) → Entails r s → EquatesNames r u v
      by_case true same r e =
          let h = halves (is_same x u) (is_same y v) same in
          subst (λ z. Equates r (metavar z) (metavar (name_of v))) (named x u h.0)
          (subst (λ z. Equates r (metavar (name_of x)) (metavar z)) (named y v h.1) (both r e))
      by_case false other r e = all u v (sym (updates.2 (u, v) other) ∙ found) r e

pub keeps_itself : (left : ℕ) (memo : Memo) → KeepsMemory left memo memo
keeps_itself left memo = λ s work len k. k

pub keeps_settled : (left : ℕ) (old memo new : Memo) (rest : List Met) (m : Met) → KeepsMemory left old memo → memo.waiting.items ≡ rest ++ m ∷ []
    → new.waiting.items ≡ rest → left < m.below → Updates is_same_pair memo.done new.done (m.left, m.right) true → KeepsMemory left old new
keeps_settled left old memo new rest m keeps was is past updates s work len k =
    let now = keeps s work len k in
    let all = subst (AllWait s work) was now.waiting in record {
      waiting = subst (AllWait s work) (sym is) (all_before s work rest m all);
      done = equated_with s memo.done new.done m.left m.right now.done
          (λ r e. last_waits s work rest m all r e (past_the_end r m.below work (omega (arith, len, past)))) updates;
    }

pub keeps_put_back : (left : ℕ) (old memo new : Memo) → KeepsMemory left old memo → new.waiting.items ≡ memo.waiting.items → new.done ≡ memo.done → KeepsMemory left old new
keeps_put_back left old memo new keeps waiting done s work len k =
    let now = keeps s work len k in
    record { waiting = subst (AllWait s work) (sym waiting) now.waiting; done = subst (AreEquated s) (sym done) now.done }

pub nothing_met : (s : Offer) (work : Pairs) (memo : Memo) → memo.waiting.items ≡ [] → memo.done.keys ≡ [] → Remembers s work memo
nothing_met s work memo waiting done = record {
  waiting = subst (AllWait s work) (sym waiting) tt;
  done = λ x y found. absurd (false≢true (ap (list_any (is_same_pair (x, y))) (sym done) ∙ found));
}

length_with : (w : Pairs) (p : FreeTerm × FreeTerm) → length (w ++ p ∷ []) ≡ suc (length w)
length_with [] p = omega arith
length_with (q ∷ w) p = omega (arith, length_with w p)

pub one_left : (items : List Pair) (x y : Name) (n : ℕ) → n ≡ length items → length (with_names (pairs_of items) x y) ≡ suc n
one_left items x y n len = omega (arith, length_with (pairs_of items) (names x y), length-map items pair_of, len)

pub always : {A E P : Type 0} (r : Result A E) → P → IfOk r (λ _. P)
always (Ok a) p = p
always (Err e) p = tt
