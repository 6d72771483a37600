-- Segments that wait on a stack, and the walks that are left of them.
use Rattle.std.proofs.Common.{◌≡◌, ℕ, zero, suc, Bool, true, false, inl, inr, ◌+◌, ◌<◌, ◌≤◌, List, [], ◌∷◌, ◌++◌, length, take, Some, None, refl, ap, sym, ◌∙◌, subst, arith, append_assoc}
use Rattle.std.specs.Prelude.{nat_lt}
use Rattle.std.proofs.lemmas.Bool.{lt-ltb, le-ltb}
use Rattle.std.proofs.lemmas.List.{take_all}
use Rattle.tab_tree.specs.Tableau.{Tableau, IsTableau}
use Rattle.tab_tree.specs.Segments.{Segments, tip, node, all_segments, top, IsAmong, itself, on_left, on_right}
use Rattle.tab_tree.specs.RoundValue.{RoundValue, root_of}
use Rattle.tab_tree.specs.SiteValue.{SiteValue, segment_of, IsOfRound, IsRoot, AreParts}
use Rattle.tab_tree.specs.declared.words.OpenAnswer.TheVariants as answer
use Rattle.tab_tree.proofs.Exists.{one_tableau}
use Rattle.tab_tree.proofs.Running.{among_is, among_through}
use Rattle.tab_tree.proofs.Below.{tip_of, same_below}
use Rattle.open_walk.specs.Walk.{HasUnifiable, Visit, open_leaf, other, IsWalk, stops, is_open, goes_on, first_open, answer_by, answer_within, IsOpenAnswer}
use Rattle.open_walk.specs.Visits.{Starts, Turns}
use Rattle.open_walk.specs.declared.limit.TheConstants.{MOST_SEGMENTS}
use Rattle.open_walk.proofs.Decided.{walk_exists}

some_is_none : {A : Type 0} (x : A) → Some x ≡ None → ⊥
some_is_none x e = cc

-- ---- walks of several, the last of them first
abbrev pub AreWalks : List Segments → List Visit → Type 0
AreWalks [] w = w ≡ []
AreWalks (gs ∷ above) w = (v : List Visit) × (r : List Visit) × AreWalks above v × IsWalk gs r × (w ≡ v ++ r)

nil_behind : (w : List Visit) → w ++ [] ≡ w
nil_behind [] = refl
nil_behind (v ∷ w) = ap (λ z. v ∷ z) (nil_behind w)

pub walks_with : (rest : List Segments) (gs : Segments) (v r : List Visit) → IsWalk gs v → AreWalks rest r → AreWalks (rest ++ gs ∷ []) (v ++ r)
walks_with [] gs v r is e = ([], v, refl, is, ap (λ z. v ++ z) e ∙ nil_behind v)
walks_with (hs ∷ rest) gs v r is h =
    (v ++ h.0, h.1, walks_with rest gs v h.0 is h.2, h.3, ap (λ z. v ++ z) h.4 ∙ sym (append_assoc v h.0 h.1))

pub walks_exist : (rest : List Segments) → (w : List Visit) × AreWalks rest w
walks_exist [] = ([], refl)
walks_exist (gs ∷ above) = let v = walks_exist above in let r = walk_exists gs in (v.0 ++ r.0, (v.0, r.0, v.1, r.1, refl))

-- ---- the sites that wait
pub record IsHere (r : RoundValue) (t : Tableau) (s : SiteValue) (gs : Segments) : Type 0 where
  pub of_round : IsOfRound r s
  pub among : IsAmong gs (all_segments (root_of r) t)
  pub first : top gs ≡ segment_of s

abbrev pub AreHere : RoundValue → Tableau → List SiteValue → List Segments → Type 0
AreHere r t [] [] = Unit {0}
AreHere r t [] (gs ∷ above) = ⊥
AreHere r t (s ∷ ss) [] = ⊥
AreHere r t (s ∷ ss) (gs ∷ above) = IsHere r t s gs × AreHere r t ss above

here_with : (r : RoundValue) (t : Tableau) (ss : List SiteValue) (above : List Segments) (s : SiteValue) (gs : Segments) → AreHere r t ss above → IsHere r t s gs
    → AreHere r t (ss ++ s ∷ []) (above ++ gs ∷ [])
here_with r t [] [] s gs a h = (h, tt)
here_with r t [] (hs ∷ above) s gs a h = absurd a
here_with r t (q ∷ ss) [] s gs a h = absurd a
here_with r t (q ∷ ss) (hs ∷ above) s gs a h = (a.0, here_with r t ss above s gs a.1 h)

record LastHere (r : RoundValue) (t : Tableau) (ss : List SiteValue) (s : SiteValue) (all : List Segments) : Type 0 where
  rest : List Segments
  last : Segments
  here : IsHere r t s last
  others : AreHere r t ss rest
  are : all ≡ rest ++ last ∷ []

last_here : (r : RoundValue) (t : Tableau) (ss : List SiteValue) (s : SiteValue) (all : List Segments) → AreHere r t (ss ++ s ∷ []) all → LastHere r t ss s all
last_here r t [] s [] a = absurd a
last_here r t [] s (gs ∷ []) a = record { rest = []; last = gs; here = a.0; others = tt; are = refl }
last_here r t [] s (gs ∷ hs ∷ above) a = absurd a.1
last_here r t (q ∷ ss) s [] a = absurd a
last_here r t (q ∷ ss) s (gs ∷ above) a =
    let h = last_here r t ss s above a.1 in
    record { rest = gs ∷ h.rest; last = h.last; here = h.here; others = (a.0, h.others); are = ap (λ z. gs ∷ z) h.are }

-- The walk has come so far: it has visited so many segments that are no open leaves, and what is left of it are the
-- walks of the sites that wait.
pub record Goes (r : RoundValue) (sites : List SiteValue) (visits : ℕ) : Type 0 where
  pub tableau : Tableau
  pub whole : IsTableau r.depth (root_of r) tableau
  pub waiting : List Segments
  pub here : AreHere r tableau sites waiting
  pub done : List Visit
  pub none : first_open done ≡ None
  pub count : length done ≡ visits
  pub walks : (w : List Visit) → AreWalks waiting w → IsWalk (all_segments (root_of r) tableau) (done ++ w)

split_walks : (rest : List Segments) (gs : Segments) (w : List Visit) → AreWalks (rest ++ gs ∷ []) w
    → (v : List Visit) × (r : List Visit) × IsWalk gs v × AreWalks rest r × (w ≡ v ++ r)
split_walks [] gs w a = (a.1, [], a.3, refl, a.4 ∙ ap (λ z. z ++ a.1) a.2 ∙ sym (nil_behind a.1))
split_walks (hs ∷ rest) gs w a =
    let h = split_walks rest gs a.0 a.2 in
    (h.0, h.1 ++ a.1, h.2, (h.1, a.1, h.3, a.3, refl), a.4 ∙ ap (λ z. z ++ a.1) h.4 ∙ append_assoc h.0 h.1 a.1)

first_open_behind : (xs ys : List Visit) → first_open xs ≡ None → first_open (xs ++ ys) ≡ first_open ys
first_open_behind [] ys h = refl
first_open_behind (open_leaf b ∷ xs) ys h = absurd (some_is_none b h)
first_open_behind (other b ∷ xs) ys h = first_open_behind xs ys h

length_with : (xs : List Visit) (v : Visit) → length (xs ++ v ∷ []) ≡ suc (length xs)
length_with [] v = refl
length_with (x ∷ xs) v = ap suc (length_with xs v)

-- ---- the steps of the walk
pub begins : (r : RoundValue) (s : SiteValue) → IsRoot r s → Goes r (s ∷ []) 0
begins r s h = record {
  tableau = h.tableau;
  whole = h.whole;
  waiting = all_segments (root_of r) h.tableau ∷ [];
  here = (record { of_round = h.of_round; among = itself; first = h.first }, tt);
  done = [];
  none = refl;
  count = refl;
  walks = λ w a. subst (IsWalk (all_segments (root_of r) h.tableau)) (sym (a.4 ∙ ap (λ z. z ++ a.1) a.2)) a.3;
}

-- the last site that waits
pub of_round_last : (r : RoundValue) (sites ss : List SiteValue) (s : SiteValue) (visits : ℕ) → Goes r sites visits → sites ≡ ss ++ s ∷ [] → IsOfRound r s
of_round_last r sites ss s visits g e = (last_here r g.tableau ss s g.waiting (subst (λ z. AreHere r g.tableau z g.waiting) e g.here)).here.of_round

pub stopped : (r : RoundValue) (sites ss : List SiteValue) (s : SiteValue) (visits : ℕ) → Goes r sites visits → sites ≡ ss ++ s ∷ [] → HasUnifiable (segment_of s)
    → Goes r ss (visits + 1)
stopped r sites ss s visits g e u =
    let h = last_here r g.tableau ss s g.waiting (subst (λ z. AreHere r g.tableau z g.waiting) e g.here) in
    let v = other (top h.last).name in
    record {
      tableau = g.tableau;
      whole = g.whole;
      waiting = h.rest;
      here = h.others;
      done = g.done ++ v ∷ [];
      none = first_open_behind g.done (v ∷ []) g.none;
      count = (let n = length_with g.done v in omega (arith, n, g.count));
      walks = λ w a. subst (IsWalk (all_segments (root_of r) g.tableau)) (sym (append_assoc g.done (v ∷ []) w))
          (g.walks (v ∷ w) (subst (λ z. AreWalks z (v ∷ w)) (sym h.are)
          (walks_with h.rest h.last (v ∷ []) w (stops h.last (subst HasUnifiable (sym h.here.first) u)) a)));
    }

pub split_on : (r : RoundValue) (sites ss : List SiteValue) (s on_l on_r : SiteValue) (visits : ℕ) → Goes r sites visits → sites ≡ ss ++ s ∷ []
    → (HasUnifiable (segment_of s) → ⊥) → AreParts r (segment_of s) on_l on_r → Goes r ((ss ++ on_r ∷ []) ++ on_l ∷ []) (visits + 1)
split_on r sites ss s on_l on_r visits g e none p =
    let h = last_here r g.tableau ss s g.waiting (subst (λ z. AreHere r g.tableau z g.waiting) e g.here) in
    let one : p.tableau ≡ g.tableau = one_tableau r.depth (root_of r) p.tableau g.tableau p.whole g.whole in
    let among : IsAmong (node (segment_of s) p.below_left p.below_right) (all_segments (root_of r) g.tableau) =
    subst (λ t. IsAmong (node (segment_of s) p.below_left p.below_right) (all_segments (root_of r) t)) one p.among in
    let same : h.last ≡ node (segment_of s) p.below_left p.below_right =
    same_below r.depth h.last (node (segment_of s) p.below_left p.below_right)
    (among_is r.depth (root_of r) g.tableau h.last g.whole h.here.among)
    (among_is r.depth (root_of r) g.tableau (node (segment_of s) p.below_left p.below_right) g.whole among) h.here.first in
    let v = other s.name in
    record {
      tableau = g.tableau;
      whole = g.whole;
      waiting = (h.rest ++ p.below_right ∷ []) ++ p.below_left ∷ [];
      here = here_with r g.tableau (ss ++ on_r ∷ []) (h.rest ++ p.below_right ∷ []) on_l p.below_left
          (here_with r g.tableau ss h.rest on_r p.below_right h.others
          (record { of_round = p.right_of_round; among = among_through p.below_right (node (segment_of s) p.below_left p.below_right) (all_segments (root_of r) g.tableau) (on_right itself) among; first = p.first_right }))
          (record { of_round = p.left_of_round; among = among_through p.below_left (node (segment_of s) p.below_left p.below_right) (all_segments (root_of r) g.tableau) (on_left itself) among; first = p.first_left });
      done = g.done ++ v ∷ [];
      none = first_open_behind g.done (v ∷ []) g.none;
      count = (let n = length_with g.done v in omega (arith, n, g.count));
      walks = λ w a.
          let x = split_walks (h.rest ++ p.below_right ∷ []) p.below_left w a in
          let y = split_walks h.rest p.below_right x.1 x.3 in
          let is = walks_with h.rest h.last (v ∷ (x.0 ++ y.0)) y.1
          (subst (λ z. IsWalk z (v ∷ (x.0 ++ y.0))) (sym same) (goes_on (segment_of s) p.below_left p.below_right x.0 y.0 none x.2 y.2)) y.3 in
          let behind : (x.0 ++ y.0) ++ y.1 ≡ w = append_assoc x.0 y.0 y.1 ∙ ap (λ z. x.0 ++ z) (sym y.4) ∙ sym x.4 in
          subst (IsWalk (all_segments (root_of r) g.tableau)) (sym (append_assoc g.done (v ∷ []) w))
          (g.walks (v ∷ w) (subst (λ z. AreWalks z (v ∷ w)) (sym h.are) (subst (λ z. AreWalks (h.rest ++ h.last ∷ []) (v ∷ z)) behind is)));
    }

-- ---- what it answers
within_all : (n : ℕ) (w : List Visit) → first_open w ≡ None → length w ≤ n → answer_within n w ≡ answer.Conflict
within_all n w none le =
    ap (λ z. answer_by (first_open z) (nat_lt n (length w))) (take_all n w le) ∙ ap (λ o. answer_by o (nat_lt n (length w))) none
    ∙ ap (answer_by None) (le-ltb n (length w) le)

take_front : (n : ℕ) (xs ys : List Visit) → length xs ≡ n → take n (xs ++ ys) ≡ xs
take_front zero [] ys e = refl
take_front (suc n) [] ys e = let no : ⊥ = omega (arith, e) in absurd no
take_front zero (x ∷ xs) ys e = let no : ⊥ = omega (arith, e) in absurd no
take_front (suc n) (x ∷ xs) ys e = ap (λ z. x ∷ z) (take_front n xs ys (omega (arith, e)))

within_cut : (n : ℕ) (done w : List Visit) → first_open done ≡ None → length done ≡ n → n < length (done ++ w) → answer_within n (done ++ w) ≡ answer.Unsearched
within_cut n done w none e lt =
    ap (λ z. answer_by (first_open z) (nat_lt n (length (done ++ w)))) (take_front n done w e) ∙ ap (λ o. answer_by o (nat_lt n (length (done ++ w)))) none
    ∙ ap (answer_by None) (lt-ltb n (length (done ++ w)) lt)

found_within : (n b : ℕ) (done rest : List Visit) → first_open done ≡ None → length done < n → first_open (take n (done ++ open_leaf b ∷ rest)) ≡ Some b
found_within zero b done rest none lt = let no : ⊥ = omega (arith, lt) in absurd no
found_within (suc n) b [] rest none lt = refl
found_within (suc n) b (open_leaf c ∷ done) rest none lt = absurd (some_is_none c none)
found_within (suc n) b (other c ∷ done) rest none lt = found_within n b done rest none (omega (arith, lt))

within_open : (n b : ℕ) (done rest : List Visit) → first_open done ≡ None → length done < n → answer_within n (done ++ open_leaf b ∷ rest) ≡ answer.Branch b
within_open n b done rest none lt = ap (λ o. answer_by o (nat_lt n (length (done ++ open_leaf b ∷ rest)))) (found_within n b done rest none lt)

visits_some : (gs : Segments) (w : List Visit) → IsWalk gs w → 0 < length w
visits_some gs w (stops _ u) = omega arith
visits_some gs w (is_open _ n) = omega arith
visits_some gs w (goes_on _ _ _ _ _ n x y) = omega arith

length_both : (xs ys : List Visit) → length (xs ++ ys) ≡ length xs + length ys
length_both [] ys = omega arith
length_both (x ∷ xs) ys = omega (arith, length_both xs ys)

pub ended : (r : RoundValue) (sites : List SiteValue) (visits : ℕ) → Goes r sites visits → visits ≤ MOST_SEGMENTS → sites ≡ [] → IsOpenAnswer r answer.Conflict
ended r sites visits g le e = (
  g.tableau,
  g.whole,
  (
    g.done ++ [],
    g.walks [] (no_wait g.waiting (subst (λ z. AreHere r g.tableau z g.waiting) e g.here)),
    within_all MOST_SEGMENTS (g.done ++ []) (first_open_behind g.done [] g.none) few,
  ),
) where
  no_wait : (all : List Segments) → AreHere r g.tableau [] all → AreWalks all []
  no_wait [] h = refl
  no_wait (gs ∷ all) h = absurd h

  few : length (g.done ++ []) ≤ MOST_SEGMENTS
  few = let n = length_both g.done [] in omega (arith, n, g.count, le)

-- a walk of several visits some segment
some_visited : (r : RoundValue) (t : Tableau) (sites : List SiteValue) (all : List Segments) (w : List Visit) → AreHere r t sites all → (sites ≡ [] → ⊥) → AreWalks all w → 0 < length w
some_visited r t [] all w h some a = absurd (some refl)
some_visited r t (s ∷ sites) [] w h some a = absurd h
some_visited r t (s ∷ sites) (gs ∷ above) w h some a =
    let one = visits_some gs a.1 a.3 in
    let both = length_both a.0 a.1 in
    let whole = ap length a.4 in
    omega (arith, one, both, whole)

pub cut : (r : RoundValue) (sites : List SiteValue) (visits : ℕ) → Goes r sites visits → visits ≡ MOST_SEGMENTS → (sites ≡ [] → ⊥) → IsOpenAnswer r answer.Unsearched
cut r sites visits g all some =
    let w = walks_exist g.waiting in
    let one = some_visited r g.tableau sites g.waiting w.0 g.here some w.1 in
    let whole = length_both g.done w.0 in (
      g.tableau,
      g.whole,
      (
        g.done ++ w.0,
        g.walks w.0 w.1,
        within_cut MOST_SEGMENTS g.done w.0 g.none (omega (arith, g.count, all)) (omega (arith, one, whole, g.count, all)),
      ),
    )

pub opened : (r : RoundValue) (sites ss : List SiteValue) (s : SiteValue) (visits : ℕ) → Goes r sites visits → visits < MOST_SEGMENTS → sites ≡ ss ++ s ∷ []
    → (HasUnifiable (segment_of s) → ⊥) → s.splits_at ≡ None → IsOpenAnswer r (answer.Branch s.name)
opened r sites ss s visits g lt e none at =
    let h = last_here r g.tableau ss s g.waiting (subst (λ z. AreHere r g.tableau z g.waiting) e g.here) in
    let tip_here : h.last ≡ tip (segment_of s) =
    tip_of r.depth h.last (among_is r.depth (root_of r) g.tableau h.last g.whole h.here.among) (ap (λ z. z.splits_at) h.here.first ∙ at) ∙ ap tip h.here.first in
    let v = open_leaf s.name in
    let w = walks_exist h.rest in (
      g.tableau,
      g.whole,
      (
        g.done ++ v ∷ w.0,
        g.walks (v ∷ w.0) (subst (λ z. AreWalks z (v ∷ w.0)) (sym h.are) (walks_with h.rest h.last (v ∷ []) w.0 (subst (λ z. IsWalk z (v ∷ [])) (sym tip_here) (is_open (segment_of s) none)) w.1)),
        within_open MOST_SEGMENTS s.name g.done w.0 g.none (omega (arith, g.count, lt)),
      ),
    )

-- ---- one visit
pub started : (r : RoundValue) (sites : List SiteValue) → Starts r sites → Goes r sites 0
started r sites h = subst (λ z. Goes r z 0) (sym h.2) (begins r h.0 h.1)

pub gone_on : (r : RoundValue) (sites ss now : List SiteValue) (s : SiteValue) (visits : ℕ) (open_leaf : Bool) → Goes r sites visits → sites ≡ ss ++ s ∷ []
    → Turns r s ss now open_leaf → open_leaf ≡ false → Goes r now (visits + 1)
gone_on r sites ss now s visits q g e h is = by_turn (subst (Turns r s ss now) is h) where
  by_turn : Turns r s ss now false → Goes r now (visits + 1)
  by_turn (inl u) = subst (λ z. Goes r z (visits + 1)) (sym u.1) (stopped r sites ss s visits g e u.0)
  by_turn (inr u) = subst (λ z. Goes r z (visits + 1)) (sym u.1.3) (split_on r sites ss s u.1.0 u.1.1 visits g e u.0 u.1.2)

pub open_found : (r : RoundValue) (sites ss now : List SiteValue) (s : SiteValue) (visits : ℕ) (open_leaf : Bool) → Goes r sites visits → visits < MOST_SEGMENTS → sites ≡ ss ++ s ∷ []
    → Turns r s ss now open_leaf → open_leaf ≡ true → IsOpenAnswer r (answer.Branch s.name)
open_found r sites ss now s visits q g lt e h is =
    let u : Turns r s ss now true = subst (Turns r s ss now) is h in
    opened r sites ss s visits g lt e u.0 u.1
