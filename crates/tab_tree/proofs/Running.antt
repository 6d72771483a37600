-- A segment is what its steps lead to.
use Rattle.std.proofs.Common.{◌≡◌, ℕ, ◌+◌, ◌*◌, Bool, true, false, List, [], ◌∷◌, ◌++◌, length, Option, Some, None, refl, ap, sym, ◌∙◌, subst, append_assoc}
use Rattle.std.proofs.Common.{◌⊎◌, inl, inr}
use Rattle.std.proofs.lemmas.Bool.{false≢true}
use Rattle.branch_rules.specs.Branch.{Branch, Done, go_left, go_right, is_split, principal, entries, after}
use Rattle.branch_rules.specs.Next.{ComesNext, IsLeaf}
use Rattle.branch_rules.proofs.Served.{AreOne, one_next}
use Rattle.tab_tree.specs.Tableau.{Tableau, leaf, step, split, IsTableau}
use Rattle.tab_tree.specs.Segments.{Segment, Segments, tip, node, segments, all_segments, top, IsAmong, itself, on_left, on_right}
use Rattle.tab_tree.specs.Runs.{Runs, begins, goes_on, Ends}
use Rattle.tab_tree.specs.SiteValue.{IsSegment}
use Rattle.tab_tree.proofs.Exists.{tableau_below}

append_none : {A : Type 0} (xs : List A) → xs ++ [] ≡ xs
append_none [] = refl
append_none (x ∷ xs) = ap (λ z. x ∷ z) (append_none xs)

unless_split : (s z : Done) → is_split s ≡ false → AreOne s z → s ≡ z
unless_split s z e (inl same) = same
unless_split s z e (inr both) = absurd (false≢true (sym e ∙ both.0))

-- what stands below the end of a run, and that the segments are the same from there on
record Rest (d name from : ℕ) (ds : List Done) (b c : Branch) (t : Tableau) (es : List Done) : Type 0 where
  tableau : Tableau
  whole : IsTableau d c tableau
  same : segments name from ds b t ≡ segments name from (ds ++ es) c tableau

one_further : (d name from : ℕ) (ds : List Done) (b c : Branch) (t : Tableau) (es : List Done) (s : Done) → is_split s ≡ false → ComesNext c d s
    → (u : Tableau) → IsTableau d c u → segments name from ds b t ≡ segments name from (ds ++ es) c u → Rest d name from ds b (after c s) t (es ++ s ∷ [])
one_further d name from ds b c t es s e x leaf is same = absurd (is s x)
one_further d name from ds b c t es s e x (split i l r) is same = absurd (no_split (one_next c d s (go_left i) x is.0).1) where
  no_split : AreOne s (go_left i) → ⊥
  no_split (inl h) = false≢true (sym e ∙ ap is_split h)
  no_split (inr h) = false≢true (sym e ∙ h.0)
one_further d name from ds b c t es s e x (step z u) is same =
    let at : s ≡ z = unless_split s z e (one_next c d s z x is.1).1 in
    record {
      tableau = u;
      whole = subst (λ w. IsTableau d (after c w) u) (sym at) is.2;
      same = same ∙ ap (λ w. segments name from ((ds ++ es) ++ w ∷ []) (after c w) u) (sym at)
          ∙ ap (λ w. segments name from w (after c s) u) (append_assoc ds es (s ∷ []));
    }

run_rest : (d name from : ℕ) (ds : List Done) (b c : Branch) (t : Tableau) (es : List Done) → IsTableau d b t → Runs d b es c → Rest d name from ds b c t es
run_rest d name from ds b c t es is begins = record { tableau = t; whole = is; same = ap (λ w. segments name from w b t) (sym (append_none ds)) }
run_rest d name from ds b c t es is (goes_on {ds = fs} {c = m} s r e x) =
    let h = run_rest d name from ds b m t fs is r in
    one_further d name from ds b m t fs s e x h.tableau h.whole h.same

abbrev segment : ℕ → ℕ → Branch → List Done → Option ℕ → Segment
segment name from c ds o = record { name = name; from = from; branch = c; steps = ds; splits_at = o }

ends_with : (d name from : ℕ) (ds : List Done) (c : Branch) (o : Option ℕ) (u : Tableau) → IsTableau d c u → Ends d c o → top (segments name from ds c u) ≡ segment name from c ds o
ends_with d name from ds c None leaf is end = refl
ends_with d name from ds c None (step s u) is end = absurd (end s is.1)
ends_with d name from ds c None (split i l r) is end = absurd (end (go_left i) is.0)
ends_with d name from ds c (Some i) leaf is end = absurd (is (go_left i) end)
ends_with d name from ds c (Some i) (step s u) is end = absurd (no_split (one_next c d s (go_left i) is.1 end).1) where
  no_split : AreOne s (go_left i) → ⊥
  no_split (inl h) = false≢true (sym is.0 ∙ ap is_split h)
  no_split (inr h) = false≢true (sym is.0 ∙ h.0)
ends_with d name from ds c (Some i) (split j l r) is end = ap (λ k. segment name from c ds (Some k)) (one_next c d (go_left j) (go_left i) is.0 end).0

-- The segment that begins with a branch has the steps of its run, the branch that they lead to, and its end.
pub run_is_segment : (d name from : ℕ) (b c : Branch) (t : Tableau) (ds : List Done) (o : Option ℕ) → IsTableau d b t → Runs d b ds c → Ends d c o
    → top (segments name from [] b t) ≡ segment name from c ds o
run_is_segment d name from b c t ds o is r end =
    let h = run_rest d name from [] b c t ds is r in
    ap top h.same ∙ ends_with d name from ds c o h.tableau h.whole end

-- what the first segment splits into
pub record Parts (d name : ℕ) (gs : Segments) (g : Segment) (i : ℕ) : Type 0 where
  pub left : Tableau
  pub right : Tableau
  pub left_whole : IsTableau d (after g.branch (go_left i)) left
  pub right_whole : IsTableau d (after g.branch (go_right i)) right
  pub same : gs ≡ node g (segments (2 * name) (length (entries g.branch)) [] (after g.branch (go_left i)) left)
      (segments (2 * name + 1) (length (entries g.branch)) [] (after g.branch (go_right i)) right)

some_once : {A : Type 0} (x y : A) → Some x ≡ Some y → x ≡ y
some_once x y e = cc

none_is_some : {A : Type 0} (x : A) → None ≡ Some x → ⊥
none_is_some x e = cc

abbrev parts_at : ℕ → Segment → ℕ → Tableau → Tableau → Segments
parts_at name g i l r =
    node g (segments (2 * name) (length (entries g.branch)) [] (after g.branch (go_left i)) l)
    (segments (2 * name + 1) (length (entries g.branch)) [] (after g.branch (go_right i)) r)

pub parts_of : (d name from : ℕ) (ds : List Done) (b : Branch) (t : Tableau) (g : Segment) (i : ℕ) → IsTableau d b t → top (segments name from ds b t) ≡ g → g.splits_at ≡ Some i
    → Parts d name (segments name from ds b t) g i
parts_of d name from ds b leaf g i is at e = absurd (none_is_some i (ap (λ z. z.splits_at) at ∙ e))
parts_of d name from ds b (step s t) g i is at e = parts_of d name from (ds ++ s ∷ []) (after b s) t g i is.2 at e
parts_of d name from ds b (split j l r) g i is at e =
    let place : j ≡ i = some_once j i (ap (λ z. z.splits_at) at ∙ e) in
    let branch : b ≡ g.branch = ap (λ z. z.branch) at in
    record {
      left = l;
      right = r;
      left_whole = subst (λ c. IsTableau d (after c (go_left i)) l) branch (subst (λ k. IsTableau d (after b (go_left k)) l) place is.1);
      right_whole = subst (λ c. IsTableau d (after c (go_right i)) r) branch (subst (λ k. IsTableau d (after b (go_right k)) r) place is.2);
      same = ap (λ h. node h (segments (2 * name) (length (entries b)) [] (after b (go_left j)) l) (segments (2 * name + 1) (length (entries b)) [] (after b (go_right j)) r)) at
          ∙ ap (λ k. node g (segments (2 * name) (length (entries b)) [] (after b (go_left k)) l) (segments (2 * name + 1) (length (entries b)) [] (after b (go_right k)) r)) place
          ∙ ap (λ c. node g (segments (2 * name) (length (entries c)) [] (after c (go_left i)) l) (segments (2 * name + 1) (length (entries c)) [] (after c (go_right i)) r)) branch;
    }

-- Segments among those of a tableau are those of a tableau themselves.
pub record IsOf (d : ℕ) (below : Segments) : Type 0 where
  pub name : ℕ
  pub from : ℕ
  pub branch : Branch
  pub tableau : Tableau
  pub whole : IsTableau d branch tableau
  pub same : below ≡ segments name from [] branch tableau

node_parts : (g h : Segment) (l r m n : Segments) → node g l r ≡ node h m n → (l ≡ m) × (r ≡ n)
node_parts g h l r m n e = (cc, cc)

tip_is_node : (g h : Segment) (m n : Segments) → tip g ≡ node h m n → ⊥
tip_is_node g h m n e = cc

abbrev AllIn : ℕ → Segments → Type 0
AllIn d gs = (below : Segments) → IsAmong below gs → IsOf d below ⊎ (below ≡ gs)

among_node : (d : ℕ) (below : Segments) (g : Segment) (l r : Segments) → IsOf d l → IsOf d r → AllIn d l → AllIn d r → IsAmong below (node g l r) → IsOf d below ⊎ (below ≡ node g l r)
among_node d below g l r of_l of_r in_l in_r itself = inr refl
among_node d below g l r of_l of_r in_l in_r (on_left a) = inl (either (in_l below a)) where
  either : IsOf d below ⊎ (below ≡ l) → IsOf d below
  either (inl h) = h
  either (inr h) = subst (IsOf d) (sym h) of_l
among_node d below g l r of_l of_r in_l in_r (on_right a) = inl (either (in_r below a)) where
  either : IsOf d below ⊎ (below ≡ r) → IsOf d below
  either (inl h) = h
  either (inr h) = subst (IsOf d) (sym h) of_r

among_tip : (d : ℕ) (below : Segments) (g : Segment) → IsAmong below (tip g) → IsOf d below ⊎ (below ≡ tip g)
among_tip d below g itself = inr refl

all_in : (d name from : ℕ) (ds : List Done) (b : Branch) (t : Tableau) → IsTableau d b t → AllIn d (segments name from ds b t)
all_in d name from ds b leaf is below a = among_tip d below _ a
all_in d name from ds b (step s t) is below a = all_in d name from (ds ++ s ∷ []) (after b s) t is.2 below a
all_in d name from ds b (split i l r) is below a =
    among_node d below _ _ _
    (record { name = 2 * name; from = length (entries b); branch = after b (go_left i); tableau = l; whole = is.1; same = refl })
    (record { name = 2 * name + 1; from = length (entries b); branch = after b (go_right i); tableau = r; whole = is.2; same = refl })
    (all_in d (2 * name) (length (entries b)) [] (after b (go_left i)) l is.1)
    (all_in d (2 * name + 1) (length (entries b)) [] (after b (go_right i)) r is.2)
    a

pub among_is : (d : ℕ) (b : Branch) (t : Tableau) (below : Segments) → IsTableau d b t → IsAmong below (all_segments b t) → IsOf d below
among_is d b t below is a = either (all_in d 1 0 [] b t is below a) where
  either : IsOf d below ⊎ (below ≡ all_segments b t) → IsOf d below
  either (inl h) = h
  either (inr h) = record { name = 1; from = 0; branch = b; tableau = t; whole = is; same = h }

-- where one of them is among the others
pub among_through : (low mid high : Segments) → IsAmong low mid → IsAmong mid high → IsAmong low high
among_through low mid high a itself = a
among_through low mid high a (on_left {g = g} {l = l} {r = r} h) = on_left (among_through low mid l a h)
among_through low mid high a (on_right {g = g} {l = l} {r = r} h) = on_right (among_through low mid r a h)

top_name : (name from : ℕ) (ds : List Done) (b : Branch) (t : Tableau) → (top (segments name from ds b t)).name ≡ name
top_name name from ds b leaf = refl
top_name name from ds b (step s t) = top_name name from (ds ++ s ∷ []) (after b s) t
top_name name from ds b (split i l r) = refl

-- The sides of a segment's split, run to their ends, are its parts.
pub record SidesOf (d : ℕ) (root : Branch) (g left right : Segment) : Type 0 where
  pub tableau : Tableau
  pub whole : IsTableau d root tableau
  pub below_left : Segments
  pub below_right : Segments
  pub among : IsAmong (node g below_left below_right) (all_segments root tableau)
  pub first_left : top below_left ≡ left
  pub first_right : top below_right ≡ right

pub sides_are : (d : ℕ) (root : Branch) (g : Segment) (i : ℕ) (c e : Branch) (ds es : List Done) (o p : Option ℕ) → IsSegment d root g → g.splits_at ≡ Some i
    → Runs d (after g.branch (go_left i)) ds c → Ends d c o → Runs d (after g.branch (go_right i)) es e → Ends d e p
    → SidesOf d root g (segment (2 * g.name) (length (entries g.branch)) c ds o) (segment (2 * g.name + 1) (length (entries g.branch)) e es p)
sides_are d root g i c e ds es o p is at run_l end_l run_r end_r =
    let of = among_is d root is.tableau is.below is.whole is.among in
    let first : top (segments of.name of.from [] of.branch of.tableau) ≡ g = ap top (sym of.same) ∙ is.first in
    let named : of.name ≡ g.name = sym (top_name of.name of.from [] of.branch of.tableau) ∙ ap (λ z. z.name) first in
    let parts = parts_of d of.name of.from [] of.branch of.tableau g i of.whole first at in
    record {
      tableau = is.tableau;
      whole = is.whole;
      below_left = segments (2 * of.name) (length (entries g.branch)) [] (after g.branch (go_left i)) parts.left;
      below_right = segments (2 * of.name + 1) (length (entries g.branch)) [] (after g.branch (go_right i)) parts.right;
      among = subst (λ z. IsAmong z (all_segments root is.tableau)) (of.same ∙ parts.same) is.among;
      first_left = run_is_segment d (2 * of.name) (length (entries g.branch)) (after g.branch (go_left i)) c parts.left ds o parts.left_whole run_l end_l
          ∙ ap (λ n. segment (2 * n) (length (entries g.branch)) c ds o) named;
      first_right = run_is_segment d (2 * of.name + 1) (length (entries g.branch)) (after g.branch (go_right i)) e parts.right es p parts.right_whole run_r end_r
          ∙ ap (λ n. segment (2 * n + 1) (length (entries g.branch)) e es p) named;
    }

-- The root, run to its end, is the first segment.
pub record FirstOf (d : ℕ) (root : Branch) (g : Segment) : Type 0 where
  pub tableau : Tableau
  pub whole : IsTableau d root tableau
  pub first : top (all_segments root tableau) ≡ g

pub first_is : (d : ℕ) (root c : Branch) (ds : List Done) (o : Option ℕ) → Runs d root ds c → Ends d c o → FirstOf d root (segment 1 0 c ds o)
first_is d root c ds o run end =
    let t = tableau_below d root in
    record { tableau = t.0; whole = t.1; first = run_is_segment d 1 0 root c t.0 ds o t.1 run end }
