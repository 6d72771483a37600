-- The closed tree of an offer, step by step: each of its steps comes next on its branch, and each of its items is closed
-- by the offer where it ends.
use Rattle.std.proofs.Common.{◌≡◌, ℕ, zero, suc, ◌+◌, ◌*◌, ◌<◌, ◌≤◌, Bool, true, false, leb, List, [], ◌∷◌, ◌++◌, length, map, take, drop, Option, Some, None, slice_get, eqb, if◌then◌else◌, refl, ap, sym, ◌∙◌, subst, arith, ◌⊎◌, inl, inr, append-nil, append_assoc, take-append-drop}
use Rattle.std.proofs.lemmas.Bool.Decides.{leb_tells}
use Rattle.fol_core.specs.Syntax.{atom, verum, falsum, not}
use Rattle.free_terms.specs.Free.{Name, FreeTerms, FreeFormula, metavar, skolem, terms_of_list}
use Rattle.unify.specs.Offers.{Offer}
use Rattle.branch_rules.specs.Branch.{Branch, Done, skolemize, go_left, go_right, Entry, is_split, principal, appended_to, metavars, after, entries}
use Rattle.branch_rules.specs.Next.{ComesNext}
use Rattle.tab_tree.specs.Tableau.{Tableau, leaf, step, split, IsTableau}
use Rattle.tab_tree.specs.Items.{Item, pair, false_at, not_true, newest, paired, paired_all, single, items_after, items_of, ArgumentsEqual, ClosesItem, IsFirstClosed}
use Rattle.tab_tree.specs.Segments.{Segment, segments, all_segments}
use Rattle.tab_tree.specs.ClosedTree.{ClosedTree, closed, forked, IsClosedTree}
use Rattle.tab_tree.specs.Round.{Introduces}
use Rattle.translation.proofs.Grown.{entries_next}
use Rattle.translation.proofs.Naming.{AreBelow, below_step, below_left_side, below_right_side, one_term}
use Rattle.translation.specs.StepTree.{StepTree, closes, goes_on, forks, until, along, or_zero, step_tree}

-- the entries at the item's places are closed by the offer
abbrev pub IsClosedBy : Offer → List Entry → Item → Type 0
IsClosedBy s es (pair i j) = ArgumentsEqual s (slice_get es i) (slice_get es j)
IsClosedBy s es (false_at i) = (n : ℕ) × (slice_get es i ≡ Some (record { formula = falsum; level = n }))
IsClosedBy s es (not_true i) = (n : ℕ) × (slice_get es i ≡ Some (record { formula = not verum; level = n }))

-- of the Skolem terms R, those with the step's symbol have the branch's metavariables
abbrev pub HasOneTerm : (Name → FreeTerms → Type 0) → Branch → Done → Type 0
HasOneTerm R b (skolemize i z) = (us : FreeTerms) → R z us → us ≡ terms_of_list (map metavar (metavars b))
HasOneTerm R b _ = Unit {0}

abbrev pub Follows : (Name → FreeTerms → Type 0) → Offer → ℕ → Branch → StepTree → Type 0
Follows R s d b (closes item) = IsClosedBy s (entries b) item
Follows R s d b (goes_on t c) = (is_split t ≡ false) × ComesNext b d t × HasOneTerm R b t × Follows R s d (after b t) c
Follows R s d b (forks i c c') =
    ComesNext b d (go_left i) × Follows R s d (after b (go_left i)) c × Follows R s d (after b (go_right i)) c'

-- what stands in the list
abbrev Among : Item → List Item → Type 0
Among x [] = ⊥
Among x (y ∷ ys) = (x ≡ y) ⊎ Among x ys

abbrev AllItems : (Item → Type 0) → List Item → Type 0
AllItems P [] = Unit {0}
AllItems P (x ∷ xs) = P x × AllItems P xs

all_both : (P : Item → Type 0) (xs ys : List Item) → AllItems P xs → AllItems P ys → AllItems P (xs ++ ys)
all_both P [] ys a b = b
all_both P (x ∷ xs) ys a b = (a.0, all_both P xs ys a.1 b)

-- a formula that is false by itself stands at a single item's place
abbrev IsRight : List Entry → Item → Type 0
IsRight es (pair i j) = Unit {0}
IsRight es (false_at i) = (n : ℕ) × (slice_get es i ≡ Some (record { formula = falsum; level = n }))
IsRight es (not_true i) = (n : ℕ) × (slice_get es i ≡ Some (record { formula = not verum; level = n }))

one_pair : (es : List Entry) (i j : ℕ) (q : Bool) → AllItems (IsRight es) (if q then pair i j ∷ [] else [])
one_pair es i j true = (tt, tt)
one_pair es i j false = tt

pairs_right : (es : List Entry) (i : ℕ) (a : FreeFormula) (j : ℕ) (b : FreeFormula) → AllItems (IsRight es) (paired i a j b)
pairs_right es i (atom p us) j (not (atom q vs)) = one_pair es i j (eqb p q)
pairs_right es i (not (atom q vs)) j (atom p us) = one_pair es j i (eqb p q)
pairs_right es i a j b = tt

all_pairs_right : (es : List Entry) (i : ℕ) (fs : List Entry) (j : ℕ) (b : FreeFormula) → AllItems (IsRight es) (paired_all i fs j b)
all_pairs_right es i [] j b = tt
all_pairs_right es i (f ∷ fs) j b =
    all_both (IsRight es) (paired i f.formula j b) (paired_all (suc i) fs j b) (pairs_right es i f.formula j b) (all_pairs_right es (suc i) fs j b)

single_right : (es : List Entry) (j n : ℕ) (a : FreeFormula) → slice_get es j ≡ Some (record { formula = a; level = n }) → AllItems (IsRight es) (single j a)
single_right es j n falsum at = ((n, at), tt)
single_right es j n (not verum) at = ((n, at), tt)
single_right es j n a at = tt

pub get_behind : {A : Type 0} (xs : List A) (y : A) (ys : List A) → slice_get (xs ++ y ∷ ys) (length xs) ≡ Some y
get_behind [] y ys = refl
get_behind (x ∷ xs) y ys = get_behind xs y ys

pub get_in_front : {A : Type 0} (xs ys : List A) (i : ℕ) → i < length xs → slice_get xs i ≡ slice_get (xs ++ ys) i
get_in_front [] ys i lt = let no_place : ⊥ = omega (arith, lt) in absurd no_place
get_in_front (x ∷ xs) ys zero lt = refl
get_in_front (x ∷ xs) ys (suc i) lt = get_in_front xs ys i (omega (arith, lt))

items_right : (earlier later : List Entry) → AllItems (IsRight (earlier ++ later)) (items_after earlier later)
items_right earlier [] = tt
items_right earlier (e ∷ later) =
    all_both (IsRight (earlier ++ e ∷ later)) (paired_all 0 earlier (length earlier) e.formula ++ single (length earlier) e.formula) (items_after (earlier ++ e ∷ []) later)
    (all_both (IsRight (earlier ++ e ∷ later)) (paired_all 0 earlier (length earlier) e.formula) (single (length earlier) e.formula)
    (all_pairs_right (earlier ++ e ∷ later) 0 earlier (length earlier) e.formula)
    (single_right (earlier ++ e ∷ later) (length earlier) e.level e.formula (get_behind earlier e later)))
    (subst (λ es. AllItems (IsRight es) (items_after (earlier ++ e ∷ []) later)) (append_assoc earlier (e ∷ []) later) (items_right (earlier ++ e ∷ []) later))

right_items : (from : ℕ) (es : List Entry) → AllItems (IsRight es) (items_of from es)
right_items from es =
    subst (λ fs. AllItems (IsRight fs) (items_of from es)) (take-append-drop from es) (items_right (take from es) (drop from es))

closes_and_right : (s : Offer) (es : List Entry) (item : Item) → ClosesItem s es item → IsRight es item → IsClosedBy s es item
closes_and_right s es (pair i j) c r = c
closes_and_right s es (false_at i) c r = r
closes_and_right s es (not_true i) c r = r

first_closed : (s : Offer) (es : List Entry) (items : List Item) (found : Item) → AllItems (IsRight es) items → IsFirstClosed s es items found → IsClosedBy s es found
first_closed s es [] found right f = absurd f
first_closed s es (item ∷ items) found right (inl p) =
    subst (λ x. IsClosedBy s es x) (sym p.1) (closes_and_right s es item p.0 right.0)
first_closed s es (item ∷ items) found right (inr p) = first_closed s es items found right.1 p.1

-- the branch at the end of the segment that begins here, and its steps
abbrev segment_end : Branch → Tableau → Branch
segment_end b leaf = b
segment_end b (step s t) = segment_end (after b s) t
segment_end b (split i l r) = b

abbrev segment_steps : Tableau → List Done
segment_steps leaf = []
segment_steps (step s t) = s ∷ segment_steps t
segment_steps (split i l r) = []

-- the entries of a segment's beginning stand at its end
segment_extends : (b : Branch) (t : Tableau) → (more : List Entry) × (entries (segment_end b t) ≡ entries b ++ more)
segment_extends b leaf = ([], sym (append-nil (entries b)))
segment_extends b (split i l r) = ([], sym (append-nil (entries b)))
segment_extends b (step s t) =
    let rest = segment_extends (after b s) t in
    let new = appended_to (metavars b) (slice_get (entries b) (principal s)) s in
    (new ++ rest.0, rest.1 ∙ ap (λ es. es ++ rest.0) (entries_next b s) ∙ append_assoc (entries b) new rest.0)

at_front : (es more : List Entry) (i : ℕ) → i < length es → slice_get (es ++ more) i ≡ slice_get es i
at_front es more i lt = sym (get_in_front es more i lt)

closed_in_front : (s : Offer) (es more : List Entry) (item : Item) → newest item < length es → IsClosedBy s (es ++ more) item → IsClosedBy s es item
closed_in_front s es more (pair i j) lt c =
    subst (λ o. ArgumentsEqual s o (slice_get es j)) (at_front es more i (omega (arith, lt)))
    (subst (λ o. ArgumentsEqual s (slice_get (es ++ more) i) o) (at_front es more j (omega (arith, lt))) c)
closed_in_front s es more (false_at i) lt c = (c.0, sym (at_front es more i lt) ∙ c.1)
closed_in_front s es more (not_true i) lt c = (c.0, sym (at_front es more i lt) ∙ c.1)

closed_at : (s : Offer) (b : Branch) (t : Tableau) (item : Item) → newest item < length (entries b) → IsClosedBy s (entries (segment_end b t)) item → IsClosedBy s (entries b) item
closed_at s b t item lt c =
    let e = segment_extends b t in closed_in_front s (entries b) e.0 item lt (subst (λ es. IsClosedBy s es item) e.1 c)

one_of_step : (R : Name → FreeTerms → Type 0) (d : ℕ) (b : Branch) (s : Done) (t : Tableau) → IsTableau d b (step s t) → AreBelow R b (step s t) → HasOneTerm R b s
one_of_step R d b (skolemize i z) t h below = one_term R d b i z t h below
one_of_step R d b s t h below = tt

-- What holds of a closed tree whose first segment has done the steps ds before the branch.
abbrev FollowsFrom : (Name → FreeTerms → Type 0) → Offer → ℕ → List Done → Branch → Tableau → ClosedTree → Type 0
FollowsFrom R s d ds b t (closed g item) =
    (g.steps ≡ ds ++ segment_steps t) × IsClosedBy s (entries (segment_end b t)) item × Follows R s d b (until item b (segment_steps t))
FollowsFrom R s d ds b t (forked g c c') =
    (g.steps ≡ ds ++ segment_steps t)
    × Follows R s d b (along (segment_steps t) (forks (or_zero g.splits_at) (step_tree (after g.branch (go_left (or_zero g.splits_at))) c) (step_tree (after g.branch (go_right (or_zero g.splits_at))) c')))

unfolds : (R : Name → FreeTerms → Type 0) (s : Offer) (d : ℕ) (b : Branch) (t : Tableau) (c : ClosedTree) → FollowsFrom R s d [] b t c → Follows R s d b (step_tree b c)
unfolds R s d b t (closed g item) p = subst (λ ds. Follows R s d b (until item b ds)) (sym p.0) p.2
unfolds R s d b t (forked g c c') p =
    subst (λ ds. Follows R s d b (along ds (forks (or_zero g.splits_at) (step_tree (after g.branch (go_left (or_zero g.splits_at))) c) (step_tree (after g.branch (go_right (or_zero g.splits_at))) c')))) (sym p.0) p.1

until_step : (R : Name → FreeTerms → Type 0) (s : Offer) (d : ℕ) (b : Branch) (z : Done) (t : Tableau) (item : Item) → IsTableau d b (step z t) → HasOneTerm R b z
    → IsClosedBy s (entries (segment_end (after b z) t)) item → Follows R s d (after b z) (until item (after b z) (segment_steps t)) → Follows R s d b (until item b (z ∷ segment_steps t))
until_step R s d b z t item h only at_end follows = by_place (leb_tells (suc (newest item)) (length (entries b))) where
  chosen : Bool → Type 0
  chosen q = Follows R s d b (if q then closes item else goes_on z (until item (after b z) (segment_steps t)))

  by_place : ((leb (suc (newest item)) (length (entries b)) ≡ true) × (suc (newest item) ≤ length (entries b)))
      ⊎ ((leb (suc (newest item)) (length (entries b)) ≡ false) × (length (entries b) < suc (newest item))) → Follows R s d b (until item b (z ∷ segment_steps t))
  by_place (inl p) = subst chosen (sym p.0) (closed_at s b (step z t) item p.1 at_end)
  by_place (inr p) = subst chosen (sym p.0) (h.0, h.1, only, follows)

after_step : (R : Name → FreeTerms → Type 0) (s : Offer) (d : ℕ) (ds : List Done) (b : Branch) (z : Done) (t : Tableau) (c : ClosedTree) → IsTableau d b (step z t) → HasOneTerm R b z
    → FollowsFrom R s d (ds ++ z ∷ []) (after b z) t c → FollowsFrom R s d ds b (step z t) c
after_step R s d ds b z t (closed g item) h only p =
    (p.0 ∙ append_assoc ds (z ∷ []) (segment_steps t), p.1, until_step R s d b z t item h only p.1 p.2)
after_step R s d ds b z t (forked g c c') h only p = (p.0 ∙ append_assoc ds (z ∷ []) (segment_steps t), (h.0, h.1, only, p.1))

closes_here : (R : Name → FreeTerms → Type 0) (s : Offer) (d name from : ℕ) (ds : List Done) (b : Branch) (o : Option ℕ) (g : Segment) (item : Item)
    → g ≡ record { name = name; from = from; branch = b; steps = ds; splits_at = o } → IsFirstClosed s (entries b) (items_of from (entries b)) item
    → (g.steps ≡ ds ++ []) × IsClosedBy s (entries b) item
closes_here R s d name from ds b o g item e f = (
  ap (λ h. h.steps) e ∙ sym (append-nil ds),
  first_closed s (entries b) (items_of from (entries b)) item (right_items from (entries b)) f,
)

follows_from : (R : Name → FreeTerms → Type 0) (s : Offer) (d name from : ℕ) (ds : List Done) (b : Branch) (t : Tableau) (c : ClosedTree)
    → IsTableau d b t → AreBelow R b t → IsClosedTree s (segments name from ds b t) c → FollowsFrom R s d ds b t c
follows_from R s d name from ds b leaf (closed g item) h below p =
    let at = closes_here R s d name from ds b None g item p.0 p.1 in (at.0, at.1, at.1)
follows_from R s d name from ds b leaf (forked g c c') h below p = absurd p
follows_from R s d name from ds b (step z t) c h below p =
    after_step R s d ds b z t c h (one_of_step R d b z t h below)
    (follows_from R s d name from (ds ++ z ∷ []) (after b z) t c h.2 (below_step R d b z t h below) p)
follows_from R s d name from ds b (split i l r) (closed g item) h below p =
    let at = closes_here R s d name from ds b (Some i) g item p.0 p.1 in (at.0, at.1, at.1)
follows_from R s d name from ds b (split i l r) (forked g c c') h below p =
    let left = unfolds R s d (after b (go_left i)) l c (follows_from R s d (2 * name) (length (entries b)) [] (after b (go_left i)) l c h.1 (below_left_side R d b i l r h below) p.2) in
    let right = unfolds R s d (after b (go_right i)) r c' (follows_from R s d (2 * name + 1) (length (entries b)) [] (after b (go_right i)) r c' h.2 (below_right_side R d b i l r h below) p.3) in (
      ap (λ k. k.steps) p.0 ∙ sym (append-nil ds),
      subst (λ k. Follows R s d b (forks (or_zero k.splits_at) (step_tree (after k.branch (go_left (or_zero k.splits_at))) c) (step_tree (after k.branch (go_right (or_zero k.splits_at))) c')))
          (sym p.0) (h.0, left, right),
    )

-- the Skolem terms that the tableau introduces
abbrev pub Introduced : Branch → Tableau → Name → FreeTerms → Type 0
Introduced b t x us = Introduces b t (skolem x us)

pub closed_tree_follows : (s : Offer) (d : ℕ) (b : Branch) (t : Tableau) (c : ClosedTree)
    → IsTableau d b t → IsClosedTree s (all_segments b t) c → Follows (Introduced b t) s d b (step_tree b c)
closed_tree_follows s d b t c h p =
    unfolds (Introduced b t) s d b t c (follows_from (Introduced b t) s d 1 0 [] b t c h (λ x us r m. r) p)
