-- Each segment of a round's tableau stands at its name.
use Rattle.std.proofs.Common.{◌≡◌, ℕ, ◌+◌, ◌*◌, ◌<◌, List, [], ◌∷◌, ◌++◌, length, true, false, Some, None, is_some, refl, ap, sym, ◌∙◌, subst, arith}
use Rattle.branch_rules.specs.Branch.{Branch, Done, go_left, go_right, entries, after}
use Rattle.tab_tree.proofs.Exists.{one_tableau, tableau_below}
use Rattle.tab_tree.specs.Tableau.{Tableau, leaf, step, split, IsTableau}
use Rattle.tab_tree.specs.Segments.{Segment, Segments, tip, node, top, segments, all_segments, IsAmong, itself, on_left, on_right}
use Rattle.round_offers.specs.Places.{part, segments_at, has_parts}
use Rattle.tab_tree.specs.RoundValue.{RoundValue, root_of}
use Rattle.round_offers.specs.RoundTableau.{tableau_of, segments_of}
use Rattle.round_offers.proofs.Everywhere.{Everywhere, of_first}
use Rattle.round_offers.proofs.Places.{at_left, at_right, at_first}

-- the first of the segments has this name, and splits where it has parts
pub record IsNamed (n : ℕ) (gs : Segments) : Type 0 where
  pub name : (top gs).name ≡ n
  pub splits : is_some (top gs).splits_at ≡ has_parts (Some gs)

pub are_named : (n from : ℕ) (ds : List Done) (b : Branch) (t : Tableau) → Everywhere IsNamed n (segments n from ds b t)
are_named n from ds b leaf = record { name = refl; splits = refl }
are_named n from ds b (step d t) = are_named n from (ds ++ d ∷ []) (after b d) t
are_named n from ds b (split i l r) = (
  record { name = refl; splits = refl },
  are_named (2 * n) (length (entries b)) [] (after b (go_left i)) l,
  are_named (2 * n + 1) (length (entries b)) [] (after b (go_right i)) r,
)

pub all_named : (r : RoundValue) → Everywhere IsNamed 1 (segments_of r)
unfolding segments_of
all_named r = are_named 1 0 [] (root_of r) (tableau_of r)

-- what is among the segments that stand at a name stands at its own
record Standing (gs hs : Segments) : Type 0 where
  name : ℕ
  positive : 0 < name
  at : segments_at gs name ≡ Some hs
  named : Everywhere IsNamed name hs

among : (gs hs : Segments) (n : ℕ) (ks : Segments) → 0 < n → segments_at gs n ≡ Some ks → Everywhere IsNamed n ks → IsAmong hs ks → Standing gs hs
among gs hs n ks pos at h itself = record { name = n; positive = pos; at = at; named = h }
among gs hs n (node g l r) pos at h (on_left a) = among gs hs (2 * n) l (omega (arith, pos)) (at_left gs n pos ∙ ap (part false) at) h.1 a
among gs hs n (node g l r) pos at h (on_right a) = among gs hs (2 * n + 1) r (omega (arith, pos)) (at_right gs n pos ∙ ap (part true) at) h.2 a

segment_stands : (r : RoundValue) (t : Tableau) → IsTableau r.depth (root_of r) t → (hs : Segments) → IsAmong hs (all_segments (root_of r) t) → Standing (segments_of r) hs
unfolding segments_of
segment_stands r t is hs a =
    let same : t ≡ tableau_of r = one_tableau r.depth (root_of r) t (tableau_of r) is (tableau_below r.depth (root_of r)).1 in
    among (segments_of r) hs 1 (segments_of r) (omega arith) (at_first (segments_of r)) (all_named r)
    (subst (λ u. IsAmong hs (all_segments (root_of r) u)) same a)

-- A segment of the round's tableau, whichever tree shows it, stands at its name.
pub stands_at_name : (r : RoundValue) (t : Tableau) → IsTableau r.depth (root_of r) t → (hs : Segments) → IsAmong hs (all_segments (root_of r) t)
    → segments_at (segments_of r) (top hs).name ≡ Some hs
stands_at_name r t is hs a =
    let s = segment_stands r t is hs a in
    ap (λ n. segments_at (segments_of r) n) (of_first IsNamed s.name hs s.named).name ∙ s.at

-- the names of two parts
pub parts_named : (r : RoundValue) (t : Tableau) → IsTableau r.depth (root_of r) t → (g : Segment) (ls rs : Segments) → IsAmong (node g ls rs) (all_segments (root_of r) t)
    → ((top ls).name ≡ 2 * g.name) × ((top rs).name ≡ 2 * g.name + 1)
parts_named r t is g ls rs a =
    let s = segment_stands r t is (node g ls rs) a in
    let here : g.name ≡ s.name = s.named.0.name in
    ((of_first IsNamed (2 * s.name) ls s.named.1).name ∙ sym (ap (λ n. 2 * n) here), (of_first IsNamed (2 * s.name + 1) rs s.named.2).name ∙ sym (ap (λ n. 2 * n + 1) here))

-- the parts of what is among the segments are, too
pub left_among : (g : Segment) (ls rs gs : Segments) → IsAmong (node g ls rs) gs → IsAmong ls gs
left_among g ls rs gs itself = on_left itself
left_among g ls rs (node k l r) (on_left a) = on_left (left_among g ls rs l a)
left_among g ls rs (node k l r) (on_right a) = on_right (left_among g ls rs r a)

pub right_among : (g : Segment) (ls rs gs : Segments) → IsAmong (node g ls rs) gs → IsAmong rs gs
right_among g ls rs gs itself = on_right itself
right_among g ls rs (node k l r) (on_left a) = on_left (right_among g ls rs l a)
right_among g ls rs (node k l r) (on_right a) = on_right (right_among g ls rs r a)
