-- A walk over the steps of a segment: what is written so far, and then the rest, is the whole.
use Rattle.std.proofs.Common.{◌≡◌, ℕ, zero, suc, ◌+◌, ◌*◌, ◌<◌, if◌then◌else◌, List, [], ◌∷◌, ◌++◌, length, nat_lt, Option, Some, None, slice_get, refl, ap, sym, ◌∙◌, subst, arith, append_assoc, append-nil, length-append}
use Rattle.gs3_rules.specs.Rules.{Rule}
use Rattle.free_terms.specs.Free.{Name}
use Rattle.unify.specs.Offers.{Offer}
use Rattle.branch_rules.specs.Branch.{Branch, Done, Entry, go_left, go_right, principal, appended_to, metavars, entries, after}
use Rattle.branch_rules.specs.Next.{ComesNext}
use Rattle.tab_tree.specs.Items.{Item, newest}
use Rattle.tab_tree.specs.ClosedTree.{ClosedTree, closed, forked}
use Rattle.tab_tree.specs.Tableau.{Tableau, leaf, step, split}
use Rattle.tab_tree.specs.Segments.{Segment, segments}
use Rattle.tab_tree.specs.ClosedTree.{IsClosedTree}
use Rattle.translation.specs.StepTree.{StepTree, closes, goes_on, until, along, or_zero}
use Rattle.translation.specs.Translation.{skolems}
use Rattle.translation.proofs.Grown.{entries_next}
use Rattle.deskolem.specs.Walked.{after_all, GrowsFrom, up_to, steps_below}
use Rattle.deskolem.specs.Walking.{Remains}
use Rattle.deskolem.proofs.Steps.{Advances}

pub until_is : (item : Item) (b : Branch) (ds : List Done) → until item b ds ≡ up_to (Some (newest item)) (closes item) b ds
until_is item b [] = refl
until_is item b (d ∷ ds) =
    ap (λ c. if nat_lt (newest item) (length (entries b)) then closes item else goes_on d c) (until_is item (after b d) ds)

pub along_is : (rest : StepTree) (b : Branch) (ds : List Done) → along ds rest ≡ up_to None rest b ds
along_is rest b [] = refl
along_is rest b (d ∷ ds) = ap (goes_on d) (along_is rest (after b d) ds)

-- the entries of a branch stand on the branch that steps make of it
pub entries_kept : (b : Branch) (ds : List Done) → (more : List Entry) × (entries (after_all b ds) ≡ entries b ++ more)
entries_kept b [] = ([], sym (append-nil (entries b)))
entries_kept b (d ∷ ds) =
    let rest = entries_kept (after b d) ds in
    let new = appended_to (metavars b) (slice_get (entries b) (principal d)) d in
    (new ++ rest.0, rest.1 ∙ ap (λ es. es ++ rest.0) (entries_next b d) ∙ append_assoc (entries b) new rest.0)

in_front : {A : Type 0} (xs ys : List A) (i : ℕ) (x : A) → slice_get xs i ≡ Some x → slice_get (xs ++ ys) i ≡ slice_get xs i
in_front [] ys i x e = absurd (no_entry x e) where
  no_entry : {A : Type 0} (x : A) → None ≡ Some x → ⊥
  no_entry x e = cc
in_front (z ∷ xs) ys zero x e = refl
in_front (z ∷ xs) ys (suc i) x e = in_front xs ys i x e

-- the principal entry of a step stands on the branch at the segment's end as it stood when the step was done
pub principal_kept : (b : Branch) (d : ℕ) (t : Done) (ds : List Done) (end : Branch) → ComesNext b d t → end ≡ after_all b ds
    → slice_get (entries end) (principal t) ≡ slice_get (entries b) (principal t)
principal_kept b d t ds end next is =
    let kept = entries_kept b ds in
    ap (λ c. slice_get (entries c) (principal t)) is ∙ ap (λ es. slice_get es (principal t)) kept.1
    ∙ in_front (entries b) kept.0 (principal t) next.entry next.at

after_last : (b : Branch) (ds : List Done) (d : Done) → after_all b (ds ++ d ∷ []) ≡ after (after_all b ds) d
after_last b [] d = refl
after_last b (e ∷ ds) d = after_last (after b e) ds d

grown_here : (b b' : Branch) (ds : List Done) (name from : ℕ) (o : Option ℕ) (g : Segment) → g ≡ record { name = name; from = from; branch = b'; steps = ds; splits_at = o }
    → b' ≡ after_all b ds → g.branch ≡ after_all b g.steps
grown_here b b' ds name from o g is e = subst (λ k. k.branch ≡ after_all b k.steps) (sym is) e

-- the segments of a closed tree, the first of which has done the steps ds from b on
pub grows_from : (s : Offer) (name from : ℕ) (b b' : Branch) (ds : List Done) (t : Tableau) (c : ClosedTree) → b' ≡ after_all b ds → IsClosedTree s (segments name from ds b' t) c → GrowsFrom b c
grows_from s name from b b' ds leaf (closed g item) e p = grown_here b b' ds name from None g p.0 e
grows_from s name from b b' ds leaf (forked g c c') e p = absurd p
grows_from s name from b b' ds (step d t) c e p =
    grows_from s name from b (after b' d) (ds ++ d ∷ []) t c (ap (λ a. after a d) e ∙ sym (after_last b ds d)) p
grows_from s name from b b' ds (split i l r) (closed g item) e p = grown_here b b' ds name from (Some i) g p.0 e
grows_from s name from b b' ds (split i l r) (forked g c c') e p = (
  grown_here b b' ds name from (Some i) g p.0 e,
  subst (λ k. GrowsFrom (after k.branch (go_left (or_zero k.splits_at))) c) (sym p.0)
      (grows_from s (2 * name) (length (entries b')) (after b' (go_left i)) (after b' (go_left i)) [] l c refl p.2),
  subst (λ k. GrowsFrom (after k.branch (go_right (or_zero k.splits_at))) c') (sym p.0)
      (grows_from s (2 * name + 1) (length (entries b')) (after b' (go_right i)) (after b' (go_right i)) [] r c' refl p.3),
)

module _ (s : Offer) (ys : List Name) (whole : List Rule) (names : List Name) (most : ℕ) where
  pub step_taken : (written more_written : List Rule) (symbols more_symbols : List Name) (b : Branch) (d : Done) (places more : List ℕ) (len next left now : ℕ) (closings closing : List Rule) (rest : StepTree)
      → Remains s ys whole names most written symbols b places len left closings (goes_on d rest)
      → Advances s ys b d places len more_written more_symbols more next closing
      → now + (length more_written + length closing) ≡ left
      → Remains s ys whole names most (written ++ more_written) (symbols ++ more_symbols) (after b d) (places ++ more) next now (closing ++ closings) rest
  step_taken written more_written symbols more_symbols b d places more len next left now closings closing rest h a count =
      let below = steps_below s ys (after b d) (places ++ more) next rest in
      record {
        rules = append_assoc written more_written (below ++ (closing ++ closings))
            ∙ ap (λ l. written ++ l) (ap (λ l. more_written ++ l) (sym (append_assoc below closing closings)) ∙ sym (append_assoc more_written (below ++ closing) closings)
            ∙ ap (λ l. l ++ closings) (sym (a.rules rest)))
            ∙ h.rules;
        named = append_assoc symbols more_symbols (skolems rest) ∙ ap (λ l. symbols ++ l) (sym (a.symbols rest)) ∙ h.named;
        stand = a.stand h.stand;
        counted = omega (arith, h.counted, count, length-append written more_written, length-append closing closings);
      }

  -- where a step has more rules than are left, the whole has more than it may
  pub step_refused : (written more_written : List Rule) (symbols more_symbols : List Name) (b : Branch) (d : Done) (places more : List ℕ) (len next left : ℕ) (closings closing : List Rule) (rest : StepTree)
      → Remains s ys whole names most written symbols b places len left closings (goes_on d rest)
      → Advances s ys b d places len more_written more_symbols more next closing
      → left < length more_written + length closing → most < length whole
  step_refused written more_written symbols more_symbols b d places more len next left closings closing rest h a few =
      let below = steps_below s ys (after b d) (places ++ more) next rest in
      omega (
        arith,
        ap length (sym h.rules),
        h.counted,
        few,
        length-append written (steps_below s ys b places len (goes_on d rest) ++ closings),
        length-append (steps_below s ys b places len (goes_on d rest)) closings,
        ap length (a.rules rest),
        length-append more_written (below ++ closing),
        length-append below closing,
      )
