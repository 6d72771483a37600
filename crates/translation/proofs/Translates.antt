-- The translation of a closed tree refutes the start list: each step of it is a step of the calculus on the list that
-- stands there.
use Rattle.std.proofs.Common.{◌≡◌, ℕ, suc, ◌+◌, ◌≤◌, List, [], ◌∷◌, ◌++◌, map, reverse, length, Option, Some, None, option_map, option_and_then, slice_get, refl, ap, sym, ◌∙◌, subst, arith, inl, inr, length-append, append_assoc}
use Rattle.std.proofs.lemmas.Bool.{false≢true}
use Rattle.fol_core.specs.Syntax as plain
use Rattle.fol_core.specs.Syntax.{PlainFormula, PlainTerms, atom, verum, falsum, not}
use Rattle.fol_core.specs.Symbol.{Symbol}
use Rattle.gs3_rules.specs.Rules as gs3
use Rattle.gs3_rules.specs.Rules.{alpha_parts, beta_parts, delta_part, gamma_part}
use Rattle.free_terms.specs.Free.{Name, FreeFormula, metavar, skolem, terms_of_list, instance, lift}
use Rattle.unify.specs.Offers.{Offer, IsOffer, resolved_all}
use Rattle.branch_rules.specs.Branch.{Branch, Done, expand, rewrite, skolemize, instantiate, go_left, go_right, Entry, entry, entries, metavars, after, principal, made_of, left_part, right_part, or_none, one_of}
use Rattle.tab_tree.specs.Tableau.{Tableau}
use Rattle.tab_tree.specs.Round.{IsOfRound}
use Rattle.tab_tree.specs.Items.{Item, pair, false_at, not_true, ArgumentsEqual}
use Rattle.translation.specs.StepTree.{StepTree, closes, goes_on, forks}
use Rattle.translation.proofs.Grown.{metavars_next}
use Rattle.translation.proofs.Naming.{symbol_is_next}
use Rattle.translation.proofs.Followed.{Follows, Introduced, IsClosedBy}
use Rattle.translation.specs.Translation.{parameter_of, closed_all, term_under, fill_under, place_in, run_of, growth, skolems, proof_below}
use Rattle.translation.proofs.Grounding.{under, alpha_on_atoms, beta_on_atoms, delta_on_atoms, gamma_on_atoms, AreClosed, instance_under}
use Rattle.translation.proofs.Built.{IsBuilt, AreBuilt, PartsBuilt, SidesBuilt, PartBuilt, built_at, closed_term, all_wider, fresh_in, alpha_built, beta_built, delta_built, gamma_built, Proves}
use Rattle.translation.proofs.Values.{IsName, built_value}
use Rattle.translation.proofs.Standing.{IsKnown, known_next, symbol_known, symbol_new, value_known, name_behind, Placed, placed_at, get_first_new, Stands, growth_is, stands_next, length_map}
use Rattle.translation.proofs.Lifted.{NoParam, lifted}
use Rattle.translation.proofs.Expanded.{HaveAxioms, rewrite_proves}
use Rattle.translation.proofs.Shown.{shown, value_in, delta_value, gamma_value}

in_front : (x : Name) (xs zs : List Name) → IsName x xs → IsName x (xs ++ zs)
in_front x [] zs m = absurd m
in_front x (y ∷ xs) zs (inl e) = inl e
in_front x (y ∷ xs) zs (inr m) = inr (in_front x xs zs m)

-- One offer of the round, and the parameters of the symbols ys.
module _ (fs : List Symbol) (b0 : Branch) (t : Tableau) (s : Offer) (ys : List Name) (offer : IsOffer s) (round : IsOfRound fs b0 t s) (start : List PlainFormula) where
  values_closed : AreClosed s ys
  values_closed x = closed_term fs (λ q. q ≤ length ys) (term_under s ys (metavar x)) (built_value fs b0 t s ys offer round x)

  -- An item that the offer closes is a closing step.
  closes_pair : (b : Branch) (places : List ℕ) (list : List PlainFormula) → Stands fs s ys b places list → (i j : ℕ) (o q : Option Entry)
      → slice_get (entries b) i ≡ o → slice_get (entries b) j ≡ q → ArgumentsEqual s o q
      → gs3.Closes (slice_get list (place_in places i)) (slice_get list (place_in places j))
  closes_pair b places list h i j None q at_i at_j c = absurd c
  closes_pair b places list h i j (Some e) None at_i at_j c = absurd c
  closes_pair b places list h i j (Some e) (Some f) at_i at_j (p, us, vs, atom_at, negated_at, equal) =
      subst (λ o. gs3.Closes o (slice_get list (place_in places j))) (sym (placed_at s ys list places (entries b) i e h.placed at_i))
      (subst (λ o. gs3.Closes (Some (under s ys e.formula)) o) (sym (placed_at s ys list places (entries b) j f h.placed at_j))
      (p, closed_all ys (resolved_all s us), ap (under s ys) atom_at, ap (under s ys) negated_at ∙ ap (λ ws. not (atom p (closed_all ys ws))) (sym equal)))

  closes_item : (b : Branch) (places : List ℕ) (len : ℕ) (list : List PlainFormula) (item : Item) → Stands fs s ys b places list → IsClosedBy s (entries b) item
      → Proves fs (length ys) list (proof_below s ys b places len (closes item))
  closes_item b places len list (pair i j) h c =
      (([], (closes_pair b places list h i j (slice_get (entries b) i) (slice_get (entries b) j) refl refl c, refl), tt), (tt, tt))
  closes_item b places len list (false_at i) h c =
      (([], (placed_at s ys list places (entries b) i (entry c.0 falsum) h.placed c.1, refl), tt), (tt, tt))
  closes_item b places len list (not_true i) h c =
      (([], (placed_at s ys list places (entries b) i (entry c.0 (not verum)) h.placed c.1, refl), tt), (tt, tt))

  -- what the principal formula's place holds
  parts_at : {B : Type 0} (f : PlainFormula → Option B) (list : List PlainFormula) (p : ℕ) (a : PlainFormula) (x : B)
      → slice_get list p ≡ Some a → f a ≡ Some x → option_and_then f (slice_get list p) ≡ Some x
  parts_at f list p a x at e = ap (λ o. option_and_then f o) at ∙ e

  -- what stands below a step that appends the formulas on the branch, and on the list as closed formulas
  standing_below : (b : Branch) (step : Done) (e : Entry) (as_ : List FreeFormula) (places : List ℕ) (len : ℕ) (list : List PlainFormula) → Stands fs s ys b places list
      → slice_get (entries b) (principal step) ≡ Some e → made_of (metavars b) e.formula step ≡ as_ → AreBuilt fs (IsKnown s ys (after b step)) (map (under s ys) as_) → len ≡ length list
      → Stands fs s ys (after b step) (places ++ run_of len (length as_)) (list ++ map (under s ys) as_) × (len + length as_ ≡ length (list ++ map (under s ys) as_))
  standing_below b step e as_ places len list h at made new is = (
    subst (λ k. Stands fs s ys (after b step) (places ++ run_of k (length as_)) (list ++ map (under s ys) as_)) (sym is) (stands_next fs s ys b step e as_ places list h at made new),
    ap (λ k. k + length as_) is ∙ ap (λ k. length list + k) (sym (length_map (under s ys) as_)) ∙ sym (length-append list (map (under s ys) as_)),
  )

  -- the same, with the number of new entries as the translation has it
  counted_below : (b : Branch) (step : Done) (e : Entry) (as_ : List FreeFormula) (places : List ℕ) (len : ℕ) (list : List PlainFormula) → Stands fs s ys b places list
      → slice_get (entries b) (principal step) ≡ Some e → made_of (metavars b) e.formula step ≡ as_ → AreBuilt fs (IsKnown s ys (after b step)) (map (under s ys) as_) → len ≡ length list
      → Stands fs s ys (after b step) (places ++ run_of len (growth b step)) (list ++ map (under s ys) as_) × (len + growth b step ≡ length (list ++ map (under s ys) as_))
  counted_below b step e as_ places len list h at made new is =
      subst (λ n. Stands fs s ys (after b step) (places ++ run_of len n) (list ++ map (under s ys) as_) × (len + n ≡ length (list ++ map (under s ys) as_)))
      (sym (growth_is fs s ys b step e as_ at made)) (standing_below b step e as_ places len list h at made new is)

  widened : (b : Branch) (step : Done) (list : List PlainFormula) → AreBuilt fs (IsKnown s ys b) list → AreBuilt fs (IsKnown s ys (after b step)) list
  widened b step list h = all_wider fs (IsKnown s ys b) (IsKnown s ys (after b step)) (known_next s ys b step) list h

  pub translates : (c : StepTree) (d : ℕ) (b : Branch) (places : List ℕ) (len : ℕ) (list : List PlainFormula) → Follows (Introduced b0 t) s d b c
      → ((x : Name) → IsName x (skolems c) → IsName x ys) → Stands fs s ys b places list → len ≡ length list
      → AreBuilt fs NoParam start → b.start ≡ map lift start → HaveAxioms start b.rules → Proves fs (length ys) list (proof_below s ys b places len c)
  translates (closes item) d b places len list h inside st is start_is_built from_start have = closes_item b places len list item st h
  translates (goes_on (expand i) c) d b places len list h inside st is start_is_built from_start have =
      let w = shown b d (expand i) h.1 in
      let v = value_in (alpha_parts w.0.formula) w.2 in
      let at = placed_at s ys list places (entries b) i w.0 st.placed w.1 in
      let parts : alpha_parts (under s ys w.0.formula) ≡ Some (map (under s ys) v.0)
      = alpha_on_atoms (λ us. closed_all ys (resolved_all s us)) w.0.formula ∙ ap (option_map (map (under s ys))) v.1 in
      let built : AreBuilt fs (IsKnown s ys b) (map (under s ys) v.0)
      = subst (PartsBuilt fs (IsKnown s ys b)) parts (alpha_built fs (IsKnown s ys b) (under s ys w.0.formula) (built_at fs (IsKnown s ys b) list (place_in places i) (under s ys w.0.formula) st.built at)) in
      let below = counted_below b (expand i) w.0 v.0 places len list st w.1 (ap or_none v.1) (widened b (expand i) (map (under s ys) v.0) built) is in
      let rest = translates c d (after b (expand i)) (places ++ run_of len (growth b (expand i))) (len + growth b (expand i)) (list ++ map (under s ys) v.0) h.3 inside below.0 below.1 start_is_built from_start have in (
        (
          (list ++ map (under s ys) v.0) ∷ [],
          (map (under s ys) v.0, parts_at alpha_parts list (place_in places i) (under s ys w.0.formula) (map (under s ys) v.0) at parts, refl),
          (rest.0, tt),
        ),
        (tt, (rest.1, tt)),
      )
  translates (goes_on (skolemize i z) c) d b places len list h inside st is start_is_built from_start have =
      let q = parameter_of 0 ys z in
      let args = terms_of_list (map metavar (metavars b)) in
      let is_next = symbol_is_next b d i z h.1 in
      let w = shown b d (skolemize i z) h.1 in
      let v = delta_value (λ a. instance a (skolem z args)) w.0.formula w.2 in
      let at = placed_at s ys list places (entries b) i w.0 st.placed w.1 in
      let part : delta_part (λ a. plain.instance a (plain.param q)) (under s ys w.0.formula) ≡ Some (under s ys v.0)
      = delta_on_atoms (λ us. closed_all ys (resolved_all s us)) (λ a. instance a (skolem z args)) (λ a. plain.instance a (plain.param q)) (instance_under s ys values_closed (skolem z args)) w.0.formula
      ∙ ap (option_map (under s ys)) v.1 in
      let here : AreBuilt fs (IsKnown s ys (after b (skolemize i z))) list = widened b (skolemize i z) list st.built in
      let built : IsBuilt fs (IsKnown s ys (after b (skolemize i z))) 0 (under s ys v.0)
      = subst (PartBuilt fs (IsKnown s ys (after b (skolemize i z)))) part (delta_built fs (IsKnown s ys (after b (skolemize i z))) (plain.param q) (symbol_known s ys b i z is_next) (under s ys w.0.formula)
      (built_at fs (IsKnown s ys (after b (skolemize i z))) list (place_in places i) (under s ys w.0.formula) here at)) in
      let below = standing_below b (skolemize i z) w.0 (v.0 ∷ []) places len list st w.1 (ap one_of v.1) (built, tt) is in
      let rest = translates c d (after b (skolemize i z)) (places ++ len ∷ []) (suc len) (list ++ under s ys v.0 ∷ []) h.3 (λ x m. inside x (inr m)) below.0 (omega (arith, below.1)) start_is_built from_start have in (
        (
          (list ++ under s ys v.0 ∷ []) ∷ [],
          (
            under s ys v.0,
            parts_at (delta_part (λ a. plain.instance a (plain.param q))) list (place_in places i) (under s ys w.0.formula) (under s ys v.0) at part,
            fresh_in fs (IsKnown s ys b) q (symbol_new fs b0 t s ys offer round b i z is_next h.2 (inside z (inl refl))) list st.built,
            refl,
          ),
          (rest.0, tt),
        ),
        (tt, (rest.1, tt)),
      )
  translates (goes_on (instantiate i x) c) d b places len list h inside st is start_is_built from_start have =
      let b' = after b (instantiate i x) in
      let u = term_under s ys (metavar x) in
      let w = shown b d (instantiate i x) h.1 in
      let v = gamma_value (λ a. instance a (metavar x)) w.0.formula w.2 in
      let at = placed_at s ys list places (entries b) i w.0 st.placed w.1 in
      let part : gamma_part (λ a. plain.instance a u) (under s ys w.0.formula) ≡ Some (under s ys v.0)
      = gamma_on_atoms (λ us. closed_all ys (resolved_all s us)) (λ a. instance a (metavar x)) (λ a. plain.instance a u) (instance_under s ys values_closed (metavar x)) w.0.formula
      ∙ ap (option_map (under s ys)) v.1 in
      let among : IsName x (metavars b') = subst (λ xs. IsName x xs) (sym (metavars_next b (instantiate i x))) (name_behind x (metavars b) (x ∷ []) (inl refl)) in
      let value = value_known fs b0 t s ys offer round b' x among in
      let built : IsBuilt fs (IsKnown s ys b') 0 (under s ys v.0)
      = subst (PartBuilt fs (IsKnown s ys b')) part (gamma_built fs (IsKnown s ys b') u value (under s ys w.0.formula)
      (built_at fs (IsKnown s ys b') list (place_in places i) (under s ys w.0.formula) (widened b (instantiate i x) list st.built) at)) in
      let below = standing_below b (instantiate i x) w.0 (v.0 ∷ []) places len list st w.1 (ap one_of v.1) (built, tt) is in
      let rest = translates c d b' (places ++ len ∷ []) (suc len) (list ++ under s ys v.0 ∷ []) h.3 inside below.0 (omega (arith, below.1)) start_is_built from_start have in (
        (
          (list ++ under s ys v.0 ∷ []) ∷ [],
          (
            under s ys v.0,
            parts_at (gamma_part (λ a. plain.instance a u)) list (place_in places i) (under s ys w.0.formula) (under s ys v.0) at part,
            values_closed x,
            refl,
          ),
          (rest.0, tt),
        ),
        (built_value fs b0 t s ys offer round x, (rest.1, tt)),
      )
  translates (goes_on (rewrite i r) c) d b places len list h inside st is start_is_built from_start have =
      let w = shown b d (rewrite i r) h.1 in
      let us = reverse (map (fill_under s ys) r.fills) in
      rewrite_proves fs s ys start b i w.0 places len list (λ body_at. proof_below s ys (after b (rewrite i r)) (places ++ body_at ∷ []) (2 + (len + length us)) c) r st is start_is_built from_start have w.1 w.2
      (λ body_at longer standing long. translates c d (after b (rewrite i r)) (places ++ body_at ∷ []) (2 + (len + length us)) longer h.3 inside standing long start_is_built from_start have)
  translates (goes_on (go_left i) c) d b places len list h inside st is start_is_built from_start have = absurd (false≢true (sym h.0))
  translates (goes_on (go_right i) c) d b places len list h inside st is start_is_built from_start have = absurd (false≢true (sym h.0))
  translates (forks i c c') d b places len list h inside st is start_is_built from_start have =
      let w = shown b d (go_left i) h.0 in
      let v = value_in (beta_parts w.0.formula) w.2 in
      let left = map (under s ys) v.0.0 in
      let right = map (under s ys) v.0.1 in
      let at = placed_at s ys list places (entries b) i w.0 st.placed w.1 in
      let sides : beta_parts (under s ys w.0.formula) ≡ Some (left, right)
      = beta_on_atoms (λ us. closed_all ys (resolved_all s us)) w.0.formula ∙ ap (option_map (λ p. (map (under s ys) p.0, map (under s ys) p.1))) v.1 in
      let built : AreBuilt fs (IsKnown s ys b) left × AreBuilt fs (IsKnown s ys b) right
      = subst (SidesBuilt fs (IsKnown s ys b)) sides (beta_built fs (IsKnown s ys b) (under s ys w.0.formula) (built_at fs (IsKnown s ys b) list (place_in places i) (under s ys w.0.formula) st.built at)) in
      let on_left = counted_below b (go_left i) w.0 v.0.0 places len list st w.1 (ap left_part v.1) (widened b (go_left i) left built.0) is in
      let on_right = counted_below b (go_right i) w.0 v.0.1 places len list st w.1 (ap right_part v.1) (widened b (go_right i) right built.1) is in
      let first = translates c d (after b (go_left i)) (places ++ run_of len (growth b (go_left i))) (len + growth b (go_left i)) (list ++ left) h.1 (λ x m. inside x (in_front x (skolems c) (skolems c') m)) on_left.0 on_left.1 start_is_built from_start have in
      let second = translates c' d (after b (go_right i)) (places ++ run_of len (growth b (go_right i))) (len + growth b (go_right i)) (list ++ right) h.2 (λ x m. inside x (name_behind x (skolems c) (skolems c') m)) on_right.0 on_right.1 start_is_built from_start have in (
        (
          (list ++ left) ∷ (list ++ right) ∷ [],
          (left, right, parts_at beta_parts list (place_in places i) (under s ys w.0.formula) (left, right) at sides, refl),
          (first.0, (second.0, tt)),
        ),
        (tt, (first.1, (second.1, tt))),
      )

  -- the start list's own places
  pub placed_start : (front list : List PlainFormula) → AreBuilt fs NoParam list → Placed s ys (front ++ list) (run_of (length front) (length list)) (map (entry 0) (map lift list))
  placed_start front [] h = tt
  placed_start front (a ∷ list) h = (
    get_first_new front a list ∙ ap Some (sym (lifted fs s ys 0 a h.0)),
    subst (λ n. Placed s ys (front ++ a ∷ list) (run_of n (length list)) (map (entry 0) (map lift list))) (length-append front (a ∷ []) ∙ omega arith)
        (subst (λ l. Placed s ys l (run_of (length (front ++ a ∷ [])) (length list)) (map (entry 0) (map lift list))) (append_assoc front (a ∷ []) list)
        (placed_start (front ++ a ∷ []) list h.1)),
  )
