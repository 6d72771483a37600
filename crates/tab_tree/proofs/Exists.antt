-- Below each branch stands one tableau of a depth, and it is finite.
use Rattle.std.proofs.Common.{◌≡◌, ℕ, zero, suc, ◌+◌, ◌-◌, ◌<◌, ◌≤◌, Bool, true, false, List, [], ◌∷◌, ◌++◌, map, length, Option, Some, None, IsSome, is_some, slice_get, refl, ap, sym, ◌∙◌, subst, arith, ◌⊎◌, inl, inr, length-append}
use Rattle.std.proofs.lemmas.Bool.{false≢true}
use Rattle.gs3_rules.specs.Rules.{alpha_parts, beta_parts, delta_part, gamma_part}
use Rattle.fol_core.specs.Syntax.{FormulaOver, atom, verum, falsum, not, and, or, imp, iff, all, ex}
use Rattle.free_terms.specs.Free.{Name, FreeFormula, FreeTerms, metavar, instance}
use Rattle.rewrite_rules.specs.Rewriting.{Rewriting}
use Rattle.branch_rules.specs.Branch.{Branch, Done, Entry, expand, rewrite, skolemize, instantiate, go_left, go_right, principal, is_split, entries, metavars, after, made_of, entry, level_of, skolem_term, or_none, one_of, left_part, right_part, appended_to, next_metavar, next_skolem}
use Rattle.branch_rules.specs.Next.{Class, conjunctive, existential, disjunctive, universal, most_entries, Waits, Serves, HasRoom, ComesNext, IsLeaf}
use Rattle.branch_rules.proofs.Grown.{appended, entries_grow}
use Rattle.branch_rules.proofs.Served.{AreOne, one_next, left_side, right_side}
use Rattle.branch_rules.proofs.Decided.{next_decided}
use Rattle.tab_tree.specs.Tableau.{Tableau, leaf, step, split, IsTableau}

pub one_tableau : (d : ℕ) (b : Branch) (t u : Tableau) → IsTableau d b t → IsTableau d b u → t ≡ u
one_tableau d b leaf leaf x y = refl
one_tableau d b leaf (step s u) x y = absurd (x s y.1)
one_tableau d b leaf (split i l r) x y = absurd (x (go_left i) y.0)
one_tableau d b (step s t) leaf x y = absurd (y s x.1)
one_tableau d b (split i l r) leaf x y = absurd (y (go_left i) x.0)
one_tableau d b (step s t) (split i l r) x y = absurd (no_split (one_next b d s (go_left i) x.1 y.0).1) where
  no_split : AreOne s (go_left i) → ⊥
  no_split (inl e) = false≢true (sym x.0 ∙ ap is_split e)
  no_split (inr e) = false≢true (sym x.0 ∙ e.0)
one_tableau d b (split i l r) (step s t) x y = absurd (no_split (one_next b d s (go_left i) y.1 x.0).1) where
  no_split : AreOne s (go_left i) → ⊥
  no_split (inl e) = false≢true (sym y.0 ∙ ap is_split e)
  no_split (inr e) = false≢true (sym y.0 ∙ e.0)
one_tableau d b (step s t) (step z u) x y =
    let same : s ≡ z = unless_split (one_next b d s z x.1 y.1).1 in
    let below : t ≡ u = one_tableau d (after b s) t u x.2 (subst (λ w. IsTableau d (after b w) u) (sym same) y.2) in
    λ k. step (same k) (below k)
  where
    unless_split : AreOne s z → s ≡ z
    unless_split (inl e) = e
    unless_split (inr e) = absurd (false≢true (sym x.0 ∙ e.0))
one_tableau d b (split i l r) (split j l' r') x y =
    let same : i ≡ j = (one_next b d (go_left i) (go_left j) x.0 y.0).0 in
    let left : l ≡ l' = one_tableau d (after b (go_left i)) l l' x.1 (subst (λ k. IsTableau d (after b (go_left k)) l') (sym same) y.1) in
    let right : r ≡ r' = one_tableau d (after b (go_right i)) r r' x.2 (subst (λ k. IsTableau d (after b (go_right k)) r') (sym same) y.2) in
    λ k. split (same k) (left k) (right k)

-- each step that comes next appends an entry

some_part : (a : FreeFormula) → IsSome (alpha_parts a) → 1 ≤ length (or_none (alpha_parts a))
some_part (not (not a)) s = omega arith
some_part (and a c) s = omega arith
some_part (not (or a c)) s = omega arith
some_part (not (imp a c)) s = omega arith
some_part a s = absurd (false≢true s)

left_some : (a : FreeFormula) → IsSome (beta_parts a) → 1 ≤ length (left_part (beta_parts a))
left_some (or a c) s = omega arith
left_some (not (and a c)) s = omega arith
left_some (imp a c) s = omega arith
left_some (iff a c) s = omega arith
left_some (not (iff a c)) s = omega arith
left_some a s = absurd (false≢true s)

right_some : (a : FreeFormula) → IsSome (beta_parts a) → 1 ≤ length (right_part (beta_parts a))
right_some (or a c) s = omega arith
right_some (not (and a c)) s = omega arith
right_some (imp a c) s = omega arith
right_some (iff a c) s = omega arith
right_some (not (iff a c)) s = omega arith
right_some a s = absurd (false≢true s)

delta_some : (inst : FreeFormula → FreeFormula) (a : FreeFormula) → IsSome (delta_part (λ b. b) a) → 1 ≤ length (one_of (delta_part inst a))
delta_some inst (ex a) s = omega arith
delta_some inst (not (all a)) s = omega arith
delta_some inst a s = absurd (false≢true s)

gamma_some : (inst : FreeFormula → FreeFormula) (a : FreeFormula) → IsSome (gamma_part (λ b. b) a) → 1 ≤ length (one_of (gamma_part inst a))
gamma_some inst (all a) s = omega arith
gamma_some inst (not (ex a)) s = omega arith
gamma_some inst a s = absurd (false≢true s)

makes_some : (b : Branch) (d : ℕ) (c : Class) (i : ℕ) (e : Entry) (xs : List Name) (s : Done) → Waits b d c i e → Serves b c i e.formula s
    → 1 ≤ length (made_of xs e.formula s)
makes_some b d conjunctive i e xs s w (inl x) = subst (λ z. 1 ≤ length (made_of xs e.formula z)) (sym x.1) (some_part e.formula x.0)
makes_some b d conjunctive i e xs s w (inr x) = subst (λ z. 1 ≤ length (made_of xs e.formula z)) (sym x.2) (omega arith)
makes_some b d existential i e xs s w x =
    subst (λ z. 1 ≤ length (made_of xs e.formula z)) (sym x) (delta_some (λ f. instance f (skolem_term xs e.formula (next_skolem b))) e.formula w.1)
makes_some b d universal i e xs s w x =
    subst (λ z. 1 ≤ length (made_of xs e.formula z)) (sym x) (gamma_some (λ f. instance f (metavar (next_metavar b))) e.formula w.1)
makes_some b d disjunctive i e xs s w (inl x) = subst (λ z. 1 ≤ length (made_of xs e.formula z)) (sym x) (left_some e.formula w.1)
makes_some b d disjunctive i e xs s w (inr x) = subst (λ z. 1 ≤ length (made_of xs e.formula z)) (sym x) (right_some e.formula w.1)

length_map : {A B : Type 0} (f : A → B) (xs : List A) → length (map f xs) ≡ length xs
length_map f [] = refl
length_map f (x ∷ xs) = ap suc (length_map f xs)

appends_some : (xs : List Name) (o : Option Entry) (e : Entry) (s : Done) → o ≡ Some e → 1 ≤ length (made_of xs e.formula s) → 1 ≤ length (appended_to xs o s)
appends_some xs o e s at more =
    subst (λ z. 1 ≤ length (appended_to xs z s)) (sym at) (omega (arith, length_map (entry (level_of e.level s)) (made_of xs e.formula s)))

same_found : {A : Type 0} (x y : A) → Some x ≡ Some y → x ≡ y
same_found x y e = cc

-- a step that comes next makes the branch longer, and not too long
pub grows : (b : Branch) (d : ℕ) (s : Done) → ComesNext b d s → (length (entries b) < length (entries (after b s))) × (length (entries (after b s)) ≤ most_entries)
grows b d s x =
    let w = x.served.pending in
    let same : w.0 ≡ x.entry = same_found w.0 x.entry (sym w.1 ∙ x.at) in
    let waits : Waits b d x.class (principal s) x.entry = subst (Waits b d x.class (principal s)) same w.3 in
    let more : 1 ≤ length (appended b s) = appends_some (metavars b) (slice_get (entries b) (principal s)) x.entry s x.at (makes_some b d x.class (principal s) x.entry (metavars b) s waits x.serves) in
    let long : length (entries (after b s)) ≡ length (entries b) + length (appended b s) = ap length (entries_grow b s) ∙ length-append (entries b) (appended b s) in
    (omega arith, x.room s x.serves)

abbrev pub Below : ℕ → Branch → Type 0
Below d b = (t : Tableau) × IsTableau d b t

by_step : (d : ℕ) (b : Branch) (s : Done) → is_split s ≡ false → ComesNext b d s → Below d (after b s) → Below d b
by_step d b s e x t = (step s t.0, (e, x, t.1))

by_split : (d : ℕ) (b : Branch) (i : ℕ) → ComesNext b d (go_left i) → Below d (after b (go_left i)) → Below d (after b (go_right i)) → Below d b
by_split d b i x l r = (split i l.0 r.0, (x, l.1, r.1))

-- what stands below each next step gives what stands below the branch
by_next : (d : ℕ) (b : Branch) → ((s : Done) × ComesNext b d s) ⊎ IsLeaf b d → ((s : Done) → ComesNext b d s → Below d (after b s)) → Below d b
by_next d b (inr x) below = (leaf, x)
by_next d b (inl (expand i, x)) below = by_step d b (expand i) refl x (below (expand i) x)
by_next d b (inl (rewrite i r, x)) below = by_step d b (rewrite i r) refl x (below (rewrite i r) x)
by_next d b (inl (skolemize i y, x)) below = by_step d b (skolemize i y) refl x (below (skolemize i y) x)
by_next d b (inl (instantiate i y, x)) below = by_step d b (instantiate i y) refl x (below (instantiate i y) x)
by_next d b (inl (go_left i, x)) below = by_split d b i x (below (go_left i) x) (below (go_right i) (right_side b d i x))
by_next d b (inl (go_right i, x)) below = by_split d b i (left_side b d i x) (below (go_left i) (left_side b d i x)) (below (go_right i) x)

-- a tableau below the branch, where so many more entries are too many
within : (d n : ℕ) (b : Branch) → most_entries < n + length (entries b) → Below d b
within d zero b few = by_next d b (next_decided b d) (λ s x. let g = grows b d s x in absurd (let none : ⊥ = omega (arith, few, g.0, g.1) in none))
within d (suc n) b few = by_next d b (next_decided b d) (λ s x. let g = grows b d s x in within d n (after b s) (omega (arith, few, g.0)))

-- Each branch has its tableau of each depth. Its steps are finitely many, since each appends an entry and a branch has
-- room for so many.
pub tableau_below : (d : ℕ) (b : Branch) → Below d b
tableau_below d b = within d (suc most_entries) b (omega arith)
