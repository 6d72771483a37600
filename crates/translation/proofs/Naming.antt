-- A Skolem symbol is introduced by one step of a tableau, so its name stands for one list of arguments.
use Rattle.std.proofs.Common.{◌≡◌, ℕ, zero, suc, ◌+◌, ◌*◌, ◌<◌, ◌≤◌, [], ◌∷◌, map, Option, Some, None, slice_get, refl, sym, ◌∙◌, subst, arith, ◌⊎◌, inl, inr}
use Rattle.free_terms.specs.Free.{Name, FreeTerms, FreeFormula, metavar, skolem, terms_of_list}
use Rattle.rewrite_rules.specs.Rewriting.{Rewriting}
use Rattle.branch_rules.specs.Branch.{Branch, Entry, Done, expand, rewrite, skolemize, instantiate, go_left, go_right, entries, after, metavars, segment, segment_after, skolems_made, next_metavar, next_skolem}
use Rattle.branch_rules.specs.Next.{Class, conjunctive, existential, disjunctive, universal, Serves, ComesNext}
use Rattle.tab_tree.specs.Tableau.{Tableau, leaf, step, split, IsTableau}
use Rattle.tab_tree.specs.Round.{MakesOf, Introduces}
use Rattle.translation.proofs.Below.{Below, below_itself, not_above, below_left, below_right, apart}
use Rattle.translation.proofs.Grown.{skolems_here, segment_next, skolems_next, segment_counts}

-- a name that the segment has not given yet, or one of a segment below it
abbrev pub IsAhead : ℕ → ℕ → Name → Type 0
IsAhead n made x = ((x.segment ≡ n) × (made < x.count)) ⊎ (Below (2 * n) x.segment ⊎ Below (2 * n + 1) x.segment)

-- a Skolem symbol that may still be introduced below the branch
abbrev pub MayCome : Branch → Name → Type 0
MayCome b x = IsAhead (segment b) (skolems_here b) x

positive : (b : Branch) → suc zero ≤ segment b
positive b = segment_counts 1 b.steps (omega arith)

leaves : (b : Branch) (s : Done) (x : Name) → MayCome (after b s) x
    → IsAhead (segment_after (segment b) (s ∷ [])) (skolems_made (skolems_here b) (s ∷ [])) x
leaves b s x m = subst (λ k. IsAhead (segment_after (segment b) (s ∷ [])) k x) (skolems_next b s) (subst (λ n. IsAhead n (skolems_here (after b s)) x) (segment_next b s) m)

below_of : (n made : ℕ) (x : Name) → IsAhead n made x → Below n x.segment
below_of n made x (inl p) = subst (λ m. Below n m) (sym p.0) (below_itself n)
below_of n made x (inr (inl p)) = below_left n x.segment p
below_of n made x (inr (inr p)) = below_right n x.segment p

still_at : (n made : ℕ) (s : Done) (x : Name) → IsAhead (segment_after n (s ∷ [])) (skolems_made made (s ∷ [])) x → IsAhead n made x
still_at n made (expand i) x m = m
still_at n made (rewrite i r) x m = m
still_at n made (skolemize i z) x (inl p) = inl (p.0, omega (arith, p.1))
still_at n made (skolemize i z) x (inr p) = inr p
still_at n made (instantiate i z) x m = m
still_at n made (go_left i) x m = inr (inl (below_of (2 * n) 0 x m))
still_at n made (go_right i) x m = inr (inr (below_of (2 * n + 1) 0 x m))

pub still_ahead : (b : Branch) (s : Done) (x : Name) → MayCome (after b s) x → MayCome b x
still_ahead b s x m = still_at (segment b) (skolems_here b) s x (leaves b s x m)

pub next_ahead : (b : Branch) → MayCome b (next_skolem b)
next_ahead b = inl (refl, omega arith)

once : (n made : ℕ) (x : Name) → suc zero ≤ n → x.segment ≡ n → x.count ≡ suc made → IsAhead n (suc made) x → ⊥
once n made x pos at count (inl p) = omega (arith, p.1, count)
once n made x pos at count (inr (inl p)) = omega (arith, not_above (2 * n) x.segment p, pos, at)
once n made x pos at count (inr (inr p)) = omega (arith, not_above (2 * n + 1) x.segment p, pos, at)

-- the symbol of a step comes no more below it
pub next_once : (b : Branch) (i : ℕ) → MayCome (after b (skolemize i (next_skolem b))) (next_skolem b) → ⊥
next_once b i m =
    once (segment b) (skolems_here b) (next_skolem b) (positive b) refl refl (leaves b (skolemize i (next_skolem b)) (next_skolem b) m)

-- what comes on the left of a split does not come on the right
pub one_side : (b : Branch) (i j : ℕ) (x : Name) → MayCome (after b (go_left i)) x → MayCome (after b (go_right j)) x → ⊥
one_side b i j x m w =
    apart (segment b) x.segment (positive b) (below_of (2 * segment b) 0 x (leaves b (go_left i) x m)) (below_of (2 * segment b + 1) 0 x (leaves b (go_right j) x w))

no_expand : (i j : ℕ) (z : Name) → skolemize i z ≡ expand j → ⊥
no_expand i j z e = cc

no_rewrite : (i j : ℕ) (z : Name) (r : Rewriting) → skolemize i z ≡ rewrite j r → ⊥
no_rewrite i j z r e = cc

no_left : (i j : ℕ) (z : Name) → skolemize i z ≡ go_left j → ⊥
no_left i j z e = cc

no_right : (i j : ℕ) (z : Name) → skolemize i z ≡ go_right j → ⊥
no_right i j z e = cc

no_instance : (i j : ℕ) (z y : Name) → skolemize i z ≡ instantiate j y → ⊥
no_instance i j z y e = cc

same_symbol : (i j : ℕ) (z y : Name) → skolemize i z ≡ skolemize j y → z ≡ y
same_symbol i j z y e = cc

symbol_served : (b : Branch) (c : Class) (i j : ℕ) (a : FreeFormula) (z : Name) → Serves b c j a (skolemize i z) → z ≡ next_skolem b
symbol_served b conjunctive i j a z (inl p) = absurd (no_expand i j z p.1)
symbol_served b conjunctive i j a z (inr p) = absurd (no_rewrite i j z p.0 p.2)
symbol_served b existential i j a z p = same_symbol i j z (next_skolem b) p
symbol_served b disjunctive i j a z (inl p) = absurd (no_left i j z p)
symbol_served b disjunctive i j a z (inr p) = absurd (no_right i j z p)
symbol_served b universal i j a z p = absurd (no_instance i j z (next_metavar b) p)

pub symbol_is_next : (b : Branch) (d i : ℕ) (z : Name) → ComesNext b d (skolemize i z) → z ≡ next_skolem b
symbol_is_next b d i z next = symbol_served b next.class i i next.entry.formula z next.serves

skolem_name : (x y : Name) (us vs : FreeTerms) → skolem x us ≡ skolem y vs → x ≡ y
skolem_name x y us vs e = cc

skolem_arguments : (x y : Name) (us vs : FreeTerms) → skolem x us ≡ skolem y vs → us ≡ vs
skolem_arguments x y us vs e = cc

made_ahead : (d : ℕ) (b : Branch) (z : Name) (j : ℕ) (o : Option Entry) (x : Name) (us : FreeTerms) → ComesNext b d (skolemize j z) → MakesOf b (skolemize j z) o (skolem x us) → MayCome b x
made_ahead d b z j None x us h e = absurd e
made_ahead d b z j (Some f) x us h e =
    subst (λ y. MayCome b y) (sym (symbol_is_next b d j z h) ∙ sym (skolem_name x z us _ e)) (next_ahead b)

pub comes_ahead : (d : ℕ) (b : Branch) (t : Tableau) (x : Name) (us : FreeTerms) → IsTableau d b t → Introduces b t (skolem x us) → MayCome b x
comes_ahead d b leaf x us h i = absurd i
comes_ahead d b (step (skolemize j z) t) x us h (inl m) = made_ahead d b z j (slice_get (entries b) j) x us h.1 m
comes_ahead d b (step s t) x us h (inl m) = absurd m
comes_ahead d b (step s t) x us h (inr i) = still_ahead b s x (comes_ahead d (after b s) t x us h.2 i)
comes_ahead d b (split j l r) x us h (inl i) = still_ahead b (go_left j) x (comes_ahead d (after b (go_left j)) l x us h.1 i)
comes_ahead d b (split j l r) x us h (inr i) = still_ahead b (go_right j) x (comes_ahead d (after b (go_right j)) r x us h.2 i)

-- Of the Skolem terms R, those whose symbol may come below the branch are introduced by the tableau below it.
abbrev pub AreBelow : (Name → FreeTerms → Type 0) → Branch → Tableau → Type 0
AreBelow R b t = (x : Name) (us : FreeTerms) → R x us → MayCome b x → Introduces b t (skolem x us)

-- a symbol that a step makes comes no more below it
made_once : (d : ℕ) (b : Branch) (z : Name) (j : ℕ) (o : Option Entry) (x : Name) (us : FreeTerms) → ComesNext b d (skolemize j z) → MakesOf b (skolemize j z) o (skolem x us)
    → MayCome (after b (skolemize j z)) x → ⊥
made_once d b z j None x us h e m = e
made_once d b z j (Some f) x us h e m =
    let is_next : z ≡ next_skolem b = symbol_is_next b d j z h in
    let is_x : x ≡ next_skolem b = skolem_name x z us _ e ∙ is_next in
    next_once b j (subst (λ y. MayCome (after b (skolemize j y)) (next_skolem b)) is_next (subst (λ y. MayCome (after b (skolemize j z)) y) is_x m))

pub below_step : (R : Name → FreeTerms → Type 0) (d : ℕ) (b : Branch) (s : Done) (t : Tableau)
    → IsTableau d b (step s t) → AreBelow R b (step s t) → AreBelow R (after b s) t
below_step R d b (skolemize j z) t h all x us r m = by_case (all x us r (still_ahead b (skolemize j z) x m)) where
  by_case : MakesOf b (skolemize j z) (slice_get (entries b) j) (skolem x us) ⊎ Introduces (after b (skolemize j z)) t (skolem x us)
      → Introduces (after b (skolemize j z)) t (skolem x us)
  by_case (inl e) = absurd (made_once d b z j (slice_get (entries b) j) x us h.1 e m)
  by_case (inr i) = i
below_step R d b s t h all x us r m = by_case (all x us r (still_ahead b s x m)) where
  by_case : ⊥ ⊎ Introduces (after b s) t (skolem x us) → Introduces (after b s) t (skolem x us)
  by_case (inl e) = absurd e
  by_case (inr i) = i

pub below_left_side : (R : Name → FreeTerms → Type 0) (d : ℕ) (b : Branch) (j : ℕ) (l r : Tableau)
    → IsTableau d b (split j l r) → AreBelow R b (split j l r) → AreBelow R (after b (go_left j)) l
below_left_side R d b j l r h all x us q m = by_case (all x us q (still_ahead b (go_left j) x m)) where
  by_case : Introduces (after b (go_left j)) l (skolem x us) ⊎ Introduces (after b (go_right j)) r (skolem x us) → Introduces (after b (go_left j)) l (skolem x us)
  by_case (inl i) = i
  by_case (inr i) = absurd (one_side b j j x m (comes_ahead d (after b (go_right j)) r x us h.2 i))

pub below_right_side : (R : Name → FreeTerms → Type 0) (d : ℕ) (b : Branch) (j : ℕ) (l r : Tableau)
    → IsTableau d b (split j l r) → AreBelow R b (split j l r) → AreBelow R (after b (go_right j)) r
below_right_side R d b j l r h all x us q m = by_case (all x us q (still_ahead b (go_right j) x m)) where
  by_case : Introduces (after b (go_left j)) l (skolem x us) ⊎ Introduces (after b (go_right j)) r (skolem x us) → Introduces (after b (go_right j)) r (skolem x us)
  by_case (inl i) = absurd (one_side b j j x (comes_ahead d (after b (go_left j)) l x us h.1 i) m)
  by_case (inr i) = i

made_of_metavars : (b : Branch) (z : Name) (j : ℕ) (o : Option Entry) (us : FreeTerms) → MakesOf b (skolemize j z) o (skolem z us) → us ≡ terms_of_list (map metavar (metavars b))
made_of_metavars b z j None us e = absurd e
made_of_metavars b z j (Some f) us e = skolem_arguments z z us _ e

-- the Skolem term of a step is the only one with its symbol
pub one_term : (R : Name → FreeTerms → Type 0) (d : ℕ) (b : Branch) (j : ℕ) (z : Name) (t : Tableau)
    → IsTableau d b (step (skolemize j z) t) → AreBelow R b (step (skolemize j z) t)
    → (us : FreeTerms) → R z us → us ≡ terms_of_list (map metavar (metavars b))
one_term R d b j z t h all us r = by_case (all z us r (subst (λ y. MayCome b y) (sym is_next) (next_ahead b))) where
  is_next : z ≡ next_skolem b
  is_next = symbol_is_next b d j z h.1

  by_case : MakesOf b (skolemize j z) (slice_get (entries b) j) (skolem z us) ⊎ Introduces (after b (skolemize j z)) t (skolem z us)
      → us ≡ terms_of_list (map metavar (metavars b))
  by_case (inl e) = made_of_metavars b z j (slice_get (entries b) j) us e
  by_case (inr i) = absurd (next_once b j (subst (λ y. MayCome (after b (skolemize j y)) y) is_next (comes_ahead d (after b (skolemize j z)) t z us h.2 i)))
