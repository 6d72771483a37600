-- What holds of the proof's list at each step of the translation: each entry of the branch stands in it as a closed
-- formula, and only parameters that the branch accounts for stand in it.
use Rattle.std.proofs.Common.{◌≡◌, ℕ, zero, suc, ◌+◌, ◌≤◌, true, List, [], ◌∷◌, ◌++◌, map, length, Some, None, slice_get, refl, ap, sym, ◌∙◌, subst, arith, ◌⊎◌, inl, inr, append_assoc, length-append}
use Rattle.fol_core.specs.Syntax.{PlainFormula, param_in_term}
use Rattle.fol_core.specs.Symbol.{Symbol}
use Rattle.free_terms.specs.Free.{Name, FreeTerms, FreeFormula, metavar, skolem, terms_of_list}
use Rattle.unify.specs.Offers.{Offer, IsOffer}
use Rattle.branch_rules.specs.Branch.{Branch, Done, skolemize, Entry, principal, introduced, made_of, level_of, metavars, after, entries, next_skolem}
use Rattle.tab_tree.specs.Tableau.{Tableau}
use Rattle.tab_tree.specs.Round.{Introduces, IsOfRound}
use Rattle.translation.proofs.Grown.{metavars_next, entries_at}
use Rattle.translation.proofs.Naming.{MayCome, still_ahead, next_ahead, next_once}
use Rattle.translation.specs.Translation.{parameter_of, term_under, place_in, run_of, growth}
use Rattle.translation.proofs.Grounding.{under}
use Rattle.translation.proofs.Built.{IsBuiltTerm, AreBuilt, both_built, all_wider, wider_term, own_term}
use Rattle.translation.proofs.Values.{IsName, few_parameters, has_parameter, one_symbol, built_value, held, in_no_argument}

-- The parameter is #0, or belongs to a symbol that the branch has left behind, or stands in the value of a
-- metavariable of the branch.
abbrev pub IsKnown : Offer → List Name → Branch → ℕ → Type 0
IsKnown s ys b q = (q ≤ length ys) × ((q ≡ 0)
    ⊎ (((z : Name) × (q ≡ parameter_of 0 ys z) × (MayCome b z → ⊥))
    ⊎ ((x : Name) × IsName x (metavars b) × (param_in_term q (term_under s ys (metavar x)) ≡ true))))

name_in_front : (x : Name) (xs zs : List Name) → IsName x xs → IsName x (xs ++ zs)
name_in_front x [] zs m = absurd m
name_in_front x (y ∷ xs) zs (inl e) = inl e
name_in_front x (y ∷ xs) zs (inr m) = inr (name_in_front x xs zs m)

pub name_behind : (x : Name) (xs zs : List Name) → IsName x zs → IsName x (xs ++ zs)
name_behind x [] zs m = m
name_behind x (y ∷ xs) zs m = inr (name_behind x xs zs m)

pub known_next : (s : Offer) (ys : List Name) (b : Branch) (step : Done) (q : ℕ) → IsKnown s ys b q → IsKnown s ys (after b step) q
known_next s ys b step q (few, inl e) = (few, inl e)
known_next s ys b step q (few, inr (inl p)) = (few, inr (inl (p.0, p.1, λ m. p.2 (still_ahead b step p.0 m))))
known_next s ys b step q (few, inr (inr p)) =
    (few, inr (inr (p.0, subst (λ xs. IsName p.0 xs) (sym (metavars_next b step)) (name_in_front p.0 (metavars b) (introduced step) p.1), p.2)))

pub zero_known : (s : Offer) (ys : List Name) (b : Branch) → IsKnown s ys b 0
zero_known s ys b = (omega arith, inl refl)

-- the parameter of the symbol that the step introduces is known behind it
pub symbol_known : (s : Offer) (ys : List Name) (b : Branch) (i : ℕ) (z : Name) → z ≡ next_skolem b → IsKnown s ys (after b (skolemize i z)) (parameter_of 0 ys z)
symbol_known s ys b i z e =
    (omega (arith, few_parameters 0 ys z), inr (inl (z, refl, subst (λ y. MayCome (after b (skolemize i y)) y → ⊥) (sym e) (next_once b i))))

module _ (fs : List Symbol) (b0 : Branch) (t : Tableau) (s : Offer) (ys : List Name) (offer : IsOffer s) (round : IsOfRound fs b0 t s) where
  -- and it is not known before
  pub symbol_new : (b : Branch) (i : ℕ) (z : Name) → z ≡ next_skolem b → ((us : FreeTerms) → Introduces b0 t (skolem z us) → us ≡ terms_of_list (map metavar (metavars b)))
      → IsName z ys → IsKnown s ys b (parameter_of 0 ys z) → ⊥
  symbol_new b i z is_next only m known = by_kind known.1 where
    pos : suc zero ≤ parameter_of 0 ys z
    pos = has_parameter 0 ys z m

    by_kind : (parameter_of 0 ys z ≡ 0)
        ⊎ (((w : Name) × (parameter_of 0 ys z ≡ parameter_of 0 ys w) × (MayCome b w → ⊥))
        ⊎ ((x : Name) × IsName x (metavars b) × (param_in_term (parameter_of 0 ys z) (term_under s ys (metavar x)) ≡ true))) → ⊥
    by_kind (inl e) = omega (arith, pos, e)
    by_kind (inr (inl p)) = p.2 (subst (λ y. MayCome b y) (sym is_next ∙ one_symbol 0 ys z p.0 p.1 pos) (next_ahead b))
    by_kind (inr (inr p)) = in_no_argument fs b0 t s offer round z (terms_of_list (map metavar (metavars b))) only (metavars b) refl p.0 p.1 (held ys z pos _ p.2)

  -- the value of a metavariable of the branch
  pub value_known : (b : Branch) (x : Name) → IsName x (metavars b) → IsBuiltTerm fs (IsKnown s ys b) 0 (term_under s ys (metavar x))
  value_known b x m =
      wider_term fs (λ q. (q ≤ length ys) × (param_in_term q (term_under s ys (metavar x)) ≡ true)) (IsKnown s ys b) (λ q p. (p.0, inr (inr (x, m, p.1)))) 0 0
      (term_under s ys (metavar x)) (omega arith) (own_term fs (λ q. q ≤ length ys) 0 (term_under s ys (metavar x)) (built_value fs b0 t s ys offer round x))

-- each entry stands in the list at its place, as a closed formula
abbrev pub Placed : Offer → List Name → List PlainFormula → List ℕ → List Entry → Type 0
Placed s ys list [] [] = Unit {0}
Placed s ys list [] (e ∷ es) = ⊥
Placed s ys list (p ∷ ps) [] = ⊥
Placed s ys list (p ∷ ps) (e ∷ es) = (slice_get list p ≡ Some (under s ys e.formula)) × Placed s ys list ps es

none_is_some : {A : Type 0} (a : A) → None ≡ Some a → ⊥
none_is_some a e = cc

some_once : {A : Type 0} (a b : A) → Some a ≡ Some b → a ≡ b
some_once a b e = cc

pub get_more : {A : Type 0} (xs ys : List A) (i : ℕ) (x : A) → slice_get xs i ≡ Some x → slice_get (xs ++ ys) i ≡ Some x
get_more [] ys i x e = absurd (none_is_some x e)
get_more (y ∷ xs) ys zero x e = e
get_more (y ∷ xs) ys (suc i) x e = get_more xs ys i x e

pub get_first_new : {A : Type 0} (xs : List A) (y : A) (ys : List A) → slice_get (xs ++ y ∷ ys) (length xs) ≡ Some y
get_first_new [] y ys = refl
get_first_new (x ∷ xs) y ys = get_first_new xs y ys

pub get_second_new : {A : Type 0} (xs : List A) (y z : A) (ys : List A) → slice_get (xs ++ y ∷ z ∷ ys) (suc (length xs)) ≡ Some z
get_second_new [] y z ys = refl
get_second_new (x ∷ xs) y z ys = get_second_new xs y z ys

module _ (s : Offer) (ys : List Name) where
  pub placed_at : (list : List PlainFormula) (ps : List ℕ) (es : List Entry) (i : ℕ) (e : Entry) → Placed s ys list ps es → slice_get es i ≡ Some e
      → slice_get list (place_in ps i) ≡ Some (under s ys e.formula)
  placed_at list [] [] i e h at = absurd (none_is_some e at)
  placed_at list [] (f ∷ es) i e h at = absurd h
  placed_at list (p ∷ ps) [] i e h at = absurd h
  placed_at list (p ∷ ps) (f ∷ es) zero e h at = h.0 ∙ ap (λ g. Some (under s ys g.formula)) (some_once f e at)
  placed_at list (p ∷ ps) (f ∷ es) (suc i) e h at = placed_at list ps es i e h.1 at

  pub placed_more : (list more : List PlainFormula) (ps : List ℕ) (es : List Entry) → Placed s ys list ps es → Placed s ys (list ++ more) ps es
  placed_more list more [] [] h = tt
  placed_more list more [] (e ∷ es) h = h
  placed_more list more (p ∷ ps) [] h = h
  placed_more list more (p ∷ ps) (e ∷ es) h = (get_more list more p (under s ys e.formula) h.0, placed_more list more ps es h.1)

  pub placed_both : (list : List PlainFormula) (ps qs : List ℕ) (es fs : List Entry) → Placed s ys list ps es → Placed s ys list qs fs → Placed s ys list (ps ++ qs) (es ++ fs)
  placed_both list [] qs [] fs h k = k
  placed_both list [] qs (e ∷ es) fs h k = absurd h
  placed_both list (p ∷ ps) qs [] fs h k = absurd h
  placed_both list (p ∷ ps) qs (e ∷ es) fs h k = (h.0, placed_both list ps qs es fs h.1 k)

  abbrev pub at_level : ℕ → FreeFormula → Entry
  at_level n a = record { formula = a; level = n }

  pub placed_new : (list : List PlainFormula) (n : ℕ) (as_ : List FreeFormula)
      → Placed s ys (list ++ map (under s ys) as_) (run_of (length list) (length as_)) (map (at_level n) as_)
  placed_new list n [] = tt
  placed_new list n (a ∷ as_) = (
    get_first_new list (under s ys a) (map (under s ys) as_),
    subst (λ m. Placed s ys (list ++ under s ys a ∷ map (under s ys) as_) (run_of m (length as_)) (map (at_level n) as_)) (length-append list (under s ys a ∷ []) ∙ omega arith)
        (subst (λ l. Placed s ys l (run_of (length (list ++ under s ys a ∷ [])) (length as_)) (map (at_level n) as_)) (append_assoc list (under s ys a ∷ []) (map (under s ys) as_))
        (placed_new (list ++ under s ys a ∷ []) n as_)),
  )

pub record Stands (fs : List Symbol) (s : Offer) (ys : List Name) (b : Branch) (places : List ℕ) (list : List PlainFormula) : Type 0 where
  pub placed : Placed s ys list places (entries b)
  pub built : AreBuilt fs (IsKnown s ys b) list

pub length_map : {A B : Type 0} (f : A → B) (xs : List A) → length (map f xs) ≡ length xs
length_map f [] = refl
length_map f (x ∷ xs) = ap suc (length_map f xs)

module _ (fs : List Symbol) (s : Offer) (ys : List Name) where
  entries_made : (b : Branch) (step : Done) (e : Entry) (as_ : List FreeFormula) → slice_get (entries b) (principal step) ≡ Some e → made_of (metavars b) e.formula step ≡ as_
      → entries (after b step) ≡ entries b ++ map (at_level s ys (level_of e.level step)) as_
  entries_made b step e as_ at made =
      entries_at b step e at ∙ ap (λ cs. entries b ++ map (at_level s ys (level_of e.level step)) cs) made

  pub growth_is : (b : Branch) (step : Done) (e : Entry) (as_ : List FreeFormula) → slice_get (entries b) (principal step) ≡ Some e → made_of (metavars b) e.formula step ≡ as_
      → growth b step ≡ length as_
  growth_is b step e as_ at made =
      let longer : length (entries (after b step)) ≡ length (entries b) + length as_
      = ap length (entries_made b step e as_ at made) ∙ length-append (entries b) (map (at_level s ys (level_of e.level step)) as_) ∙ ap (λ n. length (entries b) + n) (length_map (at_level s ys (level_of e.level step)) as_) in
      omega (arith, longer)

  -- a step that appends closed formulas of what it appends on the branch
  pub stands_next : (b : Branch) (step : Done) (e : Entry) (as_ : List FreeFormula) (places : List ℕ) (list : List PlainFormula) → Stands fs s ys b places list
      → slice_get (entries b) (principal step) ≡ Some e → made_of (metavars b) e.formula step ≡ as_
      → AreBuilt fs (IsKnown s ys (after b step)) (map (under s ys) as_)
      → Stands fs s ys (after b step) (places ++ run_of (length list) (length as_)) (list ++ map (under s ys) as_)
  stands_next b step e as_ places list h at made new = record {
    placed = subst (λ es. Placed s ys (list ++ map (under s ys) as_) (places ++ run_of (length list) (length as_)) es) (sym (entries_made b step e as_ at made))
        (placed_both s ys (list ++ map (under s ys) as_) places (run_of (length list) (length as_)) (entries b) (map (at_level s ys (level_of e.level step)) as_)
        (placed_more s ys list (map (under s ys) as_) places (entries b) h.placed) (placed_new s ys list (level_of e.level step) as_));
    built = both_built fs (IsKnown s ys (after b step)) list (map (under s ys) as_)
        (all_wider fs (IsKnown s ys b) (IsKnown s ys (after b step)) (known_next s ys b step) list h.built) new;
  }
