-- A level below a spine, and the plain tree of a spine.
use Rattle.std.proofs.Common.{◌≡◌, ◌≤◌, ℕ, suc, List, [], ◌∷◌, ◌++◌, length, take, drop, refl, ap, sym, ◌∙◌, arith}
use Rattle.std.proofs.lemmas.List.{take-append-drop, drop-append-le, length-append}
use Rattle.std.proofs.Math.Seq.{drop-length}
use Rattle.fol_core.specs.Syntax.{FormulaOver, map_atoms, atom, not, and, or, imp, iff, all, ex}
use Rattle.fol_core.specs.View.{formula_by}
use Rattle.fol_core.specs.declared.formula.Formula.{Formula}
use Rattle.fol_core.specs.declared.formula.Formula.TheVariants.{Not, And, Or, Imp, Iff, All, Ex, Verum, Falsum, Atom}
use Rattle.fol_core.specs.declared.spine.Wrap.{Wrap}
use Rattle.fol_core.specs.declared.spine.Wrap.TheVariants as wrap
use Rattle.fol_core.specs.Around.{around, in_wrap, plain_in_wrap, plain_around}
use Rattle.fol_core.proofs.Trees.{formula_by_atom, formula_by_verum, formula_by_falsum, formula_by_not, formula_by_and, formula_by_or, formula_by_imp, formula_by_iff, formula_by_all, formula_by_ex}

module _ {A : Type 0} where
  pub around_snoc : (ws : List (Wrap A)) (w : Wrap A) (f : Formula A) → around (ws ++ w ∷ []) f ≡ around ws (in_wrap w f)
  around_snoc [] w f = refl
  around_snoc (v ∷ ws) w f = ap (in_wrap v) (around_snoc ws w f)

  -- below the levels that are kept nothing stands around
  pub around_none : (k : ℕ) (ws : List (Wrap A)) (f : Formula A) → k ≡ length ws → around (drop k ws) f ≡ f
  around_none k ws f e = ap (λ n. around (drop n ws) f) e ∙ ap (λ vs. around vs f) (drop-length ws)

  pub not_first : (k : ℕ) (ws below : List (Wrap A)) (w : Wrap A) → below ≡ ws ++ w ∷ [] → k ≡ length below → k ≡ 0 → ⊥
  not_first k ws below w e len none = omega (arith, len, none, ap length e, length-append ws (w ∷ []))

  pub kept_below : (k : ℕ) (ws below : List (Wrap A)) (w : Wrap A) (f inner base : Formula A) → below ≡ ws ++ w ∷ [] → k ≤ length ws → in_wrap w inner ≡ f → around (drop k ws) f ≡ base → around (drop k below) inner ≡ base
  kept_below k ws below w f inner base e within level r =
      ap (λ vs. around (drop k vs) inner) e ∙ ap (λ vs. around vs inner) (drop-append-le k ws (w ∷ []) within) ∙ around_snoc (drop k ws) w inner ∙ ap (around (drop k ws)) level ∙ r

module _ {A B : Type 0} (view : A → B) where
  plain_around_snoc : (ws : List (Wrap A)) (w : Wrap A) (a : FormulaOver B) → plain_around view (ws ++ w ∷ []) a ≡ plain_around view ws (plain_in_wrap view w a)
  plain_around_snoc [] w a = refl
  plain_around_snoc (v ∷ ws) w a = ap (plain_in_wrap view v) (plain_around_snoc ws w a)

  formula_of_in_wrap : (w : Wrap A) (f : Formula A) → formula_by view (in_wrap w f) ≡ plain_in_wrap view w (formula_by view f)
  formula_of_in_wrap wrap.Not f = formula_by_not view f
  formula_of_in_wrap (wrap.And right) f = formula_by_and view f right
  formula_of_in_wrap (wrap.Or right) f = formula_by_or view f right
  formula_of_in_wrap (wrap.Imp right) f = formula_by_imp view f right
  formula_of_in_wrap (wrap.Iff right) f = formula_by_iff view f right
  formula_of_in_wrap wrap.All f = formula_by_all view f
  formula_of_in_wrap wrap.Ex f = formula_by_ex view f

  -- the plain tree of what is built around f
  pub formula_of_around : (ws : List (Wrap A)) (f : Formula A) → formula_by view (around ws f) ≡ plain_around view ws (formula_by view f)
  formula_of_around [] f = refl
  formula_of_around (w ∷ ws) f = formula_of_in_wrap w (around ws f) ∙ ap (plain_in_wrap view w) (formula_of_around ws f)

  pub built_as : (ws : List (Wrap A)) (end found : Formula A) (inner whole : FormulaOver B) → found ≡ around ws end → formula_by view end ≡ inner → plain_around view ws inner ≡ whole → formula_by view found ≡ whole
  built_as ws end found inner whole built is e =
      ap (formula_by view) built ∙ formula_of_around ws end ∙ ap (plain_around view ws) is ∙ e

  -- one level further down the whole stays the same
  pub plain_around_below : (ws below : List (Wrap A)) (w : Wrap A) (a inner whole : FormulaOver B) → below ≡ ws ++ w ∷ [] → plain_in_wrap view w inner ≡ a → plain_around view ws a ≡ whole → plain_around view below inner ≡ whole
  plain_around_below ws below w a inner whole e level r =
      ap (λ vs. plain_around view vs inner) e ∙ plain_around_snoc ws w inner ∙ ap (plain_around view ws) level ∙ r

  plain_around_append : (ws vs : List (Wrap A)) (a : FormulaOver B) → plain_around view (ws ++ vs) a ≡ plain_around view ws (plain_around view vs a)
  plain_around_append [] vs a = refl
  plain_around_append (w ∷ ws) vs a = ap (plain_in_wrap view w) (plain_around_append ws vs a)

  -- what stands around a formula is the first levels around what the others make of it
  split_around : (k : ℕ) (ws : List (Wrap A)) (at base : Formula A) → around (drop k ws) at ≡ base → plain_around view (take k ws) (formula_by view base) ≡ plain_around view ws (formula_by view at)
  split_around k ws at base e =
      ap (λ f. plain_around view (take k ws) (formula_by view f)) (sym e) ∙ ap (plain_around view (take k ws)) (formula_of_around (drop k ws) at) ∙ sym (plain_around_append (take k ws) (drop k ws) (formula_by view at)) ∙ ap (λ vs. plain_around view vs (formula_by view at)) (take-append-drop k ws)

  -- Where what stands at the end is unchanged, so is all that the kept levels stand around.
  pub around_unchanged : (k : ℕ) (ws : List (Wrap A)) (at base found : Formula A) (now whole : FormulaOver B) → around (drop k ws) at ≡ base → now ≡ formula_by view at → plain_around view ws now ≡ whole → found ≡ around (take k ws) base → formula_by view found ≡ whole
  around_unchanged k ws at base found now whole below same e is =
      ap (formula_by view) is ∙ formula_of_around (take k ws) base ∙ split_around k ws at base below ∙ ap (plain_around view ws) (sym same) ∙ e

-- one level of a change of the arguments: at is taken apart into the level w and what stands inside
module _ {A B : Type 0} (view : A → B) (image : ℕ → B → B) (k m : ℕ) (at inner : Formula A) (w : Wrap A) where
  abbrev IsLevel : Type 0
  IsLevel = plain_in_wrap view w (map_atoms image m (formula_by view inner)) ≡ map_atoms image k (formula_by view at)

  pub changed_not : (a : Formula A) → at ≡ Not a → w ≡ wrap.Not → inner ≡ a → m ≡ k → IsLevel
  changed_not a is level inside deep =
      ap (λ v. plain_in_wrap view v (map_atoms image m (formula_by view inner))) level ∙ (λ i. not (map_atoms image (deep i) (formula_by view (inside i)))) ∙ ap (map_atoms image k) (sym (ap (formula_by view) is ∙ formula_by_not view a))

  pub changed_all : (a : Formula A) → at ≡ All a → w ≡ wrap.All → inner ≡ a → m ≡ suc k → IsLevel
  changed_all a is level inside deep =
      ap (λ v. plain_in_wrap view v (map_atoms image m (formula_by view inner))) level ∙ (λ i. all (map_atoms image (deep i) (formula_by view (inside i)))) ∙ ap (map_atoms image k) (sym (ap (formula_by view) is ∙ formula_by_all view a))

  pub changed_ex : (a : Formula A) → at ≡ Ex a → w ≡ wrap.Ex → inner ≡ a → m ≡ suc k → IsLevel
  changed_ex a is level inside deep =
      ap (λ v. plain_in_wrap view v (map_atoms image m (formula_by view inner))) level ∙ (λ i. ex (map_atoms image (deep i) (formula_by view (inside i)))) ∙ ap (map_atoms image k) (sym (ap (formula_by view) is ∙ formula_by_ex view a))

  pub changed_and : (a b r : Formula A) → at ≡ And a b → w ≡ wrap.And r → inner ≡ a → m ≡ k → formula_by view r ≡ map_atoms image k (formula_by view b) → IsLevel
  changed_and a b r is level inside deep part =
      ap (λ v. plain_in_wrap view v (map_atoms image m (formula_by view inner))) level ∙ (λ i. and (map_atoms image (deep i) (formula_by view (inside i))) (part i)) ∙ ap (map_atoms image k) (sym (ap (formula_by view) is ∙ formula_by_and view a b))

  pub changed_or : (a b r : Formula A) → at ≡ Or a b → w ≡ wrap.Or r → inner ≡ a → m ≡ k → formula_by view r ≡ map_atoms image k (formula_by view b) → IsLevel
  changed_or a b r is level inside deep part =
      ap (λ v. plain_in_wrap view v (map_atoms image m (formula_by view inner))) level ∙ (λ i. or (map_atoms image (deep i) (formula_by view (inside i))) (part i)) ∙ ap (map_atoms image k) (sym (ap (formula_by view) is ∙ formula_by_or view a b))

  pub changed_imp : (a b r : Formula A) → at ≡ Imp a b → w ≡ wrap.Imp r → inner ≡ a → m ≡ k → formula_by view r ≡ map_atoms image k (formula_by view b) → IsLevel
  changed_imp a b r is level inside deep part =
      ap (λ v. plain_in_wrap view v (map_atoms image m (formula_by view inner))) level ∙ (λ i. imp (map_atoms image (deep i) (formula_by view (inside i))) (part i)) ∙ ap (map_atoms image k) (sym (ap (formula_by view) is ∙ formula_by_imp view a b))

  pub changed_iff : (a b r : Formula A) → at ≡ Iff a b → w ≡ wrap.Iff r → inner ≡ a → m ≡ k → formula_by view r ≡ map_atoms image k (formula_by view b) → IsLevel
  changed_iff a b r is level inside deep part =
      ap (λ v. plain_in_wrap view v (map_atoms image m (formula_by view inner))) level ∙ (λ i. iff (map_atoms image (deep i) (formula_by view (inside i))) (part i)) ∙ ap (map_atoms image k) (sym (ap (formula_by view) is ∙ formula_by_iff view a b))

-- where the part beside it is unchanged too
module _ {A : Type 0} (at inner : Formula A) (w : Wrap A) where
  pub kept_not : (a : Formula A) → at ≡ Not a → w ≡ wrap.Not → inner ≡ a → in_wrap w inner ≡ at
  kept_not a is level inside = ap (λ v. in_wrap v inner) level ∙ ap Not inside ∙ sym is

  pub kept_all : (a : Formula A) → at ≡ All a → w ≡ wrap.All → inner ≡ a → in_wrap w inner ≡ at
  kept_all a is level inside = ap (λ v. in_wrap v inner) level ∙ ap All inside ∙ sym is

  pub kept_ex : (a : Formula A) → at ≡ Ex a → w ≡ wrap.Ex → inner ≡ a → in_wrap w inner ≡ at
  kept_ex a is level inside = ap (λ v. in_wrap v inner) level ∙ ap Ex inside ∙ sym is

  pub kept_and : (a b r : Formula A) → at ≡ And a b → w ≡ wrap.And r → inner ≡ a → r ≡ b → in_wrap w inner ≡ at
  kept_and a b r is level inside part = ap (λ v. in_wrap v inner) level ∙ (λ i. And (inside i) (part i)) ∙ sym is

  pub kept_or : (a b r : Formula A) → at ≡ Or a b → w ≡ wrap.Or r → inner ≡ a → r ≡ b → in_wrap w inner ≡ at
  kept_or a b r is level inside part = ap (λ v. in_wrap v inner) level ∙ (λ i. Or (inside i) (part i)) ∙ sym is

  pub kept_imp : (a b r : Formula A) → at ≡ Imp a b → w ≡ wrap.Imp r → inner ≡ a → r ≡ b → in_wrap w inner ≡ at
  kept_imp a b r is level inside part = ap (λ v. in_wrap v inner) level ∙ (λ i. Imp (inside i) (part i)) ∙ sym is

  pub kept_iff : (a b r : Formula A) → at ≡ Iff a b → w ≡ wrap.Iff r → inner ≡ a → r ≡ b → in_wrap w inner ≡ at
  kept_iff a b r is level inside part = ap (λ v. in_wrap v inner) level ∙ (λ i. Iff (inside i) (part i)) ∙ sym is

-- the ends where nothing changes
module _ {A B : Type 0} (view : A → B) (image : ℕ → B → B) (k : ℕ) (at : Formula A) where
  pub verum_stays : at ≡ Verum → map_atoms image k (formula_by view at) ≡ formula_by view at
  verum_stays is =
      let stands = ap (formula_by view) is ∙ formula_by_verum view in ap (map_atoms image k) stands ∙ sym stands

  pub falsum_stays : at ≡ Falsum → map_atoms image k (formula_by view at) ≡ formula_by view at
  falsum_stays is =
      let stands = ap (formula_by view) is ∙ formula_by_falsum view in ap (map_atoms image k) stands ∙ sym stands

  pub atom_stays : (p : ℕ) (us : A) → at ≡ Atom p us → view us ≡ image k (view us) → map_atoms image k (formula_by view at) ≡ formula_by view at
  atom_stays p us is same =
      let stands = ap (formula_by view) is ∙ formula_by_atom view p us in ap (map_atoms image k) stands ∙ ap (atom p) (sym same) ∙ sym stands

  pub atom_changed : (p : ℕ) (us vs : A) (ws : List (Wrap A)) (found : Formula A) (whole : FormulaOver B) → at ≡ Atom p us → view vs ≡ image k (view us)
      → plain_around view ws (map_atoms image k (formula_by view at)) ≡ whole → found ≡ around ws (Atom p vs) → formula_by view found ≡ whole
  atom_changed p us vs ws found whole is new e built =
      built_as view ws (Atom p vs) found _ whole built (formula_by_atom view p vs ∙ ap (atom p) new ∙ sym (ap (map_atoms image k) (ap (formula_by view) is ∙ formula_by_atom view p us))) e
