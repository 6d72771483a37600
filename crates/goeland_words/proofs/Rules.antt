-- The arguments of a table, as the parser finds them.
use Rattle.std.proofs.Common.{◌≡◌, ℕ, Bool, true, false, List, [], ◌∷◌, ◌++◌, map, refl, ap, ◌∙◌, Option, Some, None}
use Rattle.std.specs.Prelude.{if◌then◌else◌}
use Rattle.std.specs.Str.{bytes_eq}
use Rattle.std.proofs.lemmas.Slice.Eq.{bytes_eq-Decides}
use Rattle.clap.specs.Words.{Rule, Shape}
use Rattle.clap.specs.Simple.{filled, with_index, new_shape}
use Rattle.clap.specs.Walk.{arg_by_long, arg_by_id, arg_by_index, arg_by_short}
use Rattle.goeland_words.specs.Table.{Text, Table, is_among}
use Rattle.goeland_words.specs.Command.{value_rule, switch_rule, place_rule}

-- the arguments as the parser fills them in
abbrev pub valued : Text → Rule
valued name = filled (value_rule name)

abbrev pub switched : Text → Rule
switched name = filled (switch_rule name)

abbrev pub placed : Rule
placed = with_index 1 (filled place_rule)

abbrev pub rules_of : Table → List Rule
rules_of t = map valued t.values ++ (map switched t.switches ++ placed ∷ [])

abbrev pub shape_of_table : Text → Table → Shape
shape_of_table name t = record (new_shape name) {
  rules = rules_of t;
  no_binary_name = true;
  disable_help_flag = true;
  disable_help_subcommand = true;
  is_built = true;
}

pub same_text : (a b : Text) → bytes_eq a b ≡ true → a ≡ b
same_text a b e = (bytes_eq-Decides a b).0 e

pub eq_self : (a : Text) → bytes_eq a a ≡ true
eq_self a = (bytes_eq-Decides a a).1 refl

-- ---- by the name behind two hyphens

long-values : (ns : List Text) (rest : List Rule) (x : Text) → arg_by_long (map valued ns ++ rest) x ≡ (if is_among x ns then Some (valued x) else arg_by_long rest x)
long-values [] rest x = refl
long-values (n ∷ ns) rest x = go (bytes_eq n x) refl (long-values ns rest x)
  where
    go : (b : Bool) → bytes_eq n x ≡ b → arg_by_long (map valued ns ++ rest) x ≡ (if is_among x ns then Some (valued x) else arg_by_long rest x)
        → arg_by_long (map valued (n ∷ ns) ++ rest) x ≡ (if is_among x (n ∷ ns) then Some (valued x) else arg_by_long rest x)
    go true e later = rw e (ap (λ m. Some (valued m)) (same_text n x e))
    go false e later = rw e later

long-switches : (ns : List Text) (rest : List Rule) (x : Text) → arg_by_long (map switched ns ++ rest) x ≡ (if is_among x ns then Some (switched x) else arg_by_long rest x)
long-switches [] rest x = refl
long-switches (n ∷ ns) rest x = go (bytes_eq n x) refl (long-switches ns rest x)
  where
    go : (b : Bool) → bytes_eq n x ≡ b → arg_by_long (map switched ns ++ rest) x ≡ (if is_among x ns then Some (switched x) else arg_by_long rest x)
        → arg_by_long (map switched (n ∷ ns) ++ rest) x ≡ (if is_among x (n ∷ ns) then Some (switched x) else arg_by_long rest x)
    go true e later = rw e (ap (λ m. Some (switched m)) (same_text n x e))
    go false e later = rw e later

pub long_of_table : (t : Table) (x : Text) → arg_by_long (rules_of t) x ≡ (if is_among x t.values then Some (valued x) else (if is_among x t.switches then Some (switched x) else None))
long_of_table t x = long-values t.values (map switched t.switches ++ placed ∷ []) x
    ∙ ap (λ (r : Option Rule). if is_among x t.values then Some (valued x) else r) (long-switches t.switches (placed ∷ []) x)

-- ---- by the name in the matches

id-values : (ns : List Text) (rest : List Rule) (x : Text) → arg_by_id (map valued ns ++ rest) x ≡ (if is_among x ns then Some (valued x) else arg_by_id rest x)
id-values [] rest x = refl
id-values (n ∷ ns) rest x = go (bytes_eq n x) refl (id-values ns rest x)
  where
    go : (b : Bool) → bytes_eq n x ≡ b → arg_by_id (map valued ns ++ rest) x ≡ (if is_among x ns then Some (valued x) else arg_by_id rest x)
        → arg_by_id (map valued (n ∷ ns) ++ rest) x ≡ (if is_among x (n ∷ ns) then Some (valued x) else arg_by_id rest x)
    go true e later = rw e (ap (λ m. Some (valued m)) (same_text n x e))
    go false e later = rw e later

id-switches : (ns : List Text) (rest : List Rule) (x : Text) → arg_by_id (map switched ns ++ rest) x ≡ (if is_among x ns then Some (switched x) else arg_by_id rest x)
id-switches [] rest x = refl
id-switches (n ∷ ns) rest x = go (bytes_eq n x) refl (id-switches ns rest x)
  where
    go : (b : Bool) → bytes_eq n x ≡ b → arg_by_id (map switched ns ++ rest) x ≡ (if is_among x ns then Some (switched x) else arg_by_id rest x)
        → arg_by_id (map switched (n ∷ ns) ++ rest) x ≡ (if is_among x (n ∷ ns) then Some (switched x) else arg_by_id rest x)
    go true e later = rw e (ap (λ m. Some (switched m)) (same_text n x e))
    go false e later = rw e later

pub id_of_table : (t : Table) (x : Text)
    → arg_by_id (rules_of t) x ≡ (if is_among x t.values then Some (valued x) else (if is_among x t.switches then Some (switched x) else arg_by_id (placed ∷ []) x))
id_of_table t x = id-values t.values (map switched t.switches ++ placed ∷ []) x
    ∙ ap (λ (r : Option Rule). if is_among x t.values then Some (valued x) else r) (id-switches t.switches (placed ∷ []) x)

-- ---- by the position

index-values : (ns : List Text) (rest : List Rule) (i : ℕ) → arg_by_index (map valued ns ++ rest) i ≡ arg_by_index rest i
index-values [] rest i = refl
index-values (n ∷ ns) rest i = index-values ns rest i

index-switches : (ns : List Text) (rest : List Rule) (i : ℕ) → arg_by_index (map switched ns ++ rest) i ≡ arg_by_index rest i
index-switches [] rest i = refl
index-switches (n ∷ ns) rest i = index-switches ns rest i

pub index_of_table : (t : Table) (i : ℕ) → arg_by_index (rules_of t) i ≡ arg_by_index (placed ∷ []) i
index_of_table t i = index-values t.values (map switched t.switches ++ placed ∷ []) i ∙ index-switches t.switches (placed ∷ []) i

-- ---- by one letter: there is none

short-values : (ns : List Text) (rest : List Rule) (c : ℕ) → arg_by_short (map valued ns ++ rest) c ≡ arg_by_short rest c
short-values [] rest c = refl
short-values (n ∷ ns) rest c = short-values ns rest c

short-switches : (ns : List Text) (rest : List Rule) (c : ℕ) → arg_by_short (map switched ns ++ rest) c ≡ arg_by_short rest c
short-switches [] rest c = refl
short-switches (n ∷ ns) rest c = short-switches ns rest c

pub short_of_table : (t : Table) (c : ℕ) → arg_by_short (rules_of t) c ≡ None
short_of_table t c = short-values t.values (map switched t.switches ++ placed ∷ []) c ∙ short-switches t.switches (placed ∷ []) c
