-- What a parse of a table's command answers, in terms of lines.
use Rattle.std.proofs.Common.{◌≡◌, Bool, true, false, List, [], ◌∷◌, ◌++◌, map, refl, ap, sym, ◌∙◌, true≢false, append-nil, append_assoc, Option, Some, None, codes, ◌⊎◌, inl, inr}
use Rattle.std.specs.Prelude.{if◌then◌else◌, ◌&&◌, ◌||◌, not, is_some, fold}
use Rattle.std.specs.List.{list_any}
use Rattle.std.specs.Str.{bytes_eq}
use Rattle.std.proofs.lemmas.List.{map-append}
use Rattle.clap.specs.Words.{App, Row, Rule, built, first_of, fault_of, matches_of}
use Rattle.clap.specs.Simple.{filled_from, entered}
use Rattle.clap.specs.Kinds.{Kinds, or_else}
use Rattle.clap.specs.Faults.{defaults_fault, default_fault, check_fault, level_fault, entered_fault, built_fault}
use Rattle.clap.specs.Takes.{is_given}
use Rattle.clap.specs.Walk as walk
use Rattle.clap.specs.Walk.{Held, Walk, has_row, with_default, with_values, at_row, nothing_held, walked, finished}
use Rattle.clap.specs.Values.{reading_of}
use Rattle.clap.specs.declared.builder.value_parser.ValueParser.TheVariants as vp
use Rattle.clap.specs.declared.parser.matches.ValueSource.TheVariants.{DefaultValue}
use Rattle.goeland_words.specs.Table.{Text, Table, is_among, place}
use Rattle.goeland_words.specs.Command.{value_rule, switch_rule, place_rule, app_of_table}
use Rattle.goeland_words.specs.Line.{Use, spaced, joined, switch, plain, Line, settings_of, setting_of, behind, AreNew, AreAllowed, Writes, setting_value}
use Rattle.goeland_words.proofs.Rules.{valued, switched, placed, rules_of, shape_of_table, same_text, eq_self}
use Rattle.goeland_words.proofs.Steps.{Rows, row_of, held_at, idle_at, AllText, total, rows_behind, stands_held, at_row_fresh}
use Rattle.goeland_words.proofs.Runs.{IsSound, NewRows, rows_with, has_row_push, ends_line, parsed, apart_of, no_value}

-- ---- a table's command as the parser builds it

filled-values : (ns : List Text) (rest : List Rule) → filled_from 1 (map value_rule ns ++ rest) ≡ map valued ns ++ filled_from 1 rest
filled-values [] rest = refl
filled-values (n ∷ ns) rest = ap (λ (l : List Rule). valued n ∷ l) (filled-values ns rest)

filled-switches : (ns : List Text) (rest : List Rule) → filled_from 1 (map switch_rule ns ++ rest) ≡ map switched ns ++ filled_from 1 rest
filled-switches [] rest = refl
filled-switches (n ∷ ns) rest = ap (λ (l : List Rule). switched n ∷ l) (filled-switches ns rest)

abbrev built_table : Text → Table → App
built_table name t = record { top = shape_of_table name t; subs = [] }

filled_table : (t : Table) → filled_from 1 (map value_rule t.values ++ (map switch_rule t.switches ++ place_rule ∷ [])) ≡ rules_of t
filled_table t = filled-values t.values (map switch_rule t.switches ++ place_rule ∷ []) ∙ ap (λ (l : List Rule). map valued t.values ++ l) (filled-switches t.switches (place_rule ∷ []))

built_is : (name : Text) (t : Table) → built (app_of_table name t) ≡ built_table name t
built_is name t = ap (λ (l : List Rule). let a : App = record { top = record (shape_of_table name t) { rules = l }; subs = [] } in a) (filled_table t)

-- ---- after the words

if_same : {A : Type 0} → (b : Bool) (x : A) → (if b then x else x) ≡ x
if_same true x = refl
if_same false x = refl

no_default_fault : (n : Text) (rows : Rows) (b : Bool) → has_row n rows ≡ b → default_fault rows (valued n) ≡ []
no_default_fault n rows true e = rw e refl
no_default_fault n rows false e = rw e refl

no_switch_fault : (n : Text) (rows : Rows) (b : Bool) → has_row n rows ≡ b → default_fault rows (switched n) ≡ []
no_switch_fault n rows true e = rw e refl
no_switch_fault n rows false e = rw e refl

no_place_fault : (rows : Rows) (b : Bool) → has_row place rows ≡ b → default_fault rows placed ≡ []
no_place_fault rows true e = rw e refl
no_place_fault rows false e = rw e refl

switches_fault : (ns : List Text) (rows : Rows) → defaults_fault rows (map switched ns ++ placed ∷ []) ≡ []
unfolding defaults_fault
switches_fault [] rows = rw (no_place_fault rows (has_row place rows) refl) refl
switches_fault (n ∷ ns) rows = rw (no_switch_fault n rows (has_row n rows) refl) (switches_fault ns (with_default rows (switched n)))

values_fault : (ns ss : List Text) (rows : Rows) → defaults_fault rows (map valued ns ++ (map switched ss ++ placed ∷ [])) ≡ []
unfolding defaults_fault
values_fault [] ss rows = switches_fault ss rows
values_fault (n ∷ ns) ss rows = rw (no_default_fault n rows (has_row n rows) refl) (values_fault ns ss (with_default rows (valued n)))

none_required-switches : (ns : List Text) (rows : Rows) → list_any (λ a. a.required && not (is_given a.id rows)) (map switched ns ++ placed ∷ []) ≡ false
none_required-switches [] rows = refl
none_required-switches (n ∷ ns) rows = none_required-switches ns rows

none_required : (ns ss : List Text) (rows : Rows) → list_any (λ a. a.required && not (is_given a.id rows)) (map valued ns ++ (map switched ss ++ placed ∷ [])) ≡ false
none_required [] ss rows = none_required-switches ss rows
none_required (n ∷ ns) ss rows = none_required ns ss rows

no_check : (name : Text) (t : Table) (rows : Rows) → check_fault (shape_of_table name t) rows false ≡ []
no_check name t rows = rw (none_required t.values t.switches rows) refl

or_else_nil : (x : Kinds) → or_else x [] ≡ x
or_else_nil [] = refl
or_else_nil (k ∷ ks) = refl

no_entry : (name : Text) (t : Table) (stop : Option (Text × List Text)) → is_some (entered (built_table name t) stop) ≡ false
no_entry name t None = refl
no_entry name t (Some p) = refl

no_entry_fault : (name : Text) (t : Table) (stop : Option (Text × List Text)) → entered_fault (built_table name t) stop ≡ []
no_entry_fault name t None = refl
no_entry_fault name t (Some p) = refl

abbrev pub from_start : Walk
from_start = idle_at (held_at []) 1 false

level_is : (name : Text) (t : Table) (ws : List Text) → level_fault (shape_of_table name t) [] nothing_held ws false [] ≡ total name t from_start ws
level_is name t ws =
    let end : Held = (fold (walked (rules_of t) []) from_start ws).held in
    rw (values_fault t.values t.switches (walk.settled (rules_of t) end).rows, no_check name t (finished (rules_of t) end), or_else_nil) refl

pub fault_is : (name : Text) (t : Table) (ws : List Text) → fault_of (app_of_table name t) ws ≡ total name t from_start ws
fault_is name t ws =
    ap (λ (a : App). built_fault a nothing_held ws) (built_is name t)
    ∙ (rw (no_entry name t, no_entry_fault name t) refl ∙ level_is name t ws)

-- ---- new names, and new rows

abbrev ids : Rows → List Text
ids rows = map (λ r. r.id) rows

has_row_ids : (n : Text) (rows : Rows) → has_row n rows ≡ is_among n (ids rows)
has_row_ids n [] = refl
has_row_ids n (r ∷ rs) = ap (λ (b : Bool). bytes_eq r.id n || b) (has_row_ids n rs)

row_id : (u : Use) → (row_of u).id ≡ (setting_of u).0
row_id (spaced n v) = refl
row_id (joined n v) = refl
row_id (switch n) = refl
row_id (plain w) = refl

row_values : (u : Use) → (row_of u).values ≡ (setting_of u).1 ∷ []
row_values (spaced n v) = refl
row_values (joined n v) = refl
row_values (switch n) = refl
row_values (plain w) = refl

ids_push : (rows : Rows) (u : Use) (before : List Text) → ids rows ≡ before → ids (rows ++ row_of u ∷ []) ≡ before ++ (setting_of u).0 ∷ []
ids_push rows u before is = map-append (λ (r : Row). r.id) rows (row_of u ∷ []) ∙ (ap (λ (l : List Text). l ++ (row_of u).id ∷ []) is ∙ ap (λ (n : Text). before ++ n ∷ []) (row_id u))

new_rows : (us : List Use) (rows : Rows) (before : List Text) → ids rows ≡ before → AreNew before (map setting_of us) → NewRows rows us
new_rows [] rows before is new = tt
new_rows (u ∷ us) rows before is new =
    (has_row_ids _ rows ∙ (ap (is_among (setting_of u).0) is ∙ new.0), new_rows us (rows ++ row_of u ∷ []) (before ++ (setting_of u).0 ∷ []) (ids_push rows u before is) new.1)

rows_new : (us : List Use) (rows : Rows) (before : List Text) → ids rows ≡ before → NewRows rows us → AreNew before (map setting_of us)
rows_new [] rows before is new = tt
rows_new (u ∷ us) rows before is new =
    (sym (ap (is_among (setting_of u).0) is) ∙ (sym (has_row_ids _ rows) ∙ new.0), rows_new us (rows ++ row_of u ∷ []) (before ++ (setting_of u).0 ∷ []) (ids_push rows u before is) new.1)

-- ---- what the rows of a line say

rows_with_is : (us : List Use) (rows : Rows) → rows_with rows us ≡ rows ++ map row_of us
rows_with_is [] rows = sym (append-nil rows)
rows_with_is (u ∷ us) rows = rows_with_is us (rows ++ row_of u ∷ []) ∙ append_assoc rows (row_of u ∷ []) (map row_of us)

first_step : (n k v : Text) (r : Row) (rs : Rows) → r.id ≡ k → r.values ≡ v ∷ [] → first_of n (r ∷ rs) ≡ (if bytes_eq k n then Some v else first_of n rs)
first_step n k v r rs is has = go (bytes_eq r.id n) refl
  where
    go : (b : Bool) → bytes_eq r.id n ≡ b → first_of n (r ∷ rs) ≡ (if bytes_eq k n then Some v else first_of n rs)
    go true e = let f : bytes_eq k n ≡ true = rw (← is) e in rw (e, f, has) refl
    go false e = let f : bytes_eq k n ≡ false = rw (← is) e in rw (e, f) refl

first_given : (n : Text) (us : List Use) → first_of n (map row_of us) ≡ setting_value n (map setting_of us)
first_given n [] = refl
first_given n (u ∷ us) =
    first_step n (setting_of u).0 (setting_of u).1 (row_of u) (map row_of us) (row_id u) (row_values u)
    ∙ ap (λ (o : Option Text). if bytes_eq (setting_of u).0 n then Some (setting_of u).1 else o) (first_given n us)

has_given : (n : Text) (us : List Use) → has_row n (map row_of us) ≡ is_some (setting_value n (map setting_of us))
has_given n [] = refl
has_given n (u ∷ us) = go (bytes_eq (setting_of u).0 n) refl (has_given n us)
  where
    go : (b : Bool) → bytes_eq (setting_of u).0 n ≡ b → has_row n (map row_of us) ≡ is_some (setting_value n (map setting_of us)) → has_row n (map row_of (u ∷ us)) ≡ is_some (setting_value n (map setting_of (u ∷ us)))
    go true e later = rw (row_id u, e) refl
    go false e later = rw (row_id u, e) later

-- ---- the defaults

first_push : (n : Text) (rows : Rows) (r : Row) → first_of n (rows ++ r ∷ []) ≡ (if has_row n rows then first_of n rows else first_of n (r ∷ []))
first_push n [] r = refl
first_push n (x ∷ xs) r = go (bytes_eq x.id n) refl (first_push n xs r)
  where
    go : (b : Bool) → bytes_eq x.id n ≡ b → first_of n (xs ++ r ∷ []) ≡ (if has_row n xs then first_of n xs else first_of n (r ∷ []))
        → first_of n ((x ∷ xs) ++ r ∷ []) ≡ (if has_row n (x ∷ xs) then first_of n (x ∷ xs) else first_of n (r ∷ []))
    go true e later = rw e refl
    go false e later = rw e later

first_none : (n : Text) (rows : Rows) → has_row n rows ≡ false → first_of n rows ≡ None
first_none n [] none = refl
first_none n (x ∷ xs) none = go (bytes_eq x.id n) refl none (first_none n xs)
  where
    go : (b : Bool) → bytes_eq x.id n ≡ b → (b || has_row n xs) ≡ false → (has_row n xs ≡ false → first_of n xs ≡ None) → first_of n (x ∷ xs) ≡ None
    go true e none later = absurd (true≢false none)
    go false e none later = rw e (later none)

abbrev default_row : Text → Row
default_row m = record { id = m; values = codes "false" ∷ []; count = None; source = Some DefaultValue; reading = reading_of vp.Bool }

switch_default : (m : Text) (rows : Rows) (b : Bool) → has_row m rows ≡ b → with_default rows (switched m) ≡ (if b then rows else rows ++ default_row m ∷ [])
switch_default m rows true e = rw e refl
switch_default m rows false e = rw e (at_row_fresh m (walk.more_values DefaultValue (codes "false" ∷ [])) (default_row m ∷ []) rows e)

-- a row that is there stays as it is
kept_default : (n m : Text) (rows : Rows) (b : Bool) → has_row m rows ≡ b → has_row n rows ≡ true
    → (has_row n (with_default rows (switched m)) ≡ true) × (first_of n (with_default rows (switched m)) ≡ first_of n rows)
kept_default n m rows true e there = (rw (switch_default m rows true e) there, rw (switch_default m rows true e) refl)
kept_default n m rows false e there = (
  rw (switch_default m rows false e, has_row_push n rows (default_row m), there) refl,
  rw (switch_default m rows false e, first_push n rows (default_row m), there) refl,
)

kept : (n : Text) (ns : List Text) (rows : Rows) → has_row n rows ≡ true → first_of n (fold with_default rows (map switched ns ++ placed ∷ [])) ≡ first_of n rows
kept n [] rows there = ap (first_of n) (if_same (has_row place rows) rows)
kept n (m ∷ ms) rows there =
    let k = kept_default n m rows (has_row m rows) refl there in
    kept n ms (with_default rows (switched m)) k.0 ∙ k.1

-- another switch's default changes nothing
other_default : (n m : Text) (rows : Rows) (b : Bool) → has_row m rows ≡ b → bytes_eq m n ≡ false
    → (has_row n (with_default rows (switched m)) ≡ has_row n rows) × (first_of n (with_default rows (switched m)) ≡ first_of n rows)
other_default n m rows true e off = (rw (switch_default m rows true e) refl, rw (switch_default m rows true e) refl)
other_default n m rows false e off = (
  rw (switch_default m rows false e, has_row_push n rows (default_row m), off) (or_right (has_row n rows)),
  rw (switch_default m rows false e, first_push n rows (default_row m), off) (by_row (has_row n rows) refl),
)
  where
    or_right : (c : Bool) → (c || false) ≡ c
    or_right true = refl
    or_right false = refl

    by_row : (c : Bool) → has_row n rows ≡ c → (if has_row n rows then first_of n rows else None) ≡ first_of n rows
    by_row true f = rw f refl
    by_row false f = rw f (sym (first_none n rows f))

other_defaults : (n : Text) (ns : List Text) (rows : Rows) → is_among n ns ≡ false → first_of n (fold with_default rows (map switched ns ++ placed ∷ [])) ≡ first_of n rows
other_defaults n [] rows lacks = ap (first_of n) (if_same (has_row place rows) rows)
other_defaults n (m ∷ ms) rows lacks = go (bytes_eq m n) refl lacks (other_defaults n ms (with_default rows (switched m)))
  where
    go : (b : Bool) → bytes_eq m n ≡ b → (b || is_among n ms) ≡ false → (is_among n ms ≡ false → first_of n (fold with_default (with_default rows (switched m)) (map switched ms ++ placed ∷ [])) ≡ first_of n (with_default rows (switched m)))
        → first_of n (fold with_default rows (map switched (m ∷ ms) ++ placed ∷ [])) ≡ first_of n rows
    go true e lacks later = absurd (true≢false lacks)
    go false e lacks later = later lacks ∙ (other_default n m rows (has_row m rows) refl e).1

-- a switch that was not given is `false`
own_default : (m : Text) (rows : Rows) (b : Bool) → has_row m rows ≡ b → bytes_eq m m ≡ true
    → (has_row m (with_default rows (switched m)) ≡ true) × (first_of m (with_default rows (switched m)) ≡ (if b then first_of m rows else Some (codes "false")))
own_default m rows true e same = (rw (switch_default m rows true e) e, rw (switch_default m rows true e) refl)
own_default m rows false e same = (
  rw (switch_default m rows false e, has_row_push m rows (default_row m), e, same) refl,
  rw (switch_default m rows false e, first_push m rows (default_row m), e, same) refl,
)

own_defaults : (n : Text) (ns : List Text) (rows : Rows) → is_among n ns ≡ true → first_of n (fold with_default rows (map switched ns ++ placed ∷ [])) ≡ (if has_row n rows then first_of n rows else Some (codes "false"))
own_defaults n [] rows there = absurd (true≢false (sym there))
own_defaults n (m ∷ ms) rows there = go (bytes_eq m n) refl there (own_defaults n ms (with_default rows (switched m)))
  where
    Goal : Text → Type 0
    Goal x = first_of n (fold with_default rows (map switched (x ∷ ms) ++ placed ∷ [])) ≡ (if has_row n rows then first_of n rows else Some (codes "false"))

    at_own : first_of n (fold with_default rows (map switched (n ∷ ms) ++ placed ∷ [])) ≡ (if has_row n rows then first_of n rows else Some (codes "false"))
    at_own = let k = own_default n rows (has_row n rows) refl (eq_self n) in kept n ms (with_default rows (switched n)) k.0 ∙ k.1

    go : (b : Bool) → bytes_eq m n ≡ b → (b || is_among n ms) ≡ true
        → (is_among n ms ≡ true → first_of n (fold with_default (with_default rows (switched m)) (map switched ms ++ placed ∷ [])) ≡ (if has_row n (with_default rows (switched m)) then first_of n (with_default rows (switched m)) else Some (codes "false")))
        → first_of n (fold with_default rows (map switched (m ∷ ms) ++ placed ∷ [])) ≡ (if has_row n rows then first_of n rows else Some (codes "false"))
    go true e there later = rw (same_text m n e) at_own
    go false e there later = let k = other_default n m rows (has_row m rows) refl e in later there ∙ rw (k.0, k.1) refl

values_default : (ns : List Text) (rest : List Rule) (rows : Rows) → fold with_default rows (map valued ns ++ rest) ≡ fold with_default rows rest
values_default [] rest rows = refl
values_default (n ∷ ns) rest rows = ap (λ (r : Rows). fold with_default r (map valued ns ++ rest)) (if_same (has_row n rows) rows) ∙ values_default ns rest rows

matches_is : (name : Text) (t : Table) (ws : List Text) → matches_of (app_of_table name t) ws ≡ fold with_default (rows_behind name t from_start ws) (map switched t.switches ++ placed ∷ [])
matches_is name t ws =
    ap (λ (a : App). walk.rows_after a.top.rules (map (λ s. (s.name, s.aliases)) a.subs) ws) (built_is name t)
    ∙ values_default t.values (map switched t.switches ++ placed ∷ []) (rows_behind name t from_start ws)

-- ---- all together

-- a switch is given nothing but `true`
given_behind : (n : Text) (ws : List Text) → bytes_eq place n ≡ false → setting_value n (map setting_of (map plain ws)) ≡ None
given_behind n [] off = refl
given_behind n (w ∷ ws) off = rw off (given_behind n ws off)

given_rest : (n : Text) (rest : Option (List Text)) → bytes_eq place n ≡ false → setting_value n (map setting_of (behind rest)) ≡ None
given_rest n None off = refl
given_rest n (Some ws) off = given_behind n ws off

by_given : (g : Option Text) → (g ≡ None) ⊎ (g ≡ Some (codes "true")) → (if is_some g then g else Some (codes "false")) ≡ Some (if is_some g then codes "true" else codes "false")
by_given g (inl e) = rw e refl
by_given g (inr e) = rw e refl

module _ (t : Table) (sound : IsSound t) (n : Text) (there : is_among n t.switches ≡ true) where
  abbrev IsTrueAtMost : List Use → Type 0
  IsTrueAtMost us = (setting_value n (map setting_of us) ≡ None) ⊎ (setting_value n (map setting_of us) ≡ Some (codes "true"))

  no_value_of : (m : Text) → is_among m t.values ≡ true → bytes_eq m n ≡ false
  no_value_of m value = apart_of t.values m n value (no_value (codes "") t sound n there)

  flip : bytes_eq place n ≡ false
  flip = go (bytes_eq place n) refl
    where
      go : (b : Bool) → bytes_eq place n ≡ b → b ≡ false
      go true e = absurd (true≢false (sym there ∙ (ap (λ (x : Text). is_among x t.switches) (sym (same_text place n e)) ∙ sound.no_switch)))
      go false e = refl

  past : (u : Use) (us : List Use) → bytes_eq (setting_of u).0 n ≡ false → IsTrueAtMost us → IsTrueAtMost (u ∷ us)
  past u us off (inl e) = inl (rw off e)
  past u us off (inr e) = inr (rw off e)

  given_true : (us : List Use) (rest : Option (List Text)) → AreAllowed t us → IsTrueAtMost (us ++ behind rest)
  given_true [] rest allowed = inl (given_rest n rest flip)
  given_true (spaced m v ∷ us) rest allowed = past (spaced m v) (us ++ behind rest) (no_value_of m allowed.0.0) (given_true us rest allowed.1)
  given_true (joined m v ∷ us) rest allowed = past (joined m v) (us ++ behind rest) (no_value_of m allowed.0) (given_true us rest allowed.1)
  given_true (plain w ∷ us) rest allowed = past (plain w) (us ++ behind rest) flip (given_true us rest allowed.1)
  given_true (switch m ∷ us) rest allowed = go (bytes_eq m n) refl (given_true us rest allowed.1)
    where
      go : (b : Bool) → bytes_eq m n ≡ b → IsTrueAtMost (us ++ behind rest) → IsTrueAtMost (switch m ∷ (us ++ behind rest))
      go true e later = inr (rw e refl)
      go false e later = past (switch m) (us ++ behind rest) e later

module _ (name : Text) (t : Table) (sound : IsSound t) where
  -- the words of a line are taken, and these are the rows then
  pub line_rows : (l : Line) (ws : List Text) → Writes t l ws → (fault_of (app_of_table name t) ws ≡ []) × (rows_behind name t from_start ws ≡ map row_of (l.uses ++ behind l.rest))
  line_rows l ws w =
      let e = ends_line name t sound l.uses l.rest (held_at []) [] false (stands_held name t []) refl w.allowed (new_rows (l.uses ++ behind l.rest) [] [] refl w.once) in (
        fault_is name t ws ∙ rw w.whole e.0,
        rw w.whole (e.1 ∙ rows_with_is (l.uses ++ behind l.rest) []),
      )

  -- words that are taken are those of a line
  pub line_of : (ws : List Text) → AllText ws → fault_of (app_of_table name t) ws ≡ [] → (l : Line) × Writes t l ws
  line_of ws texts none =
      let p = parsed name t sound ws texts (sym (fault_is name t ws) ∙ none) in
      (record { uses = p.uses; rest = p.rest }, record { whole = p.whole; allowed = p.allowed; once = rows_new (p.uses ++ behind p.rest) [] [] refl p.new })

  -- an option's value and the positional word, as the parser answers them
  pub value_given : (l : Line) (ws : List Text) (n : Text) → Writes t l ws → is_among n t.switches ≡ false → first_of n (matches_of (app_of_table name t) ws) ≡ setting_value n (settings_of l)
  value_given l ws n w lacks =
      ap (first_of n) (matches_is name t ws) ∙ (other_defaults n t.switches (rows_behind name t from_start ws) lacks
      ∙ (ap (first_of n) (line_rows l ws w).1 ∙ first_given n (l.uses ++ behind l.rest)))

  -- and a switch
  pub switch_given : (l : Line) (ws : List Text) (n : Text) → Writes t l ws → is_among n t.switches ≡ true
      → first_of n (matches_of (app_of_table name t) ws) ≡ Some (if is_some (setting_value n (settings_of l)) then codes "true" else codes "false")
  switch_given l ws n w there =
      ap (first_of n) (matches_is name t ws) ∙ (own_defaults n t.switches (rows_behind name t from_start ws) there
      ∙ (rw ((line_rows l ws w).1, has_given n (l.uses ++ behind l.rest), first_given n (l.uses ++ behind l.rest)) refl
      ∙ by_given (setting_value n (settings_of l)) (given_true t sound n there l.uses l.rest w.allowed)))

  -- two lines of the same words say the same
  pub same_given : (l m : Line) (ws : List Text) (n : Text) → Writes t l ws → Writes t m ws → setting_value n (settings_of l) ≡ setting_value n (settings_of m)
  same_given l m ws n v w =
      sym (first_given n (l.uses ++ behind l.rest)) ∙ (ap (first_of n) (sym (line_rows l ws v).1 ∙ (line_rows m ws w).1) ∙ first_given n (m.uses ++ behind m.rest))
