-- The parser takes the words of a table's lines, and no others.
use Rattle.std.proofs.Common.{◌≡◌, Bool, true, false, List, [], ◌∷◌, ◌++◌, map, refl, ap, sym, ◌∙◌, subst, true≢false, Option, Some, None}
use Rattle.std.specs.Prelude.{◌&&◌, ◌||◌, not}
use Rattle.std.specs.List.{list_all}
use Rattle.std.specs.Str.{bytes_eq}
use Rattle.clap.specs.Words.{Row}
use Rattle.clap.specs.Walk.{Held, Walk, has_row, arg_by_long, arg_by_id}
use Rattle.clap.specs.Lexer.{long_of, short_of}
use Rattle.goeland_words.specs.Table.{Text, Table, is_among, place}
use Rattle.goeland_words.specs.Line.{Use, spaced, joined, switch, plain, dashes, words_of_uses, is_plain, AreAllowed, ending, behind, setting_of}
use Rattle.goeland_words.proofs.Rules.{valued, switched, placed, rules_of, long_of_table, id_of_table, same_text, eq_self}
use Rattle.goeland_words.proofs.Steps as steps
use Rattle.goeland_words.proofs.Steps.{Rows, row_of, value_row, switch_row, held_at, pending_at, idle_at, waits_at, pos, AllText, Stands, Goes, total, rows_behind}
use Rattle.goeland_words.proofs.Spelled.{is_name, joined_word, alone_word, plain_word, plain_parts, joined_parts, alone_parts}

-- ---- tables

-- the names can be told from values, from one another and from that of the positional word
pub record IsSound (t : Table) : Type 0 where
  pub values : list_all is_name t.values ≡ true
  pub switches : list_all is_name t.switches ≡ true
  pub apart : list_all (λ n. not (is_among n t.values)) t.switches ≡ true
  pub no_value : is_among place t.values ≡ false
  pub no_switch : is_among place t.switches ≡ false

and-left : (a b : Bool) → (a && b) ≡ true → a ≡ true
and-left true b h = refl
and-left false b h = absurd (true≢false (sym h))

and-right : (a b : Bool) → (a && b) ≡ true → b ≡ true
and-right true b h = h
and-right false b h = absurd (true≢false (sym h))

not-true : (b : Bool) → not b ≡ true → b ≡ false
not-true true h = absurd (true≢false (sym h))
not-true false h = refl

all_among : (test : Text → Bool) (ns : List Text) (n : Text) → list_all test ns ≡ true → is_among n ns ≡ true → test n ≡ true
all_among test [] n all among = absurd (true≢false (sym among))
all_among test (m ∷ ms) n all among = go (bytes_eq m n) refl among (all_among test ms n (and-right _ _ all))
  where
    go : (b : Bool) → bytes_eq m n ≡ b → (b || is_among n ms) ≡ true → (is_among n ms ≡ true → test n ≡ true) → test n ≡ true
    go true e is later = subst (λ (x : Text). test x ≡ true) (same_text m n e) (and-left _ _ all)
    go false e is later = later is

pub apart_of : (ns : List Text) (n m : Text) → is_among n ns ≡ true → is_among m ns ≡ false → bytes_eq n m ≡ false
apart_of ns n m there lacks = go (bytes_eq n m) refl
  where
    go : (b : Bool) → bytes_eq n m ≡ b → b ≡ false
    go true e = absurd (true≢false (sym (subst (λ (x : Text). is_among x ns ≡ true) (same_text n m e) there) ∙ lacks))
    go false e = refl

-- ---- rows

or_false : (b : Bool) → (b || false) ≡ b
or_false true = refl
or_false false = refl

or_assoc : (a b c : Bool) → (a || (b || c)) ≡ ((a || b) || c)
or_assoc true b c = refl
or_assoc false b c = refl

pub has_row_push : (n : Text) (rows : Rows) (r : Row) → has_row n (rows ++ r ∷ []) ≡ (has_row n rows || bytes_eq r.id n)
has_row_push n [] r = or_false (bytes_eq r.id n)
has_row_push n (x ∷ xs) r = ap (λ (b : Bool). bytes_eq x.id n || b) (has_row_push n xs r) ∙ or_assoc (bytes_eq x.id n) (has_row n xs) (bytes_eq r.id n)

-- none of the uses is of a name that has a row by then
abbrev pub NewRows : Rows → List Use → Type 0
NewRows rows [] = Unit {0}
NewRows rows (u ∷ us) = (has_row (setting_of u).0 rows ≡ false) × NewRows (rows ++ row_of u ∷ []) us

abbrev pub rows_with : Rows → List Use → Rows
rows_with rows [] = rows
rows_with rows (u ∷ us) = rows_with (rows ++ row_of u ∷ []) us

module _ (name : Text) (t : Table) (sound : IsSound t) where
  -- ---- what is known of a sound table's names

  value_name : (n : Text) → is_among n t.values ≡ true → is_name n ≡ true
  value_name n there = all_among is_name t.values n sound.values there

  switch_name : (n : Text) → is_among n t.switches ≡ true → is_name n ≡ true
  switch_name n there = all_among is_name t.switches n sound.switches there

  pub no_value : (n : Text) → is_among n t.switches ≡ true → is_among n t.values ≡ false
  no_value n there = not-true _ (all_among (λ m. not (is_among m t.values)) t.switches n sound.apart there)

  place_value : is_among place t.values ≡ false
  place_value = sound.no_value

  place_switch : is_among place t.switches ≡ false
  place_switch = sound.no_switch

  finds_value : (n : Text) → is_among n t.values ≡ true → arg_by_long (rules_of t) n ≡ Some (valued n)
  finds_value n there = long_of_table t n ∙ rw there refl

  finds_switch : (n : Text) → is_among n t.switches ≡ true → arg_by_long (rules_of t) n ≡ Some (switched n)
  finds_switch n there = long_of_table t n ∙ rw (no_value n there, there) refl

  finds_none : (n : Text) → is_among n t.values ≡ false → is_among n t.switches ≡ false → arg_by_long (rules_of t) n ≡ None
  finds_none n lacks lacks' = long_of_table t n ∙ rw (lacks, lacks') refl

  id_value : (n : Text) → is_among n t.values ≡ true → arg_by_id (rules_of t) n ≡ Some (valued n)
  id_value n there = id_of_table t n ∙ rw there refl

  id_place : arg_by_id (rules_of t) place ≡ Some placed
  id_place = id_of_table t place ∙ rw (place_value, place_switch) refl

  -- a use of an option leaves the position as it was
  keeps_value : (n v : Text) (rows : Rows) (b : Bool) → is_among n t.values ≡ true → has_row place rows ≡ b → has_row place (rows ++ value_row n v ∷ []) ≡ b
  keeps_value n v rows b there is = has_row_push place rows (value_row n v) ∙ rw (is, apart_of t.values n place there place_value) (or_false b)

  keeps_switch : (n : Text) (rows : Rows) (b : Bool) → is_among n t.switches ≡ true → has_row place rows ≡ b → has_row place (rows ++ switch_row n ∷ []) ≡ b
  keeps_switch n rows b there is = has_row_push place rows (switch_row n) ∙ rw (is, apart_of t.switches n place there place_switch) (or_false b)

  takes_place : (v : Text) (rows : Rows) → has_row place rows ≡ false → has_row place (rows ++ value_row place v ∷ []) ≡ true
  takes_place v rows is = has_row_push place rows (value_row place v) ∙ rw (is, eq_self place) refl

  -- ---- the words of a line are taken

  abbrev pub Ends : Walk → List Text → Rows → Type 0
  Ends w ws rows = (total name t w ws ≡ []) × (rows_behind name t w ws ≡ rows)

  goes_to : (w w' : Walk) (ws ws' : List Text) (rows : Rows) → Goes name t w ws w' ws' → Ends w' ws' rows → Ends w ws rows
  goes_to w w' ws ws' rows g e = (g.0 ∙ e.0, g.1 ∙ e.1)

  pub ends_behind : (ws : List Text) (h : Held) (rows : Rows) (b : Bool) → Stands name t h rows → has_row place rows ≡ b → NewRows rows (map plain ws)
      → Ends (idle_at h (pos b) true) ws (rows_with rows (map plain ws))
  ends_behind [] h rows b s at new = (steps.at_end name t h rows (pos b) true s, s.rows)
  ends_behind (x ∷ xs) h rows true s at new = absurd (true≢false (sym at ∙ new.0))
  ends_behind (x ∷ xs) h rows false s at new =
      goes_to _ _ (x ∷ xs) xs _ (steps.behind_step name t x xs h rows s)
      (ends_behind xs (pending_at rows place x) (rows ++ value_row place x ∷ []) true (steps.place_stands name t x rows id_place at) (takes_place x rows at) new.1)

  pub ends_line : (us : List Use) (rest : Option (List Text)) (h : Held) (rows : Rows) (b : Bool) → Stands name t h rows → has_row place rows ≡ b → AreAllowed t us → NewRows rows (us ++ behind rest)
      → Ends (idle_at h (pos b) false) (words_of_uses us ++ ending rest) (rows_with rows (us ++ behind rest))
  ends_line [] None h rows b s at allowed new = (steps.at_end name t h rows (pos b) false s, s.rows)
  ends_line [] (Some ws) h rows b s at allowed new = goes_to _ _ (dashes ∷ ws) ws _ (steps.dashes_step name t dashes ws h (pos b) refl) (ends_behind ws h rows b s at new)
  ends_line (joined n v ∷ us) rest h rows b s at allowed new =
      let o = joined_parts n v (value_name n allowed.0) in
      goes_to _ _ _ _ _ (steps.joined_step name t (dashes ++ n ++ 61 ∷ v) n v (words_of_uses us ++ ending rest) h rows (pos b) s o.apart o.long (finds_value n allowed.0) new.0)
      (ends_line us rest (held_at (rows ++ value_row n v ∷ [])) (rows ++ value_row n v ∷ []) b (steps.stands_held name t _) (keeps_value n v rows b allowed.0 at) allowed.1 new.1)
  ends_line (spaced n v ∷ us) rest h rows b s at allowed new =
      let o = alone_parts n (value_name n allowed.0.0) in
      let q = plain_parts v allowed.0.1 in
      goes_to _ _ _ _ _ (steps.alone_step name t (dashes ++ n) n (v ∷ words_of_uses us ++ ending rest) h rows (pos b) s o.apart o.long (finds_value n allowed.0.0))
      (goes_to _ _ _ _ _ (steps.value_step name t v n (words_of_uses us ++ ending rest) rows (pos b) q.apart q.long q.short (id_value n allowed.0.0) (eq_self n))
      (ends_line us rest (pending_at rows n v) (rows ++ value_row n v ∷ []) b (steps.value_stands name t n v rows (id_value n allowed.0.0) new.0) (keeps_value n v rows b allowed.0.0 at) allowed.1 new.1))
  ends_line (switch n ∷ us) rest h rows b s at allowed new =
      let o = alone_parts n (switch_name n allowed.0) in
      goes_to _ _ _ _ _ (steps.switch_step name t (dashes ++ n) n (words_of_uses us ++ ending rest) h rows (pos b) s o.apart o.long (finds_switch n allowed.0) new.0)
      (ends_line us rest (held_at (rows ++ switch_row n ∷ [])) (rows ++ switch_row n ∷ []) b (steps.stands_held name t _) (keeps_switch n rows b allowed.0 at) allowed.1 new.1)
  ends_line (plain x ∷ us) rest h rows true s at allowed new = absurd (true≢false (sym at ∙ new.0))
  ends_line (plain x ∷ us) rest h rows false s at allowed new =
      let q = plain_parts x allowed.0 in
      goes_to _ _ _ _ _ (steps.place_step name t x (words_of_uses us ++ ending rest) h rows s q.apart q.long q.short)
      (ends_line us rest (pending_at rows place x) (rows ++ value_row place x ∷ []) true (steps.place_stands name t x rows id_place at) (takes_place x rows at) allowed.1 new.1)

  -- ---- words that are taken are those of a line

  pub record Parsed (rows : Rows) (ws : List Text) : Type 0 where
    pub uses : List Use
    pub rest : Option (List Text)
    pub whole : ws ≡ words_of_uses uses ++ ending rest
    pub allowed : AreAllowed t uses
    pub new : NewRows rows (uses ++ behind rest)

  -- the next word is a value, and the others are those of a line
  pub record Waited (n : Text) (rows : Rows) (ws : List Text) : Type 0 where
    pub value : Text
    pub more : List Text
    pub whole : ws ≡ value ∷ more
    pub fits : is_plain value ≡ true
    pub fresh : has_row n rows ≡ false
    pub later : Parsed (rows ++ value_row n value ∷ []) more

  parsed_behind : (ws : List Text) (h : Held) (rows : Rows) (b : Bool) → Stands name t h rows → has_row place rows ≡ b → total name t (idle_at h (pos b) true) ws ≡ [] → NewRows rows (map plain ws)
  parsed_behind [] h rows b s at none = tt
  parsed_behind (x ∷ xs) h rows true s at none = absurd (steps.behind_again name t x xs h none)
  parsed_behind (x ∷ xs) h rows false s at none =
      (at, parsed_behind xs (pending_at rows place x) (rows ++ value_row place x ∷ []) true (steps.place_stands name t x rows id_place at) (takes_place x rows at) (sym (steps.behind_step name t x xs h rows s).0 ∙ none))

  abbrev Idle : List Text → Type 0
  Idle ws = (h : Held) (rows : Rows) (b : Bool) → Stands name t h rows → has_row place rows ≡ b → AllText ws → total name t (idle_at h (pos b) false) ws ≡ [] → Parsed rows ws

  abbrev Waits : List Text → Type 0
  Waits ws = (n : Text) (rows : Rows) (b : Bool) → is_among n t.values ≡ true → has_row place rows ≡ b → AllText ws → total name t (waits_at rows n (pos b)) ws ≡ [] → Waited n rows ws

  -- one use before the others
  with_joined : (x n v : Text) (xs : List Text) (rows : Rows) → x ≡ dashes ++ n ++ 61 ∷ v → is_among n t.values ≡ true → has_row n rows ≡ false → Parsed (rows ++ value_row n v ∷ []) xs → Parsed rows (x ∷ xs)
  with_joined x n v xs rows is there fresh p = record { uses = joined n v ∷ p.uses; rest = p.rest; whole = rw is (ap (λ (l : List Text). (dashes ++ n ++ 61 ∷ v) ∷ l) p.whole); allowed = (there, p.allowed); new = (fresh, p.new) }

  with_switch : (x n : Text) (xs : List Text) (rows : Rows) → x ≡ dashes ++ n → is_among n t.switches ≡ true → has_row n rows ≡ false → Parsed (rows ++ switch_row n ∷ []) xs → Parsed rows (x ∷ xs)
  with_switch x n xs rows is there fresh p = record { uses = switch n ∷ p.uses; rest = p.rest; whole = rw is (ap (λ (l : List Text). (dashes ++ n) ∷ l) p.whole); allowed = (there, p.allowed); new = (fresh, p.new) }

  with_spaced : (x n : Text) (xs : List Text) (rows : Rows) → x ≡ dashes ++ n → is_among n t.values ≡ true → Waited n rows xs → Parsed rows (x ∷ xs)
  with_spaced x n xs rows is there w = record {
    uses = spaced n w.value ∷ w.later.uses;
    rest = w.later.rest;
    whole = rw (is, w.whole) (ap (λ (l : List Text). (dashes ++ n) ∷ w.value ∷ l) w.later.whole);
    allowed = ((there, w.fits), w.later.allowed);
    new = (w.fresh, w.later.new);
  }

  with_plain : (x : Text) (xs : List Text) (rows : Rows) → is_plain x ≡ true → has_row place rows ≡ false → Parsed (rows ++ value_row place x ∷ []) xs → Parsed rows (x ∷ xs)
  with_plain x xs rows is fresh p = record { uses = plain x ∷ p.uses; rest = p.rest; whole = ap (λ (l : List Text). x ∷ l) p.whole; allowed = (is, p.allowed); new = (fresh, p.new) }

  -- a word at which nothing waits
  at_joined : (x n v : Text) (xs : List Text) (h : Held) (rows : Rows) (b : Bool) (value again : Bool) → Idle xs → Stands name t h rows → has_row place rows ≡ b → AllText (x ∷ xs) → bytes_eq x dashes ≡ false → long_of x ≡ Some (n, Some v)
      → is_among n t.values ≡ value → has_row n rows ≡ again → total name t (idle_at h (pos b) false) (x ∷ xs) ≡ [] → Parsed rows (x ∷ xs)
  at_joined x n v xs h rows b true false idle s at texts apart long there fresh none =
      with_joined x n v xs rows (joined_word x n v long) there fresh
      (idle (held_at (rows ++ value_row n v ∷ [])) (rows ++ value_row n v ∷ []) b (steps.stands_held name t _) (keeps_value n v rows b there at) texts.1
      (sym (steps.joined_step name t x n v xs h rows (pos b) s apart long (finds_value n there) fresh).0 ∙ none))
  at_joined x n v xs h rows b true true idle s at texts apart long there fresh none = absurd (steps.joined_again name t x n v xs h rows (pos b) s apart long (finds_value n there) fresh none)
  at_joined x n v xs h rows b false again idle s at texts apart long there fresh none = absurd (refused (is_among n t.switches) refl)
    where
      refused : (is : Bool) → is_among n t.switches ≡ is → ⊥
      refused true e = steps.switch_valued name t x n v xs h (pos b) apart long (finds_switch n e) none
      refused false e = steps.unknown name t x n (Some v) xs h (pos b) apart long (finds_none n there e) none

  at_switch : (x n : Text) (xs : List Text) (h : Held) (rows : Rows) (b : Bool) (is again : Bool) → Idle xs → Stands name t h rows → has_row place rows ≡ b → AllText (x ∷ xs) → bytes_eq x dashes ≡ false → long_of x ≡ Some (n, None)
      → is_among n t.values ≡ false → is_among n t.switches ≡ is → has_row n rows ≡ again → total name t (idle_at h (pos b) false) (x ∷ xs) ≡ [] → Parsed rows (x ∷ xs)
  at_switch x n xs h rows b true false idle s at texts apart long lacks there fresh none =
      with_switch x n xs rows (alone_word x n long) there fresh
      (idle (held_at (rows ++ switch_row n ∷ [])) (rows ++ switch_row n ∷ []) b (steps.stands_held name t _) (keeps_switch n rows b there at) texts.1
      (sym (steps.switch_step name t x n xs h rows (pos b) s apart long (finds_switch n there) fresh).0 ∙ none))
  at_switch x n xs h rows b true true idle s at texts apart long lacks there fresh none = absurd (steps.switch_again name t x n xs h rows (pos b) s apart long (finds_switch n there) fresh none)
  at_switch x n xs h rows b false again idle s at texts apart long lacks there fresh none = absurd (steps.unknown name t x n None xs h (pos b) apart long (finds_none n lacks there) none)

  at_alone : (x n : Text) (xs : List Text) (h : Held) (rows : Rows) (b : Bool) (value : Bool) → Idle xs → Waits xs → Stands name t h rows → has_row place rows ≡ b → AllText (x ∷ xs) → bytes_eq x dashes ≡ false → long_of x ≡ Some (n, None)
      → is_among n t.values ≡ value → total name t (idle_at h (pos b) false) (x ∷ xs) ≡ [] → Parsed rows (x ∷ xs)
  at_alone x n xs h rows b true idle waits s at texts apart long there none =
      with_spaced x n xs rows (alone_word x n long) there (waits n rows b there at texts.1 (sym (steps.alone_step name t x n xs h rows (pos b) s apart long (finds_value n there)).0 ∙ none))
  at_alone x n xs h rows b false idle waits s at texts apart long there none = at_switch x n xs h rows b (is_among n t.switches) (has_row n rows) idle s at texts apart long there refl refl none

  at_plain : (x : Text) (xs : List Text) (h : Held) (rows : Rows) (b : Bool) → Idle xs → Stands name t h rows → has_row place rows ≡ b → AllText (x ∷ xs) → bytes_eq x dashes ≡ false → long_of x ≡ None → short_of x ≡ None
      → total name t (idle_at h (pos b) false) (x ∷ xs) ≡ [] → Parsed rows (x ∷ xs)
  at_plain x xs h rows true idle s at texts apart long short none = absurd (steps.place_again name t x xs h apart long short none)
  at_plain x xs h rows false idle s at texts apart long short none =
      with_plain x xs rows (plain_word x apart long short) at
      (idle (pending_at rows place x) (rows ++ value_row place x ∷ []) true (steps.place_stands name t x rows id_place at) (takes_place x rows at) texts.1 (sym (steps.place_step name t x xs h rows s apart long short).0 ∙ none))

  at_word : (x : Text) (xs : List Text) (h : Held) (rows : Rows) (b : Bool) (l : Option (Text × Option Text)) (f : Option Text) → Idle xs → Waits xs → Stands name t h rows → has_row place rows ≡ b → AllText (x ∷ xs) → bytes_eq x dashes ≡ false
      → long_of x ≡ l → short_of x ≡ f → total name t (idle_at h (pos b) false) (x ∷ xs) ≡ [] → Parsed rows (x ∷ xs)
  at_word x xs h rows b (Some (n, Some v)) f idle waits s at texts apart long short none = at_joined x n v xs h rows b (is_among n t.values) (has_row n rows) idle s at texts apart long refl refl none
  at_word x xs h rows b (Some (n, None)) f idle waits s at texts apart long short none = at_alone x n xs h rows b (is_among n t.values) idle waits s at texts apart long refl none
  at_word x xs h rows b None (Some f) idle waits s at texts apart long short none = absurd (steps.short_refused name t x f xs h (pos b) texts.0 s.skip apart long short none)
  at_word x xs h rows b None None idle waits s at texts apart long short none = at_plain x xs h rows b idle s at texts apart long short none

  at_any : (x : Text) (xs : List Text) (h : Held) (rows : Rows) (b : Bool) (d : Bool) → Idle xs → Waits xs → Stands name t h rows → has_row place rows ≡ b → AllText (x ∷ xs) → bytes_eq x dashes ≡ d
      → total name t (idle_at h (pos b) false) (x ∷ xs) ≡ [] → Parsed rows (x ∷ xs)
  at_any x xs h rows b true idle waits s at texts is none = record {
    uses = [];
    rest = Some xs;
    whole = ap (λ (y : Text). y ∷ xs) (same_text x dashes is);
    allowed = tt;
    new = parsed_behind xs h rows b s at (sym (steps.dashes_step name t x xs h (pos b) is).0 ∙ none);
  }
  at_any x xs h rows b false idle waits s at texts is none = at_word x xs h rows b (long_of x) (short_of x) idle waits s at texts is refl refl none

  -- a word for which an option waits
  waits_plain : (x n : Text) (xs : List Text) (rows : Rows) (b : Bool) (again : Bool) → Idle xs → is_among n t.values ≡ true → has_row place rows ≡ b → AllText (x ∷ xs) → bytes_eq x dashes ≡ false → long_of x ≡ None → short_of x ≡ None
      → has_row n rows ≡ again → total name t (waits_at rows n (pos b)) (x ∷ xs) ≡ [] → Waited n rows (x ∷ xs)
  waits_plain x n xs rows b true idle there at texts apart long short fresh none =
      absurd (steps.doomed name t xs (pending_at rows n x) b texts.1 refl (steps.twice_bad name t n x rows (id_value n there) fresh)
      (sym (steps.value_step name t x n xs rows (pos b) apart long short (id_value n there) (eq_self n)).0 ∙ none))
  waits_plain x n xs rows b false idle there at texts apart long short fresh none = record {
    value = x;
    more = xs;
    whole = refl;
    fits = plain_word x apart long short;
    fresh = fresh;
    later = idle (pending_at rows n x) (rows ++ value_row n x ∷ []) b (steps.value_stands name t n x rows (id_value n there) fresh) (keeps_value n x rows b there at) texts.1
        (sym (steps.value_step name t x n xs rows (pos b) apart long short (id_value n there) (eq_self n)).0 ∙ none);
  }

  waits_any : (x n : Text) (xs : List Text) (rows : Rows) (b : Bool) (d : Bool) (l : Option (Text × Option Text)) (f : Option Text) → Idle xs → is_among n t.values ≡ true → has_row place rows ≡ b → AllText (x ∷ xs) → bytes_eq x dashes ≡ d
      → long_of x ≡ l → short_of x ≡ f → total name t (waits_at rows n (pos b)) (x ∷ xs) ≡ [] → Waited n rows (x ∷ xs)
  waits_any x n xs rows b true l f idle there at texts is long short none = absurd (steps.waits_dashes name t x n xs rows b (id_value n there) is none)
  waits_any x n xs rows b false (Some q) f idle there at texts is long short none = absurd (steps.waits_long name t x n q.0 q.1 xs rows (pos b) (id_value n there) is long none)
  waits_any x n xs rows b false None (Some f) idle there at texts is long short none = absurd (steps.waits_short name t x n f xs rows (pos b) texts.0 is long short none)
  waits_any x n xs rows b false None None idle there at texts is long short none = waits_plain x n xs rows b (has_row n rows) idle there at texts is long short refl none

  parses : (ws : List Text) → Idle ws × Waits ws
  parses [] = (
    λ h rows b s at texts none. record { uses = []; rest = None; whole = refl; allowed = tt; new = tt },
    λ n rows b there at texts none. absurd (steps.waits_end name t n rows (pos b) (id_value n there) none),
  )
  parses (x ∷ xs) =
      let later = parses xs in (
        λ h rows b s at texts none. at_any x xs h rows b (bytes_eq x dashes) later.0 later.1 s at texts refl none,
        λ n rows b there at texts none. waits_any x n xs rows b (bytes_eq x dashes) (long_of x) (short_of x) later.0 there at texts refl refl refl none,
      )

  -- words that the parser takes from the start are those of a line
  pub parsed : (ws : List Text) → AllText ws → total name t (idle_at (held_at []) 1 false) ws ≡ [] → Parsed [] ws
  parsed ws texts none = (parses ws).0 (held_at []) [] false (steps.stands_held name t []) refl texts none
