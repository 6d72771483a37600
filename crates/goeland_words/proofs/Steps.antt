-- What one word does to a parse of a table's command.
use Rattle.std.proofs.Common.{◌≡◌, ◌≢◌, ℕ, Bool, true, false, List, [], ◌∷◌, ◌++◌, refl, ap, sym, ◌∙◌, true≢false, append-nil, Option, Some, None, codes}
use Rattle.std.specs.Prelude.{if◌then◌else◌, ◌&&◌, ◌||◌, fold, slice_get}
use Rattle.std.specs.Str.{bytes_eq, chars}
use Rattle.clap.specs.Words.{Row, Rule, Shape}
use Rattle.clap.specs.Walk as walk
use Rattle.clap.specs.Walk.{Held, Walk, Waiting, has_row, with_values, without, at_row, walked, arg_by_long, arg_by_id, arg_by_index, settled_rows, used}
use Rattle.clap.specs.Lexer.{long_of, short_of}
use Rattle.clap.specs.Kinds.{Kinds, or_else}
use Rattle.clap.specs.Faults.{long_fault, turn_fault, settle_fault, walk_fault, flags_fault}
use Rattle.clap.specs.Values.{reading_of}
use Rattle.clap.specs.declared.builder.value_parser.Reading.{Reading}
use Rattle.clap.specs.declared.builder.value_parser.ValueParser.TheVariants as vp
use Rattle.clap.specs.declared.error.kind.ErrorKind.{ErrorKind}
use Rattle.clap.specs.declared.parser.matches.ValueSource.TheVariants.{CommandLine}
use Rattle.goeland_words.specs.Table.{Text, Table, place}
use Rattle.goeland_words.specs.Line.{Use, spaced, joined, switch, plain}
use Rattle.goeland_words.proofs.Rules.{valued, switched, placed, shape_of_table, index_of_table, short_of_table}

abbrev pub Rows : Type 0
Rows = List Row

abbrev pub read_row : Text → Reading → Text → Row
read_row n how v = record { id = n; values = v ∷ []; count = None; source = Some CommandLine; reading = how }

-- an option's row, a switch's, and that of a use
abbrev pub value_row : Text → Text → Row
value_row n v = read_row n (reading_of vp.String) v

abbrev pub switch_row : Text → Row
switch_row n = read_row n (reading_of vp.Bool) (codes "true")

abbrev pub row_of : Use → Row
row_of (spaced n v) = value_row n v
row_of (joined n v) = value_row n v
row_of (switch n) = switch_row n
row_of (plain w) = value_row place w

-- ---- rows

-- a row of another name stays in front
at_row_cons : (b : Bool) (id : Text) (change : Row → Rows) (missing : Rows) (r : Row) (rs : Rows) → bytes_eq r.id id ≡ b → b ≡ false → at_row id change missing (r ∷ rs) ≡ r ∷ at_row id change missing rs
at_row_cons b id change missing r rs is off = rw (is ∙ off) refl

or-left : (a b : Bool) → (a || b) ≡ false → a ≡ false
or-left true b h = absurd (true≢false h)
or-left false b h = refl

or-right : (a b : Bool) → (a || b) ≡ false → b ≡ false
or-right true b h = absurd (true≢false h)
or-right false b h = h

-- at a name that has no row, the new row joins at the end
pub at_row_fresh : (id : Text) (change : Row → Rows) (missing rows : Rows) → has_row id rows ≡ false → at_row id change missing rows ≡ rows ++ missing
at_row_fresh id change missing [] none = refl
at_row_fresh id change missing (r ∷ rs) none =
    at_row_cons (bytes_eq r.id id) id change missing r rs refl (or-left (bytes_eq r.id id) (has_row id rs) none)
    ∙ ap (λ (l : Rows). r ∷ l) (at_row_fresh id change missing rs (or-right (bytes_eq r.id id) (has_row id rs) none))

use_fresh : (id v : Text) (how : Reading) (rows : Rows) → has_row id rows ≡ false → with_values id how CommandLine (v ∷ []) (without id rows) ≡ rows ++ read_row id how v ∷ []
use_fresh id v how rows fresh =
    ap (λ (l : Rows). with_values id how CommandLine (v ∷ []) l) (at_row_fresh id (λ x. []) [] rows fresh ∙ append-nil rows)
    ∙ at_row_fresh id (walk.more_values CommandLine (v ∷ [])) (read_row id how v ∷ []) rows fresh

-- ---- lists of kinds

first_bad : (x y : Kinds) → x ≢ [] → or_else x y ≢ []
first_bad [] y n = λ e. n refl
first_bad (k ∷ ks) y n = n

some_kind : (k : ErrorKind) (ks : Kinds) → (k ∷ ks) ≢ []
some_kind k ks = λ e. cc

either_empty : (b : Bool) (x : Kinds) → x ≡ [] → (if b then [] else x) ≡ []
either_empty true x is = refl
either_empty false x is = is

either_bad : (b : Bool) (x : Kinds) → x ≢ [] → (if b && false then [] else x) ≢ []
either_bad true x n = n
either_bad false x n = n

both_empty : (b : Bool) (x : Kinds) → x ≡ [] → (if b && false then [] else x) ≡ []
both_empty true x is = is
both_empty false x is = is

-- ---- where a parse stands

abbrev pub held_at : Rows → Held
held_at rows = record { rows = rows; pending = None; skip = 0 }

-- this value of this name is still to be settled
abbrev pub pending_at : Rows → Text → Text → Held
pending_at rows n v = record { rows = rows; pending = Some (n, v ∷ []); skip = 0 }

abbrev pub empty_at : Rows → Text → Held
empty_at rows n = record { rows = rows; pending = Some (n, []); skip = 0 }

abbrev pub walk_at : Held → Waiting → ℕ → Bool → Walk
walk_at h waiting p trailing = record { held = h; waiting = waiting; position = p; is_trailing = trailing; stopped = None }

abbrev pub idle_at : Held → ℕ → Bool → Walk
idle_at h p trailing = walk_at h walk.idle p trailing

-- the option waits for its value
abbrev pub waits_at : Rows → Text → ℕ → Walk
waits_at rows n p = walk_at (empty_at rows n) (walk.option n) p false

-- the position behind the words: the second where the positional word stands
abbrev pub pos : Bool → ℕ
pos false = 1
pos true = 2

-- each short word is text
abbrev pub IsText : Text → Type 0
IsText x = (f : Text) → short_of x ≡ Some f → (b : ℕ) × (bs : Text) × (c : ℕ) × (f ≡ b ∷ bs) × (slice_get (chars (b ∷ bs)) 0 ≡ Some c)

abbrev pub AllText : List Text → Type 0
AllText [] = Unit {0}
AllText (x ∷ xs) = IsText x × AllText xs

module _ (name : Text) (t : Table) where
  abbrev pub shape : Shape
  shape = shape_of_table name t

  -- the faults of these words from here on, the pending one's too
  abbrev pub total : Walk → List Text → Kinds
  total w ws = or_else (walk_fault shape [] w ws) (settle_fault shape.rules shape.args_override_self (fold (walked shape.rules []) w ws).held)

  -- the rows behind these words, with what is pending
  abbrev pub rows_behind : Walk → List Text → Rows
  rows_behind w ws = let h = (fold (walked shape.rules []) w ws).held in settled_rows shape.rules h.pending h.rows

  -- both are as if the parse stood there before those words
  abbrev pub Goes : Walk → List Text → Walk → List Text → Type 0
  Goes w ws w' ws' = (total w ws ≡ total w' ws') × (rows_behind w ws ≡ rows_behind w' ws')

  -- what is pending, if anything, fits, and these are the rows with it
  pub record Stands (h : Held) (all : Rows) : Type 0 where
    pub skip : h.skip ≡ 0
    pub fault : settle_fault shape.rules shape.args_override_self h ≡ []
    pub rows : settled_rows shape.rules h.pending h.rows ≡ all

  pub stands_held : (rows : Rows) → Stands (held_at rows) rows
  stands_held rows = record { skip = refl; fault = refl; rows = refl }

  -- ---- a word, and then the rest

  step_good : (w w' : Walk) (x : Text) (xs : List Text) → turn_fault shape [] w x ≡ [] → walked shape.rules [] w x ≡ w' → Goes w (x ∷ xs) w' xs
  unfolding walk_fault
  step_good w w' x xs fits next =
      let head : total w (x ∷ xs) ≡ total (walked shape.rules [] w x) xs = rw fits refl in
      (head ∙ ap (λ (u : Walk). total u xs) next, ap (λ (u : Walk). rows_behind u xs) next)

  step_bad : (w : Walk) (x : Text) (xs : List Text) → turn_fault shape [] w x ≢ [] → total w (x ∷ xs) ≢ []
  unfolding walk_fault
  step_bad w x xs bad = first_bad _ _ (first_bad _ _ bad)

  pub at_end : (h : Held) (rows : Rows) (p : ℕ) (b : Bool) → Stands h rows → total (idle_at h p b) [] ≡ []
  unfolding walk_fault
  at_end h rows p b s = s.fault

  -- ---- `--`

  dashes_fault : (x : Text) (h : Held) (waiting : Waiting) (p : ℕ) → bytes_eq x (45 ∷ 45 ∷ []) ≡ true → turn_fault shape [] (idle_at h p false) x ≡ []
  dashes_fault x h waiting p is = rw is refl

  dashes_next : (x : Text) (h : Held) (p : ℕ) → bytes_eq x (45 ∷ 45 ∷ []) ≡ true → walked shape.rules [] (idle_at h p false) x ≡ idle_at h p true
  unfolding walked
  dashes_next x h p is = rw is refl

  pub dashes_step : (x : Text) (xs : List Text) (h : Held) (p : ℕ) → bytes_eq x (45 ∷ 45 ∷ []) ≡ true → Goes (idle_at h p false) (x ∷ xs) (idle_at h p true) xs
  dashes_step x xs h p is = step_good _ _ x xs (dashes_fault x h walk.idle p is) (dashes_next x h p is)

  -- ---- `--name=value`

  joined_fits : (x n v : Text) (h : Held) (rows : Rows) (p : ℕ) → Stands h rows → bytes_eq x (45 ∷ 45 ∷ []) ≡ false → long_of x ≡ Some (n, Some v)
      → arg_by_long shape.rules n ≡ Some (valued n) → has_row n rows ≡ false → turn_fault shape [] (idle_at h p false) x ≡ []
  joined_fits x n v h rows p s apart long finds fresh = rw (apart, long, finds, s.fault, s.rows, fresh) refl

  joined_next : (x n v : Text) (h : Held) (rows : Rows) (p : ℕ) → Stands h rows → bytes_eq x (45 ∷ 45 ∷ []) ≡ false → long_of x ≡ Some (n, Some v)
      → arg_by_long shape.rules n ≡ Some (valued n) → has_row n rows ≡ false
      → walked shape.rules [] (idle_at h p false) x ≡ idle_at (held_at (rows ++ value_row n v ∷ [])) p false
  unfolding walked
  joined_next x n v h rows p s apart long finds fresh =
      rw (apart, long, finds, s.rows, s.skip) (ap (λ (l : Rows). idle_at (held_at l) p false) (use_fresh n v (reading_of vp.String) rows fresh))

  pub joined_step : (x n v : Text) (xs : List Text) (h : Held) (rows : Rows) (p : ℕ) → Stands h rows → bytes_eq x (45 ∷ 45 ∷ []) ≡ false → long_of x ≡ Some (n, Some v)
      → arg_by_long shape.rules n ≡ Some (valued n) → has_row n rows ≡ false → Goes (idle_at h p false) (x ∷ xs) (idle_at (held_at (rows ++ value_row n v ∷ [])) p false) xs
  joined_step x n v xs h rows p s apart long finds fresh =
      step_good _ _ x xs (joined_fits x n v h rows p s apart long finds fresh) (joined_next x n v h rows p s apart long finds fresh)

  pub joined_again : (x n v : Text) (xs : List Text) (h : Held) (rows : Rows) (p : ℕ) → Stands h rows → bytes_eq x (45 ∷ 45 ∷ []) ≡ false → long_of x ≡ Some (n, Some v)
      → arg_by_long shape.rules n ≡ Some (valued n) → has_row n rows ≡ true → total (idle_at h p false) (x ∷ xs) ≢ []
  joined_again x n v xs h rows p s apart long finds there = step_bad _ x xs (rw (apart, long, finds, s.fault, s.rows, there) (some_kind _ _))

  -- ---- `--name`, and then the value

  alone_fits : (x n : Text) (h : Held) (rows : Rows) (p : ℕ) → Stands h rows → bytes_eq x (45 ∷ 45 ∷ []) ≡ false → long_of x ≡ Some (n, None)
      → arg_by_long shape.rules n ≡ Some (valued n) → turn_fault shape [] (idle_at h p false) x ≡ []
  alone_fits x n h rows p s apart long finds = rw (apart, long, finds, s.fault) refl

  alone_next : (x n : Text) (h : Held) (rows : Rows) (p : ℕ) → Stands h rows → bytes_eq x (45 ∷ 45 ∷ []) ≡ false → long_of x ≡ Some (n, None)
      → arg_by_long shape.rules n ≡ Some (valued n) → walked shape.rules [] (idle_at h p false) x ≡ waits_at rows n p
  unfolding walked
  alone_next x n h rows p s apart long finds = rw (apart, long, finds, s.rows, s.skip) refl

  pub alone_step : (x n : Text) (xs : List Text) (h : Held) (rows : Rows) (p : ℕ) → Stands h rows → bytes_eq x (45 ∷ 45 ∷ []) ≡ false → long_of x ≡ Some (n, None)
      → arg_by_long shape.rules n ≡ Some (valued n) → Goes (idle_at h p false) (x ∷ xs) (waits_at rows n p) xs
  alone_step x n xs h rows p s apart long finds = step_good _ _ x xs (alone_fits x n h rows p s apart long finds) (alone_next x n h rows p s apart long finds)

  value_fits : (x n : Text) (rows : Rows) (p : ℕ) → bytes_eq x (45 ∷ 45 ∷ []) ≡ false → long_of x ≡ None → short_of x ≡ None → turn_fault shape [] (waits_at rows n p) x ≡ []
  value_fits x n rows p apart long short = rw (apart, long, short) refl

  value_next : (x n : Text) (rows : Rows) (p : ℕ) → bytes_eq x (45 ∷ 45 ∷ []) ≡ false → long_of x ≡ None → short_of x ≡ None → arg_by_id shape.rules n ≡ Some (valued n) → bytes_eq n n ≡ true
      → walked shape.rules [] (waits_at rows n p) x ≡ idle_at (pending_at rows n x) p false
  unfolding walked
  value_next x n rows p apart long short finds same = rw (apart, long, short, finds, same) refl

  pub value_step : (x n : Text) (xs : List Text) (rows : Rows) (p : ℕ) → bytes_eq x (45 ∷ 45 ∷ []) ≡ false → long_of x ≡ None → short_of x ≡ None → arg_by_id shape.rules n ≡ Some (valued n)
      → bytes_eq n n ≡ true → Goes (waits_at rows n p) (x ∷ xs) (idle_at (pending_at rows n x) p false) xs
  value_step x n xs rows p apart long short finds same = step_good _ _ x xs (value_fits x n rows p apart long short) (value_next x n rows p apart long short finds same)

  pub value_stands : (n v : Text) (rows : Rows) → arg_by_id shape.rules n ≡ Some (valued n) → has_row n rows ≡ false → Stands (pending_at rows n v) (rows ++ value_row n v ∷ [])
  value_stands n v rows finds fresh = record { skip = refl; fault = rw (finds, fresh) refl; rows = rw finds (use_fresh n v (reading_of vp.String) rows fresh) }

  -- ---- a pending use that does not fit is refused sooner or later

  abbrev pub Bad : Held → Type 0
  Bad h = settle_fault shape.rules shape.args_override_self h ≢ []

  pub twice_bad : (n v : Text) (rows : Rows) → arg_by_id shape.rules n ≡ Some (valued n) → has_row n rows ≡ true → Bad (pending_at rows n v)
  twice_bad n v rows finds there = rw (finds, there) (some_kind _ _)

  pub empty_bad : (n : Text) (rows : Rows) → arg_by_id shape.rules n ≡ Some (valued n) → Bad (empty_at rows n)
  empty_bad n rows finds = rw finds (some_kind _ _)

  bad_long : (c : List Rule) (again : Bool) (a : Rule) (v : Option Text) (h : Held) → settle_fault c again h ≢ [] → long_fault c again (Some a) v h ≢ []
  bad_long c again a v h bad = go (walk.takes_values a) v refl
    where
      go : (b : Bool) (w : Option Text) → walk.takes_values a ≡ b → long_fault c again (Some a) w h ≢ []
      go true (Some u) e = rw e (first_bad _ _ bad)
      go true None e = rw e bad
      go false (Some u) e = rw e (λ x. cc)
      go false None e = rw e (first_bad _ _ bad)

  first_place : arg_by_index shape.rules 1 ≡ Some placed
  first_place = index_of_table t 1

  no_second_place : arg_by_index shape.rules 2 ≡ None
  no_second_place = index_of_table t 2

  bad_behind : (x : Text) (h : Held) (waiting : Waiting) (b : Bool) → Bad h → turn_fault shape [] (walk_at h waiting (pos b) true) x ≢ []
  bad_behind x h waiting false bad = rw first_place (either_bad _ _ bad)
  bad_behind x h waiting true bad = rw no_second_place (some_kind _ _)

  pub doomed_behind : (ws : List Text) (h : Held) (waiting : Waiting) (b : Bool) → Bad h → total (walk_at h waiting (pos b) true) ws ≢ []
  unfolding walk_fault
  doomed_behind [] h waiting b bad = bad
  doomed_behind (x ∷ xs) h waiting b bad = step_bad (walk_at h waiting (pos b) true) x xs (bad_behind x h waiting b bad)

  bad_plain : (x : Text) (h : Held) (b : Bool) → bytes_eq x (45 ∷ 45 ∷ []) ≡ false → long_of x ≡ None → short_of x ≡ None → Bad h → turn_fault shape [] (idle_at h (pos b) false) x ≢ []
  bad_plain x h false apart long short bad = rw (apart, long, short, first_place) (either_bad _ _ bad)
  bad_plain x h true apart long short bad = rw (apart, long, short, no_second_place) (some_kind _ _)

  bad_name : (x n : Text) (v : Option Text) (h : Held) (waiting : Waiting) (p : ℕ) (r : Option Rule) → arg_by_long shape.rules n ≡ r → walk.subcommand_met [] waiting x ≡ None → bytes_eq x (45 ∷ 45 ∷ []) ≡ false → long_of x ≡ Some (n, v)
      → Bad h → turn_fault shape [] (walk_at h waiting p false) x ≢ []
  bad_name x n v h waiting p None finds none apart long bad = rw (none, apart, long, finds) (some_kind _ _)
  bad_name x n v h waiting p (Some a) finds none apart long bad = rw (none, apart, long, finds) (first_bad _ _ (bad_long shape.rules shape.args_override_self a v h bad))

  -- a short word is refused, where it is text
  bad_short : (x : Text) (h : Held) (waiting : Waiting) (p : ℕ) (b : ℕ) (bs : Text) (c : ℕ) → h.skip ≡ 0 → walk.subcommand_met [] waiting x ≡ None → bytes_eq x (45 ∷ 45 ∷ []) ≡ false → long_of x ≡ None → short_of x ≡ Some (b ∷ bs)
      → slice_get (chars (b ∷ bs)) 0 ≡ Some c → turn_fault shape [] (walk_at h waiting p false) x ≢ []
  unfolding flags_fault
  bad_short x h waiting p b bs c skip none apart long short at = rw (none, apart, long, short, skip, at, short_of_table t c) (some_kind _ _)

  bad_text : (x f : Text) (h : Held) (waiting : Waiting) (p : ℕ) → IsText x → h.skip ≡ 0 → walk.subcommand_met [] waiting x ≡ None → bytes_eq x (45 ∷ 45 ∷ []) ≡ false → long_of x ≡ None → short_of x ≡ Some f
      → turn_fault shape [] (walk_at h waiting p false) x ≢ []
  bad_text x f h waiting p text skip none apart long short =
      let u = text f short in bad_short x h waiting p u.0 u.1 u.2 skip none apart long (short ∙ ap (λ (l : Text). Some l) u.3) u.4

  pub short_refused : (x f : Text) (xs : List Text) (h : Held) (p : ℕ) → IsText x → h.skip ≡ 0 → bytes_eq x (45 ∷ 45 ∷ []) ≡ false → long_of x ≡ None → short_of x ≡ Some f → total (idle_at h p false) (x ∷ xs) ≢ []
  short_refused x f xs h p text skip apart long short = step_bad (idle_at h p false) x xs (bad_text x f h walk.idle p text skip refl apart long short)

  bad_word : (x : Text) (h : Held) (b : Bool) → IsText x → h.skip ≡ 0 → bytes_eq x (45 ∷ 45 ∷ []) ≡ false → Bad h → turn_fault shape [] (idle_at h (pos b) false) x ≢ []
  bad_word x h b text skip apart bad = by_long (long_of x) refl
    where
      by_short : (s : Option Text) → short_of x ≡ s → long_of x ≡ None → turn_fault shape [] (idle_at h (pos b) false) x ≢ []
      by_short None e long = bad_plain x h b apart long e bad
      by_short (Some f) e long = bad_text x f h walk.idle (pos b) text skip refl apart long e

      by_long : (l : Option (Text × Option Text)) → long_of x ≡ l → turn_fault shape [] (idle_at h (pos b) false) x ≢ []
      by_long None e = by_short (short_of x) refl e
      by_long (Some q) e = bad_name x q.0 q.1 h walk.idle (pos b) (arg_by_long shape.rules q.0) refl refl apart e bad

  doomed_step : (x : Text) (xs : List Text) (h : Held) (b : Bool) (d : Bool) → bytes_eq x (45 ∷ 45 ∷ []) ≡ d → IsText x → h.skip ≡ 0 → Bad h → total (idle_at h (pos b) false) (x ∷ xs) ≢ []
  doomed_step x xs h b true e text skip bad = λ none. doomed_behind xs h walk.idle b bad (sym (dashes_step x xs h (pos b) e).0 ∙ none)
  doomed_step x xs h b false e text skip bad = step_bad (idle_at h (pos b) false) x xs (bad_word x h b text skip e bad)

  -- a pending use that does not fit is refused, whatever follows
  pub doomed : (ws : List Text) (h : Held) (b : Bool) → AllText ws → h.skip ≡ 0 → Bad h → total (idle_at h (pos b) false) ws ≢ []
  unfolding walk_fault
  doomed [] h b texts skip bad = bad
  doomed (x ∷ xs) h b texts skip bad = doomed_step x xs h b (bytes_eq x (45 ∷ 45 ∷ [])) refl texts.0 skip bad

  -- ---- an option that waits, and gets no value

  pub waits_end : (n : Text) (rows : Rows) (p : ℕ) → arg_by_id shape.rules n ≡ Some (valued n) → total (waits_at rows n p) [] ≢ []
  unfolding walk_fault
  waits_end n rows p finds = empty_bad n rows finds

  waits_dashes_fits : (x n : Text) (rows : Rows) (p : ℕ) → bytes_eq x (45 ∷ 45 ∷ []) ≡ true → turn_fault shape [] (waits_at rows n p) x ≡ []
  waits_dashes_fits x n rows p is = rw is refl

  waits_dashes_next : (x n : Text) (rows : Rows) (p : ℕ) → bytes_eq x (45 ∷ 45 ∷ []) ≡ true → walked shape.rules [] (waits_at rows n p) x ≡ walk_at (empty_at rows n) (walk.option n) p true
  unfolding walked
  waits_dashes_next x n rows p is = rw is refl

  pub waits_dashes : (x n : Text) (xs : List Text) (rows : Rows) (b : Bool) → arg_by_id shape.rules n ≡ Some (valued n) → bytes_eq x (45 ∷ 45 ∷ []) ≡ true → total (waits_at rows n (pos b)) (x ∷ xs) ≢ []
  waits_dashes x n xs rows b finds is =
      λ none. doomed_behind xs (empty_at rows n) (walk.option n) b (empty_bad n rows finds)
      (sym (step_good (waits_at rows n (pos b)) (walk_at (empty_at rows n) (walk.option n) (pos b) true) x xs (waits_dashes_fits x n rows (pos b) is) (waits_dashes_next x n rows (pos b) is)).0 ∙ none)

  pub waits_long : (x n m : Text) (v : Option Text) (xs : List Text) (rows : Rows) (p : ℕ) → arg_by_id shape.rules n ≡ Some (valued n) → bytes_eq x (45 ∷ 45 ∷ []) ≡ false → long_of x ≡ Some (m, v)
      → total (waits_at rows n p) (x ∷ xs) ≢ []
  waits_long x n m v xs rows p finds apart long =
      step_bad (waits_at rows n p) x xs (bad_name x m v (empty_at rows n) (walk.option n) p (arg_by_long shape.rules m) refl refl apart long (empty_bad n rows finds))

  pub waits_short : (x n f : Text) (xs : List Text) (rows : Rows) (p : ℕ) → IsText x → bytes_eq x (45 ∷ 45 ∷ []) ≡ false → long_of x ≡ None → short_of x ≡ Some f → total (waits_at rows n p) (x ∷ xs) ≢ []
  waits_short x n f xs rows p text apart long short = step_bad (waits_at rows n p) x xs (bad_text x f (empty_at rows n) (walk.option n) p text refl refl apart long short)

  -- ---- a switch

  switch_fits : (x n : Text) (h : Held) (rows : Rows) (p : ℕ) → Stands h rows → bytes_eq x (45 ∷ 45 ∷ []) ≡ false → long_of x ≡ Some (n, None) → arg_by_long shape.rules n ≡ Some (switched n)
      → has_row n rows ≡ false → turn_fault shape [] (idle_at h p false) x ≡ []
  switch_fits x n h rows p s apart long finds fresh = rw (apart, long, finds, s.fault, s.rows, fresh) refl

  switch_next : (x n : Text) (h : Held) (rows : Rows) (p : ℕ) → Stands h rows → bytes_eq x (45 ∷ 45 ∷ []) ≡ false → long_of x ≡ Some (n, None) → arg_by_long shape.rules n ≡ Some (switched n)
      → has_row n rows ≡ false → walked shape.rules [] (idle_at h p false) x ≡ idle_at (held_at (rows ++ switch_row n ∷ [])) p false
  unfolding walked
  switch_next x n h rows p s apart long finds fresh =
      rw (apart, long, finds, s.rows, s.skip) (ap (λ (l : Rows). idle_at (held_at l) p false) (use_fresh n (codes "true") (reading_of vp.Bool) rows fresh))

  pub switch_step : (x n : Text) (xs : List Text) (h : Held) (rows : Rows) (p : ℕ) → Stands h rows → bytes_eq x (45 ∷ 45 ∷ []) ≡ false → long_of x ≡ Some (n, None) → arg_by_long shape.rules n ≡ Some (switched n)
      → has_row n rows ≡ false → Goes (idle_at h p false) (x ∷ xs) (idle_at (held_at (rows ++ switch_row n ∷ [])) p false) xs
  switch_step x n xs h rows p s apart long finds fresh = step_good _ _ x xs (switch_fits x n h rows p s apart long finds fresh) (switch_next x n h rows p s apart long finds fresh)

  pub switch_again : (x n : Text) (xs : List Text) (h : Held) (rows : Rows) (p : ℕ) → Stands h rows → bytes_eq x (45 ∷ 45 ∷ []) ≡ false → long_of x ≡ Some (n, None) → arg_by_long shape.rules n ≡ Some (switched n)
      → has_row n rows ≡ true → total (idle_at h p false) (x ∷ xs) ≢ []
  switch_again x n xs h rows p s apart long finds there = step_bad (idle_at h p false) x xs (rw (apart, long, finds, s.fault, s.rows, there) (some_kind _ _))

  pub switch_valued : (x n v : Text) (xs : List Text) (h : Held) (p : ℕ) → bytes_eq x (45 ∷ 45 ∷ []) ≡ false → long_of x ≡ Some (n, Some v) → arg_by_long shape.rules n ≡ Some (switched n)
      → total (idle_at h p false) (x ∷ xs) ≢ []
  switch_valued x n v xs h p apart long finds = step_bad (idle_at h p false) x xs (rw (apart, long, finds) (some_kind _ _))

  -- ---- another name

  pub unknown : (x n : Text) (v : Option Text) (xs : List Text) (h : Held) (p : ℕ) → bytes_eq x (45 ∷ 45 ∷ []) ≡ false → long_of x ≡ Some (n, v) → arg_by_long shape.rules n ≡ None
      → total (idle_at h p false) (x ∷ xs) ≢ []
  unknown x n v xs h p apart long none = step_bad (idle_at h p false) x xs (rw (apart, long, none) (some_kind _ _))

  -- ---- the positional word

  place_fits : (x : Text) (h : Held) (rows : Rows) → Stands h rows → bytes_eq x (45 ∷ 45 ∷ []) ≡ false → long_of x ≡ None → short_of x ≡ None → turn_fault shape [] (idle_at h 1 false) x ≡ []
  place_fits x h rows s apart long short = rw (apart, long, short, first_place) (both_empty _ _ s.fault)

  and_false : (b : Bool) (x y : Held) → (if b && false then x else y) ≡ y
  and_false true x y = refl
  and_false false x y = refl

  place_next : (x : Text) (h : Held) (rows : Rows) → Stands h rows → bytes_eq x (45 ∷ 45 ∷ []) ≡ false → long_of x ≡ None → short_of x ≡ None
      → walked shape.rules [] (idle_at h 1 false) x ≡ idle_at (pending_at rows place x) 2 false
  unfolding walked
  place_next x h rows s apart long short = rw (apart, long, short, first_place, and_false, s.rows, s.skip) refl

  pub place_step : (x : Text) (xs : List Text) (h : Held) (rows : Rows) → Stands h rows → bytes_eq x (45 ∷ 45 ∷ []) ≡ false → long_of x ≡ None → short_of x ≡ None
      → Goes (idle_at h 1 false) (x ∷ xs) (idle_at (pending_at rows place x) 2 false) xs
  place_step x xs h rows s apart long short = step_good (idle_at h 1 false) (idle_at (pending_at rows place x) 2 false) x xs (place_fits x h rows s apart long short) (place_next x h rows s apart long short)

  pub place_again : (x : Text) (xs : List Text) (h : Held) → bytes_eq x (45 ∷ 45 ∷ []) ≡ false → long_of x ≡ None → short_of x ≡ None → total (idle_at h 2 false) (x ∷ xs) ≢ []
  place_again x xs h apart long short = step_bad (idle_at h 2 false) x xs (rw (apart, long, short, no_second_place) (some_kind _ _))

  behind_fits : (x : Text) (h : Held) (rows : Rows) → Stands h rows → turn_fault shape [] (idle_at h 1 true) x ≡ []
  behind_fits x h rows s = rw first_place (both_empty _ _ s.fault)

  behind_next : (x : Text) (h : Held) (rows : Rows) → Stands h rows → walked shape.rules [] (idle_at h 1 true) x ≡ idle_at (pending_at rows place x) 2 true
  unfolding walked
  behind_next x h rows s = rw (first_place, and_false, s.rows, s.skip) refl

  pub behind_step : (x : Text) (xs : List Text) (h : Held) (rows : Rows) → Stands h rows → Goes (idle_at h 1 true) (x ∷ xs) (idle_at (pending_at rows place x) 2 true) xs
  behind_step x xs h rows s = step_good (idle_at h 1 true) (idle_at (pending_at rows place x) 2 true) x xs (behind_fits x h rows s) (behind_next x h rows s)

  pub behind_again : (x : Text) (xs : List Text) (h : Held) → total (idle_at h 2 true) (x ∷ xs) ≢ []
  behind_again x xs h = step_bad (idle_at h 2 true) x xs (rw no_second_place (some_kind _ _))

  pub place_stands : (v : Text) (rows : Rows) → arg_by_id shape.rules place ≡ Some placed → has_row place rows ≡ false → Stands (pending_at rows place v) (rows ++ value_row place v ∷ [])
  place_stands v rows finds fresh = record { skip = refl; fault = rw (finds, fresh) refl; rows = rw finds (use_fresh place v (reading_of vp.String) rows fresh) }
