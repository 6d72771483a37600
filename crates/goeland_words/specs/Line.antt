-- How the words of a command are written.
use Rattle.std.specs.Prelude.{◌≡◌, ◌==◌, Bool, true, false, not, List, [], ◌∷◌, ◌++◌, map}
use Rattle.std.specs.Prelude.{Option, Some, None, if◌then◌else◌, codes}
use Rattle.std.specs.Str.{bytes_eq}
use Rattle.goeland_words.specs.Table.{Text, Table, is_among, place}

-- an option with its value as the next word, `--name value`, or in one word, `--name=value`; an option that has no
-- value, `--name`; a positional word
pub data Use : Type 0 where
  spaced : Text → Text → Use
  joined : Text → Text → Use
  switch : Text → Use
  plain : Text → Use

abbrev pub dashes : Text
dashes = 45 ∷ 45 ∷ []

abbrev pub words_of_use : Use → List Text
words_of_use (spaced name value) = (dashes ++ name) ∷ value ∷ []
words_of_use (joined name value) = (dashes ++ name ++ 61 ∷ value) ∷ []
words_of_use (switch name) = (dashes ++ name) ∷ []
words_of_use (plain word) = word ∷ []

abbrev pub words_of_uses : List Use → List Text
words_of_uses [] = []
words_of_uses (u ∷ us) = words_of_use u ++ words_of_uses us

-- the word begins with no hyphen, or is a hyphen alone
abbrev pub is_plain : Text → Bool
is_plain [] = true
is_plain (c ∷ []) = true
is_plain (c ∷ d ∷ ds) = not (c == 45)

-- the use is one of the table's
abbrev pub IsAllowed : Table → Use → Type 0
IsAllowed t (spaced name value) = (is_among name t.values ≡ true) × (is_plain value ≡ true)
IsAllowed t (joined name value) = is_among name t.values ≡ true
IsAllowed t (switch name) = is_among name t.switches ≡ true
IsAllowed t (plain word) = is_plain word ≡ true

abbrev pub AreAllowed : Table → List Use → Type 0
AreAllowed t [] = Unit {0}
AreAllowed t (u ∷ us) = IsAllowed t u × AreAllowed t us

-- options and positional words in any order, and what stands behind `--`, if `--` is there
pub record Line : Type 0 where
  pub uses : List Use
  pub rest : Option (List Text)

abbrev pub ending : Option (List Text) → List Text
ending None = []
ending (Some ws) = dashes ∷ ws

abbrev pub words_of : Line → List Text
words_of l = words_of_uses l.uses ++ ending l.rest

-- what stands behind `--` is positional
abbrev pub behind : Option (List Text) → List Use
behind None = []
behind (Some ws) = map plain ws

-- A name and what it is given
abbrev pub Setting : Type 0
Setting = Text × Text

abbrev pub setting_of : Use → Setting
setting_of (spaced name value) = (name, value)
setting_of (joined name value) = (name, value)
setting_of (switch name) = (name, codes "true")
setting_of (plain word) = (place, word)

abbrev pub settings_of : Line → List Setting
settings_of l = map setting_of (l.uses ++ behind l.rest)

-- none of the names was given before, and none is given twice
abbrev pub AreNew : List Text → List Setting → Type 0
AreNew before [] = Unit {0}
AreNew before (s ∷ ss) = (is_among s.0 before ≡ false) × AreNew (before ++ s.0 ∷ []) ss

-- The words are those of the line, each option of which is one of the table's and stands at most once, beside at most
-- one positional word.
pub record Writes (t : Table) (l : Line) (words : List Text) : Type 0 where
  pub whole : words ≡ words_of l
  pub allowed : AreAllowed t l.uses
  pub once : AreNew [] (settings_of l)

-- No line of the table has these words.
abbrev pub IsNoLine : Table → List Text → Type 0
IsNoLine t words = (l : Line) → Writes t l words → ⊥

-- what the name is given, if anything
abbrev pub setting_value : Text → List Setting → Option Text
setting_value name [] = None
setting_value name (s ∷ ss) = if bytes_eq s.0 name then Some s.1 else setting_value name ss
