-- Which options a command has.
use Rattle.std.specs.Prelude.{ℕ, Bool, List, [], ◌∷◌, Option, option_map, codes}
use Rattle.std.specs.Borrow.{Bor}
use Rattle.std.specs.List.{list_any}
use Rattle.std.specs.Str.{bytes_eq}

abbrev pub Text : Type 0
Text = List ℕ

-- the text that the program has, if it has one
abbrev pub text_in : Option (Bor Text) → Option Text
text_in = option_map (λ s. s.now)

-- the names of the options that have a value, and of those that have none
pub record Table : Type 0 where
  pub values : List Text
  pub switches : List Text

abbrev pub is_among : Text → List Text → Bool
is_among name names = list_any (λ n. bytes_eq n name) names

-- the options of `prove`
unfoldable pub prove_table : Table
prove_table = record {
  values =
      codes "depth" ∷ codes "workers" ∷ codes "tries"
      ∷ codes "proof-bytes" ∷ codes "rewrite" ∷ codes "schedule" ∷ [];
  switches = codes "history" ∷ [];
}

-- and of `bench`
unfoldable pub bench_table : Table
bench_table = record { values = codes "workers" ∷ []; switches = [] }

-- what the positional word is called; no option has that name
abbrev pub place : Text
place = codes "WORD"
