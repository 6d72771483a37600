-- The command of the words.
use Rattle.std.specs.Prelude.{◌≡◌, List, ◌∷◌, codes}
use Rattle.goeland_words.specs.Table.{Text, Table, prove_table, bench_table}
use Rattle.goeland_words.specs.Line.{Line, Writes, Setting, settings_of}
use Rattle.goeland_words.specs.Values.{IsProve, IsBench}
use Rattle.goeland_words.specs.declared.words.Command.{Command}
use Rattle.goeland_words.specs.declared.words.Command.TheVariants.{Prove, Bench}

-- The words are the verb and then a line of the table whose settings ask for it.
pub record Asks (verb : Text) (t : Table) (Says : List Setting → Type 0) (words : List Text) : Type 0 where
  pub line : Line
  pub more : List Text
  pub whole : words ≡ verb ∷ more
  pub writes : Writes t line more
  pub says : Says (settings_of line)

abbrev pub IsCommand : List Text → Command → Type 0
IsCommand words (Prove p) = Asks (codes "prove") prove_table (λ s. IsProve s p) words
IsCommand words (Bench n workers) = Asks (codes "bench") bench_table (λ s. IsBench s n workers) words

-- The words ask for nothing.
abbrev pub IsNoCommand : List Text → Type 0
IsNoCommand words = (c : Command) → IsCommand words c → ⊥
