-- What the parser of command lines found in the words of a table's line.
use Rattle.std.specs.Prelude.{◌≡◌, ◌≢◌, ℕ, true, false, List, [], Some, is_some, if◌then◌else◌, codes}
use Rattle.clap.specs.Matches.{found_of, first_value}
use Rattle.clap.specs.Words.{App, fault_of, is_simple_and_free, HasMatchesOf}
use Rattle.clap.specs.declared.parser.matches.ArgMatches.{ArgMatches}
use Rattle.goeland_words.specs.Table.{Text, Table, is_among, place, text_in, prove_table, bench_table}
use Rattle.goeland_words.specs.Line.{Line, Writes, Setting, settings_of, setting_value}
use Rattle.goeland_words.specs.Values.{IsProve, IsBench}
use Rattle.goeland_words.specs.declared.prove.ProveWords.{ProveWords}
use Rattle.goeland_words.specs.declared.command.ProveTexts.{ProveTexts}
use Rattle.goeland_words.specs.declared.command.BenchTexts.{BenchTexts}

-- A simple command takes the words, and this is found in them.
abbrev pub Takes : App → List Text → ArgMatches → Type 0
Takes app words m = is_simple_and_free app ≡ true → (fault_of app words ≡ []) × HasMatchesOf app words m

-- It does not take them.
abbrev pub Refuses : App → List Text → Type 0
Refuses app words = is_simple_and_free app ≡ true → fault_of app words ≢ []

-- What is found is what a line of these words gives: each value, and of each switch whether it is given.
pub record HoldsLine (t : Table) (words : List Text) (m : ArgMatches) : Type 0 where
  pub line : Line
  pub writes : Writes t line words
  pub values : (n : Text) → is_among n t.switches ≡ false
      → first_value (found_of m) n ≡ setting_value n (settings_of line)
  pub switches : (n : Text) → is_among n t.switches ≡ true
      → first_value (found_of m) n
      ≡ Some (if is_some (setting_value n (settings_of line)) then codes "true" else codes "false")

-- the texts are those of the settings
pub record HasProveTexts (s : List Setting) (t : ProveTexts) : Type 0 where
  pub file : text_in t.file ≡ setting_value place s
  pub depth : text_in t.depth ≡ setting_value (codes "depth") s
  pub workers : text_in t.workers ≡ setting_value (codes "workers") s
  pub tries : text_in t.tries ≡ setting_value (codes "tries") s
  pub proof_bytes : text_in t.proof_bytes ≡ setting_value (codes "proof-bytes") s
  pub rewrite : text_in t.rewrite ≡ setting_value (codes "rewrite") s
  pub schedule : text_in t.schedule ≡ setting_value (codes "schedule") s
  pub history : t.history ≡ is_some (setting_value (codes "history") s)

pub record HasBenchTexts (s : List Setting) (t : BenchTexts) : Type 0 where
  pub problem : text_in t.problem ≡ setting_value place s
  pub workers : text_in t.workers ≡ setting_value (codes "workers") s

-- and the words are those of a line with these settings
pub record IsProveLine (words : List Text) (t : ProveTexts) : Type 0 where
  pub line : Line
  pub writes : Writes prove_table line words
  pub texts : HasProveTexts (settings_of line) t

pub record IsBenchLine (words : List Text) (t : BenchTexts) : Type 0 where
  pub line : Line
  pub writes : Writes bench_table line words
  pub texts : HasBenchTexts (settings_of line) t

-- The texts ask for this, whatever line they are of.
abbrev pub AskFor : ProveTexts → ProveWords → Type 0
AskFor texts p = (s : List Setting) → HasProveTexts s texts → IsProve s p

-- They ask for nothing.
abbrev pub AskForNothing : ProveTexts → Type 0
AskForNothing texts = (s : List Setting) → HasProveTexts s texts → (p : ProveWords) → IsProve s p → ⊥

abbrev pub AskForProblem : BenchTexts → ℕ → ℕ → Type 0
AskForProblem texts n workers = (s : List Setting) → HasBenchTexts s texts → IsBench s n workers

abbrev pub AskForNoProblem : BenchTexts → Type 0
AskForNoProblem texts = (s : List Setting) → HasBenchTexts s texts → (n workers : ℕ) → IsBench s n workers → ⊥
