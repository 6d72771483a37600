-- What the settings of a line ask for. No value begins with a hyphen: none of the forms does.
use Rattle.std.specs.Prelude.{◌≡◌, ◌≢◌, ℕ, Bool, true, false, ◌&&◌, List, [], ◌∷◌, ◌++◌, codes}
use Rattle.std.specs.Prelude.{Option, Some, None, MatchOption, is_some}
use Rattle.goeland_words.specs.Table.{Text, place}
use Rattle.goeland_words.specs.Line.{Setting, setting_value}
use Rattle.goeland_words.specs.Numbers.{IsNumberIn, IsNumberOr}
use Rattle.goeland_words.specs.declared.limits.TheConstants.{MAX_DEPTH, DEFAULT_DEPTH, MAX_WORKERS, DEFAULT_WORKERS}
use Rattle.goeland_words.specs.declared.limits.TheConstants.{MAX_TRIES, DEFAULT_PROOF_BYTES}
use Rattle.gs3_text.specs.declared.limit.TheConstants.{MAX_PROOF_BYTES}
use Rattle.goeland_words.specs.declared.limits.TheConstants.{MAX_SEED, MAX_TURNS, MAX_PROBLEM}
use Rattle.goeland_words.specs.declared.prove.Schedule.{Schedule}
use Rattle.goeland_words.specs.declared.prove.ProveWords.{ProveWords}

-- the name of the problem, `-` where none is setting_value
abbrev pub IsFile : Option Text → Text → Type 0
IsFile None name = name ≡ codes "-"
IsFile (Some word) name = (word ≢ []) × (name ≡ word)

-- `none`, or a number; `none` where it is left out
abbrev pub IsTries : Option Text → Option ℕ → Type 0
IsTries None tries = tries ≡ None
IsTries (Some text) tries = MatchOption tries (text ≡ codes "none") (λ n. IsNumberIn 1 MAX_TRIES text n)

abbrev pub switch_word : Bool → Text
switch_word true = codes "on"
switch_word false = codes "off"

-- `on` or `off`; `on` where it is left out
abbrev pub IsRewrite : Option Text → Bool → Type 0
IsRewrite None rewrite = rewrite ≡ true
IsRewrite (Some text) rewrite = text ≡ switch_word rewrite

-- two numbers with a comma between them
pub record IsPair (text : Text) (s : Schedule) : Type 0 where
  pub seed : Text
  pub turns : Text
  pub parts : text ≡ seed ++ 44 ∷ turns
  pub is_seed : IsNumberIn 0 MAX_SEED seed s.seed
  pub are_turns : IsNumberIn 0 MAX_TURNS turns s.turns

abbrev pub IsSchedule : Option Text → Option Schedule → Type 0
IsSchedule None schedule = schedule ≡ None
IsSchedule (Some text) schedule = MatchOption schedule ⊥ (λ s. IsPair text s)

-- The values of each option of `prove`, and what stands for it where it is left out. The number of workers and a
-- schedule exclude each other.
pub record IsProve (s : List Setting) (p : ProveWords) : Type 0 where
  pub file : IsFile (setting_value place s) p.file
  pub depth : IsNumberOr DEFAULT_DEPTH 1 MAX_DEPTH (setting_value (codes "depth") s) p.depth
  pub workers : IsNumberOr DEFAULT_WORKERS 1 MAX_WORKERS (setting_value (codes "workers") s) p.workers
  pub tries : IsTries (setting_value (codes "tries") s) p.tries
  pub proof_bytes :
      IsNumberOr DEFAULT_PROOF_BYTES 1 MAX_PROOF_BYTES (setting_value (codes "proof-bytes") s) p.proof_bytes
  pub rewrite : IsRewrite (setting_value (codes "rewrite") s) p.rewrite
  pub history : p.history ≡ is_some (setting_value (codes "history") s)
  pub schedule : IsSchedule (setting_value (codes "schedule") s) p.schedule
  pub apart : (is_some (setting_value (codes "workers") s) && is_some (setting_value (codes "schedule") s)) ≡ false

-- the number of a problem, which must be setting_value
abbrev pub IsProblem : Option Text → ℕ → Type 0
IsProblem None n = ⊥
IsProblem (Some text) n = IsNumberIn 1 MAX_PROBLEM text n

pub record IsBench (s : List Setting) (n workers : ℕ) : Type 0 where
  pub problem : IsProblem (setting_value place s) n
  pub number : IsNumberOr DEFAULT_WORKERS 1 MAX_WORKERS (setting_value (codes "workers") s) workers
