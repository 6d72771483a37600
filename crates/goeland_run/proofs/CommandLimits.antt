-- The limits that the words of a command set.
use Rattle.std.proofs.Common.{ℕ, ◌≤◌, ◌<◌, ◌-◌, ◌^◌, List, Option, None, Some, codes, sym, subst, arith}
use Rattle.std.specs.Prelude.{IfSome}
use Rattle.goeland_words.specs.Table.{Text, place}
use Rattle.goeland_words.specs.Line.{settings_of, setting_value}
use Rattle.goeland_words.specs.Numbers.{IsNumberOr}
use Rattle.goeland_words.specs.Values.{IsTries, IsProblem}
use Rattle.goeland_words.specs.Words.{IsCommand}
use Rattle.goeland_words.specs.declared.words.Command.TheVariants.{Prove, Bench}
use Rattle.goeland_words.specs.declared.prove.ProveWords.{ProveWords}
use Rattle.deepening.specs.RoundEnds.{AreLimits}
use Rattle.goeland_run.specs.Searched.{limits_of}

number_or_within : (default least most : ℕ) (o : Option Text) (n : ℕ) → least ≤ default → default ≤ most → IsNumberOr default least most o n → (least ≤ n) × (n ≤ most)
number_or_within default least most None n low high is = (omega (arith, low, is), omega (arith, high, is))
number_or_within default least most (Some text) n low high is = (is.1, is.2)

tries_within : (o : Option Text) (tries : Option ℕ) → IsTries o tries → IfSome tries (λ most. most < 2 ^ 64 - 1)
tries_within None tries is = subst (λ (t : Option ℕ). IfSome t (λ most. most < 2 ^ 64 - 1)) (sym is) tt
tries_within (Some text) None is = tt
tries_within (Some text) (Some most) is = omega (arith, is.2)

-- a command sets limits of a search
pub asked_limits : (words : List Text) (p : ProveWords) → IsCommand words (Prove p) → AreLimits (limits_of p)
asked_limits words p asks =
    let s = settings_of asks.line in
    record {
      depth = (number_or_within 8 1 64 (setting_value (codes "depth") s) p.depth (omega arith) (omega arith) asks.says.depth).0;
      tries = tries_within (setting_value (codes "tries") s) p.tries asks.says.tries;
      bytes = (number_or_within 67108864 1 134217728 (setting_value (codes "proof-bytes") s) p.proof_bytes (omega arith) (omega arith) asks.says.proof_bytes).1;
    }

problem_within : (o : Option Text) (n : ℕ) → IsProblem o n → (1 ≤ n) × (n ≤ 100)
problem_within None n is = absurd is
problem_within (Some text) n is = (is.1, is.2)

-- a problem of the bench has a number from 1 to 100
pub asked_problem : (words : List Text) (n workers : ℕ) → IsCommand words (Bench n workers) → (1 ≤ n) × (n ≤ 100)
asked_problem words n workers asks = problem_within (setting_value place (settings_of asks.line)) n asks.says.problem
