-- What the definitions say of some words.
use Rattle.std.proofs.Common.{◌≡◌, ℕ, true, [], ◌∷◌, refl, Some, None, codes, arith, true≢false}
use Rattle.goeland_words.specs.Table.{Text, prove_table}
use Rattle.goeland_words.specs.Line.{Line, spaced, joined, switch, plain, words_of, Writes}
use Rattle.goeland_words.specs.Numbers.{IsNumber}
use Rattle.goeland_words.specs.Words.{IsCommand}
use Rattle.goeland_words.specs.declared.prove.ProveWords.{ProveWords}
use Rattle.goeland_words.specs.declared.words.Command.TheVariants.{Prove}

-- `prove --depth=12 --tries none --history -- -x`
line : Line
line = record { uses = joined (codes "depth") (codes "12") ∷ spaced (codes "tries") (codes "none") ∷ switch (codes "history") ∷ []; rest = Some (codes "-x" ∷ []) }

spelled : words_of line ≡ codes "--depth=12" ∷ codes "--tries" ∷ codes "none" ∷ codes "--history" ∷ codes "--" ∷ codes "-x" ∷ []
unfolding line
spelled = refl

written : Writes prove_table line (words_of line)
unfolding prove_table line
written = record { whole = refl; allowed = (refl, ((refl, refl), (refl, tt))); once = (refl, (refl, (refl, (refl, tt)))) }

twelve : IsNumber (codes "12") 12
twelve = ((omega arith, (omega arith, (omega arith, tt))), refl, refl)

no_zero_first : (n : ℕ) → IsNumber (codes "08") n → ⊥
no_zero_first n is = true≢false is.1

wanted : ProveWords
wanted = record { file = codes "-x"; depth = 12; workers = 4; tries = None; proof_bytes = 67108864; rewrite = true; history = true; schedule = None }

-- the words ask for this
asked : IsCommand (codes "prove" ∷ words_of line) (Prove wanted)
unfolding prove_table line wanted
asked = record {
  line = line;
  more = words_of line;
  whole = refl;
  writes = written;
  says = record {
    file = ((λ e. cc), refl);
    depth = (twelve, omega arith, omega arith);
    workers = refl;
    tries = refl;
    proof_bytes = refl;
    rewrite = refl;
    history = refl;
    schedule = refl;
    apart = refl;
  };
}

-- two uses of an option are no line
not_twice : Writes prove_table (record { uses = joined (codes "depth") (codes "8") ∷ spaced (codes "depth") (codes "8") ∷ []; rest = None }) (codes "--depth=8" ∷ codes "--depth" ∷ codes "8" ∷ []) → ⊥
unfolding prove_table
not_twice w = true≢false w.once.1.0

-- nor are two positional words, on both sides of `--`
not_two_files : Writes prove_table (record { uses = plain (codes "a") ∷ []; rest = Some (codes "b" ∷ []) }) (codes "a" ∷ codes "--" ∷ codes "b" ∷ []) → ⊥
unfolding prove_table
not_two_files w = true≢false w.once.1.0

-- no number begins with a hyphen
no_hyphen : (text : Text) (n : ℕ) → IsNumber (45 ∷ text) n → ⊥
no_hyphen text n is = absurd (omega (arith, is.0.1.0))
