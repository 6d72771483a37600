use Rattle.std.proofs.Common.{refl}
use Rattle.goeland_words.proofs.Schedules.{no_seed, no_turns, is_pair}
use Rattle.goeland_words.proofs.values.schedule_of.Goals as goal

pub returns-in_err-seed-2-clause-none : goal.returns-in_err-seed-2-clause-none
returns-in_err-seed-2-clause-none c = rw c.in-Some.is (λ none. no_seed _ _ _ c.in_ok-seed.ensures.some (c.in_err-seed-2.ensures.none refl))

pub returns-in_err-turns-clause-none : goal.returns-in_err-turns-clause-none
returns-in_err-turns-clause-none c = rw c.in-Some.is (λ none. no_turns _ _ _ c.in_ok-seed.ensures.some (c.in_err-turns.ensures.none refl))

pub returns-clause-some : goal.returns-clause-some
returns-clause-some c = rw c.in-Some.is (is_pair _ _ _ _ c.in_ok-seed.ensures.some c.in_ok-seed-2.ensures.some c.in_ok-turns.ensures.some)
