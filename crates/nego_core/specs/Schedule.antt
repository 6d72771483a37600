use Rattle.std.specs.Prelude.{ℕ, zero, suc, ◌%◌, List, [], ◌∷◌}
use Rattle.rand_pcg.specs.Lcg.{Lcg, started, increment_of}
use Rattle.rand_pcg.specs.Pcg.{pcg32, multiplier_64}
use Rattle.nego_core.specs.declared.picks.Pick.{Pick}

-- A pick takes two words of a generator: the node's number, and the act's number modulo 13.
abbrev pub pick_of : Lcg → Pick × Lcg
pick_of g = let node = pcg32 g in let act = pcg32 node.1 in (record { node = node.0; act = act.0 % 13 }, act.1)

abbrev pub picks_from : Lcg → ℕ → List Pick
picks_from g zero = []
picks_from g (suc k) = (pick_of g).0 ∷ picks_from (pick_of g).1 k

-- so many picks of the generator that begins with the seed
abbrev pub scheduled : ℕ → ℕ → List Pick
scheduled seed turns = picks_from (started 64 multiplier_64 seed (increment_of 64 1)) turns
