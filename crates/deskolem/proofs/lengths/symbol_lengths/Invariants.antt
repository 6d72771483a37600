use Rattle.std.proofs.Common.{◌≡◌, ◌-◌, ◌≤◌, length, map, take}
use Rattle.fol_core.specs.Spelling.{spelled_symbol}
use Rattle.deskolem.proofs.lengths.symbol_lengths.Given as goal

abbrev pub decreases-loop-name : goal.decreases-loop-name
decreases-loop-name l = length l.symbols.functions - l.number

abbrev pub invariant-loop-name : goal.invariant-loop-name
invariant-loop-name l =
    (l.number ≤ length l.symbols.functions) × (l.lengths.items ≡ map (λ s. length (spelled_symbol s.0)) (take l.number l.symbols.functions))
