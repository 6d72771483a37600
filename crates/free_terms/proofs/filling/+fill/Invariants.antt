use Rattle.std.proofs.Common.{◌≡◌, take, map, unwrap_or}
use Rattle.free_terms.specs.Free.{fill_term}
use Rattle.free_terms.specs.View.{term_of, fills_of}
use Rattle.free_terms.proofs.filling.+fill.Given as goal

abbrev pub invariant-filled_terms-loop-i : goal.invariant-filled_terms-loop-i
invariant-filled_terms-loop-i l =
    map term_of (unwrap_or l.out (take l.i l.us)) ≡ map (λ u. fill_term (fills_of l.fills) l.level (term_of u)) (take l.i l.us)
