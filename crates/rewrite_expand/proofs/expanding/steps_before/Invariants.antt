use Rattle.std.proofs.Common.{◌≡◌, ◌+◌, ◌++◌, map, drop}
use Rattle.fol_core.specs.View.{term_of}
use Rattle.gs3_rules.specs.Apply.{rules_of}
use Rattle.rewrite_expand.specs.Expansion.{gamma_steps, last_of}
use Rattle.rewrite_expand.proofs.expanding.steps_before.Given as goal

abbrev pub invariant-loop-term : goal.invariant-loop-term
invariant-loop-term l =
    (l.next ≡ l.n_places + l.term-index)
    × (rules_of l.steps ++ gamma_steps l.place l.next (map term_of (drop l.term-index l.term-items)) ≡ gamma_steps l.axiom_place l.n_places (map term_of l.term-items))
    × (last_of l.place l.next (map term_of (drop l.term-index l.term-items)) ≡ last_of l.axiom_place l.n_places (map term_of l.term-items))
