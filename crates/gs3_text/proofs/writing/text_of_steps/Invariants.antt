use Rattle.std.proofs.Common.{◌≡◌, ◌++◌, map, drop}
use Rattle.std.specs.List.{AllByRecursion}
use Rattle.gs3_rules.specs.Apply.{rules_of}
use Rattle.gs3_text.specs.ProofText.{line_of, proof_lines, text_of, IsSpellableTerm, HasSmallNumbers}
use Rattle.gs3_text.proofs.writing.text_of_steps.Given as goal

abbrev pub invariant-loop-step : goal.invariant-loop-step
invariant-loop-step l =
    let left = rules_of (drop l.step-index l.steps) in record {
      written : l.out.items ++ text_of (map (line_of l.symbols.functions) left) ≡ text_of (proof_lines l.symbols.functions (rules_of l.steps));
      numbers : AllByRecursion HasSmallNumbers left → AllByRecursion HasSmallNumbers (rules_of l.steps);
      spellable : AllByRecursion (IsSpellableTerm l.symbols.functions) left;
    }
