-- How a step changes what is read off a branch.
use Rattle.std.proofs.Common.{◌≡◌, ℕ, ◌+◌, ◌≤◌, List, [], ◌∷◌, ◌++◌, length, Option, Some, None, slice_get, refl, ap, sym, ◌∙◌, arith, append_assoc, length-append}
use Rattle.free_terms.specs.Free.{Name}
use Rattle.branch_rules.specs.Branch.{Branch, Done, Entry, principal, introduced, appended_to, entries_after, metavars_after, entries, metavars, after}

step_last : (es : List Entry) (xs : List Name) (steps : List Done) (step : Done)
    → entries_after es xs (steps ++ step ∷ []) ≡ entries_after es xs steps ++ appended_to (metavars_after xs steps) (slice_get (entries_after es xs steps) (principal step)) step
step_last es xs [] step = refl
step_last es xs (d ∷ steps) step = step_last (es ++ appended_to xs (slice_get es (principal d)) d) (xs ++ introduced d) steps step

metavars_last : (xs : List Name) (steps : List Done) (step : Done) → metavars_after xs (steps ++ step ∷ []) ≡ metavars_after xs steps ++ introduced step
metavars_last xs [] step = refl
metavars_last xs (d ∷ steps) step = metavars_last (xs ++ introduced d) steps step

-- the entries that a step appends to the branch
abbrev pub appended : Branch → Done → List Entry
appended b step = appended_to (metavars b) (slice_get (entries b) (principal step)) step

pub entries_grow : (b : Branch) (step : Done) → entries (after b step) ≡ entries b ++ appended b step
entries_grow b step = step_last _ [] b.steps step

pub metavars_grow : (b : Branch) (step : Done) → metavars (after b step) ≡ metavars b ++ introduced step
metavars_grow b step = metavars_last [] b.steps step
