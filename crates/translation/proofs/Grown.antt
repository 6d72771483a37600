-- A branch after one more step: its entries, its metavariables and the segment at its end.
use Rattle.std.proofs.Common.{◌≡◌, ℕ, zero, suc, ◌+◌, ◌*◌, ◌≤◌, List, [], ◌∷◌, ◌++◌, map, Some, slice_get, refl, ap, sym, ◌∙◌, append_assoc, append-nil, arith}
use Rattle.free_terms.specs.Free.{Name}
use Rattle.branch_rules.specs.Branch.{Branch, Done, expand, rewrite, skolemize, instantiate, go_left, go_right, Entry, principal, introduced, appended_to, entry, entries_after, entries, metavars_after, metavars, after, segment, segment_after, skolems_made}

abbrev pub skolems_here : Branch → ℕ
skolems_here b = skolems_made 0 b.steps

pub metavars_grow : (xs : List Name) (steps : List Done) (s : Done) → metavars_after xs (steps ++ s ∷ []) ≡ metavars_after xs steps ++ introduced s
metavars_grow xs [] s = refl
metavars_grow xs (t ∷ steps) s = metavars_grow (xs ++ introduced t) steps s

pub entries_grow : (es : List Entry) (xs : List Name) (steps : List Done) (s : Done)
    → entries_after es xs (steps ++ s ∷ [])
    ≡ entries_after es xs steps ++ appended_to (metavars_after xs steps) (slice_get (entries_after es xs steps) (principal s)) s
entries_grow es xs [] s = refl
entries_grow es xs (t ∷ steps) s =
    entries_grow (es ++ appended_to xs (slice_get es (principal t)) t) (xs ++ introduced t) steps s

pub entries_next : (b : Branch) (s : Done) → entries (after b s) ≡ entries b ++ appended_to (metavars b) (slice_get (entries b) (principal s)) s
entries_next b s = entries_grow (map (entry 0) b.start) [] b.steps s

pub metavars_next : (b : Branch) (s : Done) → metavars (after b s) ≡ metavars b ++ introduced s
metavars_next b s = metavars_grow [] b.steps s

-- the entry, where there is one
pub entries_at : (b : Branch) (s : Done) (e : Entry) → slice_get (entries b) (principal s) ≡ Some e
    → entries (after b s) ≡ entries b ++ appended_to (metavars b) (Some e) s
entries_at b s e at = entries_next b s ∙ ap (λ o. entries b ++ appended_to (metavars b) o s) at

pub segment_grows : (n : ℕ) (steps : List Done) (s : Done) → segment_after n (steps ++ s ∷ []) ≡ segment_after (segment_after n steps) (s ∷ [])
segment_grows n [] s = refl
segment_grows n (expand i ∷ steps) s = segment_grows n steps s
segment_grows n (rewrite i r ∷ steps) s = segment_grows n steps s
segment_grows n (skolemize i x ∷ steps) s = segment_grows n steps s
segment_grows n (instantiate i x ∷ steps) s = segment_grows n steps s
segment_grows n (go_left i ∷ steps) s = segment_grows (2 * n) steps s
segment_grows n (go_right i ∷ steps) s = segment_grows (2 * n + 1) steps s

pub skolems_grow : (n : ℕ) (steps : List Done) (s : Done) → skolems_made n (steps ++ s ∷ []) ≡ skolems_made (skolems_made n steps) (s ∷ [])
skolems_grow n [] s = refl
skolems_grow n (expand i ∷ steps) s = skolems_grow n steps s
skolems_grow n (rewrite i r ∷ steps) s = skolems_grow n steps s
skolems_grow n (skolemize i x ∷ steps) s = skolems_grow (suc n) steps s
skolems_grow n (instantiate i x ∷ steps) s = skolems_grow n steps s
skolems_grow n (go_left i ∷ steps) s = skolems_grow 0 steps s
skolems_grow n (go_right i ∷ steps) s = skolems_grow 0 steps s

pub segment_next : (b : Branch) (s : Done) → segment (after b s) ≡ segment_after (segment b) (s ∷ [])
segment_next b s = segment_grows 1 b.steps s

pub skolems_next : (b : Branch) (s : Done) → skolems_here (after b s) ≡ skolems_made (skolems_here b) (s ∷ [])
skolems_next b s = skolems_grow 0 b.steps s

-- every segment has a number from 1 on
pub segment_counts : (n : ℕ) (steps : List Done) → suc zero ≤ n → suc zero ≤ segment_after n steps
segment_counts n [] pos = pos
segment_counts n (expand i ∷ steps) pos = segment_counts n steps pos
segment_counts n (rewrite i r ∷ steps) pos = segment_counts n steps pos
segment_counts n (skolemize i x ∷ steps) pos = segment_counts n steps pos
segment_counts n (instantiate i x ∷ steps) pos = segment_counts n steps pos
segment_counts n (go_left i ∷ steps) pos = segment_counts (2 * n) steps (omega (arith, pos))
segment_counts n (go_right i ∷ steps) pos = segment_counts (2 * n + 1) steps (omega (arith, pos))

-- the start entries stand at their places on each branch
pub entries_stay : (es : List Entry) (xs : List Name) (steps : List Done) → (more : List Entry) × (entries_after es xs steps ≡ es ++ more)
entries_stay es xs [] = ([], sym (append-nil es))
entries_stay es xs (t ∷ steps) =
    let new = appended_to xs (slice_get es (principal t)) t in
    let rest = entries_stay (es ++ new) (xs ++ introduced t) steps in
    (new ++ rest.0, rest.1 ∙ append_assoc es new rest.0)
