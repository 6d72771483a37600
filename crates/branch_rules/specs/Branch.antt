-- A branch of the tableau: the steps done on it, and what is read off them.
use Rattle.std.specs.Prelude.{◌≡◌, ℕ, zero, suc, ◌+◌, ◌*◌, Bool, true, false, ◌||◌, ◌&&◌, eqb, nat_le, nat_lt}
use Rattle.std.specs.Prelude.{if◌then◌else◌, List, [], ◌∷◌, ◌++◌, map, length, take, slice_get, count_by, Option, Some}
use Rattle.std.specs.Prelude.{None}
use Rattle.gs3_rules.specs.Rules.{alpha_parts, beta_parts, delta_part, gamma_part}
use Rattle.free_terms.specs.Free.{Name, FreeTerm, FreeFormula, metavar, skolem, terms_of_list, instance}
use Rattle.rewrite_rules.specs.Rules.{RewriteRule}
use Rattle.rewrite_rules.specs.Rewriting.{Rewriting}

-- One step, with the place of its principal entry. A split is done twice, once on each of its branches.
pub data Done : Type 0 where
  expand : ℕ → Done
  rewrite : ℕ → Rewriting → Done
  skolemize : ℕ → Name → Done
  instantiate : ℕ → Name → Done
  go_left go_right : ℕ → Done

pub record Entry : Type 0 where
  pub formula : FreeFormula
  pub level : ℕ

-- Start formulas stand here as formulas of the free-variable tableau.
pub record Branch : Type 0 where
  pub start : List FreeFormula
  pub rules : List RewriteRule
  pub steps : List Done

abbrev pub principal : Done → ℕ
principal (expand i) = i
principal (rewrite i r) = i
principal (skolemize i x) = i
principal (instantiate i x) = i
principal (go_left i) = i
principal (go_right i) = i

abbrev pub or_none : {A : Type 0} → Option (List A) → List A
or_none None = []
or_none (Some parts) = parts

abbrev pub one_of : {A : Type 0} → Option A → List A
one_of None = []
one_of (Some a) = a ∷ []

abbrev pub left_part : {A : Type 0} → Option (List A × List A) → List A
left_part None = []
left_part (Some sides) = sides.0

abbrev pub right_part : {A : Type 0} → Option (List A × List A) → List A
right_part None = []
right_part (Some sides) = sides.1

-- The term of a new Skolem symbol for an existential formula, on a branch that has introduced these metavariables: it
-- is over all of them, in order.
abbrev pub skolem_term : List Name → FreeFormula → Name → FreeTerm
skolem_term xs a x = skolem x (terms_of_list (map metavar xs))

-- what a step makes of its principal formula, on a branch that has introduced these metavariables
abbrev pub made_of : List Name → FreeFormula → Done → List FreeFormula
made_of xs a (expand i) = or_none (alpha_parts a)
made_of xs a (rewrite i r) = r.result ∷ []
made_of xs a (skolemize i x) = one_of (delta_part (λ b. instance b (skolem_term xs a x)) a)
made_of xs a (instantiate i x) = one_of (gamma_part (λ b. instance b (metavar x)) a)
made_of xs a (go_left i) = left_part (beta_parts a)
made_of xs a (go_right i) = right_part (beta_parts a)

-- a rewritten literal is one level above the literal, and a component is at its principal's level
abbrev pub level_of : ℕ → Done → ℕ
level_of n (rewrite i r) = suc n
level_of n (expand i) = n
level_of n (skolemize i x) = n
level_of n (instantiate i x) = n
level_of n (go_left i) = n
level_of n (go_right i) = n

abbrev pub entry : ℕ → FreeFormula → Entry
entry n a = record { formula = a; level = n }

abbrev pub appended_to : List Name → Option Entry → Done → List Entry
appended_to xs None step = []
appended_to xs (Some e) step = map (entry (level_of e.level step)) (made_of xs e.formula step)

-- the metavariable that a step introduces
abbrev pub introduced : Done → List Name
introduced (instantiate i x) = x ∷ []
introduced (expand i) = []
introduced (rewrite i r) = []
introduced (skolemize i x) = []
introduced (go_left i) = []
introduced (go_right i) = []

abbrev pub entries_after : List Entry → List Name → List Done → List Entry
entries_after es xs [] = es
entries_after es xs (step ∷ steps) =
    entries_after (es ++ appended_to xs (slice_get es (principal step)) step) (xs ++ introduced step) steps

-- the entries of the branch: those of the start list, at level 0, and what each step appended
abbrev pub entries : Branch → List Entry
entries b = entries_after (map (entry 0) b.start) [] b.steps

abbrev pub metavars_after : List Name → List Done → List Name
metavars_after xs [] = xs
metavars_after xs (step ∷ steps) = metavars_after (xs ++ introduced step) steps

-- the metavariables that the branch has introduced, in order
abbrev pub metavars : Branch → List Name
metavars b = metavars_after [] b.steps

abbrev pub after : Branch → Done → Branch
after b step = record { start = b.start; rules = b.rules; steps = b.steps ++ step ∷ [] }

-- the branch as it stood when n steps were done
abbrev pub before : Branch → ℕ → Branch
before b n = record { start = b.start; rules = b.rules; steps = take n b.steps }

-- a branch on which nothing was done
abbrev pub root : List FreeFormula → List RewriteRule → Branch
root start rules = record { start = start; rules = rules; steps = [] }

-- The segment that the steps lead to from the segment n: the left part of n is 2n, the right one 2n + 1.
abbrev pub segment_after : ℕ → List Done → ℕ
segment_after n [] = n
segment_after n (go_left i ∷ steps) = segment_after (2 * n) steps
segment_after n (go_right i ∷ steps) = segment_after (2 * n + 1) steps
segment_after n (_ ∷ steps) = segment_after n steps

-- the segment at the end of the branch
abbrev pub segment : Branch → ℕ
segment b = segment_after 1 b.steps

-- how many metavariables, and how many Skolem symbols, the segment at the end has made
abbrev pub metavars_made : ℕ → List Done → ℕ
metavars_made n [] = n
metavars_made n (go_left i ∷ steps) = metavars_made 0 steps
metavars_made n (go_right i ∷ steps) = metavars_made 0 steps
metavars_made n (instantiate i x ∷ steps) = metavars_made (suc n) steps
metavars_made n (_ ∷ steps) = metavars_made n steps

abbrev pub skolems_made : ℕ → List Done → ℕ
skolems_made n [] = n
skolems_made n (go_left i ∷ steps) = skolems_made 0 steps
skolems_made n (go_right i ∷ steps) = skolems_made 0 steps
skolems_made n (skolemize i x ∷ steps) = skolems_made (suc n) steps
skolems_made n (_ ∷ steps) = skolems_made n steps

-- the name that the next metavariable gets, and the next Skolem symbol
abbrev pub next_metavar : Branch → Name
next_metavar b = record { segment = segment b; count = suc (metavars_made 0 b.steps) }

abbrev pub next_skolem : Branch → Name
next_skolem b = record { segment = segment b; count = suc (skolems_made 0 b.steps) }

abbrev pub is_split : Done → Bool
is_split (go_left i) = true
is_split (go_right i) = true
is_split (expand i) = false
is_split (rewrite i r) = false
is_split (skolemize i x) = false
is_split (instantiate i x) = false

abbrev pub splits_done : Branch → ℕ
splits_done b = count_by is_split b.steps

-- how often the steps took the entry
abbrev pub times_taken : Branch → ℕ → ℕ
times_taken b i = count_by (λ step. eqb (principal step) i) b.steps

abbrev pub takes : Option Done → ℕ → Bool
takes None i = false
takes (Some step) i = eqb (principal step) i

-- whether the step at n, from 0, took or appended the entry
abbrev pub joins : Branch → ℕ → ℕ → Bool
joins b i n = takes (slice_get b.steps n) i
    || (nat_le (length (entries (before b n))) i && nat_lt i (length (entries (before b (suc n)))))

-- The number of the last of the first n steps that took or appended the entry, from 1, and 0 for a start
-- entry that none of them took.
abbrev pub last_joined : Branch → ℕ → ℕ → ℕ
last_joined b i zero = 0
last_joined b i (suc n) = if joins b i n then suc n else last_joined b i n

abbrev pub joined_at : Branch → ℕ → ℕ
joined_at b i = last_joined b i (length b.steps)
