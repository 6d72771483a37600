-- The lists after a step are what is read off the branch after it.
use Rattle.std.proofs.Common.{◌≡◌, ℕ, zero, suc, ◌+◌, ◌<◌, ◌≤◌, ◌^◌, List, [], ◌∷◌, ◌++◌, map, take, length, get_or, Option, Some, None, refl, ap, sym, ◌∙◌, subst, arith, ◌⊎◌, inl, inr, length-append}
use Rattle.std.proofs.lemmas.List.{map-append, take-append-le}
use Rattle.free_terms.specs.View.{name_of, formula_of, formulas_of}
use Rattle.rewrite_rules.specs.RuleView.{rules_in}
use Rattle.branch_rules.specs.Branch.{Branch, Done, principal, introduced, entries, metavars, after, segment, segment_after, metavars_made, skolems_made, splits_done, times_taken, joined_at}
use Rattle.branch_rules.specs.Next.{most_entries, most_splits}
use Rattle.branch_rules.specs.BranchValue.{entry_of, done_of}
use Rattle.branch_rules.specs.BranchView.{entries_held, born_in, branch_in, Reads}
use Rattle.branch_rules.specs.declared.held.Held.{Held}
use Rattle.branch_rules.specs.declared.step.Done as code_done
use Rattle.branch_rules.specs.declared.branch.Lists.{Lists}
use Rattle.branch_rules.proofs.Grown.{appended, entries_grow, metavars_grow}
use Rattle.branch_rules.proofs.Changes.{times_other, times_here, segment_grow, metavars_made_grow, skolems_made_grow, joined_other, joined_appended}
use Rattle.branch_rules.proofs.Agendas.{below_or_not, same_or_not, Growing}
use Rattle.branch_rules.proofs.Chosen.{length_is}

-- The second lists have the step and what it appended at their ends.
pub record GrowsBy (l m : Lists) (d : code_done.Done) (new : List Held) : Type 0 where
  pub rules : m.rules ≡ l.rules
  pub start : m.start ≡ l.start
  pub entries_more : m.entries.items ≡ l.entries.items ++ new
  pub steps_more : m.steps.items ≡ l.steps.items ++ d ∷ []
  pub metavars_more : map name_of m.metavars.items ≡ map name_of l.metavars.items ++ introduced (done_of d)
  pub born_old : (i : ℕ) → i < length l.entries.items → get_or (born_in m) i 0 ≡ get_or (born_in l) i 0
  pub born_new : (i : ℕ) → length l.entries.items ≤ i → i < length m.entries.items → get_or (born_in m) i 0 ≡ suc (length l.steps.items)

-- the branch of the second lists
pub branch_after : (l m : Lists) (d : code_done.Done) (new : List Held) → l.start ≤ length l.entries.items → GrowsBy l m d new → branch_in m ≡ after (branch_in l) (done_of d)
branch_after l m d new le g = λ i. record { start = starts i; rules = same_rules i; steps = steps i } where
  front : take m.start m.entries.items ≡ take l.start l.entries.items
  front = ap (λ n. take n m.entries.items) g.start ∙ ap (take l.start) g.entries_more ∙ take-append-le l.start l.entries.items new le

  starts : (branch_in m).start ≡ (branch_in l).start
  starts = ap (λ es. formulas_of (map (λ z. z.entry.formula) es)) front

  same_rules : (branch_in m).rules ≡ (branch_in l).rules
  same_rules = ap rules_in g.rules

  steps : (branch_in m).steps ≡ (branch_in l).steps ++ done_of d ∷ []
  steps = ap (map done_of) g.steps_more ∙ map-append done_of l.steps.items (d ∷ [])

mapped_length : {A B : Type 0} (f : A → B) (xs : List A) → length (map f xs) ≡ length xs
mapped_length f [] = refl
mapped_length f (x ∷ xs) = ap suc (mapped_length f xs)

-- What the step appends and the new counts give the new lists' reading.
pub reads_grow : (l m : Lists) (d : code_done.Done) (new : List Held) → Reads (branch_in l) l → GrowsBy l m d new → principal (done_of d) < length l.entries.items
    → entries_held new ≡ appended (branch_in l) (done_of d)
    → m.counts.segment ≡ segment (after (branch_in l) (done_of d)) → m.counts.metavars ≡ metavars_made 0 (after (branch_in l) (done_of d)).steps
    → m.counts.skolems ≡ skolems_made 0 (after (branch_in l) (done_of d)).steps → m.counts.splits ≡ splits_done (after (branch_in l) (done_of d))
    → m.counts.splits ≤ most_splits → m.counts.segment < 2 ^ (m.counts.splits + 1) → length m.entries.items ≤ most_entries
    → Reads (after (branch_in l) (done_of d)) m
reads_grow l m d new r g here appends seg metas skols splits few fits short = record {
  start_within = let w : l.start ≤ length l.entries.items = r.start_within in omega (arith, w, g.start, longer);
  entries_are = ap entries_held g.entries_more ∙ map-append (λ z. entry_of z.entry) l.entries.items new ∙ ap (λ es. es ++ entries_held new) r.entries_are
      ∙ ap (λ es. entries b ++ es) appends ∙ sym (entries_grow b s);
  metavars_are = g.metavars_more ∙ ap (λ xs. xs ++ introduced s) r.metavars_are ∙ sym (metavars_grow b s);
  segment_is = seg;
  metavars_made_are = metas;
  skolems_made_are = skols;
  splits_are = splits;
  few_splits = few;
  segment_fits = fits;
  few = short;
  born_are = λ i lt none. born_at i lt none (below_or_not i (length l.entries.items)) (same_or_not (principal s) i);
  born_rise = λ i j le lt. rise i j le lt (below_or_not i (length l.entries.items)) (below_or_not j (length l.entries.items));
  born_before = λ i lt. before i lt (below_or_not i (length l.entries.items));
} where
  b : Branch
  b = branch_in l

  s : Done
  s = done_of d

  longer : length m.entries.items ≡ length l.entries.items + length new
  longer = ap length g.entries_more ∙ length-append l.entries.items new

  len : length l.entries.items ≡ length (entries b)
  len = length_is b l r

  len_after : length m.entries.items ≡ length (entries (after b s))
  len_after = longer ∙ ap (λ n. n + length new) len ∙ ap (λ n. length (entries b) + n) (sym (mapped_length (λ z. entry_of z.entry) new) ∙ ap length appends)
      ∙ sym (ap length (entries_grow b s) ∙ length-append (entries b) (appended b s))

  steps_len : length b.steps ≡ length l.steps.items
  steps_len = mapped_length done_of l.steps.items

  steps_after : length (after b s).steps ≡ suc (length l.steps.items)
  steps_after = length-append b.steps (s ∷ []) ∙ (let e : length b.steps + 1 ≡ suc (length l.steps.items) = omega (arith, steps_len) in e)

  born_at : (i : ℕ) → i < length m.entries.items → times_taken (after b s) i ≡ 0 → (i < length l.entries.items) ⊎ (length l.entries.items ≤ i) → (principal s ≡ i) ⊎ (principal s ≡ i → ⊥)
      → get_or (born_in m) i 0 ≡ joined_at (after b s) i
  born_at i lt none w (inl e) = absurd (let no : ⊥ = omega (arith, none, times_here b s i e) in no)
  born_at i lt none (inl w) (inr other) =
      g.born_old i w ∙ r.born_are i w (sym (times_other b s i other) ∙ none) ∙ sym (joined_other b s i (omega (arith, w, len)) other)
  born_at i lt none (inr w) (inr other) =
      g.born_new i w lt ∙ ap suc (sym steps_len) ∙ sym (joined_appended b s i (omega (arith, w, len)) (omega (arith, lt, len_after)))

  before : (i : ℕ) → i < length m.entries.items → (i < length l.entries.items) ⊎ (length l.entries.items ≤ i) → get_or (born_in m) i 0 ≤ length (after b s).steps
  before i lt (inl w) = let old : get_or (born_in l) i 0 ≤ length b.steps = r.born_before i w in omega (arith, old, g.born_old i w, steps_after, steps_len)
  before i lt (inr w) = omega (arith, g.born_new i w lt, steps_after)

  rise : (i j : ℕ) → i ≤ j → j < length m.entries.items → (i < length l.entries.items) ⊎ (length l.entries.items ≤ i) → (j < length l.entries.items) ⊎ (length l.entries.items ≤ j)
      → get_or (born_in m) i 0 ≤ get_or (born_in m) j 0
  rise i j le lt (inl w) (inl v) = let old : get_or (born_in l) i 0 ≤ get_or (born_in l) j 0 = r.born_rise i j le v in omega (arith, old, g.born_old i w, g.born_old j v)
  rise i j le lt (inl w) (inr v) = let old : get_or (born_in l) i 0 ≤ length b.steps = r.born_before i w in omega (arith, old, g.born_old i w, g.born_new j v lt, steps_len)
  rise i j le lt (inr w) (inl v) = absurd (let none : ⊥ = omega (arith, le, w, v) in none)
  rise i j le lt (inr w) (inr v) = omega (arith, g.born_new i w (omega (arith, le, lt)), g.born_new j v lt)
