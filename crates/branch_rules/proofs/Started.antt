-- The lists of a branch on which nothing was done.
use Rattle.std.proofs.Common.{◌≡◌, ℕ, zero, suc, ◌+◌, ◌<◌, ◌≤◌, ◌^◌, List, [], ◌∷◌, ◌++◌, map, take, length, get_or, replicate, Option, Some, None, slice_get, refl, ap, sym, ◌∙◌, subst, arith}
use Rattle.std.proofs.lemmas.List.{length-replicate, get_or-replicate}
use Rattle.std.proofs.lemmas.Option.{slice_get_within}
use Rattle.free_terms.specs.Free.{FreeFormula}
use Rattle.rewrite_rules.specs.Rules.{RewriteRule}
use Rattle.free_terms.specs.View.{name_of, formulas_of}
use Rattle.free_terms.specs.View.{FreeTermFormula}
use Rattle.rewrite_rules.specs.RuleView.{rules_in}
use Rattle.branch_rules.specs.Branch.{Branch, Entry, entry, entries, root, times_taken}
use Rattle.branch_rules.specs.Next.{most_entries}
use Rattle.branch_rules.specs.BranchValue.{done_of}
use Rattle.branch_rules.specs.BranchView.{entries_held, born_in, branch_in, Reads, IsSearched, IsAgenda}
use Rattle.branch_rules.specs.ListsGrown.{held_at}
use Rattle.branch_rules.specs.declared.branch.Turn.{Turn}
use Rattle.branch_rules.specs.declared.branch.Agenda.{Agenda}
use Rattle.branch_rules.specs.declared.branch.Counts.{Counts}
use Rattle.branch_rules.specs.declared.branch.Lists.{Lists}
use Rattle.branch_rules.proofs.Lengthened.{held_many}
use Rattle.branch_rules.proofs.Taken.{entries_mapped}
use Rattle.branch_rules.proofs.Changes.{joined_start}

pub record IsStart (l : Lists) (fs : List FreeTermFormula) : Type 0 where
  pub start : l.start ≡ length fs
  pub entries : l.entries.items ≡ held_at 0 0 fs
  pub steps : l.steps.items ≡ []
  pub metavars : l.metavars.items ≡ []
  pub counts : l.counts ≡ record { segment = 1; metavars = 0; skolems = 0; splits = 0 }
  pub few : l.start ≤ most_entries

none_born : (fs : List FreeTermFormula) (i : ℕ) → get_or (map (λ h. h.born) (held_at 0 0 fs)) i 0 ≡ 0
none_born [] i = refl
none_born (f ∷ fs) zero = refl
none_born (f ∷ fs) (suc i) = none_born fs i

all_taken : (fs : List FreeTermFormula) → map (λ h. h.entry.formula) (take (length fs) (held_at 0 0 fs)) ≡ fs
all_taken [] = refl
all_taken (f ∷ fs) = ap (λ z. f ∷ z) (all_taken fs)

pub start_branch : (l : Lists) (fs : List FreeTermFormula) → IsStart l fs → branch_in l ≡ root (formulas_of fs) (rules_in l.rules)
start_branch l fs h = λ i. record {
  start = ap formulas_of (ap (λ n. map (λ z. z.entry.formula) (take n l.entries.items)) h.start ∙ ap (λ hs. map (λ z. z.entry.formula) (take (length fs) hs)) h.entries ∙ all_taken fs) i;
  rules = rules_in l.rules;
  steps = ap (map done_of) h.steps i;
}

start_reads : (l : Lists) (fs : List FreeTermFormula) → IsStart l fs → Reads (root (formulas_of fs) (rules_in l.rules)) l
start_reads l fs h = record {
  start_within = omega (arith, h.start, len);
  entries_are = ap entries_held h.entries ∙ entries_mapped 0 0 fs;
  metavars_are = ap (map name_of) h.metavars;
  segment_is = ap (λ c. c.segment) h.counts;
  metavars_made_are = ap (λ c. c.metavars) h.counts;
  skolems_made_are = ap (λ c. c.skolems) h.counts;
  splits_are = ap (λ c. c.splits) h.counts;
  few_splits = omega (arith, ap (λ c. c.splits) h.counts);
  segment_fits = subst (λ c. c.segment < 2 ^ (c.splits + 1)) (sym h.counts) (omega arith);
  few = omega (arith, h.few, h.start, len);
  born_are = λ i lt none. zero_born i lt ∙ sym (joined_start (root (formulas_of fs) (rules_in l.rules)) i refl);
  born_rise = λ i j le lt. omega (arith, zero_born i (omega (arith, le, lt)));
  born_before = λ i lt. omega (arith, zero_born i lt);
} where
  len : length l.entries.items ≡ length fs
  len = ap length h.entries ∙ held_many 0 0 fs

  zero_born : (i : ℕ) → i < length l.entries.items → get_or (born_in l) i 0 ≡ 0
  zero_born i lt = ap (λ hs. get_or (map (λ z. z.born) hs) i 0) h.entries ∙ none_born fs i

abbrev pub no_agenda : Agenda
no_agenda = record { depth = 0; conjunctive = 0; existential = 0; disjunctive = 0; universal = 0; turn = 0; untaken = 0; waiting = 0 }

no_turn : (n : ℕ) (t : Turn) → slice_get [] n ≡ Some t → ⊥
no_turn n t at = (let w : n < 0 = slice_get_within [] n t at in omega (arith, w))

start_searched : (start : List FreeFormula) (rules : List RewriteRule) (born : List ℕ) → IsSearched (root start rules) no_agenda born []
start_searched start rules born = record {
  conjunctive_within = omega arith;
  existential_within = omega arith;
  disjunctive_within = omega arith;
  universal_within = omega arith;
  turn_within = omega arith;
  conjunctive_over = λ i lt p. (let none : ⊥ = omega (arith, lt) in none);
  existential_over = λ i d lt p. (let none : ⊥ = omega (arith, lt) in none);
  disjunctive_over = λ i d lt p. (let none : ⊥ = omega (arith, lt) in none);
  have_turns = λ i lt u. absurd (let none : ⊥ = omega (arith, lt) in none);
  turns_over = λ n t lt at still. absurd (no_turn n t at);
  in_order = λ m n t u le at_m at_n. absurd (no_turn m t at_m);
  turns_place = λ n t at. absurd (no_turn n t at);
  turns_universal = λ n t at. absurd (no_turn n t at);
  turns_used = λ n t at. absurd (no_turn n t at);
  turns_own = λ n t at still. absurd (no_turn n t at);
  turns_within = λ n t at. absurd (no_turn n t at);
  turns_joined = λ n i t at le lt. absurd (no_turn n t at);
  unused = λ i le u. refl;
  untaken = λ i le. refl;
}

start_agenda : (start : List FreeFormula) (rules : List RewriteRule) (born : List ℕ) → IsAgenda (root start rules) no_agenda born []
start_agenda start rules born = record {
  searched = start_searched start rules born;
  fresh = record { entries_untaken = λ i e at le. refl; turns_open = λ n t le at. absurd (no_turn n t at) };
}

pub start_left : (l : Lists) (fs : List FreeTermFormula) (g : Agenda) (turns : List Turn) → IsStart l fs → g ≡ no_agenda → turns ≡ []
    → Reads (branch_in l) l × IsAgenda (branch_in l) g (born_in l) turns
start_left l fs g turns h e none = (
  subst (λ b. Reads b l) (sym (start_branch l fs h)) (start_reads l fs h),
  subst (λ b. IsAgenda b g (born_in l) turns) (sym (start_branch l fs h)) (subst (λ k. IsAgenda (root (formulas_of fs) (rules_in l.rules)) k (born_in l) turns) (sym e)
      (subst (λ ts. IsAgenda (root (formulas_of fs) (rules_in l.rules)) no_agenda (born_in l) ts) (sym none) (start_agenda (formulas_of fs) (rules_in l.rules) (born_in l)))),
)
