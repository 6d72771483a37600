-- Lists that hold the same are read alike.
use Rattle.std.proofs.Common.{◌≡◌, ℕ, ◌+◌, ◌<◌, ◌≤◌, ◌^◌, map, take, length, get_or, refl, ap, sym, ◌∙◌, subst}
use Rattle.free_terms.specs.View.{name_of, formulas_of}
use Rattle.rewrite_rules.specs.RuleView.{rules_in}
use Rattle.branch_rules.specs.Branch.{Branch}
use Rattle.branch_rules.specs.Next.{most_entries, most_splits}
use Rattle.branch_rules.specs.BranchValue.{BranchValue, done_of}
use Rattle.branch_rules.specs.BranchView.{entries_held, born_in, value_with, branch_in, Reads, IsAgenda, IsReady, HoldSame}
use Rattle.std.specs.Prelude.{List, Option}
use Rattle.branch_rules.specs.declared.branch.Turn.{Turn}
use Rattle.branch_rules.specs.declared.branch.Agenda.{Agenda}
use Rattle.branch_rules.specs.declared.branch.Lists.{Lists}

pub same_value : (l m : Lists) (r : Option ℕ) → HoldSame l m → value_with m r ≡ value_with l r
same_value l m r h = λ i. record {
  start = (ap (λ n. map (λ z. z.entry.formula) (take n m.entries.items)) h.start ∙ ap (λ hs. map (λ z. z.entry.formula) (take l.start hs)) h.entries) i;
  rules = h.rules i;
  steps = h.steps i;
  ready = r;
}

pub same_branch : (l m : Lists) → HoldSame l m → branch_in m ≡ branch_in l
same_branch l m h = λ i. record {
  start = ap formulas_of (ap (λ n. map (λ z. z.entry.formula) (take n m.entries.items)) h.start ∙ ap (λ hs. map (λ z. z.entry.formula) (take l.start hs)) h.entries) i;
  rules = ap rules_in h.rules i;
  steps = ap (map done_of) h.steps i;
}

reads_alike : (b : Branch) (l m : Lists) → HoldSame l m → Reads b l → Reads b m
reads_alike b l m h r = record {
  start_within = subst (λ n. n ≤ length m.entries.items) (sym h.start) (subst (λ es. l.start ≤ length es) (sym h.entries) r.start_within);
  entries_are = ap entries_held h.entries ∙ r.entries_are;
  metavars_are = ap (map name_of) h.metavars ∙ r.metavars_are;
  segment_is = ap (λ c. c.segment) h.counts ∙ r.segment_is;
  metavars_made_are = ap (λ c. c.metavars) h.counts ∙ r.metavars_made_are;
  skolems_made_are = ap (λ c. c.skolems) h.counts ∙ r.skolems_made_are;
  splits_are = ap (λ c. c.splits) h.counts ∙ r.splits_are;
  few_splits = subst (λ c. c.splits ≤ most_splits) (sym h.counts) r.few_splits;
  segment_fits = subst (λ c. c.segment < 2 ^ (c.splits + 1)) (sym h.counts) r.segment_fits;
  few = subst (λ es. length es ≤ most_entries) (sym h.entries) r.few;
  born_are = λ i lt none. ap (λ bs. get_or bs i 0) born ∙ r.born_are i (subst (λ es. i < length es) h.entries lt) none;
  born_rise = λ i j le lt. subst (λ bs. get_or bs i 0 ≤ get_or bs j 0) (sym born) (r.born_rise i j le (subst (λ es. j < length es) h.entries lt));
  born_before = λ i lt. subst (λ bs. get_or bs i 0 ≤ length b.steps) (sym born) (r.born_before i (subst (λ es. i < length es) h.entries lt));
} where
  born : born_in m ≡ born_in l
  born = ap (λ hs. map (λ z. z.born) hs) h.entries

pub reads_same : (l m : Lists) → HoldSame l m → Reads (branch_in l) l → Reads (branch_in m) m
reads_same l m h r = subst (λ b. Reads b m) (sym (same_branch l m h)) (reads_alike (branch_in l) l m h r)

pub born_same : (l m : Lists) → HoldSame l m → born_in m ≡ born_in l
born_same l m h = ap (λ hs. map (λ z. z.born) hs) h.entries

-- and their agenda is one
pub agenda_same : (l m : Lists) (g : Agenda) (turns more : List Turn) → HoldSame l m → more ≡ turns → IsAgenda (branch_in l) g (born_in l) turns → IsAgenda (branch_in m) g (born_in m) more
agenda_same l m g turns more h e a =
    subst (λ z. IsAgenda z g (born_in m) more) (sym (same_branch l m h)) (subst (λ z. IsAgenda (branch_in l) g z more) (sym (born_same l m h))
    (subst (IsAgenda (branch_in l) g (born_in l)) (sym e) a))

pub ready_same : (l m : Lists) (i : ℕ) → HoldSame l m → IsReady (branch_in l) i → IsReady (branch_in m) i
ready_same l m i h r = subst (λ z. IsReady z i) (sym (same_branch l m h)) r
