-- How far an agenda gets by what the finders answer.
use Rattle.std.proofs.Common.{◌≡◌, ℕ, suc, ◌<◌, ◌≤◌, List, length, Option, Some, None, refl, ap, sym, ◌∙◌, subst, arith}
use Rattle.std.specs.Prelude.{slice_get}
use Rattle.std.proofs.lemmas.Option.{slice_get_within}
use Rattle.branch_rules.specs.Branch.{Branch, entries, splits_done}
use Rattle.branch_rules.specs.Next.{conjunctive, existential, disjunctive, most_splits, IsPending}
use Rattle.branch_rules.specs.BranchView.{IsSearched, IsAgenda}
use Rattle.branch_rules.specs.Plans.{FirstConjunctive, IsFree, FirstFree}
use Rattle.branch_rules.specs.declared.branch.Turn.{Turn}
use Rattle.branch_rules.specs.declared.branch.Agenda.{Agenda}
use Rattle.branch_rules.specs.declared.kinds.Kind.TheVariants.{Existential, Disjunctive}
use Rattle.branch_rules.specs.declared.work.Work.{Work}
use Rattle.branch_rules.proofs.Fresh.{fresh_later, conjunctive_later, existential_later, disjunctive_later}
use Rattle.branch_rules.proofs.Nexts.{none_before, none_at_all, existential_free, disjunctive_free, conjunctive_to, existential_to, disjunctive_to}

conjunctive_at : (b : Branch) (g : Agenda) (born : List ℕ) (turns : List Turn) (n : ℕ) → n ≤ length (entries b) → ((i : ℕ) → i < n → IsPending b g.depth conjunctive i → ⊥)
    → IsAgenda b g born turns → IsAgenda b (record g { conjunctive = n }) born turns
conjunctive_at b g born turns n le over h =
    record { searched = conjunctive_to b g born turns n le over h.searched; fresh = fresh_later b g (record g { conjunctive = n }) turns (conjunctive_later g n) (omega arith) h.fresh }

existential_at : (b : Branch) (g : Agenda) (born : List ℕ) (turns : List Turn) (n : ℕ) → n ≤ length (entries b) → g.existential ≤ n → ((i d : ℕ) → i < n → IsPending b d existential i → ⊥)
    → IsAgenda b g born turns → IsAgenda b (record g { existential = n }) born turns
existential_at b g born turns n le up over h =
    record { searched = existential_to b g born turns n le over h.searched; fresh = fresh_later b g (record g { existential = n }) turns (existential_later g n up) (omega arith) h.fresh }

disjunctive_at : (b : Branch) (g : Agenda) (born : List ℕ) (turns : List Turn) (n : ℕ) → n ≤ length (entries b) → g.disjunctive ≤ n → ((i d : ℕ) → i < n → IsPending b d disjunctive i → ⊥)
    → IsAgenda b g born turns → IsAgenda b (record g { disjunctive = n }) born turns
disjunctive_at b g born turns n le up over h =
    record { searched = disjunctive_to b g born turns n le over h.searched; fresh = fresh_later b g (record g { disjunctive = n }) turns (disjunctive_later g n up) (omega arith) h.fresh }

within : (m n : ℕ) → m < n → m ≤ n
within m n lt = omega (arith, lt)

pub before_depth : (b : Branch) (g : Agenda) (born : List ℕ) (turns : List Turn) (d : ℕ) → g.depth ≡ d → IsSearched b g born turns → (i : ℕ) → i < g.conjunctive → IsPending b d conjunctive i → ⊥
before_depth b g born turns d e h i lt p = h.conjunctive_over i lt (subst (λ k. IsPending b k conjunctive i) (sym e) p)

pub conjunctive_found_to : (b : Branch) (g : Agenda) (born : List ℕ) (turns : List Turn) (d : ℕ) (w : Work) → g.depth ≡ d → FirstConjunctive b d g.conjunctive (Some w)
    → IsAgenda b g born turns → IsAgenda b (record g { conjunctive = w.place }) born turns
conjunctive_found_to b g born turns d w e f h =
    conjunctive_at b g born turns w.place (within _ _ (slice_get_within (entries b) w.place f.0.0 f.0.1))
    (none_before (IsPending b g.depth conjunctive) g.conjunctive w.place h.searched.conjunctive_over (λ i le lt p. f.1 i le lt (subst (λ k. IsPending b k conjunctive i) e p))) h

pub conjunctive_all_to : (b : Branch) (g : Agenda) (born : List ℕ) (turns : List Turn) (d n : ℕ) → g.depth ≡ d → FirstConjunctive b d g.conjunctive None → n ≡ length (entries b)
    → IsAgenda b g born turns → IsAgenda b (record g { conjunctive = n }) born turns
conjunctive_all_to b g born turns d n e f len h =
    conjunctive_at b g born turns n (omega (arith, len))
    (none_before (IsPending b g.depth conjunctive) g.conjunctive n h.searched.conjunctive_over (λ i le lt p. f i le (subst (λ k. IsPending b k conjunctive i) e p))) h

pub existential_found_to : (b : Branch) (g : Agenda) (born : List ℕ) (turns : List Turn) (n : ℕ) → FirstFree b Existential g.existential (Some n)
    → IsAgenda b g born turns → IsAgenda b (record g { existential = n }) born turns
existential_found_to b g born turns n f h =
    existential_at b g born turns n (within _ _ (slice_get_within (entries b) n f.1.0 f.1.1)) f.0
    (λ i d lt. none_before (IsPending b d existential) g.existential n (λ j less. h.searched.existential_over j d less) (λ j le less p. f.2 j le less (existential_free b d j p)) i lt) h

pub existential_all_to : (b : Branch) (g : Agenda) (born : List ℕ) (turns : List Turn) (n : ℕ) → FirstFree b Existential g.existential None → n ≡ length (entries b)
    → IsAgenda b g born turns → IsAgenda b (record g { existential = n }) born turns
existential_all_to b g born turns n f len h =
    existential_at b g born turns n (omega (arith, len)) (let w : g.existential ≤ length (entries b) = h.searched.existential_within in omega (arith, w, len))
    (λ i d lt. none_before (IsPending b d existential) g.existential n (λ j less. h.searched.existential_over j d less) (λ j le less p. f j le (existential_free b d j p)) i lt) h

pub disjunctive_found_to : (b : Branch) (g : Agenda) (born : List ℕ) (turns : List Turn) (n : ℕ) → FirstFree b Disjunctive g.disjunctive (Some n)
    → IsAgenda b g born turns → IsAgenda b (record g { disjunctive = n }) born turns
disjunctive_found_to b g born turns n f h =
    disjunctive_at b g born turns n (within _ _ (slice_get_within (entries b) n f.1.0 f.1.1)) f.0
    (λ i d lt. none_before (IsPending b d disjunctive) g.disjunctive n (λ j less. h.searched.disjunctive_over j d less) (λ j le less p. f.2 j le less (disjunctive_free b d j p)) i lt) h

pub disjunctive_all_to : (b : Branch) (g : Agenda) (born : List ℕ) (turns : List Turn) (n : ℕ) → FirstFree b Disjunctive g.disjunctive None → n ≡ length (entries b)
    → IsAgenda b g born turns → IsAgenda b (record g { disjunctive = n }) born turns
disjunctive_all_to b g born turns n f len h =
    disjunctive_at b g born turns n (omega (arith, len)) (let w : g.disjunctive ≤ length (entries b) = h.searched.disjunctive_within in omega (arith, w, len))
    (λ i d lt. none_before (IsPending b d disjunctive) g.disjunctive n (λ j less. h.searched.disjunctive_over j d less) (λ j le less p. f j le (disjunctive_free b d j p)) i lt) h
