-- The lists after a step are read off the branch after it, and its agenda is kept.
use Rattle.std.proofs.Common.{◌≡◌, ℕ, zero, suc, ◌+◌, ◌*◌, ◌<◌, ◌≤◌, ◌^◌, true, false, List, [], ◌∷◌, ◌++◌, map, length, get_or, Option, Some, None, slice_get, IsSome, refl, ap, sym, ◌∙◌, subst, arith, ◌⊎◌, inl, inr, length-append}
use Rattle.std.proofs.lemmas.Option.{slice_get_within}
use Rattle.std.proofs.lemmas.List.{map-append}
use Rattle.gs3_rules.specs.Rules.{alpha_parts, gamma_part}
use Rattle.free_terms.specs.Free as free
use Rattle.free_terms.specs.Free.{FreeFormula}
use Rattle.free_terms.specs.declared.term.Name.{Name}
use Rattle.free_terms.specs.View.{name_of, formula_of, formulas_of}
use Rattle.free_terms.specs.View.{FreeTermFormula}
use Rattle.branch_rules.specs.Branch.{Branch, Done, Entry, entry, expand, rewrite, skolemize, instantiate, principal, is_split, appended_to, made_of, level_of, entries, metavars, after, segment, segment_after, metavars_made, skolems_made, splits_done, times_taken, next_metavar, next_skolem}
use Rattle.branch_rules.specs.Next.{Class, conjunctive, existential, disjunctive, universal, most_entries, most_splits, IsRewritable, IsPending, IsServed, Serves, HasRoom, ComesNext}
use Rattle.branch_rules.specs.Kinds.{kind_of}
use Rattle.branch_rules.specs.BranchValue.{entry_of, done_of, done_as}
use Rattle.branch_rules.specs.BranchView.{entries_held, born_in, branch_in, Reads, IsSearched, IsAgenda, IsOpen, IsUniversal, untaken_from}
use Rattle.branch_rules.specs.Plans.{IsConjunctive, IsWorkOn, PlanMeans, IsFront}
use Rattle.branch_rules.specs.ListsGrown.{held_at, turns_by, place_of, IsGrown}
use Rattle.branch_rules.specs.Taken.{counts_by, past_conjunctive, past_existential, past_turn, agenda_by, CountsUses}
use Rattle.branch_rules.specs.declared.kinds.Kind.{Kind}
use Rattle.branch_rules.specs.declared.kinds.Kind.TheVariants.{Existential, Disjunctive, Universal}
use Rattle.branch_rules.specs.declared.held.Held.{Held}
use Rattle.branch_rules.specs.declared.step.Done as code_done
use Rattle.branch_rules.specs.declared.step.Done.TheVariants.{Step, Left, Right}
use Rattle.branch_rules.specs.declared.step.TabKind.{TabKind}
use Rattle.branch_rules.specs.declared.step.TabKind.TheVariants.{Alpha, Rewrite, Skolem, Instance}
use Rattle.branch_rules.specs.declared.branch.Turn.{Turn}
use Rattle.branch_rules.specs.declared.branch.Agenda.{Agenda}
use Rattle.branch_rules.specs.declared.branch.Counts.{Counts}
use Rattle.branch_rules.specs.declared.branch.Lists.{Lists}
use Rattle.branch_rules.proofs.Grown.{appended, entries_grow}
use Rattle.branch_rules.proofs.Grows.{GrowsBy, branch_after, reads_grow}
use Rattle.branch_rules.proofs.Lengthened.{held_many, place_principal, grows_by}
use Rattle.branch_rules.proofs.Changes.{splits_grow, segment_grow, metavars_made_grow, skolems_made_grow}
use Rattle.branch_rules.proofs.Agendas.{Growing}
use Rattle.branch_rules.proofs.Stepped.{conjunctive_stepped, existential_stepped, universal_stepped}
use Rattle.rewrite_rules.specs.Rewriting.{Rewriting}
use Rattle.rewrite_rules.specs.RuleView.{rewriting_of}
use Rattle.branch_rules.proofs.Chosen.{length_is, not_these}
use Rattle.branch_rules.proofs.Queues.{gamma_kind}
use Rattle.branch_rules.proofs.Nexts.{existential_free, disjunctive_free}

pub same_found : {A : Type 0} (o : Option A) (x y : A) → o ≡ Some x → o ≡ Some y → x ≡ y
same_found o x y ex ey = cc

many_mapped : {A B : Type 0} (f : A → B) (xs : List A) → length (map f xs) ≡ length xs
many_mapped f [] = refl
many_mapped f (x ∷ xs) = ap suc (many_mapped f xs)

pub none_more : {A : Type 0} (xs : List A) → xs ++ [] ≡ xs
none_more [] = refl
none_more (x ∷ xs) = ap (λ z. x ∷ z) (none_more xs)

pub entries_mapped : (n k : ℕ) (fs : List FreeTermFormula) → entries_held (held_at n k fs) ≡ map (entry n) (formulas_of fs)
entries_mapped n k [] = refl
entries_mapped n k (f ∷ fs) = ap (λ z. entry n (formula_of f) ∷ z) (entries_mapped n k fs)

-- what the step appends, where the formulas are what it makes
pub appends : (b : Branch) (s : Done) (place level number : ℕ) (e : Entry) (fs : List FreeTermFormula) → principal s ≡ place → slice_get (entries b) place ≡ Some e
    → formulas_of fs ≡ made_of (metavars b) e.formula s → level ≡ level_of e.level s → entries_held (held_at level number fs) ≡ appended b s
appends b s place level number e fs is at makes levels =
    entries_mapped level number fs ∙ ap (λ n. map (entry n) (formulas_of fs)) levels ∙ ap (map (entry (level_of e.level s))) makes
    ∙ sym (ap (λ o. appended_to (metavars b) o s) (ap (slice_get (entries b)) is ∙ at))

mapped : (hs : List Held) → length (entries_held hs) ≡ length hs
mapped [] = refl
mapped (h ∷ hs) = ap suc (mapped hs)

pub grown_length : (l m : Lists) (d : code_done.Done) (new : List Held) → Reads (branch_in l) l → entries_held new ≡ appended (branch_in l) (done_of d)
    → GrowsBy l m d new → length m.entries.items ≡ length (entries (after (branch_in l) (done_of d)))
grown_length l m d new r makes g =
    ap length g.entries_more ∙ length-append l.entries.items new ∙ ap (λ n. n + length new) (length_is (branch_in l) l r)
    ∙ ap (λ n. length (entries (branch_in l)) + n) (sym (mapped new) ∙ ap length makes)
    ∙ sym (ap length (entries_grow (branch_in l) (done_of d)) ∙ length-append (entries (branch_in l)) (appended (branch_in l) (done_of d)))

-- the lists grow with the step
pub growing : (l m : Lists) (d : code_done.Done) (new : List Held) → Reads (branch_in l) l → place_of d < length l.entries.items
    → entries_held new ≡ appended (branch_in l) (done_of d) → GrowsBy l m d new → Growing (branch_in l) (done_of d) (born_in l) (born_in m)
growing l m d new r here makes g = record {
  place_within = omega (arith, here, place_principal d, length_is (branch_in l) l r);
  old_born = λ i lt. g.born_old i (omega (arith, lt, length_is (branch_in l) l r));
  new_born = λ i le lt.
      g.born_new i (omega (arith, le, length_is (branch_in l) l r)) (omega (arith, lt, grown_length l m d new r makes g)) ∙ ap suc (sym (many_mapped done_of l.steps.items));
}

-- An entry that is served in another class is not universal.
pub not_universal : (b : Branch) (d : ℕ) (c : Class) (i : ℕ) → IsPending b d c i → (c ≡ universal → ⊥) → IsUniversal b i → ⊥
not_universal b d universal i p other u = other refl
not_universal b d conjunctive i p other u =
    not_these b.rules d p.0 Universal (sym (gamma_kind p.0.formula (subst (λ z. IsSome (gamma_part (λ a. a) z.formula)) (same_found (slice_get (entries b) i) u.0 p.0 u.1 p.1) u.3))) (inr (inr refl)) (regroup p.3.1) where
      regroup : IsSome (alpha_parts p.0.formula) ⊎ ((p.0.level < 8 * d) × IsRewritable b p.0.formula) → IsConjunctive b.rules d p.0
      regroup (inl x) = inl x
      regroup (inr x) = inr (x.0, x.1.0, x.1.1)
not_universal b d existential i p other u =
    let free = existential_free b d i p in
    let same : u.0 ≡ free.0 = same_found (slice_get (entries b) i) u.0 free.0 u.1 free.1 in
    let z : Existential ≡ Universal = sym free.3 ∙ ap (λ e. kind_of e.formula) (sym same) ∙ gamma_kind u.0.formula u.3 in cc
not_universal b d disjunctive i p other u =
    let free = disjunctive_free b d i p in
    let same : u.0 ≡ free.0 = same_found (slice_get (entries b) i) u.0 free.0 u.1 free.1 in
    let z : Disjunctive ≡ Universal = sym free.3 ∙ ap (λ e. kind_of e.formula) (sym same) ∙ gamma_kind u.0.formula u.3 in cc

-- only universal entries are used by instances, with the next name
instance_serves : (b : Branch) (c : Class) (i j : ℕ) (a : FreeFormula) (x : free.Name) → Serves b c i a (instantiate j x) → (c ≡ universal) × (x ≡ next_metavar b)
instance_serves b conjunctive i j a x (inl s) = (let z : instantiate j x ≡ expand i = s.1 in cc)
instance_serves b conjunctive i j a x (inr s) = (let z : instantiate j x ≡ rewrite i s.0 = s.2 in cc)
instance_serves b existential i j a x s = (let z : instantiate j x ≡ skolemize i (next_skolem b) = s in cc)
instance_serves b disjunctive i j a x (inl s) = cc
instance_serves b disjunctive i j a x (inr s) = cc
instance_serves b universal i j a x s = (refl, (let z : instantiate j x ≡ instantiate i (next_metavar b) = s in cc))

skolem_serves : (b : Branch) (c : Class) (i j : ℕ) (a : FreeFormula) (x : free.Name) → Serves b c i a (skolemize j x) → (c ≡ existential) × (x ≡ next_skolem b)
skolem_serves b conjunctive i j a x (inl s) = (let z : skolemize j x ≡ expand i = s.1 in cc)
skolem_serves b conjunctive i j a x (inr s) = (let z : skolemize j x ≡ rewrite i s.0 = s.2 in cc)
skolem_serves b existential i j a x s = (refl, (let z : skolemize j x ≡ skolemize i (next_skolem b) = s in cc))
skolem_serves b disjunctive i j a x (inl s) = cc
skolem_serves b disjunctive i j a x (inr s) = cc
skolem_serves b universal i j a x s = (let z : skolemize j x ≡ instantiate i (next_metavar b) = s in cc)

-- A step within a segment, of a kind at a place, that comes next.
abbrev pub NextOf : Branch → ℕ → ℕ → TabKind → Type 0
NextOf b d place kind = ComesNext b d (done_as place kind)

plain_kind : (b : Branch) (c : Class) (i : ℕ) (a : FreeFormula) (s : Done) → ((z : free.Name) → s ≡ instantiate i z → ⊥) → Serves b c i a s → c ≡ universal → ⊥
plain_kind b universal i a s other serves e = other (next_metavar b) serves
plain_kind b conjunctive i a s other serves e = cc
plain_kind b existential i a s other serves e = cc
plain_kind b disjunctive i a s other serves e = cc

-- the segment, the numbers of names and the splits after the step
counts_segment : (c : Counts) (k : TabKind) → (counts_by c k).segment ≡ c.segment
counts_segment c Alpha = refl
counts_segment c (Rewrite r) = refl
counts_segment c (Skolem x) = refl
counts_segment c (Instance x) = refl

counts_splits : (c : Counts) (k : TabKind) → (counts_by c k).splits ≡ c.splits
counts_splits c Alpha = refl
counts_splits c (Rewrite r) = refl
counts_splits c (Skolem x) = refl
counts_splits c (Instance x) = refl

segment_stays : (n i : ℕ) (k : TabKind) → segment_after n (done_as i k ∷ []) ≡ n
segment_stays n i Alpha = refl
segment_stays n i (Rewrite r) = refl
segment_stays n i (Skolem x) = refl
segment_stays n i (Instance x) = refl

splits_stay : (b : Branch) (i : ℕ) (k : TabKind) → splits_done (after b (done_as i k)) ≡ splits_done b
splits_stay b i Alpha = (let e = splits_grow b (done_as i Alpha) in omega (arith, e))
splits_stay b i (Rewrite r) = (let e = splits_grow b (done_as i (Rewrite r)) in omega (arith, e))
splits_stay b i (Skolem x) = (let e = splits_grow b (done_as i (Skolem x)) in omega (arith, e))
splits_stay b i (Instance x) = (let e = splits_grow b (done_as i (Instance x)) in omega (arith, e))

metavars_counted : (b : Branch) (c : Counts) (d i : ℕ) (k : TabKind) → NextOf b d i k → c.metavars ≡ metavars_made 0 b.steps → (counts_by c k).metavars ≡ metavars_made (metavars_made 0 b.steps) (done_as i k ∷ [])
metavars_counted b c d i Alpha n e = e
metavars_counted b c d i (Rewrite r) n e = e
metavars_counted b c d i (Skolem x) n e = e
metavars_counted b c d i (Instance x) n e = ap (λ z. z.count) (instance_serves b n.class i i n.entry.formula (name_of x) n.serves).1

skolems_counted : (b : Branch) (c : Counts) (d i : ℕ) (k : TabKind) → NextOf b d i k → c.skolems ≡ skolems_made 0 b.steps → (counts_by c k).skolems ≡ skolems_made (skolems_made 0 b.steps) (done_as i k ∷ [])
skolems_counted b c d i Alpha n e = e
skolems_counted b c d i (Rewrite r) n e = e
skolems_counted b c d i (Instance x) n e = e
skolems_counted b c d i (Skolem x) n e = ap (λ z. z.count) (skolem_serves b n.class i i n.entry.formula (name_of x) n.serves).1

principal_at : (i : ℕ) (k : TabKind) → principal (done_as i k) ≡ i
principal_at i k = place_principal (Step i k)

-- What a step leaves: what is read off the branch, its agenda, the branch itself, and how many entries it has.
abbrev pub StepLeft : Lists → Lists → Agenda → List Turn → code_done.Done → Type 0
StepLeft l m g more d = Reads (branch_in m) m × IsAgenda (branch_in m) g (born_in m) more × (branch_in m ≡ after (branch_in l) (done_of d))

alpha_serves : (b : Branch) (c : Class) (i j : ℕ) (a : FreeFormula) → Serves b c i a (expand j) → c ≡ conjunctive
alpha_serves b conjunctive i j a s = refl
alpha_serves b existential i j a s = (let z : expand j ≡ skolemize i (next_skolem b) = s in cc)
alpha_serves b disjunctive i j a (inl s) = cc
alpha_serves b disjunctive i j a (inr s) = cc
alpha_serves b universal i j a s = (let z : expand j ≡ instantiate i (next_metavar b) = s in cc)

rewrite_serves : (b : Branch) (c : Class) (i j : ℕ) (a : FreeFormula) (r : Rewriting) → Serves b c i a (rewrite j r) → c ≡ conjunctive
rewrite_serves b conjunctive i j a r s = refl
rewrite_serves b existential i j a r s = (let z : rewrite j r ≡ skolemize i (next_skolem b) = s in cc)
rewrite_serves b disjunctive i j a r (inl s) = cc
rewrite_serves b disjunctive i j a r (inr s) = cc
rewrite_serves b universal i j a r s = (let z : rewrite j r ≡ instantiate i (next_metavar b) = s in cc)

-- the agenda after the step
agenda_step : (l m : Lists) (g : Agenda) (turns : List Turn) (i : ℕ) (k : TabKind) (uses : ℕ) (more : List Turn) → i < length l.entries.items → IsAgenda (branch_in l) g (born_in l) turns → NextOf (branch_in l) g.depth i k
    → IsFront (branch_in l) g turns k i → CountsUses (branch_in l) k i uses → Growing (branch_in l) (done_as i k) (born_in l) (born_in m)
    → more ≡ turns ++ turns_by (Step i k) (suc (length l.steps.items)) uses
    → IsAgenda (after (branch_in l) (done_as i k)) (agenda_by g k i) (born_in m) more
agenda_step l m g turns i Alpha uses more here a n front count grow queue =
    subst (IsAgenda (after (branch_in l) (done_as i Alpha)) (past_conjunctive g i) (born_in m)) (sym (queue ∙ none_more turns))
    (conjunctive_stepped (branch_in l) (done_as i Alpha) g (born_in l) (born_in m) turns grow (not_universal (branch_in l) g.depth n.class i n.served.pending (plain_kind (branch_in l) n.class i n.entry.formula (expand i) (λ z e. cc) n.serves))
    (subst (λ c. IsServed (branch_in l) g.depth c i) (alpha_serves (branch_in l) n.class i i n.entry.formula n.serves) n.served) a)
agenda_step l m g turns i (Rewrite w) uses more here a n front count grow queue =
    subst (IsAgenda (after (branch_in l) (done_as i (Rewrite w))) (past_conjunctive g i) (born_in m)) (sym (queue ∙ none_more turns))
    (conjunctive_stepped (branch_in l) (done_as i (Rewrite w)) g (born_in l) (born_in m) turns grow (not_universal (branch_in l) g.depth n.class i n.served.pending (plain_kind (branch_in l) n.class i n.entry.formula (done_as i (Rewrite w)) (λ z e. cc) n.serves))
    (subst (λ c. IsServed (branch_in l) g.depth c i) (rewrite_serves (branch_in l) n.class i i n.entry.formula (rewriting_of w) n.serves) n.served) a)
agenda_step l m g turns i (Skolem x) uses more here a n front count grow queue =
    subst (IsAgenda (after (branch_in l) (done_as i (Skolem x))) (past_existential g i) (born_in m)) (sym (queue ∙ none_more turns))
    (existential_stepped (branch_in l) (done_as i (Skolem x)) g (born_in l) (born_in m) turns grow (not_universal (branch_in l) g.depth n.class i n.served.pending (plain_kind (branch_in l) n.class i n.entry.formula (done_as i (Skolem x)) (λ z e. cc) n.serves))
    (subst (λ c. IsServed (branch_in l) g.depth c i) (skolem_serves (branch_in l) n.class i i n.entry.formula (name_of x) n.serves).0 n.served) a)
agenda_step l m g turns i (Instance x) uses more here a n front count grow queue =
    subst (IsAgenda (after (branch_in l) (done_as i (Instance x))) (past_turn g) (born_in m)) (sym queue)
    (universal_stepped (branch_in l) (done_as i (Instance x)) g (born_in l) (born_in m) turns front.1 (record { joined = suc (length l.steps.items); place = i; uses = uses }) grow
    (let p : IsPending (branch_in l) g.depth universal i = subst (λ c. IsPending (branch_in l) g.depth c i) (instance_serves (branch_in l) n.class i i n.entry.formula (name_of x) n.serves).0 n.served.pending in (p.0, p.1, p.2, p.3.1))
    front.0 front.2 front.3 front.4 (ap suc (sym (many_mapped done_of l.steps.items)), refl, count) a)

pub step_left : (l m : Lists) (g : Agenda) (turns more : List Turn) (i : ℕ) (k : TabKind) (level : ℕ) (fs : List FreeTermFormula) (uses : ℕ) (e : Entry) → Reads (branch_in l) l → IsAgenda (branch_in l) g (born_in l) turns
    → NextOf (branch_in l) g.depth i k → slice_get (entries (branch_in l)) i ≡ Some e → formulas_of fs ≡ made_of (metavars (branch_in l)) e.formula (done_as i k) → level ≡ level_of e.level (done_as i k)
    → IsFront (branch_in l) g turns k i → CountsUses (branch_in l) k i uses → IsGrown l m turns more (Step i k) level fs uses → m.counts ≡ counts_by l.counts k → StepLeft l m (agenda_by g k i) more (Step i k)
step_left l m g turns more i k level fs uses e r a n at makes levels front count grown counts =
    (subst (λ z. Reads z m) (sym same) reads, subst (λ z. IsAgenda z (agenda_by g k i) (born_in m) more) (sym same) agenda, same) where
      b : Branch
      b = branch_in l

      s : Done
      s = done_as i k

      here : i < length l.entries.items
      here = let w : i < length (entries b) = slice_get_within (entries b) i e at in omega (arith, w, length_is b l r)

      new : List Held
      new = held_at level (suc (length l.steps.items)) fs

      grows : GrowsBy l m (Step i k) new
      grows = grows_by l m turns more (Step i k) level fs uses grown

      same : branch_in m ≡ after b s
      same = branch_after l m (Step i k) new r.start_within grows

      adds : entries_held new ≡ appended b s
      adds = appends b s i level (suc (length l.steps.items)) e fs (principal_at i k) at makes levels

      segments : m.counts.segment ≡ l.counts.segment
      segments = ap (λ c. c.segment) counts ∙ counts_segment l.counts k

      splits : m.counts.splits ≡ l.counts.splits
      splits = ap (λ c. c.splits) counts ∙ counts_splits l.counts k

      room : HasRoom b s
      room = n.room s n.serves

      reads : Reads (after b s) m
      reads = reads_grow l m (Step i k) new r grows (omega (arith, here, principal_at i k)) adds
          (segments ∙ r.segment_is ∙ sym (segment_grow b s ∙ segment_stays (segment b) i k))
          (ap (λ c. c.metavars) counts ∙ metavars_counted b l.counts g.depth i k n r.metavars_made_are ∙ sym (metavars_made_grow b s))
          (ap (λ c. c.skolems) counts ∙ skolems_counted b l.counts g.depth i k n r.skolems_made_are ∙ sym (skolems_made_grow b s))
          (splits ∙ r.splits_are ∙ sym (splits_stay b i k))
          (subst (λ z. z ≤ most_splits) (sym splits) r.few_splits)
          (subst (λ z. z < 2 ^ (m.counts.splits + 1)) (sym segments) (subst (λ z. l.counts.segment < 2 ^ (z + 1)) (sym splits) r.segment_fits))
          (subst (λ z. z ≤ most_entries) (sym (grown_length l m (Step i k) new r adds grows)) room)

      agenda : IsAgenda (after b s) (agenda_by g k i) (born_in m) more
      agenda = agenda_step l m g turns i k uses more here a n front count (growing l m (Step i k) new r here adds grows) grown.queue

pub many_left : (l m : Lists) (turns more : List Turn) (d : code_done.Done) (level : ℕ) (fs : List FreeTermFormula) (uses n : ℕ) → Reads (branch_in l) l → Reads (branch_in m) m → IsGrown l m turns more d level fs uses → n ≡ length fs
    → length (entries (branch_in m)) ≡ length (entries (branch_in l)) + n
many_left l m turns more d level fs uses n r s g is =
    let new = held_at level (suc (length l.steps.items)) fs in
    sym (length_is (branch_in m) m s) ∙ ap length g.entries ∙ length-append l.entries.items new ∙ ap (λ k. k + length new) (length_is (branch_in l) l r)
    ∙ ap (λ k. length (entries (branch_in l)) + k) (held_many level (suc (length l.steps.items)) fs ∙ sym is)

pub front_uses : (b : Branch) (g : Agenda) (turns : List Turn) (k : TabKind) (place n : ℕ) (x : Name) (t : Turn) → k ≡ Instance x → slice_get turns g.turn ≡ Some t → n ≡ t.uses + 1 → IsFront b g turns k place → CountsUses b k place n
front_uses b g turns k place n x t e at is front = subst (λ z. CountsUses b z place n) (sym e) counted where
  f : IsFront b g turns (Instance x) place
  f = subst (λ z. IsFront b g turns z place) e front

  same : t ≡ f.1
  same = some_once t f.1 (sym at ∙ f.2) where
    some_once : (y z : Turn) → Some y ≡ Some z → y ≡ z
    some_once y z p = cc

  counted : n ≡ suc (times_taken b place)
  counted = let taken : times_taken b place ≡ t.uses = ap (times_taken b) (sym f.3) ∙ f.4 ∙ ap (λ z. z.uses) (sym same) in omega (arith, is, taken)
