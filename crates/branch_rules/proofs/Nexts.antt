-- From what the finders answer to the step that comes next.
use Rattle.std.proofs.Common.{◌≡◌, ℕ, zero, suc, ◌+◌, ◌*◌, ◌<◌, ◌≤◌, Bool, true, false, List, [], ◌∷◌, ◌++◌, map, length, Option, Some, None, IsSome, slice_get, refl, ap, sym, ◌∙◌, subst, arith, ◌⊎◌, inl, inr, length-append}
use Rattle.std.proofs.lemmas.Bool.{false≢true}
use Rattle.std.proofs.lemmas.Option.{slice_get_within}
use Rattle.fol_core.specs.Syntax.{FormulaOver, atom, verum, falsum, not, and, or, imp, iff, all, ex}
use Rattle.gs3_rules.specs.Rules.{alpha_parts, beta_parts, delta_part, gamma_part}
use Rattle.free_terms.specs.Free.{Name, FreeFormula}
use Rattle.free_terms.specs.View.{formulas_of}
use Rattle.branch_rules.specs.Branch.{Branch, Done, Entry, expand, rewrite, skolemize, instantiate, go_left, go_right, principal, entries, metavars, after, made_of, entry, level_of, appended_to, next_skolem, next_metavar, splits_done, times_taken}
use Rattle.branch_rules.specs.Next.{Class, conjunctive, existential, disjunctive, universal, rank, most_entries, most_splits, Waits, IsPending, IsServed, Serves, HasRoom, ComesNext, IsLeaf}
use Rattle.branch_rules.specs.Kinds.{kind_of}
use Rattle.branch_rules.specs.BranchView.{IsOpen, IsUniversal, OverBefore, IsSearched}
use Rattle.branch_rules.specs.Plans.{done_in, IsWorkOn, ServesSo, FirstConjunctive, IsFree, FirstFree, Serving}
use Rattle.branch_rules.specs.declared.branch.Turn.{Turn}
use Rattle.branch_rules.specs.declared.branch.Agenda.{Agenda}
use Rattle.branch_rules.specs.declared.kinds.Kind.{Kind}
use Rattle.branch_rules.specs.declared.kinds.Kind.TheVariants.{Conjunctive, Existential, Disjunctive, Universal, Literal}
use Rattle.branch_rules.specs.declared.work.Work.{Work}
use Rattle.branch_rules.proofs.Grown.{appended, entries_grow}
use Rattle.branch_rules.proofs.Served.{AreOne, one_served}
use Rattle.branch_rules.proofs.Agendas.{below_or_not, None_of, conjunctive_served, existential_served, disjunctive_served, universal_served, none_universal}

-- What is kept of an agenda when it begins anew at another depth.
pub begun_anew : (b : Branch) (g : Agenda) (born : List ℕ) (turns : List Turn) (d : ℕ) → IsSearched b g born turns → IsSearched b (record g { depth = d; conjunctive = 0; turn = 0 }) born turns
begun_anew b g born turns d h = record {
  conjunctive_within = omega arith;
  existential_within = h.existential_within;
  disjunctive_within = h.disjunctive_within;
  universal_within = h.universal_within;
  turn_within = omega arith;
  conjunctive_over = λ i lt p. omega (arith, lt);
  existential_over = h.existential_over;
  disjunctive_over = h.disjunctive_over;
  have_turns = h.have_turns;
  turns_over = λ n t lt at still. absurd (let none : ⊥ = omega (arith, lt) in none);
  in_order = h.in_order;
  turns_place = h.turns_place;
  turns_universal = h.turns_universal;
  turns_used = h.turns_used;
  turns_own = h.turns_own;
  turns_within = h.turns_within;
  turns_joined = h.turns_joined;
  unused = h.unused;
  untaken = h.untaken;
}

pub conjunctive_to : (b : Branch) (g : Agenda) (born : List ℕ) (turns : List Turn) (n : ℕ) → n ≤ length (entries b) → ((i : ℕ) → i < n → IsPending b g.depth conjunctive i → ⊥)
    → IsSearched b g born turns → IsSearched b (record g { conjunctive = n }) born turns
conjunctive_to b g born turns n le over h = record {
  conjunctive_within = le;
  existential_within = h.existential_within;
  disjunctive_within = h.disjunctive_within;
  universal_within = h.universal_within;
  turn_within = h.turn_within;
  conjunctive_over = over;
  existential_over = h.existential_over;
  disjunctive_over = h.disjunctive_over;
  have_turns = h.have_turns;
  turns_over = h.turns_over;
  in_order = h.in_order;
  turns_place = h.turns_place;
  turns_universal = h.turns_universal;
  turns_used = h.turns_used;
  turns_own = h.turns_own;
  turns_within = h.turns_within;
  turns_joined = h.turns_joined;
  unused = h.unused;
  untaken = h.untaken;
}

pub existential_to : (b : Branch) (g : Agenda) (born : List ℕ) (turns : List Turn) (n : ℕ) → n ≤ length (entries b) → ((i d : ℕ) → i < n → IsPending b d existential i → ⊥)
    → IsSearched b g born turns → IsSearched b (record g { existential = n }) born turns
existential_to b g born turns n le over h = record {
  conjunctive_within = h.conjunctive_within;
  existential_within = le;
  disjunctive_within = h.disjunctive_within;
  universal_within = h.universal_within;
  turn_within = h.turn_within;
  conjunctive_over = h.conjunctive_over;
  existential_over = over;
  disjunctive_over = h.disjunctive_over;
  have_turns = h.have_turns;
  turns_over = h.turns_over;
  in_order = h.in_order;
  turns_place = h.turns_place;
  turns_universal = h.turns_universal;
  turns_used = h.turns_used;
  turns_own = h.turns_own;
  turns_within = h.turns_within;
  turns_joined = h.turns_joined;
  unused = h.unused;
  untaken = h.untaken;
}

pub disjunctive_to : (b : Branch) (g : Agenda) (born : List ℕ) (turns : List Turn) (n : ℕ) → n ≤ length (entries b) → ((i d : ℕ) → i < n → IsPending b d disjunctive i → ⊥)
    → IsSearched b g born turns → IsSearched b (record g { disjunctive = n }) born turns
disjunctive_to b g born turns n le over h = record {
  conjunctive_within = h.conjunctive_within;
  existential_within = h.existential_within;
  disjunctive_within = le;
  universal_within = h.universal_within;
  turn_within = h.turn_within;
  conjunctive_over = h.conjunctive_over;
  existential_over = h.existential_over;
  disjunctive_over = over;
  have_turns = h.have_turns;
  turns_over = h.turns_over;
  in_order = h.in_order;
  turns_place = h.turns_place;
  turns_universal = h.turns_universal;
  turns_used = h.turns_used;
  turns_own = h.turns_own;
  turns_within = h.turns_within;
  turns_joined = h.turns_joined;
  unused = h.unused;
  untaken = h.untaken;
}

-- Nothing is pending before a place from which on the finder looked, and before what it found.
pub none_before : (P : ℕ → Type 0) (from n : ℕ) → ((i : ℕ) → i < from → P i → ⊥) → ((i : ℕ) → from ≤ i → i < n → P i → ⊥) → (i : ℕ) → i < n → P i → ⊥
none_before P from n before later i lt p = by_place (below_or_not i from) where
  by_place : (i < from) ⊎ (from ≤ i) → ⊥
  by_place (inl less) = before i less p
  by_place (inr more) = later i more lt p

pub none_at_all : (P : ℕ → Type 0) (from : ℕ) → ((i : ℕ) → i < from → P i → ⊥) → ((i : ℕ) → from ≤ i → P i → ⊥) → (i : ℕ) → P i → ⊥
none_at_all P from before later i p = by_place (below_or_not i from) where
  by_place : (i < from) ⊎ (from ≤ i) → ⊥
  by_place (inl less) = before i less p
  by_place (inr more) = later i more p

-- kinds and pending entries

delta_kind : (a : FreeFormula) → IsSome (delta_part (λ b. b) a) → kind_of a ≡ Existential
delta_kind (ex a) s = refl
delta_kind (not (all a)) s = refl
delta_kind a s = absurd (false≢true s)

beta_kind : (a : FreeFormula) → IsSome (beta_parts a) → kind_of a ≡ Disjunctive
beta_kind (or a b) s = refl
beta_kind (not (and a b)) s = refl
beta_kind (imp a b) s = refl
beta_kind (iff a b) s = refl
beta_kind (not (iff a b)) s = refl
beta_kind a s = absurd (false≢true s)

kind_delta : (a : FreeFormula) → kind_of a ≡ Existential → IsSome (delta_part (λ b. b) a)
kind_delta (ex a) e = refl
kind_delta (not (all a)) e = refl
kind_delta (atom p us) e = absurd (let z : Literal ≡ Existential = e in cc)
kind_delta verum e = absurd (let z : Literal ≡ Existential = e in cc)
kind_delta falsum e = absurd (let z : Literal ≡ Existential = e in cc)
kind_delta (and a b) e = absurd (let z : Conjunctive ≡ Existential = e in cc)
kind_delta (or a b) e = absurd (let z : Disjunctive ≡ Existential = e in cc)
kind_delta (imp a b) e = absurd (let z : Disjunctive ≡ Existential = e in cc)
kind_delta (iff a b) e = absurd (let z : Disjunctive ≡ Existential = e in cc)
kind_delta (all a) e = absurd (let z : Universal ≡ Existential = e in cc)
kind_delta (not (atom p us)) e = absurd (let z : Literal ≡ Existential = e in cc)
kind_delta (not verum) e = absurd (let z : Literal ≡ Existential = e in cc)
kind_delta (not falsum) e = absurd (let z : Literal ≡ Existential = e in cc)
kind_delta (not (not a)) e = absurd (let z : Conjunctive ≡ Existential = e in cc)
kind_delta (not (and a b)) e = absurd (let z : Disjunctive ≡ Existential = e in cc)
kind_delta (not (or a b)) e = absurd (let z : Conjunctive ≡ Existential = e in cc)
kind_delta (not (imp a b)) e = absurd (let z : Conjunctive ≡ Existential = e in cc)
kind_delta (not (iff a b)) e = absurd (let z : Disjunctive ≡ Existential = e in cc)
kind_delta (not (ex a)) e = absurd (let z : Universal ≡ Existential = e in cc)

kind_beta : (a : FreeFormula) → kind_of a ≡ Disjunctive → IsSome (beta_parts a)
kind_beta (or a b) e = refl
kind_beta (imp a b) e = refl
kind_beta (iff a b) e = refl
kind_beta (not (and a b)) e = refl
kind_beta (not (iff a b)) e = refl
kind_beta (atom p us) e = absurd (let z : Literal ≡ Disjunctive = e in cc)
kind_beta verum e = absurd (let z : Literal ≡ Disjunctive = e in cc)
kind_beta falsum e = absurd (let z : Literal ≡ Disjunctive = e in cc)
kind_beta (and a b) e = absurd (let z : Conjunctive ≡ Disjunctive = e in cc)
kind_beta (all a) e = absurd (let z : Universal ≡ Disjunctive = e in cc)
kind_beta (ex a) e = absurd (let z : Existential ≡ Disjunctive = e in cc)
kind_beta (not (atom p us)) e = absurd (let z : Literal ≡ Disjunctive = e in cc)
kind_beta (not verum) e = absurd (let z : Literal ≡ Disjunctive = e in cc)
kind_beta (not falsum) e = absurd (let z : Literal ≡ Disjunctive = e in cc)
kind_beta (not (not a)) e = absurd (let z : Conjunctive ≡ Disjunctive = e in cc)
kind_beta (not (or a b)) e = absurd (let z : Conjunctive ≡ Disjunctive = e in cc)
kind_beta (not (imp a b)) e = absurd (let z : Conjunctive ≡ Disjunctive = e in cc)
kind_beta (not (all a)) e = absurd (let z : Existential ≡ Disjunctive = e in cc)
kind_beta (not (ex a)) e = absurd (let z : Universal ≡ Disjunctive = e in cc)

pub existential_free : (b : Branch) (d i : ℕ) → IsPending b d existential i → IsFree b Existential i
existential_free b d i p = (p.0, p.1, p.2, delta_kind p.0.formula p.3.1, p.3.0)

pub free_existential : (b : Branch) (d i : ℕ) → IsFree b Existential i → IsPending b d existential i
free_existential b d i f = (f.0, f.1, f.2, (f.4, kind_delta f.0.formula f.3))

pub disjunctive_free : (b : Branch) (d i : ℕ) → IsPending b d disjunctive i → IsFree b Disjunctive i
disjunctive_free b d i p = (p.0, p.1, p.2, beta_kind p.0.formula p.3.1, p.3.0)

pub free_disjunctive : (b : Branch) (d i : ℕ) → splits_done b < most_splits → IsFree b Disjunctive i → IsPending b d disjunctive i
free_disjunctive b d i few f = (f.0, f.1, f.2, (f.4, kind_beta f.0.formula f.3, few))

-- With all splits done no entry is pending in class 3.
pub no_splits : (b : Branch) (d i : ℕ) → most_splits ≤ splits_done b → IsPending b d disjunctive i → ⊥
no_splits b d i full p = let few : splits_done b < most_splits = p.3.2 in let none : ⊥ = omega (arith, few, full) in none

-- room

map_length : {A B : Type 0} (f : A → B) (xs : List A) → length (map f xs) ≡ length xs
map_length f [] = refl
map_length f (x ∷ xs) = ap suc (map_length f xs)

-- how many entries a step appends
pub after_length : (b : Branch) (s : Done) (e : Entry) → slice_get (entries b) (principal s) ≡ Some e → length (entries (after b s)) ≡ length (entries b) + length (made_of (metavars b) e.formula s)
after_length b s e at =
    ap length (entries_grow b s) ∙ length-append (entries b) (appended b s)
    ∙ ap (λ n. length (entries b) + n) (ap (λ o. length (appended_to (metavars b) o s)) at ∙ map_length (entry (level_of e.level s)) (made_of (metavars b) e.formula s))

-- The served entry's step comes next, where each of its steps has room.
pub comes_next : (b : Branch) (d : ℕ) (c : Class) (i : ℕ) (e : Entry) (s : Done) → principal s ≡ i → IsServed b d c i → slice_get (entries b) i ≡ Some e → Serves b c i e.formula s
    → ((t : Done) → Serves b c i e.formula t → HasRoom b t) → ComesNext b d s
comes_next b d c i e s same served at serves room = record {
  class = c;
  entry = e;
  at = subst (λ k. slice_get (entries b) k ≡ Some e) (sym same) at;
  served = subst (IsServed b d c) (sym same) served;
  serves = subst (λ k. Serves b c k e.formula s) (sym same) serves;
  room = λ t x. room t (subst (λ k. Serves b c k e.formula t) same x);
}

some_once : {A : Type 0} (x y : A) → Some x ≡ Some y → x ≡ y
some_once x y e = cc

-- Where one of its steps has no room, the branch is a leaf.
pub full_is_leaf : (b : Branch) (d : ℕ) (c : Class) (i : ℕ) (e : Entry) (s : Done) → IsServed b d c i → slice_get (entries b) i ≡ Some e → Serves b c i e.formula s → (HasRoom b s → ⊥) → IsLeaf b d
full_is_leaf b d c i e s served at serves full t x =
    let same = one_served b d x.class c (principal t) i x.served served in
    let entry : x.entry ≡ e = some_once x.entry e (sym x.at ∙ ap (λ k. slice_get (entries b) k) same.1 ∙ at) in
    full (x.room s
    (subst (λ k. Serves b x.class k x.entry.formula s) (sym same.1)
    (subst (λ k. Serves b k i x.entry.formula s) (sym same.0)
    (subst (λ z. Serves b c i z.formula s) (sym entry) serves))))

pub none_is_leaf : (b : Branch) (d : ℕ) → None_of b d conjunctive → None_of b d existential → None_of b d disjunctive → None_of b d universal → IsLeaf b d
none_is_leaf b d n m o p s x = by_class x.class x.served.pending where
  by_class : (c : Class) → IsPending b d c (principal s) → ⊥
  by_class conjunctive h = n (principal s) h
  by_class existential h = m (principal s) h
  by_class disjunctive h = o (principal s) h
  by_class universal h = p (principal s) h

-- both sides of a split have as many entries
pub same_sides : (a : FreeFormula) (xs : List Name) (i : ℕ) → length (made_of xs a (go_left i)) ≡ length (made_of xs a (go_right i))
same_sides (or a b) xs i = refl
same_sides (not (and a b)) xs i = refl
same_sides (imp a b) xs i = refl
same_sides (iff a b) xs i = refl
same_sides (not (iff a b)) xs i = refl
same_sides a xs i = refl
