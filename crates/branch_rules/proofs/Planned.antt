-- From a work and the room for it to what comes next.
use Rattle.std.proofs.Common.{◌≡◌, ℕ, zero, suc, ◌+◌, ◌<◌, ◌≤◌, Bool, true, false, List, [], ◌∷◌, map, length, Option, Some, None, IsSome, slice_get, refl, ap, sym, ◌∙◌, subst, arith, ◌⊎◌, inl, inr}
use Rattle.std.proofs.lemmas.Bool.{false≢true}
use Rattle.std.proofs.lemmas.Option.{slice_get_within}
use Rattle.gs3_rules.specs.Rules.{alpha_parts, beta_parts}
use Rattle.free_terms.specs.Free.{Name, FreeFormula}
use Rattle.free_terms.specs.View.{name_of, formulas_of}
use Rattle.branch_rules.specs.BranchValue.{done_as}
use Rattle.branch_rules.specs.declared.step.TabKind.{TabKind}
use Rattle.branch_rules.specs.declared.step.TabKind.TheVariants.{Alpha, Rewrite, Skolem, Instance}
use Rattle.free_terms.specs.View.{FreeTermFormula}
use Rattle.rewrite_rules.specs.Rewriting.{Rewriting}
use Rattle.branch_rules.specs.Branch.{Branch, Done, Entry, expand, rewrite, skolemize, instantiate, go_left, go_right, principal, is_split, entries, metavars, after, made_of, next_skolem, next_metavar, splits_done, left_part}
use Rattle.branch_rules.specs.Next.{Class, conjunctive, existential, disjunctive, universal, most_entries, most_splits, IsPending, IsServed, Serves, HasRoom, ComesNext, IsLeaf}
use Rattle.branch_rules.specs.BranchView.{IsOpen, OverBefore, IsSearched}
use Rattle.branch_rules.specs.Plans.{done_in, IsWorkOn, ServesSo, FirstConjunctive, IsFree, FirstFree, Serving, WorksAt, RoomAnswer, PlanMeans, IsFront, HasFront}
use Rattle.branch_rules.specs.declared.branch.Turn.{Turn}
use Rattle.branch_rules.specs.declared.branch.Agenda.{Agenda}
use Rattle.branch_rules.specs.declared.kinds.Kind.TheVariants.{Existential, Disjunctive}
use Rattle.branch_rules.specs.declared.work.Work.{Work}
use Rattle.branch_rules.specs.declared.work.Plan as plan
use Rattle.branch_rules.proofs.Served.{AreOne, served_once, right_side}
use Rattle.branch_rules.proofs.Agendas.{None_of, conjunctive_served, existential_served, disjunctive_served, universal_served, none_universal}
use Rattle.branch_rules.proofs.Nexts.{none_before, none_at_all, existential_free, free_existential, disjunctive_free, free_disjunctive, no_splits, after_length, comes_next, full_is_leaf, none_is_leaf, same_sides}

some_once : {A : Type 0} (x y : A) → Some x ≡ Some y → x ≡ y
some_once x y e = cc

parts_length : (fs : List FreeTermFormula) → length (formulas_of fs) ≡ length fs
parts_length [] = refl
parts_length (f ∷ fs) = ap suc (parts_length fs)

-- how many entries there are after the work
work_length : (b : Branch) (i : ℕ) (e : Entry) (w : Work) → principal (done_in w) ≡ i → slice_get (entries b) i ≡ Some e → IsWorkOn (metavars b) i e w
    → length (entries (after b (done_in w))) ≡ length (entries b) + length w.parts
work_length b i e w same at work =
    after_length b (done_in w) e (ap (slice_get (entries b)) same ∙ at)
    ∙ ap (λ n. length (entries b) + n) (ap length (sym work.makes) ∙ parts_length w.parts)

-- The served entry's work is done where there is room, and else the branch is a leaf.
pub work_plan : (b : Branch) (d : ℕ) (c : Class) (i : ℕ) (e : Entry) (w : Work) (p : plan.Plan) → IsServed b d c i → slice_get (entries b) i ≡ Some e → Serves b c i e.formula (done_in w)
    → principal (done_in w) ≡ i → is_split (done_in w) ≡ false → IsWorkOn (metavars b) i e w → RoomAnswer b w p → PlanMeans b d p
work_plan b d c i e w plan.TheVariants.Done served at serves same whole work full =
    full_is_leaf b d c i e (done_in w) served at serves (λ room. full (subst (λ n. n ≤ most_entries) (work_length b i e w same at work) room))
work_plan b d c i e w (plan.TheVariants.Split j) served at serves same whole work answer = absurd answer
work_plan b d c i e w (plan.TheVariants.Step v) served at serves same whole work answer =
    subst (λ z. PlanMeans b d (plan.TheVariants.Step z)) (sym answer.0) (
      comes_next b d c i e (done_in w) same served at serves room,
      e,
      ap (slice_get (entries b)) work.at ∙ at,
      subst (λ k. IsWorkOn (metavars b) k e w) (sym work.at) work,
    )
  where
    here : HasRoom b (done_in w)
    here = subst (λ n. n ≤ most_entries) (sym (work_length b i e w same at work)) answer.1

    room : (t : Done) → Serves b c i e.formula t → HasRoom b t
    room t x = by_one (served_once b c i e.formula (done_in w) t serves x) where
      by_one : AreOne (done_in w) t → HasRoom b t
      by_one (inl z) = subst (HasRoom b) z here
      by_one (inr z) = absurd (false≢true (sym whole ∙ z.0))

-- what a conjunctive step makes does not hang on the metavariables
any_metavars : (rules : _) (i : ℕ) (e : Entry) (s : Done) (xs : List Name) → ServesSo rules i e s → made_of [] e.formula s ≡ made_of xs e.formula s
any_metavars rules i e s xs (inl x) = ap (made_of [] e.formula) x.1 ∙ sym (ap (made_of xs e.formula) x.1)
any_metavars rules i e s xs (inr x) = ap (made_of [] e.formula) x.2 ∙ sym (ap (made_of xs e.formula) x.2)

at_its_place : (rules : _) (i : ℕ) (e : Entry) (s : Done) → ServesSo rules i e s → (principal s ≡ i) × (is_split s ≡ false)
at_its_place rules i e s (inl x) = (ap principal x.1, ap is_split x.1)
at_its_place rules i e s (inr x) = (ap principal x.2, ap is_split x.2)

-- Class 1.
pub conjunctive_plan : (b : Branch) (d from : ℕ) (w : Work) (p : plan.Plan) → ((i : ℕ) → i < from → IsPending b d conjunctive i → ⊥) → FirstConjunctive b d from (Some w) → RoomAnswer b w p → PlanMeans b d p
conjunctive_plan b d from w p before f answer =
    let place = at_its_place b.rules w.place f.2 (done_in w) f.4 in
    work_plan b d conjunctive w.place f.2 w p
    (conjunctive_served b d w.place (none_before (IsPending b d conjunctive) from w.place before f.1) f.0) f.3 f.4 place.0 place.1
    (record { at = refl; makes = f.5.makes ∙ any_metavars b.rules w.place f.2 (done_in w) (metavars b) f.4; level = f.5.level }) answer

pub none_conjunctive : (b : Branch) (d from : ℕ) → ((i : ℕ) → i < from → IsPending b d conjunctive i → ⊥) → FirstConjunctive b d from None → None_of b d conjunctive
none_conjunctive b d from before f = none_at_all (IsPending b d conjunctive) from before f

-- Class 2.
pub existential_plan : (b : Branch) (d from i : ℕ) (w : Work) (p : plan.Plan) → None_of b d conjunctive → ((j : ℕ) → j < from → IsPending b d existential j → ⊥) → FirstFree b Existential from (Some i)
    → WorksAt b i (skolemize i (next_skolem b)) w → RoomAnswer b w p → PlanMeans b d p
existential_plan b d from i w p none before f work answer =
    work_plan b d existential i work.1 w p
    (existential_served b d i none (none_before (IsPending b d existential) from i before (λ j le lt q. f.2 j le lt (existential_free b d j q))) (free_existential b d i f.1))
    work.2 work.0 (ap principal work.0) (ap is_split work.0) work.3 answer

pub none_existential : (b : Branch) (d from : ℕ) → ((i : ℕ) → i < from → IsPending b d existential i → ⊥) → FirstFree b Existential from None → None_of b d existential
none_existential b d from before f = none_at_all (IsPending b d existential) from before (λ i le q. f i le (existential_free b d i q))

-- Class 3, where there is room for the one and the other side.
pub split_comes_next : (b : Branch) (d from i : ℕ) (e : Entry) → None_of b d conjunctive → None_of b d existential → splits_done b < most_splits
    → ((j : ℕ) → j < from → IsPending b d disjunctive j → ⊥) → FirstFree b Disjunctive from (Some i) → slice_get (entries b) i ≡ Some e
    → length (entries b) + length (left_part (beta_parts e.formula)) ≤ most_entries → ComesNext b d (go_left i)
split_comes_next b d from i e none neither few before f at fits =
    comes_next b d disjunctive i e (go_left i) refl
    (disjunctive_served b d i none neither (none_before (IsPending b d disjunctive) from i before (λ j le lt q. f.2 j le lt (disjunctive_free b d j q))) (free_disjunctive b d i few f.1))
    at (inl refl) room
  where
    left_room : HasRoom b (go_left i)
    left_room = subst (λ n. n ≤ most_entries) (sym (after_length b (go_left i) e at)) fits

    right_room : HasRoom b (go_right i)
    right_room = subst (λ n. n ≤ most_entries) (sym (after_length b (go_right i) e at ∙ ap (λ n. length (entries b) + n) (sym (same_sides e.formula (metavars b) i)))) fits

    room : (t : Done) → Serves b disjunctive i e.formula t → HasRoom b t
    room t (inl x) = subst (HasRoom b) (sym x) left_room
    room t (inr x) = subst (HasRoom b) (sym x) right_room

pub full_split : (b : Branch) (d from i : ℕ) (e : Entry) → None_of b d conjunctive → None_of b d existential → splits_done b < most_splits
    → ((j : ℕ) → j < from → IsPending b d disjunctive j → ⊥) → FirstFree b Disjunctive from (Some i) → slice_get (entries b) i ≡ Some e
    → (length (entries b) + length (left_part (beta_parts e.formula)) ≤ most_entries → ⊥) → IsLeaf b d
full_split b d from i e none neither few before f at full =
    full_is_leaf b d disjunctive i e (go_left i)
    (disjunctive_served b d i none neither (none_before (IsPending b d disjunctive) from i before (λ j le lt q. f.2 j le lt (disjunctive_free b d j q))) (free_disjunctive b d i few f.1))
    at (inl refl) (λ room. full (subst (λ n. n ≤ most_entries) (after_length b (go_left i) e at) room))

pub none_disjunctive : (b : Branch) (d from : ℕ) → ((i : ℕ) → i < from → IsPending b d disjunctive i → ⊥) → FirstFree b Disjunctive from None → None_of b d disjunctive
none_disjunctive b d from before f = none_at_all (IsPending b d disjunctive) from before (λ i le q. f i le (disjunctive_free b d i q))

-- Class 4.
pub universal_plan : (b : Branch) (g : Agenda) (born : List ℕ) (turns : List Turn) (d n : ℕ) (t : Turn) (w : Work) (p : plan.Plan) → IsSearched b g born turns → g.universal ≡ length (entries b)
    → None_of b d conjunctive → None_of b d existential → None_of b d disjunctive → Serving b d turns n (Some t) → WorksAt b t.place (instantiate t.place (next_metavar b)) w → RoomAnswer b w p → PlanMeans b d p
universal_plan b g born turns d n t w p a joined none neither nor s work answer =
    work_plan b d universal t.place work.1 w p (universal_served b g born turns d n t a joined none neither nor s.3 s.0 s.1 s.2)
    work.2 work.0 (ap principal work.0) (ap is_split work.0) work.3 answer

pub nothing_left : (b : Branch) (g : Agenda) (born : List ℕ) (turns : List Turn) (d n : ℕ) → IsSearched b g born turns → g.universal ≡ length (entries b)
    → None_of b d conjunctive → None_of b d existential → None_of b d disjunctive → Serving b d turns n None → IsLeaf b d
nothing_left b g born turns d n a joined none neither nor s = none_is_leaf b d none neither nor (none_universal b g born turns d a joined s)

-- The front of the queue, for each work.

plain_front : (b : Branch) (g : Agenda) (turns : List Turn) (k : TabKind) (i j : ℕ) (s : Done) → done_as j k ≡ s → ((x : Name) → s ≡ instantiate j x → ⊥) → IsFront b g turns k i
plain_front b g turns Alpha i j s e other = tt
plain_front b g turns (Rewrite r) i j s e other = tt
plain_front b g turns (Skolem x) i j s e other = tt
plain_front b g turns (Instance x) i j s e other = absurd (other (name_of x) (sym e))

-- a step of the first two classes uses no entry
pub no_front : (b : Branch) (g : Agenda) (turns : List Turn) (w : Work) (p : plan.Plan) → ((x : Name) → done_in w ≡ instantiate w.place x → ⊥) → RoomAnswer b w p → HasFront b g turns p
no_front b g turns w plan.TheVariants.Done other answer = tt
no_front b g turns w (plan.TheVariants.Split i) other answer = tt
no_front b g turns w (plan.TheVariants.Step v) other answer =
    subst (λ z. IsFront b g turns z.kind z.place) (sym answer.0) (plain_front b g turns w.kind w.place w.place (done_in w) refl other)

pub conjunctive_front : (b : Branch) (g : Agenda) (turns : List Turn) (e : Entry) (w : Work) (p : plan.Plan) → ServesSo b.rules w.place e (done_in w) → RoomAnswer b w p → HasFront b g turns p
conjunctive_front b g turns e w p serves answer = no_front b g turns w p (other serves) answer where
  other : ServesSo b.rules w.place e (done_in w) → (x : Name) → done_in w ≡ instantiate w.place x → ⊥
  other (inl s) x q = (let z : expand w.place ≡ instantiate w.place x = sym s.1 ∙ q in cc)
  other (inr s) x q = (let z : rewrite w.place s.0 ≡ instantiate w.place x = sym s.2 ∙ q in cc)

pub existential_front : (b : Branch) (g : Agenda) (turns : List Turn) (i : ℕ) (w : Work) (p : plan.Plan) → WorksAt b i (skolemize i (next_skolem b)) w → RoomAnswer b w p → HasFront b g turns p
existential_front b g turns i w p work answer = no_front b g turns w p (λ x q. (let z : skolemize i (next_skolem b) ≡ instantiate w.place x = sym work.0 ∙ q in cc)) answer

front_of : (b : Branch) (g : Agenda) (turns : List Turn) (t : Turn) (k : TabKind) (i : ℕ) → t.place ≡ i → g.universal ≡ length (entries b) → slice_get turns g.turn ≡ Some t → IsOpen b t → IsFront b g turns k i
front_of b g turns t Alpha i e all at still = tt
front_of b g turns t (Rewrite r) i e all at still = tt
front_of b g turns t (Skolem x) i e all at still = tt
front_of b g turns t (Instance x) i e all at still = (all, t, at, e, still)

pub universal_front : (b : Branch) (g : Agenda) (turns : List Turn) (d : ℕ) (t : Turn) (w : Work) (p : plan.Plan) → g.universal ≡ length (entries b) → Serving b d turns g.turn (Some t)
    → WorksAt b t.place (instantiate t.place (next_metavar b)) w → RoomAnswer b w p → HasFront b g turns p
universal_front b g turns d t w plan.TheVariants.Done all s work answer = tt
universal_front b g turns d t w (plan.TheVariants.Split i) all s work answer = tt
universal_front b g turns d t w (plan.TheVariants.Step v) all s work answer =
    subst (λ z. IsFront b g turns z.kind z.place) (sym answer.0) (front_of b g turns t w.kind w.place (sym work.3.at) all s.0 s.1)
