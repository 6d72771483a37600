-- The lists of a side of a split are read off its branch, and its agenda is kept.
use Rattle.std.proofs.Common.{◌≡◌, ℕ, zero, suc, ◌+◌, ◌*◌, ◌<◌, ◌≤◌, ◌^◌, List, [], ◌∷◌, ◌++◌, map, length, get_or, Option, Some, None, slice_get, refl, ap, sym, ◌∙◌, subst, arith, ◌⊎◌, inl, inr, MatchOption}
use Rattle.std.proofs.Math.Pow.{pow_mono}
use Rattle.std.proofs.lemmas.Grind.{pow_more}
use Rattle.std.proofs.lemmas.Option.{slice_get_within}
use Rattle.free_terms.specs.View.{formula_of, formulas_of}
use Rattle.free_terms.specs.View.{FreeTermFormula}
use Rattle.branch_rules.specs.Branch.{Branch, Done, Entry, left_part, right_part, go_left, go_right, principal, made_of, level_of, entries, metavars, after, segment, segment_after, metavars_made, skolems_made, splits_done}
use Rattle.branch_rules.specs.Next.{disjunctive, universal, most_entries, most_splits, IsPending, HasRoom}
use Rattle.branch_rules.specs.BranchValue.{BranchValue, branch_of, entry_of, done_of}
use Rattle.branch_rules.specs.BranchView.{entries_held, born_in, value_with, branch_in, Reads, IsAgenda, IsReady, IsSplitting, HoldSame}
use Rattle.branch_rules.specs.Steps.{IsAfter}
use Rattle.branch_rules.specs.ListsGrown.{held_at, turns_by, place_of, IsGrown}
use Rattle.branch_rules.specs.Halves.{side_of, IsHalf, IsSide}
use Rattle.gs3_rules.specs.Rules.{beta_parts}
use Rattle.branch_rules.specs.declared.held.Entry as code
use Rattle.branch_rules.specs.declared.held.Held.{Held}
use Rattle.branch_rules.specs.Taken.{past_disjunctive}
use Rattle.seg_list.specs.Branching.{Branching}
use Rattle.branch_rules.specs.declared.step.Done as code_done
use Rattle.branch_rules.specs.declared.step.Done.TheVariants.{Step, Left, Right}
use Rattle.branch_rules.specs.declared.branch.Turn.{Turn}
use Rattle.branch_rules.specs.declared.branch.Agenda.{Agenda}
use Rattle.branch_rules.specs.declared.branch.Counts.{Counts}
use Rattle.branch_rules.specs.declared.branch.Lists.{Lists}
use Rattle.branch_rules.proofs.Grown.{appended}
use Rattle.branch_rules.proofs.Grows.{GrowsBy, branch_after, reads_grow}
use Rattle.branch_rules.proofs.Lengthened.{place_principal, grows_by}
use Rattle.branch_rules.proofs.Changes.{splits_grow, segment_grow, metavars_made_grow, skolems_made_grow}
use Rattle.branch_rules.proofs.Stepped.{disjunctive_stepped}
use Rattle.branch_rules.proofs.Chosen.{length_is}
use Rattle.branch_rules.proofs.Same.{same_branch, reads_same, agenda_same}
use Rattle.branch_rules.proofs.Taken.{none_more, appends, growing, grown_length, not_universal}

half_splits : (b : Branch) (d : code_done.Done) → IsHalf d → splits_done (after b (done_of d)) ≡ splits_done b + 1
half_splits b (Left i) h = splits_grow b (go_left i)
half_splits b (Right i) h = splits_grow b (go_right i)
half_splits b (Step i k) h = absurd h

half_metavars : (b : Branch) (d : code_done.Done) → IsHalf d → metavars_made 0 (after b (done_of d)).steps ≡ 0
half_metavars b (Left i) h = metavars_made_grow b (go_left i)
half_metavars b (Right i) h = metavars_made_grow b (go_right i)
half_metavars b (Step i k) h = absurd h

half_skolems : (b : Branch) (d : code_done.Done) → IsHalf d → skolems_made 0 (after b (done_of d)).steps ≡ 0
half_skolems b (Left i) h = skolems_made_grow b (go_left i)
half_skolems b (Right i) h = skolems_made_grow b (go_right i)
half_skolems b (Step i k) h = absurd h

half_level : (n : ℕ) (d : code_done.Done) → IsHalf d → level_of n (done_of d) ≡ n
half_level n (Left i) h = refl
half_level n (Right i) h = refl
half_level n (Step i k) h = absurd h

half_turns : (turns : List Turn) (d : code_done.Done) (n u : ℕ) → IsHalf d → turns ++ turns_by d n u ≡ turns
half_turns turns (Left i) n u h = none_more turns
half_turns turns (Right i) n u h = none_more turns
half_turns turns (Step i k) n u h = absurd h

half_room : (b : Branch) (d : code_done.Done) → IsHalf d → IsReady b (place_of d) → HasRoom b (done_of d)
half_room b (Left i) h r = r.left_room
half_room b (Right i) h r = r.right_room
half_room b (Step i k) h r = absurd h

half_name : (s n : ℕ) (d : code_done.Done) → IsHalf d → s < 2 ^ (n + 1) → segment_after s (done_of d ∷ []) < 2 ^ (n + 1 + 1)
half_name s n (Left i) h lt = (let twice = pow_more 2 (n + 1) in omega (arith, twice, lt))
half_name s n (Right i) h lt = (let twice = pow_more 2 (n + 1) in omega (arith, twice, lt))
half_name s n (Step i k) h lt = absurd h

-- What a side is, from lists that hold the same and then grew by it.
pub side_left : (l f m : Lists) (g : Agenda) (turns forked more : List Turn) (d : code_done.Done) (level : ℕ) (fs : List FreeTermFormula) (name : ℕ) (ready : Option ℕ) → Reads (branch_in l) l → IsAgenda (branch_in l) g (born_in l) turns
    → IsReady (branch_in l) (place_of d) → IsSide (value_with l ready) d level fs name → HoldSame l f → forked ≡ turns → IsGrown f m forked more d level fs 0 → m.counts ≡ side_of l.counts name
    → Reads (branch_in m) m × IsAgenda (branch_in m) (past_disjunctive g (place_of d)) (born_in m) more × (branch_in m ≡ after (branch_in l) (done_of d))
side_left l f m g turns forked more d level fs name ready r a is_ready side same copied grown counts =
    (subst (λ z. Reads z m) (sym become) reads, subst (λ z. IsAgenda z (past_disjunctive g (place_of d)) (born_in m) more) (sym become) agenda, become ∙ ap (λ z. after z (done_of d)) same_b) where
      b : Branch
      b = branch_in f

      same_b : b ≡ branch_in l
      same_b = same_branch l f same

      rf : Reads b f
      rf = reads_same l f same r

      af : IsAgenda b g (born_in f) forked
      af = agenda_same l f g turns forked same copied a

      ready_f : IsReady b (place_of d)
      ready_f = subst (λ z. IsReady z (place_of d)) (sym same_b) is_ready

      s : Done
      s = done_of d

      at : slice_get (entries b) (place_of d) ≡ Some side.entry
      at = ap (λ z. slice_get (entries z) (place_of d)) same_b ∙ side.at

      here : place_of d < length f.entries.items
      here = let w : place_of d < length (entries b) = slice_get_within (entries b) (place_of d) side.entry at in omega (arith, w, length_is b f rf)

      new : List Held
      new = held_at level (suc (length f.steps.items)) fs

      grows : GrowsBy f m d new
      grows = grows_by f m forked more d level fs 0 grown

      become : branch_in m ≡ after b s
      become = branch_after f m d new rf.start_within grows

      adds : entries_held new ≡ appended b s
      adds = appends b s (place_of d) level (suc (length f.steps.items)) side.entry fs (place_principal d) at (side.makes ∙ ap (λ z. made_of (metavars z) side.entry.formula s) (sym same_b))
          (side.level_is ∙ sym (half_level side.entry.level d side.half))

      splits : m.counts.splits ≡ l.counts.splits + 1
      splits = ap (λ c. c.splits) counts

      named : m.counts.segment ≡ segment_after (segment (branch_in l)) (s ∷ [])
      named = ap (λ c. c.segment) counts ∙ side.name_is

      few : splits_done (branch_in l) < most_splits
      few = is_ready.few

      reads : Reads (after b s) m
      reads = reads_grow f m d new rf grows (omega (arith, here, place_principal d)) adds
          (named ∙ ap (λ z. segment_after (segment z) (s ∷ [])) (sym same_b) ∙ sym (segment_grow b s))
          (ap (λ c. c.metavars) counts ∙ sym (half_metavars b d side.half))
          (ap (λ c. c.skolems) counts ∙ sym (half_skolems b d side.half))
          (splits ∙ ap (λ k. k + 1) (r.splits_are ∙ ap splits_done (sym same_b)) ∙ sym (half_splits b d side.half))
          (let e : l.counts.splits ≡ splits_done (branch_in l) = r.splits_are in omega (arith, few, splits, e))
          (subst (λ z. z < 2 ^ (m.counts.splits + 1)) (sym named) (subst (λ z. segment_after (segment (branch_in l)) (s ∷ []) < 2 ^ (z + 1)) (sym splits)
          (half_name (segment (branch_in l)) l.counts.splits d side.half (subst (λ z. z < 2 ^ (l.counts.splits + 1)) r.segment_is r.segment_fits))))
          (subst (λ z. z ≤ most_entries) (sym (grown_length f m d new rf adds grows)) (half_room b d side.half ready_f))

      agenda : IsAgenda (after b s) (past_disjunctive g (place_of d)) (born_in m) more
      agenda = subst (IsAgenda (after b s) (past_disjunctive g (place_of d)) (born_in m)) (sym (grown.queue ∙ half_turns forked d (suc (length f.steps.items)) 0 side.half))
          (subst (λ i. IsAgenda (after b s) (past_disjunctive g i) (born_in m) forked) (place_principal d)
          (disjunctive_stepped b s g (born_in f) (born_in m) forked (growing f m d new rf here adds grows)
          (λ u. not_universal b 0 disjunctive (principal s) (subst (λ i. IsPending b 0 disjunctive i) (sym (place_principal d)) (ready_f.pending 0)) (λ e. cc) u)
          (subst (IsReady b) (sym (place_principal d)) ready_f) af))

pub splitting_at : (l : Lists) (turns : Branching Turn) (o : Option ℕ) (i : ℕ) → o ≡ Some i → MatchOption o (Unit {0}) (IsSplitting l turns) → IsSplitting l turns i
splitting_at l turns o i e h = subst (λ z. MatchOption z (Unit {0}) (IsSplitting l turns)) e h

pub left_is_side : (l : Lists) (ready : Option ℕ) (place : ℕ) (e : code.Entry) (fs : List FreeTermFormula) → Reads (branch_in l) l → ready ≡ Some place → slice_get (entries (branch_in l)) place ≡ Some (entry_of e)
    → formulas_of fs ≡ left_part (beta_parts (formula_of e.formula)) → IsSide (value_with l ready) (Left place) e.level fs (2 * l.counts.segment)
left_is_side l ready place e fs r is at makes = record { half = tt; ready = is; entry = entry_of e; at = at; level_is = refl; makes = makes; name_is = ap (λ n. 2 * n) r.segment_is }

pub right_is_side : (l : Lists) (ready : Option ℕ) (place : ℕ) (e : code.Entry) (fs : List FreeTermFormula) → Reads (branch_in l) l → ready ≡ Some place → slice_get (entries (branch_in l)) place ≡ Some (entry_of e)
    → formulas_of fs ≡ right_part (beta_parts (formula_of e.formula)) → IsSide (value_with l ready) (Right place) e.level fs (2 * l.counts.segment + 1)
right_is_side l ready place e fs r is at makes = record { half = tt; ready = is; entry = entry_of e; at = at; level_is = refl; makes = makes; name_is = ap (λ n. 2 * n + 1) r.segment_is }

pub ready_within : (l : Lists) (i : ℕ) → Reads (branch_in l) l → IsReady (branch_in l) i → i < length l.entries.items
ready_within l i r h = let p = h.pending 0 in let w : i < length (entries (branch_in l)) = slice_get_within (entries (branch_in l)) i p.0 p.1 in omega (arith, w, length_is (branch_in l) l r)

-- the names of both sides are numbers of 128 bits
pub names_fit : (l : Lists) (i : ℕ) → Reads (branch_in l) l → IsReady (branch_in l) i → 2 * l.counts.segment + 1 < 2 ^ 128
names_fit l i r h =
    let few : splits_done (branch_in l) < most_splits = h.few in
    let is : l.counts.splits ≡ splits_done (branch_in l) = r.splits_are in
    let named : l.counts.segment < 2 ^ (l.counts.splits + 1) = r.segment_fits in
    let least : l.counts.splits + 1 ≤ 120 = omega (arith, few, is) in
    let most = pow_mono least in omega (arith, named, most)
