-- The lines that the walk over a closed tree writes stand for the translation's steps.
use Rattle.std.proofs.Common.{◌≡◌, ℕ, zero, suc, ◌+◌, ◌<◌, ◌≤◌, Bool, true, false, if◌then◌else◌, List, [], ◌∷◌, ◌++◌, length, map, reverse, take, drop, get_or, option_to_list, Option, Some, None, slice_get, Ok, Err, refl, ap, sym, ◌∙◌, subst, arith, append_assoc, append-nil, length-append}
use Rattle.std.specs.List.{AllByRecursion}
use Rattle.std.proofs.lemmas.Bool.{false≢true}
use Rattle.std.proofs.lemmas.List.{length-map, length-reverse, length-take, take-append-le, take-append-drop}
use Rattle.gs3_rules.specs.Rules as gs3
use Rattle.gs3_rules.specs.Rules.{Rule}
use Rattle.rewrite_expand.specs.Expansion.{gamma_steps, last_of, expansion, head_place}
use Rattle.fol_core.specs.Syntax.{PlainTerm}
use Rattle.free_terms.specs.Free.{Name}
use Rattle.free_terms.specs.View.{name_of, fills_of, fill_of}
use Rattle.unify.specs.Offers.{Offer}
use Rattle.rewrite_rules.specs.RuleView.{rewriting_of}
use Rattle.rewrite_rules.specs.declared.rule.Rewritten.{Rewritten}
use Rattle.branch_rules.specs.Branch.{Branch, Done, Entry, principal, entries, after}
use Rattle.branch_rules.specs.BranchValue.{done_as}
use Rattle.branch_rules.specs.Next.{ComesNext}
use Rattle.branch_rules.specs.Steps.{done_by}
use Rattle.branch_rules.specs.declared.step.TabKind.{TabKind}
use Rattle.branch_rules.specs.declared.step.TabKind.TheVariants as kind
use Rattle.branch_rules.specs.declared.step.TabStep.{TabStep}
use Rattle.translation.specs.StepTree.{StepTree, goes_on}
use Rattle.translation.specs.Translation.{place_in, is_positive_at, skolems, fill_under}
use Rattle.deskolem.specs.Lines.{HasRoom, opening, rules_of_line, rules_of_lines, symbol_of, symbols_of}
use Rattle.deskolem.specs.Walked.{after_all, AreNext, is_there, up_to, steps_below}
use Rattle.deskolem.specs.Walking.{Refuses, IsStep, line_for, more_for, length_for, closing_for, steps_for, closing_rules, Remains, Begins, Stands, Reaches, WalksOn, WalksSteps}
use Rattle.deskolem.specs.declared.line.Line.{Line}
use Rattle.deskolem.specs.declared.line.Line.TheVariants.{Close}
use Rattle.deskolem.specs.declared.line.Closing.{Closing}
use Rattle.deskolem.specs.declared.standing.Walk.{Walk}
use Rattle.deskolem.specs.declared.answer.GsError.{GsError}
use Rattle.deskolem.specs.declared.answer.GsError.TheVariants.{Bytes, Nesting, OutOfMemory}
use Rattle.deskolem.proofs.Fills.{reverse_last}
use Rattle.deskolem.proofs.Steps.{Advances, alpha_advances, delta_advances, gamma_advances, rewriting_advances, closing_if}
use Rattle.deskolem.proofs.Turns.{principal_kept, step_taken, step_refused}

rules_of_both : (s : Offer) (ys : List Name) (xs zs : List Line) → rules_of_lines s ys (xs ++ zs) ≡ rules_of_lines s ys xs ++ rules_of_lines s ys zs
rules_of_both s ys [] zs = refl
rules_of_both s ys (x ∷ xs) zs =
    ap (λ l. rules_of_line s ys x ++ l) (rules_of_both s ys xs zs) ∙ sym (append_assoc (rules_of_line s ys x) (rules_of_lines s ys xs) (rules_of_lines s ys zs))

symbols_of_both : (xs zs : List Line) → symbols_of (xs ++ zs) ≡ symbols_of xs ++ symbols_of zs
symbols_of_both [] zs = refl
symbols_of_both (x ∷ xs) zs = ap (λ l. symbol_of x ++ l) (symbols_of_both xs zs) ∙ sym (append_assoc (symbol_of x) (symbols_of xs) (symbols_of zs))

pub rules_of_last : (s : Offer) (ys : List Name) (xs : List Line) (x : Line) → rules_of_lines s ys (xs ++ x ∷ []) ≡ rules_of_lines s ys xs ++ rules_of_line s ys x
rules_of_last s ys xs x = rules_of_both s ys xs (x ∷ []) ∙ ap (λ l. rules_of_lines s ys xs ++ l) (append-nil (rules_of_line s ys x))

pub symbols_of_last : (xs : List Line) (x : Line) → symbols_of (xs ++ x ∷ []) ≡ symbols_of xs ++ symbol_of x
symbols_of_last xs x = symbols_of_both xs (x ∷ []) ∙ ap (λ l. symbols_of xs ++ l) (append-nil (symbol_of x))

pub rooms_of_last : (xs : List Line) (x : Line) → AllByRecursion HasRoom xs → HasRoom x → AllByRecursion HasRoom (xs ++ x ∷ [])
rooms_of_last [] x h room = (room, tt)
rooms_of_last (y ∷ xs) x h room = (h.0, rooms_of_last xs x h.1 room)

closing_is : (len literal : ℕ) (positive : Bool) (r : Rewritten) → closing_if positive literal (head_place r.head_left (len + length r.fills)) ≡ closing_rules (option_to_list (if positive then Some (record { atom = literal; negated = head_place r.head_left (len + length r.fills) }) else None))
closing_is len literal true r = refl
closing_is len literal false r = refl

advances : (s : Offer) (ys : List Name) (b : Branch) (d i : ℕ) (k : TabKind) (places : List ℕ) (len : ℕ) → ComesNext b d (done_as i k)
    → Advances s ys b (done_as i k) places len (rules_of_line s ys (line_for (slice_get (entries b) i) i k places len)) (symbol_of (line_for (slice_get (entries b) i) i k places len))
    (more_for (slice_get (entries b) i) k len) (length_for (slice_get (entries b) i) k len) (closing_rules (option_to_list (closing_for (slice_get (entries b) i) i k places len)))
advances s ys b d i kind.Alpha places len next = alpha_advances s ys b i places len _ refl
advances s ys b d i (kind.Skolem x) places len next = delta_advances s ys b d i (name_of x) places len next
advances s ys b d i (kind.Instance x) places len next = gamma_advances s ys b d i (name_of x) places len next
advances s ys b d i (kind.Rewrite r) places len next =
    let positive = is_positive_at (slice_get (entries b) i) in
    subst (Advances s ys b (done_as i (kind.Rewrite r)) places len (rules_of_line s ys (line_for (slice_get (entries b) i) i (kind.Rewrite r) places len)) []
    (more_for (slice_get (entries b) i) (kind.Rewrite r) len) (length_for (slice_get (entries b) i) (kind.Rewrite r) len))
    (closing_is len (place_in places i) positive r)
    (rewriting_advances s ys b d i (rewriting_of r) places len (length r.fills) (sym (length-map r.fills fill_of)) next)

gammas_counted : (place len : ℕ) (us : List PlainTerm) → length (gamma_steps place len us) ≡ length us
gammas_counted place len [] = refl
gammas_counted place len (u ∷ us) = ap suc (gammas_counted len (suc len) us)

opening_counted : (len place literal : ℕ) (positive head_left : Bool) (us : List PlainTerm) (head : ℕ)
    → length (opening (expansion len place literal positive head_left us)) + length (closing_if positive literal head) ≡ length us + 2
opening_counted len place literal true head_left us head =
    let x = expansion len place literal true head_left us in
    omega (arith, length-append x.before [], length-append (gamma_steps place len us) (gs3.beta (last_of place len us) ∷ []), gammas_counted place len us)
opening_counted len place literal false head_left us head =
    let x = expansion len place literal false head_left us in
    omega (arith, length-append x.before (x.closing ∷ []), length-append (gamma_steps place len us) (gs3.beta (last_of place len us) ∷ []), gammas_counted place len us)

pub counted : (s : Offer) (ys : List Name) (e : Option Entry) (i : ℕ) (k : TabKind) (places : List ℕ) (len : ℕ)
    → length (rules_of_line s ys (line_for e i k places len)) + length (closing_rules (option_to_list (closing_for e i k places len))) ≡ steps_for k
counted s ys e i kind.Alpha places len = refl
counted s ys e i (kind.Skolem x) places len = refl
counted s ys e i (kind.Instance x) places len = refl
counted s ys e i (kind.Rewrite r) places len =
    let positive = is_positive_at e in
    let literal = place_in places i in
    let us = reverse (map (fill_under s ys) (fills_of r.fills)) in
    let many : length us ≡ length r.fills = length-reverse (map (fill_under s ys) (fills_of r.fills)) ∙ length-map (fills_of r.fills) (fill_under s ys) ∙ length-map r.fills fill_of in
    ap (λ l. length (rules_of_line s ys (line_for e i (kind.Rewrite r) places len)) + length l) (sym (closing_is len literal positive r))
    ∙ opening_counted len (place_in places r.axiom) literal positive r.head_left us (head_place r.head_left (len + length r.fills))
    ∙ ap (λ n. n + 2) many

closings_with : (cs : List Closing) (found : Option Closing) → closing_rules (cs ++ option_to_list found) ≡ closing_rules (option_to_list found) ++ closing_rules cs
closings_with cs None = ap closing_rules (append-nil cs)
closings_with cs (Some c) =
    ap reverse (mapped_last cs c) ∙ reverse_last (map (λ (c : Closing). gs3.close c.atom c.negated) cs) (gs3.close c.atom c.negated) where
      mapped_last : (cs : List Closing) (c : Closing) → map (λ (c : Closing). gs3.close c.atom c.negated) (cs ++ c ∷ []) ≡ map (λ (c : Closing). gs3.close c.atom c.negated) cs ++ gs3.close c.atom c.negated ∷ []
      mapped_last [] c = refl
      mapped_last (x ∷ cs) c = ap (λ l. gs3.close x.atom x.negated ∷ l) (mapped_last cs c)

-- The next step of a segment, where the stop is not reached.
goes_further : (stop : Option ℕ) (rest : StepTree) (b : Branch) (t : Done) (ts : List Done) → is_there stop (length (entries b)) ≡ false
    → up_to stop rest b (t ∷ ts) ≡ goes_on t (up_to stop rest (after b t) ts)
goes_further stop rest b t ts e = ap (λ q. if q then rest else goes_on t (up_to stop rest (after b t) ts)) e

goes_no_further : (stop : Option ℕ) (rest : StepTree) (b : Branch) (ts : List Done) → is_there stop (length (entries b)) ≡ true → up_to stop rest b ts ≡ rest
goes_no_further stop rest b [] e = refl
goes_no_further stop rest b (t ∷ ts) e = ap (λ q. if q then rest else goes_on t (up_to stop rest (after b t) ts)) e

principal_done : (i : ℕ) (k : TabKind) → principal (done_as i k) ≡ i
principal_done i kind.Alpha = refl
principal_done i (kind.Skolem x) = refl
principal_done i (kind.Instance x) = refl
principal_done i (kind.Rewrite r) = refl

-- the principal entry of a step, as it stands at the segment's end
kept_entry : (b : Branch) (d i : ℕ) (k : TabKind) (ts : List Done) (end : Branch) → ComesNext b d (done_as i k) → end ≡ after_all (after b (done_as i k)) ts
    → slice_get (entries end) i ≡ slice_get (entries b) i
kept_entry b d i k ts end next grows =
    subst (λ j. slice_get (entries end) j ≡ slice_get (entries b) j) (principal_done i k) (principal_kept b d (done_as i k) (done_as i k ∷ ts) end next grows)

remains_as : (s : Offer) (ys : List Name) (whole : List Rule) (names : List Name) (most : ℕ) (w w' : List Rule) (z z' : List Name) (b : Branch) (p p' : List ℕ) (l l' left : ℕ) (c c' : List Rule) (rest : StepTree)
    → w ≡ w' → z ≡ z' → p ≡ p' → l ≡ l' → c ≡ c' → Remains s ys whole names most w z b p l left c rest → Remains s ys whole names most w' z' b p' l' left c' rest
remains_as s ys whole names most w w' z z' b p p' l l' left c c' rest ew ez ep el ec h =
    subst (λ x. Remains s ys whole names most x z' b p' l' left c' rest) ew
    (subst (λ x. Remains s ys whole names most w x b p' l' left c' rest) ez
    (subst (λ x. Remains s ys whole names most w z b x l' left c' rest) ep
    (subst (λ x. Remains s ys whole names most w z b p x left c' rest) el
    (subst (λ x. Remains s ys whole names most w z b p l left x rest) ec h))))

-- the whole beyond what was written before is refused
pub beyond_refused : (left : ℕ) (before whole : List Rule) (e : GsError) → Refuses (left + length before) (length (before ++ whole)) e → Refuses left (length whole) e
beyond_refused left before whole Bytes few = omega (arith, few, length-append before whole)
beyond_refused left before whole Nesting few = few
beyond_refused left before whole OutOfMemory few = tt

-- the walk at a segment's beginning
pub stands_first : (s : Offer) (ys : List Name) (d : ℕ) (b : Branch) (old : Walk) (end : Branch) (ts : List Done) (stop : Option ℕ) (rest : StepTree) → Begins d b old.places.items end ts stop rest
    → Stands s ys d (rules_of_lines s ys old.lines ++ steps_below s ys b old.places.items old.len (up_to stop rest b ts))
    (symbols_of old.lines ++ skolems (up_to stop rest b ts)) (old.left + length (rules_of_lines s ys old.lines)) old [] end ts stop rest
stands_first s ys d b old end ts stop rest h = record {
  at = b;
  grows = h.grows;
  next = h.next;
  remains = record {
    rules = ap (λ l. rules_of_lines s ys old.lines ++ l) (append-nil (steps_below s ys b old.places.items old.len (up_to stop rest b ts)));
    named = refl;
    stand = h.stand;
    counted = omega arith;
  };
}

-- one step further
pub stands_next : (s : Offer) (ys : List Name) (d : ℕ) (whole : List Rule) (names : List Name) (most : ℕ) (now new : Walk) (cs : List Closing) (found : Option Closing) (end : Branch) (i : ℕ) (k : TabKind) (ts : List Done) (stop : Option ℕ) (rest : StepTree)
    → Stands s ys d whole names most now cs end (done_as i k ∷ ts) stop rest → is_there stop (length now.places.items) ≡ false
    → IsStep (slice_get (entries end) i) i k now new → found ≡ closing_for (slice_get (entries end) i) i k now.places.items now.len
    → Stands s ys d whole names most new (cs ++ option_to_list found) end ts stop rest
stands_next s ys d whole names most now new cs found end i k ts stop rest h away moves is =
    let t = done_as i k in
    let tree = up_to stop rest (after h.at t) ts in
    let further : up_to stop rest h.at (t ∷ ts) ≡ goes_on t tree = goes_further stop rest h.at t ts (ap (is_there stop) (sym h.remains.stand) ∙ away) in
    let next : AreNext d h.at (goes_on t tree) = subst (AreNext d h.at) further h.next in
    let e = slice_get (entries h.at) i in
    let same : slice_get (entries end) i ≡ e = kept_entry h.at d i k ts end next.0 h.grows in
    let m : IsStep e i k now new = subst (λ o. IsStep o i k now new) same moves in
    let line = line_for e i k now.places.items now.len in
    let closing = closing_for e i k now.places.items now.len in
    let remains = subst (Remains s ys whole names most (rules_of_lines s ys now.lines) (symbols_of now.lines) h.at now.places.items now.len now.left (closing_rules cs)) further h.remains in
    let taken = step_taken s ys whole names most (rules_of_lines s ys now.lines) (rules_of_line s ys line) (symbols_of now.lines) (symbol_of line) h.at t now.places.items (more_for e k now.len)
    now.len (length_for e k now.len) now.left new.left (closing_rules cs) (closing_rules (option_to_list closing)) tree remains (advances s ys h.at d i k now.places.items now.len next.0)
    (ap (λ n. new.left + n) (counted s ys e i k now.places.items now.len) ∙ m.left) in
    record {
      at = after h.at t;
      grows = h.grows;
      next = next.1;
      remains = remains_as s ys whole names most _ (rules_of_lines s ys new.lines) _ (symbols_of new.lines) (after h.at t) _ new.places.items _ new.len new.left _ (closing_rules (cs ++ option_to_list found)) tree
          (sym (rules_of_last s ys now.lines line) ∙ ap (rules_of_lines s ys) (sym m.lines))
          (sym (symbols_of_last now.lines line) ∙ ap symbols_of (sym m.lines))
          (sym m.places)
          (sym m.len)
          (sym (ap (λ o. closing_rules (cs ++ option_to_list o)) (is ∙ ap (λ o. closing_for o i k now.places.items now.len) same) ∙ closings_with cs closing))
          taken;
    }

-- where the next step is refused, the whole is
pub stands_refused : (s : Offer) (ys : List Name) (d : ℕ) (whole : List Rule) (names : List Name) (most : ℕ) (now : Walk) (cs : List Closing) (end : Branch) (i : ℕ) (k : TabKind) (ts : List Done) (stop : Option ℕ) (rest : StepTree) (e : GsError)
    → Stands s ys d whole names most now cs end (done_as i k ∷ ts) stop rest → is_there stop (length now.places.items) ≡ false
    → Refuses now.left (steps_for k) e → Refuses most (length whole) e
stands_refused s ys d whole names most now cs end i k ts stop rest Bytes h away few =
    let t = done_as i k in
    let tree = up_to stop rest (after h.at t) ts in
    let further : up_to stop rest h.at (t ∷ ts) ≡ goes_on t tree = goes_further stop rest h.at t ts (ap (is_there stop) (sym h.remains.stand) ∙ away) in
    let next : AreNext d h.at (goes_on t tree) = subst (AreNext d h.at) further h.next in
    let e = slice_get (entries h.at) i in
    let line = line_for e i k now.places.items now.len in
    let closing = closing_for e i k now.places.items now.len in
    let remains = subst (Remains s ys whole names most (rules_of_lines s ys now.lines) (symbols_of now.lines) h.at now.places.items now.len now.left (closing_rules cs)) further h.remains in
    step_refused s ys whole names most (rules_of_lines s ys now.lines) (rules_of_line s ys line) (symbols_of now.lines) (symbol_of line) h.at t now.places.items (more_for e k now.len)
    now.len (length_for e k now.len) now.left (closing_rules cs) (closing_rules (option_to_list closing)) tree remains (advances s ys h.at d i k now.places.items now.len next.0)
    (subst (λ n. now.left < n) (sym (counted s ys e i k now.places.items now.len)) few)
stands_refused s ys d whole names most now cs end i k ts stop rest Nesting h away few = few
stands_refused s ys d whole names most now cs end i k ts stop rest OutOfMemory h away few = tt

pub reached_there : (s : Offer) (ys : List Name) (d : ℕ) (whole : List Rule) (names : List Name) (most : ℕ) (now : Walk) (cs : List Closing) (end : Branch) (ts : List Done) (stop : Option ℕ) (rest : StepTree)
    → Stands s ys d whole names most now cs end ts stop rest → is_there stop (length now.places.items) ≡ true → Reaches s ys d whole names most now cs end stop rest
reached_there s ys d whole names most now cs end ts stop rest h there =
    let no_further : up_to stop rest h.at ts ≡ rest = goes_no_further stop rest h.at ts (ap (is_there stop) (sym h.remains.stand) ∙ there) in
    record {
      at = h.at;
      grows = λ e. absurd (false≢true (ap (λ o. is_there o (length now.places.items)) (sym e) ∙ there));
      next = subst (AreNext d h.at) no_further h.next;
      remains = subst (Remains s ys whole names most (rules_of_lines s ys now.lines) (symbols_of now.lines) h.at now.places.items now.len now.left (closing_rules cs)) no_further h.remains;
    }

pub reached_end : (s : Offer) (ys : List Name) (d : ℕ) (whole : List Rule) (names : List Name) (most : ℕ) (now : Walk) (cs : List Closing) (end : Branch) (stop : Option ℕ) (rest : StepTree)
    → Stands s ys d whole names most now cs end [] stop rest → Reaches s ys d whole names most now cs end stop rest
reached_end s ys d whole names most now cs end stop rest h = record { at = h.at; grows = λ e. h.grows; next = h.next; remains = h.remains }

-- a step more to be walked, or none
next_step : (steps : List TabStep) (n : ℕ) (step : TabStep) → n < length steps → step ≡ get_or steps n step → map done_by (drop n steps) ≡ done_by step ∷ map done_by (drop (suc n) steps)
next_step [] n step lt e = let no_place : ⊥ = omega (arith, lt) in absurd no_place
next_step (x ∷ steps) zero step lt e = ap (λ z. done_by z ∷ map done_by steps) (sym e)
next_step (x ∷ steps) (suc n) step lt e = next_step steps n step (omega (arith, lt)) e

none_left : (steps : List TabStep) (n : ℕ) → length steps ≤ n → map done_by (drop n steps) ≡ []
none_left [] zero le = refl
none_left [] (suc n) le = refl
none_left (x ∷ steps) zero le = let no_place : ⊥ = omega (arith, le) in absurd no_place
none_left (x ∷ steps) (suc n) le = none_left steps n (omega (arith, le))

pub walks_first : (old : Walk) (end : Branch) (steps : List Done) (stop : Option ℕ) → WalksOn old end steps stop old [] steps
walks_first old end steps stop s ys d b rest begins = stands_first s ys d b old end steps stop rest begins

module _ (old now : Walk) (cs : List Closing) (end : Branch) (steps : List TabStep) (n : ℕ) (stop : Option ℕ) (on : WalksOn old end (map done_by steps) stop now cs (map done_by (drop n steps))) where
  stands_at : (s : Offer) (ys : List Name) (d : ℕ) (b : Branch) (rest : StepTree) (ts : List Done) → map done_by (drop n steps) ≡ ts → Begins d b old.places.items end (map done_by steps) stop rest
      → Stands s ys d (rules_of_lines s ys old.lines ++ steps_below s ys b old.places.items old.len (up_to stop rest b (map done_by steps)))
      (symbols_of old.lines ++ skolems (up_to stop rest b (map done_by steps))) (old.left + length (rules_of_lines s ys old.lines)) now cs end ts stop rest
  stands_at s ys d b rest ts e begins =
      subst (λ l. Stands s ys d (rules_of_lines s ys old.lines ++ steps_below s ys b old.places.items old.len (up_to stop rest b (map done_by steps)))
      (symbols_of old.lines ++ skolems (up_to stop rest b (map done_by steps))) (old.left + length (rules_of_lines s ys old.lines)) now cs end l stop rest) e (on s ys d b rest begins)

  pub walks_further : (new : Walk) (more : List Closing) (found : Option Closing) (step : TabStep) → n < length steps → step ≡ get_or steps n step
      → is_there stop (length now.places.items) ≡ false → IsStep (slice_get (entries end) step.place) step.place step.kind now new
      → found ≡ closing_for (slice_get (entries end) step.place) step.place step.kind now.places.items now.len → more ≡ cs ++ option_to_list found
      → WalksOn old end (map done_by steps) stop new more (map done_by (drop (n + 1) steps))
  walks_further new more found step lt at away moves is noted s ys d b rest begins =
      let ts = map done_by (drop (suc n) steps) in
      let further : suc n ≡ n + 1 = omega arith in
      let whole = rules_of_lines s ys old.lines ++ steps_below s ys b old.places.items old.len (up_to stop rest b (map done_by steps)) in
      let names = symbols_of old.lines ++ skolems (up_to stop rest b (map done_by steps)) in
      let most = old.left + length (rules_of_lines s ys old.lines) in
      subst (λ m. Stands s ys d whole names most new more end (map done_by (drop m steps)) stop rest) further
      (subst (λ l. Stands s ys d whole names most new l end ts stop rest) (sym noted)
      (stands_next s ys d whole names most now new cs found end step.place step.kind ts stop rest
      (stands_at s ys d b rest (done_by step ∷ ts) (next_step steps n step lt at) begins) away moves is))

  pub walks_refused : (new : Walk) (step : TabStep) (e : GsError) → n < length steps → step ≡ get_or steps n step → is_there stop (length now.places.items) ≡ false
      → Refuses now.left (steps_for step.kind) e → WalksSteps old end (map done_by steps) stop new (Err e)
  walks_refused new step e lt at away few s ys d b rest begins =
      let ts = map done_by (drop (suc n) steps) in
      let below = steps_below s ys b old.places.items old.len (up_to stop rest b (map done_by steps)) in
      beyond_refused old.left (rules_of_lines s ys old.lines) below e
      (stands_refused s ys d (rules_of_lines s ys old.lines ++ below) (symbols_of old.lines ++ skolems (up_to stop rest b (map done_by steps))) (old.left + length (rules_of_lines s ys old.lines)) now cs end step.place step.kind ts stop rest e
      (stands_at s ys d b rest (done_by step ∷ ts) (next_step steps n step lt at) begins) away few)

  pub walks_there : is_there stop (length now.places.items) ≡ true → WalksSteps old end (map done_by steps) stop now (Ok cs)
  walks_there there s ys d b rest begins =
      reached_there s ys d (rules_of_lines s ys old.lines ++ steps_below s ys b old.places.items old.len (up_to stop rest b (map done_by steps))) (symbols_of old.lines ++ skolems (up_to stop rest b (map done_by steps)))
      (old.left + length (rules_of_lines s ys old.lines)) now cs end (map done_by (drop n steps)) stop rest (on s ys d b rest begins) there

  pub walks_end : length steps ≤ n → WalksSteps old end (map done_by steps) stop now (Ok cs)
  walks_end le s ys d b rest begins =
      reached_end s ys d (rules_of_lines s ys old.lines ++ steps_below s ys b old.places.items old.len (up_to stop rest b (map done_by steps))) (symbols_of old.lines ++ skolems (up_to stop rest b (map done_by steps)))
      (old.left + length (rules_of_lines s ys old.lines)) now cs end stop rest (stands_at s ys d b rest [] (none_left steps n le) begins)

-- places that stay in front
pub kept_more : (old now new more : List ℕ) → take (length old) now ≡ old → new ≡ now ++ more → take (length old) new ≡ old
kept_more old now new more kept is =
    let long : length old ≤ length now = omega (arith, ap length (sym kept), length-take (length old) now) in
    ap (take (length old)) is ∙ take-append-le (length old) now more long ∙ kept

pub kept_all : (xs : List ℕ) → take (length xs) xs ≡ xs
kept_all [] = refl
kept_all (x ∷ xs) = ap (λ l. x ∷ l) (kept_all xs)

-- the last of the closings is written first
pub closed_one : (s : Offer) (ys : List Name) (lines : List Line) (before : List Rule) (all cs : List Closing) (i j : ℕ) → all ≡ cs ++ record { atom = i; negated = j } ∷ []
    → rules_of_lines s ys lines ++ closing_rules all ≡ before → rules_of_lines s ys (lines ++ Close i j ∷ []) ++ closing_rules cs ≡ before
closed_one s ys lines before all cs i j is so_far =
    ap (λ l. l ++ closing_rules cs) (rules_of_last s ys lines (Close i j)) ∙ append_assoc (rules_of_lines s ys lines) (gs3.close i j ∷ []) (closing_rules cs)
    ∙ ap (λ l. rules_of_lines s ys lines ++ l) (sym (closings_with cs (Some (record { atom = i; negated = j }))) ∙ ap closing_rules (sym is)) ∙ so_far

pub closed_symbols : (lines : List Line) (i j : ℕ) → symbols_of (lines ++ Close i j ∷ []) ≡ symbols_of lines
closed_symbols lines i j = symbols_of_last lines (Close i j) ∙ append-nil (symbols_of lines)

-- the places of what stood before the side of a split
pub kept_front : (old mid last run : List ℕ) → mid ≡ old ++ run → take (length mid) last ≡ mid → take (length old) last ≡ old
kept_front old mid last run is kept =
    let whole : last ≡ old ++ (run ++ drop (length mid) last) =
    sym (take-append-drop (length mid) last) ∙ ap (λ l. l ++ drop (length mid) last) (kept ∙ is) ∙ append_assoc old run (drop (length mid) last) in
    ap (take (length old)) whole ∙ take-append-le (length old) old (run ++ drop (length mid) last) (omega arith) ∙ kept_all old
