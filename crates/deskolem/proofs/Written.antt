-- What is written of a segment, of a split and of a closed tree.
use Rattle.std.proofs.Common.{◌≡◌, ℕ, ◌+◌, List, [], ◌∷◌, ◌++◌, length, Option, Some, None, slice_get, Result, Ok, Err, refl, ap, sym, ◌∙◌, subst, arith, append_assoc, length-append}
use Rattle.std.specs.Prelude.{⊤}
use Rattle.gs3_rules.specs.Rules as gs3
use Rattle.gs3_rules.specs.Rules.{Rule}
use Rattle.free_terms.specs.Free.{Name}
use Rattle.unify.specs.Offers.{Offer}
use Rattle.branch_rules.specs.Branch.{Branch, go_left, go_right, entries, after}
use Rattle.tab_tree.specs.Items.{Item, pair, false_at, not_true, newest}
use Rattle.tab_tree.specs.Segments.{Segment}
use Rattle.tab_tree.specs.ClosedTree.{ClosedTree, closed, forked}
use Rattle.translation.specs.StepTree.{StepTree, closes, forks, or_zero, step_tree}
use Rattle.translation.specs.Translation.{place_in, run_of, skolems, closing}
use Rattle.deskolem.specs.Lines.{HasRoom, rules_of_line, rules_of_lines, symbol_of, symbols_of}
use Rattle.deskolem.specs.Walked.{after_all, AreNext, GrowsFrom, up_to, left_of, right_of, steps_below}
use Rattle.deskolem.specs.Walking.{Refuses, closing_rules, closing_line, Begins, Reaches, WalksSteps, Writes, Wrote, Walks, WalksFork, WalksFrom}
use Rattle.deskolem.specs.declared.line.Line.{Line}
use Rattle.deskolem.specs.declared.line.Line.TheVariants.{Beta}
use Rattle.deskolem.specs.declared.line.Closing.{Closing}
use Rattle.deskolem.specs.declared.standing.Walk.{Walk}
use Rattle.deskolem.specs.declared.answer.GsError.{GsError}
use Rattle.deskolem.specs.declared.answer.GsError.TheVariants.{Bytes, Nesting, OutOfMemory}
use Rattle.deskolem.proofs.Steps.{fork_in_turn, left_stands, right_stands}
use Rattle.deskolem.proofs.Turns.{until_is, along_is}
use Rattle.deskolem.proofs.Walks.{rules_of_last, symbols_of_last}

pub first_refused : (left : ℕ) (xs zs : List Rule) (e : GsError) → Refuses left (length xs) e → Refuses left (length (xs ++ zs)) e
first_refused left xs zs Bytes few = omega (arith, few, length-append xs zs)
first_refused left xs zs Nesting few = few
first_refused left xs zs OutOfMemory few = tt

-- some rules, and then others
pub wrote_both : (s : Offer) (ys : List Name) (xs zs : List Rule) (ns ms : List Name) (a b c : Walk) (result : Result ⊤ GsError) → Writes s ys xs ns a b → Wrote s ys zs ms b c result → Wrote s ys (xs ++ zs) (ns ++ ms) a c result
wrote_both s ys xs zs ns ms a b c (Ok u) first then_ = record {
  rules = then_.rules ∙ ap (λ l. l ++ zs) first.rules ∙ append_assoc (rules_of_lines s ys a.lines) xs zs;
  named = then_.named ∙ ap (λ l. l ++ ms) first.named ∙ append_assoc (symbols_of a.lines) ns ms;
  left = omega (arith, first.left, then_.left, length-append xs zs);
}
wrote_both s ys xs zs ns ms a b c (Err Bytes) first then_ = omega (arith, first.left, then_, length-append xs zs)
wrote_both s ys xs zs ns ms a b c (Err Nesting) first then_ = then_
wrote_both s ys xs zs ns ms a b c (Err OutOfMemory) first then_ = tt

-- one line of one step
pub line_written : (s : Offer) (ys : List Name) (a b : Walk) (line : Line) (rule : Rule) → b.lines ≡ a.lines ++ line ∷ [] → b.left + 1 ≡ a.left
    → rules_of_line s ys line ≡ rule ∷ [] → symbol_of line ≡ [] → Writes s ys (rule ∷ []) [] a b
line_written s ys a b line rule lines left is none = record {
  rules = ap (rules_of_lines s ys) lines ∙ rules_of_last s ys a.lines line ∙ ap (λ l. rules_of_lines s ys a.lines ++ l) is;
  named = ap symbols_of lines ∙ symbols_of_last a.lines line ∙ ap (λ l. symbols_of a.lines ++ l) none;
  left = left;
}

-- What remains behind a segment's steps was written, and then its closings: so the whole was.
all_written : (s : Offer) (ys : List Name) (whole : List Rule) (names : List Name) (d : ℕ) (old now mid new : Walk) (cs : List Closing) (end : Branch) (stop : Option ℕ) (rest : StepTree)
    → (h : Reaches s ys d (rules_of_lines s ys old.lines ++ whole) (symbols_of old.lines ++ names) (old.left + length (rules_of_lines s ys old.lines)) now cs end stop rest)
    → Writes s ys (steps_below s ys h.at now.places.items now.len rest) (skolems rest) now mid
    → rules_of_lines s ys new.lines ≡ rules_of_lines s ys mid.lines ++ closing_rules cs → symbols_of new.lines ≡ symbols_of mid.lines → new.left ≡ mid.left
    → Writes s ys whole names old new
all_written s ys whole names d old now mid new cs end stop rest h w rules named left =
    let below = steps_below s ys h.at now.places.items now.len rest in
    let r : Rule → List Rule = λ x. x ∷ [] in
    let all : rules_of_lines s ys new.lines ≡ rules_of_lines s ys old.lines ++ whole =
    rules ∙ ap (λ l. l ++ closing_rules cs) w.rules ∙ append_assoc (rules_of_lines s ys now.lines) below (closing_rules cs) ∙ h.remains.rules in
    record {
      rules = all;
      named = named ∙ w.named ∙ h.remains.named;
      left = omega (
        arith,
        left,
        w.left,
        h.remains.counted,
        ap length (sym h.remains.rules),
        length-append (rules_of_lines s ys now.lines) (below ++ closing_rules cs),
        length-append below (closing_rules cs),
        length-append (rules_of_lines s ys old.lines) whole,
      );
    }

all_refused : (s : Offer) (ys : List Name) (whole : List Rule) (names : List Name) (d : ℕ) (old now : Walk) (cs : List Closing) (end : Branch) (stop : Option ℕ) (rest : StepTree) (e : GsError)
    → (h : Reaches s ys d (rules_of_lines s ys old.lines ++ whole) (symbols_of old.lines ++ names) (old.left + length (rules_of_lines s ys old.lines)) now cs end stop rest)
    → Refuses now.left (length (steps_below s ys h.at now.places.items now.len rest)) e → Refuses old.left (length whole) e
all_refused s ys whole names d old now cs end stop rest Bytes h few =
    let below = steps_below s ys h.at now.places.items now.len rest in
    omega (
      arith,
      few,
      h.remains.counted,
      ap length (sym h.remains.rules),
      length-append (rules_of_lines s ys now.lines) (below ++ closing_rules cs),
      length-append below (closing_rules cs),
      length-append (rules_of_lines s ys old.lines) whole,
    )
all_refused s ys whole names d old now cs end stop rest Nesting h few = few
all_refused s ys whole names d old now cs end stop rest OutOfMemory h few = tt

closing_rule : (s : Offer) (ys : List Name) (places : List ℕ) (item : Item) → rules_of_line s ys (closing_line places item) ≡ closing places item ∷ []
closing_rule s ys places (pair i j) = refl
closing_rule s ys places (false_at i) = refl
closing_rule s ys places (not_true i) = refl

closing_symbol : (places : List ℕ) (item : Item) → symbol_of (closing_line places item) ≡ []
closing_symbol places (pair i j) = refl
closing_symbol places (false_at i) = refl
closing_symbol places (not_true i) = refl

pub closing_room : (places : List ℕ) (item : Item) → HasRoom (closing_line places item)
closing_room places (pair i j) = tt
closing_room places (false_at i) = tt
closing_room places (not_true i) = tt

-- a segment's steps, up to a stop and then the rest, where this is that tree
begins_at : (d : ℕ) (b : Branch) (places : List ℕ) (g : Segment) (stop : Option ℕ) (rest tree : StepTree) → tree ≡ up_to stop rest b g.steps
    → length places ≡ length (entries b) → g.branch ≡ after_all b g.steps → AreNext d b tree → Begins d b places g.branch g.steps stop rest
begins_at d b places g stop rest tree is stand grows next = record { stand = stand; grows = grows; next = subst (AreNext d b) is next }

wrote_as : (s : Offer) (ys : List Name) (b : Branch) (tree more : StepTree) (old new : Walk) (result : Result ⊤ GsError) → tree ≡ more
    → Wrote s ys (steps_below s ys b old.places.items old.len more) (skolems more) old new result → Wrote s ys (steps_below s ys b old.places.items old.len tree) (skolems tree) old new result
wrote_as s ys b tree more old new result is w = subst (λ c. Wrote s ys (steps_below s ys b old.places.items old.len c) (skolems c) old new result) (sym is) w

-- A segment that closes by the item.
module _ (g : Segment) (item : Item) (old : Walk) where
  pub leaf_steps_refused : (now new : Walk) (e : GsError) → WalksSteps old g.branch g.steps (Some (newest item)) now (Err e) → Walks (closed g item) old new (Err e)
  leaf_steps_refused now new e h s ys d b stand grows next =
      wrote_as s ys b _ _ old new (Err e) (until_is item b g.steps)
      (h s ys d b (closes item) (begins_at d b old.places.items g (Some (newest item)) (closes item) _ (until_is item b g.steps) stand grows next))

  pub leaf_refused : (now new : Walk) (cs : List Closing) (e : GsError) → WalksSteps old g.branch g.steps (Some (newest item)) now (Ok cs) → Refuses now.left 1 e → Walks (closed g item) old new (Err e)
  leaf_refused now new cs e h few s ys d b stand grows next =
      wrote_as s ys b _ _ old new (Err e) (until_is item b g.steps)
      (all_refused s ys _ _ d old now cs g.branch (Some (newest item)) (closes item) e
      (h s ys d b (closes item) (begins_at d b old.places.items g (Some (newest item)) (closes item) _ (until_is item b g.steps) stand grows next)) few)

  pub leaf_written : (now mid new : Walk) (cs : List Closing) (u : ⊤) → WalksSteps old g.branch g.steps (Some (newest item)) now (Ok cs)
      → mid.lines ≡ now.lines ++ closing_line now.places.items item ∷ [] → mid.left + 1 ≡ now.left
      → ((s : Offer) (ys : List Name) → rules_of_lines s ys new.lines ≡ rules_of_lines s ys mid.lines ++ closing_rules cs) → symbols_of new.lines ≡ symbols_of mid.lines → new.left ≡ mid.left
      → Walks (closed g item) old new (Ok u)
  leaf_written now mid new cs u h lines left rules named same s ys d b stand grows next =
      let reached = h s ys d b (closes item) (begins_at d b old.places.items g (Some (newest item)) (closes item) _ (until_is item b g.steps) stand grows next) in
      let tree = up_to (Some (newest item)) (closes item) b g.steps in
      wrote_as s ys b _ tree old new (Ok u) (until_is item b g.steps)
      (all_written s ys _ _ d old now mid new cs g.branch (Some (newest item)) (closes item) reached
      (line_written s ys now mid (closing_line now.places.items item) (closing now.places.items item) lines left (closing_rule s ys now.places.items item) (closing_symbol now.places.items item))
      (rules s ys) named same)

-- A segment that splits.
module _ (g : Segment) (c c' : ClosedTree) (old : Walk) where
  -- the split, and what is below it
  abbrev pub fork_of : StepTree
  fork_of = let i = or_zero g.splits_at in forks i (step_tree (after g.branch (go_left i)) c) (step_tree (after g.branch (go_right i)) c')

  at_the_end : (s : Offer) (ys : List Name) (d : ℕ) (whole : List Rule) (names : List Name) (most : ℕ) (now : Walk) (cs : List Closing) → Reaches s ys d whole names most now cs g.branch None fork_of
      → (h : Reaches s ys d whole names most now cs g.branch None fork_of) × (h.at ≡ g.branch)
  at_the_end s ys d whole names most now cs h = (h, sym (h.grows refl))

  pub fork_steps_refused : (now new : Walk) (e : GsError) → WalksSteps old g.branch g.steps None now (Err e) → Walks (forked g c c') old new (Err e)
  fork_steps_refused now new e h s ys d b stand grows next =
      wrote_as s ys b _ _ old new (Err e) (along_is fork_of b g.steps)
      (h s ys d b fork_of (begins_at d b old.places.items g None fork_of _ (along_is fork_of b g.steps) stand grows.0 next))

  sides_at : (s : Offer) (ys : List Name) (d : ℕ) (whole : List Rule) (names : List Name) (most : ℕ) (now mid : Walk) (cs : List Closing) (result : Result ⊤ GsError)
      → (h : Reaches s ys d whole names most now cs g.branch None fork_of) → WalksFork g.branch (or_zero g.splits_at) c c' now mid result
      → GrowsFrom (after g.branch (go_left (or_zero g.splits_at))) c → GrowsFrom (after g.branch (go_right (or_zero g.splits_at))) c'
      → Wrote s ys (steps_below s ys h.at now.places.items now.len fork_of) (skolems fork_of) now mid result
  sides_at s ys d whole names most now mid cs result h w left right =
      let same : g.branch ≡ h.at = h.grows refl in
      subst (λ a. Wrote s ys (steps_below s ys a now.places.items now.len fork_of) (skolems fork_of) now mid result) same
      (w s ys d (h.remains.stand ∙ ap (λ a. length (entries a)) (sym same)) left right (subst (λ a. AreNext d a fork_of) (sym same) h.next))

  pub fork_refused : (now mid new : Walk) (cs : List Closing) (e : GsError) → WalksSteps old g.branch g.steps None now (Ok cs) → WalksFork g.branch (or_zero g.splits_at) c c' now mid (Err e) → Walks (forked g c c') old new (Err e)
  fork_refused now mid new cs e h w s ys d b stand grows next =
      let reached = h s ys d b fork_of (begins_at d b old.places.items g None fork_of _ (along_is fork_of b g.steps) stand grows.0 next) in
      wrote_as s ys b _ (up_to None fork_of b g.steps) old new (Err e) (along_is fork_of b g.steps)
      (all_refused s ys _ _ d old now cs g.branch None fork_of e reached (sides_at s ys d _ _ _ now mid cs (Err e) reached w grows.1 grows.2))

  pub fork_written : (now mid new : Walk) (cs : List Closing) (u v : ⊤) → WalksSteps old g.branch g.steps None now (Ok cs) → WalksFork g.branch (or_zero g.splits_at) c c' now mid (Ok v)
      → ((s : Offer) (ys : List Name) → rules_of_lines s ys new.lines ≡ rules_of_lines s ys mid.lines ++ closing_rules cs) → symbols_of new.lines ≡ symbols_of mid.lines → new.left ≡ mid.left
      → Walks (forked g c c') old new (Ok u)
  fork_written now mid new cs u v h w rules named same s ys d b stand grows next =
      let reached = h s ys d b fork_of (begins_at d b old.places.items g None fork_of _ (along_is fork_of b g.steps) stand grows.0 next) in
      wrote_as s ys b _ (up_to None fork_of b g.steps) old new (Ok u) (along_is fork_of b g.steps)
      (all_written s ys _ _ d old now mid new cs g.branch None fork_of reached (sides_at s ys d _ _ _ now mid cs (Ok v) reached w grows.1 grows.2) (rules s ys) named same)

-- one side of a split, with the places of its entries
pub side_written : (n : ℕ) (c : ClosedTree) (old mid last new : Walk) (result : Result ⊤ GsError) → mid.places.items ≡ old.places.items ++ run_of old.len n → mid.len ≡ old.len + n
    → mid.lines ≡ old.lines → mid.left ≡ old.left → new.lines ≡ last.lines → new.left ≡ last.left → Walks c mid last result → WalksFrom n c old new result
side_written n c old mid last new (Ok u) places len lines left lines' left' h s ys d b stand grows next =
    let w = h s ys d b (ap length places ∙ stand) grows next in
    record {
      rules = ap (rules_of_lines s ys) lines' ∙ w.rules ∙ ap (λ l. rules_of_lines s ys l ++ steps_below s ys b mid.places.items mid.len (step_tree b c)) lines
          ∙ ap (λ p. rules_of_lines s ys old.lines ++ steps_below s ys b p mid.len (step_tree b c)) places ∙ ap (λ m. rules_of_lines s ys old.lines ++ steps_below s ys b (old.places.items ++ run_of old.len n) m (step_tree b c)) len;
      named = ap symbols_of lines' ∙ w.named ∙ ap (λ l. symbols_of l ++ skolems (step_tree b c)) lines;
      left = ap (λ m. new.left + length (steps_below s ys b (old.places.items ++ run_of old.len n) m (step_tree b c))) (sym len)
          ∙ ap (λ p. new.left + length (steps_below s ys b p mid.len (step_tree b c))) (sym places) ∙ ap (λ k. k + length (steps_below s ys b mid.places.items mid.len (step_tree b c))) left' ∙ w.left ∙ left;
    }
side_written n c old mid last new (Err e) places len lines left lines' left' h s ys d b stand grows next =
    let w = h s ys d b (ap length places ∙ stand) grows next in
    subst (λ m. Refuses old.left (length (steps_below s ys b (old.places.items ++ run_of old.len n) m (step_tree b c))) e) len
    (subst (λ p. Refuses old.left (length (steps_below s ys b p mid.len (step_tree b c))) e) places
    (subst (λ k. Refuses k (length (steps_below s ys b mid.places.items mid.len (step_tree b c))) e) left w))

-- A split and its sides, of which each appends n entries.
module _ (b : Branch) (i n : ℕ) (c c' : ClosedTree) (old mid : Walk) (lines : mid.lines ≡ old.lines ++ Beta (place_in old.places.items i) ∷ []) (left : mid.left + 1 ≡ old.left)
    (places : mid.places.items ≡ old.places.items) (len : mid.len ≡ old.len) (on_left : n ≡ left_of (slice_get (entries b) i)) (on_right : n ≡ right_of (slice_get (entries b) i)) where
  abbrev left_steps : Offer → List Name → List Rule
  left_steps s ys = steps_below s ys (after b (go_left i)) (old.places.items ++ run_of old.len n) (old.len + n) (step_tree (after b (go_left i)) c)

  abbrev right_steps : Offer → List Name → List Rule
  right_steps s ys = steps_below s ys (after b (go_right i)) (old.places.items ++ run_of old.len n) (old.len + n) (step_tree (after b (go_right i)) c')

  split_written : (s : Offer) (ys : List Name) → Writes s ys (gs3.beta (place_in old.places.items i) ∷ []) [] old mid
  split_written s ys = line_written s ys old mid (Beta (place_in old.places.items i)) (gs3.beta (place_in old.places.items i)) lines left refl refl

  as_fork : (s : Offer) (ys : List Name) (new : Walk) (result : Result ⊤ GsError)
      → Wrote s ys ((gs3.beta (place_in old.places.items i) ∷ []) ++ (left_steps s ys ++ right_steps s ys)) (skolems (step_tree (after b (go_left i)) c) ++ skolems (step_tree (after b (go_right i)) c')) old new result
      → Wrote s ys (steps_below s ys b old.places.items old.len (forks i (step_tree (after b (go_left i)) c) (step_tree (after b (go_right i)) c')))
      (skolems (forks i (step_tree (after b (go_left i)) c) (step_tree (after b (go_right i)) c'))) old new result
  as_fork s ys new result w =
      subst (λ l. Wrote s ys l (skolems (step_tree (after b (go_left i)) c) ++ skolems (step_tree (after b (go_right i)) c')) old new result)
      (sym (fork_in_turn s ys b i old.places.items old.len n (step_tree (after b (go_left i)) c) (step_tree (after b (go_right i)) c') on_left on_right)) w

  -- the same of a walk that stands where the old one stands
  at_old : (k : ClosedTree) (a last : Walk) (result : Result ⊤ GsError) (s : Offer) (ys : List Name) (d : ℕ) (g : Branch) → a.places.items ≡ old.places.items → a.len ≡ old.len → WalksFrom n k a last result
      → length (old.places.items ++ run_of old.len n) ≡ length (entries g) → GrowsFrom g k → AreNext d g (step_tree g k)
      → Wrote s ys (steps_below s ys g (old.places.items ++ run_of old.len n) (old.len + n) (step_tree g k)) (skolems (step_tree g k)) a last result
  at_old k a last result s ys d g p l h stand grows next =
      let w = h s ys d g (ap (λ m. length (a.places.items ++ run_of m n)) l ∙ ap (λ q. length (q ++ run_of old.len n)) p ∙ stand) grows next in
      subst (λ m. Wrote s ys (steps_below s ys g (old.places.items ++ run_of m n) (m + n) (step_tree g k)) (skolems (step_tree g k)) a last result) l
      (subst (λ q. Wrote s ys (steps_below s ys g (q ++ run_of a.len n) (a.len + n) (step_tree g k)) (skolems (step_tree g k)) a last result) p w)

  pub left_refused : (last new : Walk) (e : GsError) → WalksFrom n c mid last (Err e) → WalksFork b i c c' old new (Err e)
  left_refused last new e h s ys d stand left_grows right_grows next =
      let w = at_old c mid last (Err e) s ys d (after b (go_left i)) places len h (left_stands b i old.places.items old.len n on_left stand) left_grows next.1 in
      as_fork s ys new (Err e)
      (subst (λ l. Refuses old.left (length l) e) (append_assoc (gs3.beta (place_in old.places.items i) ∷ []) (left_steps s ys) (right_steps s ys))
      (first_refused old.left ((gs3.beta (place_in old.places.items i) ∷ []) ++ left_steps s ys) (right_steps s ys) e
      (wrote_both s ys (gs3.beta (place_in old.places.items i) ∷ []) (left_steps s ys) [] (skolems (step_tree (after b (go_left i)) c)) old mid last (Err e) (split_written s ys) w)))

  pub sides_written : (last new : Walk) (u : ⊤) (result : Result ⊤ GsError) → WalksFrom n c mid last (Ok u) → last.places.items ≡ mid.places.items → last.len ≡ mid.len → WalksFrom n c' last new result → WalksFork b i c c' old new result
  sides_written last new u result h p l k s ys d stand left_grows right_grows next =
      let first = at_old c mid last (Ok u) s ys d (after b (go_left i)) places len h (left_stands b i old.places.items old.len n on_left stand) left_grows next.1 in
      let second = at_old c' last new result s ys d (after b (go_right i)) (p ∙ places) (l ∙ len) k (right_stands b i old.places.items old.len n on_right stand) right_grows next.2 in
      as_fork s ys new result
      (wrote_both s ys (gs3.beta (place_in old.places.items i) ∷ []) (left_steps s ys ++ right_steps s ys) [] (skolems (step_tree (after b (go_left i)) c) ++ skolems (step_tree (after b (go_right i)) c'))
      old mid new result (split_written s ys)
      (wrote_both s ys (left_steps s ys) (right_steps s ys) (skolems (step_tree (after b (go_left i)) c)) (skolems (step_tree (after b (go_right i)) c')) mid last new result first second))
