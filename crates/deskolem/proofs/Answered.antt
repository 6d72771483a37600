-- What the lines of a closed tree's walk come to, within the limits.
use Rattle.std.proofs.Common.{◌≡◌, ℕ, ◌+◌, ◌*◌, ◌<◌, ◌≤◌, List, [], ◌++◌, length, map, Result, Ok, Err, refl, ap, sym, ◌∙◌, subst, arith}
use Rattle.std.specs.Prelude.{⊤}
use Rattle.std.proofs.lemmas.List.{length-map}
use Rattle.fol_core.specs.Symbol.{Symbol}
use Rattle.fof_parse.specs.Problem.{PlainProblem, Start}
use Rattle.fof_parse.specs.Kept.{IsKept}
use Rattle.gs3_rules.specs.Rules.{Rule}
use Rattle.gs3_rules.specs.Apply.{rules_of}
use Rattle.gs3_rules.specs.Refutes.{preorder, IsWhole}
use Rattle.gs3_rules.specs.declared.step.Step.{Step}
use Rattle.gs3_rules.proofs.Shapes.{whole}
use Rattle.free_terms.specs.Free.{Name, FreeTerms, lift}
use Rattle.unify.specs.Offers.{Offer}
use Rattle.rewrite_rules.specs.Rules.{RewriteRule}
use Rattle.branch_rules.specs.Branch.{Branch, entry, entries}
use Rattle.tab_tree.specs.ClosedTree.{ClosedTree}
use Rattle.translation.specs.Laws.{beginning, IsClosedRound, translation}
use Rattle.translation.specs.Measures.{MeasuredProof}
use Rattle.translation.specs.StepTree.{StepTree, closes, goes_on, forks, step_tree}
use Rattle.translation.specs.Translation.{run_of, skolems}
use Rattle.translation.proofs.Counted.{text_counted, few_steps}
use Rattle.translation.proofs.Followed.{Follows, Introduced, closed_tree_follows}
use Rattle.translation.proofs.Sound.{steps_refute, steps_spell}
use Rattle.deskolem.specs.Answer.{Answers, AreBuilt, AreChecked, IsRefused}
use Rattle.deskolem.specs.Lines.{rules_of_lines, symbols_of}
use Rattle.deskolem.specs.Sums.{Adds}
use Rattle.deskolem.specs.Walked.{AreNext, GrowsFrom, steps_below}
use Rattle.deskolem.specs.Walking.{Refuses, Walks, Wrote, ListsSteps, steps_from}
use Rattle.deskolem.specs.declared.answer.GsError.{GsError}
use Rattle.deskolem.specs.declared.answer.GsError.TheVariants.{Bytes, Nesting, OutOfMemory}
use Rattle.deskolem.specs.declared.count.Count.{Count}
use Rattle.deskolem.specs.declared.line.Line.{Line}
use Rattle.deskolem.specs.declared.standing.Walk.{Walk}
use Rattle.deskolem.proofs.Steps.{run_length}
use Rattle.deskolem.proofs.Turns.{grows_from}
use Rattle.gs3_text.specs.declared.limit.TheConstants.{MAX_PROOF_BYTES}

follows_next : (R : Name → FreeTerms → Type 0) (s : Offer) (d : ℕ) (b : Branch) (c : StepTree) → Follows R s d b c → AreNext d b c
follows_next R s d b (closes item) h = tt
follows_next R s d b (goes_on t c) h = (h.1, follows_next R s d _ c h.3)
follows_next R s d b (forks i c c') h = (h.0, follows_next R s d _ c h.1, follows_next R s d _ c' h.2)

module _ (problem : PlainProblem) (rules : List RewriteRule) (d : ℕ) (s : Offer) (c : ClosedTree) (closed : IsClosedRound problem rules d s c) where
  grows : GrowsFrom (beginning problem rules) c
  grows = let b = beginning problem rules in grows_from s 1 0 b b [] closed.tableau c refl closed.closed

  are_next : AreNext d (beginning problem rules) (step_tree (beginning problem rules) c)
  are_next =
      let b = beginning problem rules in
      follows_next (Introduced b closed.tableau) s d b (step_tree b c) (closed_tree_follows s d b closed.tableau c closed.is_tableau closed.closed)

start_entries : (problem : PlainProblem) (rules : List RewriteRule) → length (entries (beginning problem rules)) ≡ length (Start problem)
start_entries problem rules = length-map (map lift (Start problem)) (entry 0) ∙ length-map (Start problem) lift

-- The walk begins with the start list.
module _ (problem : PlainProblem) (c : ClosedTree) (first last : Walk) (places : first.places.items ≡ run_of 0 (length (Start problem))) (len : first.len ≡ length (Start problem)) where
  walked : (result : Result ⊤ GsError) → Walks c first last result → (rules : List RewriteRule) (d : ℕ) (s : Offer) → IsClosedRound problem rules d s c → (ys : List Name)
      → Wrote s ys (steps_from s ys (beginning problem rules) c) (skolems (step_tree (beginning problem rules) c)) first last result
  walked result h rules d s closed ys =
      let b = beginning problem rules in
      let tree = step_tree b c in
      let n = start_entries problem rules in
      let w = h s ys d b (ap length places ∙ run_length 0 (length (Start problem)) ∙ sym n) (grows problem rules d s c closed) (are_next problem rules d s c closed) in
      subst (λ m. Wrote s ys (steps_below s ys b (run_of 0 m) m tree) (skolems tree) first last result) (sym n)
      (subst (λ m. Wrote s ys (steps_below s ys b (run_of 0 (length (Start problem))) m tree) (skolems tree) first last result) len
      (subst (λ p. Wrote s ys (steps_below s ys b p first.len tree) (skolems tree) first last result) places w))

  pub listed : (u : ⊤) (most : ℕ) → first.lines ≡ [] → Walks c first last (Ok u) → ListsSteps problem c most (Ok last.lines)
  listed u most none h rules d s closed ys =
      let w = walked (Ok u) h rules d s closed ys in (
        w.rules ∙ ap (λ l. rules_of_lines s ys l ++ steps_from s ys (beginning problem rules) c) none,
        w.named ∙ ap (λ l. symbols_of l ++ skolems (step_tree (beginning problem rules) c)) none,
      )

  pub list_refused : (e : GsError) (most : ℕ) → first.left ≡ most → Walks c first last (Err e) → ListsSteps problem c most (Err e)
  list_refused e most left h rules d s closed ys =
      subst (λ m. Refuses m (length (steps_from s ys (beginning problem rules) c)) e) left (walked (Err e) h rules d s closed ys)

-- the counted bytes and the counted nesting are those of the text
module _ (fs : List Symbol) (steps : List Rule) (limit : ℕ) where
  pub count_refused : (e : GsError) → Adds fs (record { bytes = 6; depth = 0 }) steps limit (Err e) → AreChecked fs steps limit (Err e)
  count_refused Bytes h = omega (arith, h, text_counted fs steps)
  count_refused Nesting h = absurd h
  count_refused OutOfMemory h = tt

  pub count_nests : (c : Count) → Adds fs (record { bytes = 6; depth = 0 }) steps limit (Ok c) → 4096 < c.depth → AreChecked fs steps limit (Err Nesting)
  count_nests c h deep = (omega (arith, h.0, h.2, text_counted fs steps), omega (arith, h.1, deep))

  pub count_fits : (u : ⊤) (c : Count) → Adds fs (record { bytes = 6; depth = 0 }) steps limit (Ok c) → c.depth ≤ 4096 → AreChecked fs steps limit (Ok u)
  count_fits u c h low = (omega (arith, h.0, h.2, text_counted fs steps), omega (arith, h.1, low))

pub built_refused : (fs : List Symbol) (s : Offer) (names : List Name) (lines : List Line) (limit : ℕ) (e : GsError) → names ≡ symbols_of lines → AreChecked fs (rules_of_lines s names lines) limit (Err e)
    → AreBuilt fs (rules_of_lines s (symbols_of lines) lines) limit (Err e)
built_refused fs s names lines limit e is h = subst (λ ys. AreChecked fs (rules_of_lines s ys lines) limit (Err e)) is h

pub built : (fs : List Symbol) (s : Offer) (names : List Name) (lines : List Line) (limit : ℕ) (u : ⊤) (steps : List Step) → names ≡ symbols_of lines → AreChecked fs (rules_of_lines s names lines) limit (Ok u)
    → rules_of steps ≡ rules_of_lines s names lines → AreBuilt fs (rules_of_lines s (symbols_of lines) lines) limit (Ok steps)
built fs s names lines limit u steps is h same = subst (λ ys. AreBuilt fs (rules_of_lines s ys lines) limit (Ok steps)) is (same, h.0, h.1)

-- answers are told apart by numbers
abbrev kind : Result (List Step) GsError → ℕ
kind (Ok steps) = 0
kind (Err Bytes) = 1
kind (Err Nesting) = 2
kind (Err OutOfMemory) = 3

other_kind : (p q : Result (List Step) GsError) → p ≡ q → kind p ≡ kind q
other_kind p q e = ap kind e

-- an answer that is an error
refused_answer : (problem : PlainProblem) (limit : ℕ) (found : MeasuredProof) (e : GsError) → IsRefused found.bytes found.nesting limit e → Answers problem limit found (Err e)
refused_answer problem limit found Bytes h = record {
  steps = tt;
  fits = tt;
  bytes = λ e. h;
  nesting = λ e. let wrong : ⊥ = omega (arith, other_kind _ _ e) in absurd wrong;
  refutes = tt;
  spells = tt;
}
refused_answer problem limit found Nesting h = record {
  steps = tt;
  fits = tt;
  bytes = λ e. let wrong : ⊥ = omega (arith, other_kind _ _ e) in absurd wrong;
  nesting = λ e. h;
  refutes = tt;
  spells = tt;
}
refused_answer problem limit found OutOfMemory h = record {
  steps = tt;
  fits = tt;
  bytes = λ e. let wrong : ⊥ = omega (arith, other_kind _ _ e) in absurd wrong;
  nesting = λ e. let wrong : ⊥ = omega (arith, other_kind _ _ e) in absurd wrong;
  refutes = tt;
  spells = tt;
}

module _ (problem : PlainProblem) (rules : List RewriteRule) (d : ℕ) (s : Offer) (c : ClosedTree) (limit : ℕ) (closed : IsClosedRound problem rules d s c) where
  pub lines_refused : (most : ℕ) (e : GsError) → limit < 6 * most + 12 → ListsSteps problem c most (Err e) → Answers problem limit (translation problem rules s c) (Err e)
  lines_refused most Bytes enough h =
      let b = beginning problem rules in
      let steps = steps_from s (skolems (step_tree b c)) b c in
      refused_answer problem limit (translation problem rules s c) Bytes
      (omega (arith, h rules d s closed (skolems (step_tree b c)), enough, few_steps problem.symbols.functions steps))
  lines_refused most Nesting enough h = absurd (h rules d s closed [])
  lines_refused most OutOfMemory enough h = refused_answer problem limit (translation problem rules s c) OutOfMemory tt

  same_steps : (lines : List Line) (most : ℕ) → ListsSteps problem c most (Ok lines) → rules_of_lines s (symbols_of lines) lines ≡ preorder (translation problem rules s c).tree
  same_steps lines most h =
      let ys = skolems (step_tree (beginning problem rules) c) in
      let w = h rules d s closed ys in
      ap (λ z. rules_of_lines s z lines) w.1 ∙ w.0

  pub build_refused : (lines : List Line) (most : ℕ) (e : GsError) → ListsSteps problem c most (Ok lines) → AreBuilt problem.symbols.functions (rules_of_lines s (symbols_of lines) lines) limit (Err e)
      → Answers problem limit (translation problem rules s c) (Err e)
  build_refused lines most e h b =
      refused_answer problem limit (translation problem rules s c) e
      (subst (λ l. AreBuilt problem.symbols.functions l limit (Err e)) (same_steps lines most h) b)

  pub answered : (lines : List Line) (most : ℕ) (steps : List Step) → IsKept problem → limit ≤ MAX_PROOF_BYTES → ListsSteps problem c most (Ok lines)
      → AreBuilt problem.symbols.functions (rules_of_lines s (symbols_of lines) lines) limit (Ok steps) → Answers problem limit (translation problem rules s c) (Ok steps)
  answered lines most steps kept small h b =
      let w : AreBuilt problem.symbols.functions (preorder (translation problem rules s c).tree) limit (Ok steps) = subst (λ l. AreBuilt problem.symbols.functions l limit (Ok steps)) (same_steps lines most h) b in
      record {
        steps = w.0;
        fits = (w.1, w.2);
        bytes = λ e. let wrong : ⊥ = omega (arith, other_kind _ _ e) in absurd wrong;
        nesting = λ e. let wrong : ⊥ = omega (arith, other_kind _ _ e) in absurd wrong;
        refutes = steps_refute problem rules d s c (rules_of steps) kept closed w.0;
        spells = steps_spell problem rules d s c (rules_of steps) kept closed w.0 (omega (arith, w.1, small)) w.2;
      }

  pub steps_whole : (lines : List Line) (most : ℕ) (steps : List Step) → IsKept problem → ListsSteps problem c most (Ok lines)
      → AreBuilt problem.symbols.functions (rules_of_lines s (symbols_of lines) lines) limit (Ok steps) → IsWhole (rules_of steps)
  steps_whole lines most steps kept h b =
      whole (Start problem) (rules_of steps) (steps_refute problem rules d s c (rules_of steps) kept closed (b.0 ∙ same_steps lines most h))
