-- The steps of a walk, one by one, in the translation's order.
use Rattle.std.proofs.Common.{◌≡◌, ℕ, zero, suc, ◌+◌, Bool, true, false, not, if◌then◌else◌, List, [], ◌∷◌, ◌++◌, length, map, reverse, Option, Some, None, slice_get, refl, ap, sym, ◌∙◌, arith, append_assoc, append-nil, length-append}
use Rattle.std.proofs.lemmas.List.{length-map, length-reverse}
use Rattle.gs3_rules.specs.Rules as gs3
use Rattle.gs3_rules.specs.Rules.{Rule, delta_part, gamma_part}
use Rattle.gs3_rules.specs.Refutes.{ProofTree, preorder}
use Rattle.rewrite_expand.specs.Expansion.{expansion, opposite, head_place, body_place}
use Rattle.rewrite_expand.proofs.InPreorder.{in_preorder}
use Rattle.free_terms.specs.Free.{Name, metavar, instance}
use Rattle.unify.specs.Offers.{Offer}
use Rattle.rewrite_rules.specs.Rewriting.{Rewriting}
use Rattle.branch_rules.specs.Branch.{Branch, Done, Entry, expand, rewrite, skolemize, instantiate, go_left, go_right, principal, skolem_term, appended_to, made_of, one_of, level_of, entry, metavars, entries, after}
use Rattle.branch_rules.specs.Next.{ComesNext}
use Rattle.translation.specs.StepTree.{StepTree, goes_on, forks}
use Rattle.translation.specs.Translation.{proof_below, parameter_of, term_under, fill_under, place_in, is_positive_at, run_of, growth, skolems}
use Rattle.translation.proofs.Grown.{entries_next}
use Rattle.translation.proofs.InTurn.{forks_in_turn}
use Rattle.translation.proofs.Shown.{shown, delta_value, gamma_value}
use Rattle.deskolem.specs.Walked.{parts_of, left_of, right_of, steps_below}
use Rattle.deskolem.specs.Lines.{opening}

pub run_length : (from n : ℕ) → length (run_of from n) ≡ n
run_length from zero = refl
run_length from (suc n) = ap suc (run_length (suc from) n)

count_parts : (xs : List Name) (o : Option Entry) (i : ℕ) → length (appended_to xs o (expand i)) ≡ parts_of o
count_parts xs None i = refl
count_parts xs (Some e) i = length-map (made_of xs e.formula (expand i)) _

count_left : (xs : List Name) (o : Option Entry) (i : ℕ) → length (appended_to xs o (go_left i)) ≡ left_of o
count_left xs None i = refl
count_left xs (Some e) i = length-map (made_of xs e.formula (go_left i)) _

count_right : (xs : List Name) (o : Option Entry) (i : ℕ) → length (appended_to xs o (go_right i)) ≡ right_of o
count_right xs None i = refl
count_right xs (Some e) i = length-map (made_of xs e.formula (go_right i)) _

more_entries : (b : Branch) (step : Done) (n : ℕ) → length (appended_to (metavars b) (slice_get (entries b) (principal step)) step) ≡ n
    → length (entries (after b step)) ≡ length (entries b) + n
more_entries b step n e =
    ap length (entries_next b step) ∙ length-append (entries b) (appended_to (metavars b) (slice_get (entries b) (principal step)) step) ∙ ap (λ k. length (entries b) + k) e

grown : (b : Branch) (step : Done) (n : ℕ) → length (entries (after b step)) ≡ length (entries b) + n → growth b step ≡ n
grown b step n e = omega (arith, e)

pub left_grown : (b : Branch) (i : ℕ) → growth b (go_left i) ≡ left_of (slice_get (entries b) i)
left_grown b i = grown b (go_left i) _ (more_entries b (go_left i) _ (count_left (metavars b) (slice_get (entries b) i) i))

pub right_grown : (b : Branch) (i : ℕ) → growth b (go_right i) ≡ right_of (slice_get (entries b) i)
right_grown b i = grown b (go_right i) _ (more_entries b (go_right i) _ (count_right (metavars b) (slice_get (entries b) i) i))

skolem_appends : (b : Branch) (d i : ℕ) (x : Name) → ComesNext b d (skolemize i x) → length (entries (after b (skolemize i x))) ≡ length (entries b) + 1
skolem_appends b d i x next =
    let has = shown b d (skolemize i x) next in
    let e = has.0 in
    let part = delta_value (λ c. instance c (skolem_term (metavars b) e.formula x)) e.formula has.2 in
    more_entries b (skolemize i x) 1
    (ap (λ o. length (appended_to (metavars b) o (skolemize i x))) has.1 ∙ ap (λ o. length (map (entry (level_of e.level (skolemize i x))) (one_of o))) part.1)

instance_appends : (b : Branch) (d i : ℕ) (x : Name) → ComesNext b d (instantiate i x) → length (entries (after b (instantiate i x))) ≡ length (entries b) + 1
instance_appends b d i x next =
    let has = shown b d (instantiate i x) next in
    let e = has.0 in
    let part = gamma_value (λ c. instance c (metavar x)) e.formula has.2 in
    more_entries b (instantiate i x) 1
    (ap (λ o. length (appended_to (metavars b) o (instantiate i x))) has.1 ∙ ap (λ o. length (map (entry (level_of e.level (instantiate i x))) (one_of o))) part.1)

rewriting_appends : (b : Branch) (d i : ℕ) (r : Rewriting) → ComesNext b d (rewrite i r) → length (entries (after b (rewrite i r))) ≡ length (entries b) + 1
rewriting_appends b d i r next =
    let has = shown b d (rewrite i r) next in
    more_entries b (rewrite i r) 1 (ap (λ o. length (appended_to (metavars b) o (rewrite i r))) has.1)

-- The step's rules, then the rest, where so many entries stand at these places and the list is so long, and at last the
-- closing of a premise.
pub record Advances (s : Offer) (ys : List Name) (b : Branch) (step : Done) (places : List ℕ) (len : ℕ) (written : List Rule) (names : List Name) (more : List ℕ) (next : ℕ) (closing : List Rule) : Type 0 where
  pub rules : (c : StepTree) → steps_below s ys b places len (goes_on step c) ≡ written ++ (steps_below s ys (after b step) (places ++ more) next c ++ closing)
  pub symbols : (c : StepTree) → skolems (goes_on step c) ≡ names ++ skolems c
  pub stand : length places ≡ length (entries b) → length (places ++ more) ≡ length (entries (after b step))

longer : (places more : List ℕ) (m k n : ℕ) → length more ≡ n → k ≡ m + n → length places ≡ m → length (places ++ more) ≡ k
longer places more m k n is grows at = omega (arith, length-append places more, is, grows, at)

-- the step that closes the right premise of a rewriting, where the literal is an atom
abbrev pub closing_if : Bool → ℕ → ℕ → List Rule
closing_if positive literal head = if positive then gs3.close literal head ∷ [] else []

opened : (positive : Bool) (before : List Rule) (literal head : ℕ) (rest : List Rule)
    → (before ++ (if not positive then opposite positive literal head ∷ rest else rest ++ opposite positive literal head ∷ []))
    ≡ (before ++ (if not positive then opposite positive literal head ∷ [] else [])) ++ (rest ++ closing_if positive literal head)
opened true before literal head rest = ap (λ l. l ++ (rest ++ gs3.close literal head ∷ [])) (sym (append-nil before))
opened false before literal head rest =
    sym (append_assoc before (gs3.close head literal ∷ []) (rest ++ []) ∙ ap (λ l. before ++ gs3.close head literal ∷ l) (append-nil rest))

module _ (s : Offer) (ys : List Name) where
  pub alpha_advances : (b : Branch) (i : ℕ) (places : List ℕ) (len n : ℕ) → n ≡ parts_of (slice_get (entries b) i)
      → Advances s ys b (expand i) places len (gs3.alpha (place_in places i) ∷ []) [] (run_of len n) (len + n) []
  alpha_advances b i places len n is =
      let appends = more_entries b (expand i) _ (count_parts (metavars b) (slice_get (entries b) i) i) in
      let same : growth b (expand i) ≡ n = grown b (expand i) _ appends ∙ sym is in
      record {
        rules = λ c. ap (λ m. gs3.alpha (place_in places i) ∷ (steps_below s ys (after b (expand i)) (places ++ run_of len m) (len + m) c ++ [])) same;
        symbols = λ c. refl;
        stand = longer places (run_of len n) (length (entries b)) _ n (run_length len n) (appends ∙ ap (λ k. length (entries b) + k) (sym is));
      }

  pub delta_advances : (b : Branch) (d i : ℕ) (x : Name) (places : List ℕ) (len : ℕ) → ComesNext b d (skolemize i x)
      → Advances s ys b (skolemize i x) places len (gs3.delta (place_in places i) (parameter_of 0 ys x) ∷ []) (x ∷ []) (run_of len 1) (len + 1) []
  delta_advances b d i x places len next =
      let further : suc len ≡ len + 1 = omega arith in
      record {
        rules = λ c. ap (λ m. gs3.delta (place_in places i) (parameter_of 0 ys x) ∷ (steps_below s ys (after b (skolemize i x)) (places ++ len ∷ []) m c ++ [])) further;
        symbols = λ c. refl;
        stand = longer places (len ∷ []) (length (entries b)) _ 1 refl (skolem_appends b d i x next);
      }

  pub gamma_advances : (b : Branch) (d i : ℕ) (x : Name) (places : List ℕ) (len : ℕ) → ComesNext b d (instantiate i x)
      → Advances s ys b (instantiate i x) places len (gs3.gamma (place_in places i) (term_under s ys (metavar x)) ∷ []) [] (run_of len 1) (len + 1) []
  gamma_advances b d i x places len next =
      let further : suc len ≡ len + 1 = omega arith in
      record {
        rules = λ c. ap (λ m. gs3.gamma (place_in places i) (term_under s ys (metavar x)) ∷ (steps_below s ys (after b (instantiate i x)) (places ++ len ∷ []) m c ++ [])) further;
        symbols = λ c. refl;
        stand = longer places (len ∷ []) (length (entries b)) _ 1 refl (instance_appends b d i x next);
      }

  pub rewriting_advances : (b : Branch) (d i : ℕ) (r : Rewriting) (places : List ℕ) (len n : ℕ) → n ≡ length r.fills → ComesNext b d (rewrite i r)
      → Advances s ys b (rewrite i r) places len
      (opening (expansion len (place_in places r.axiom_place) (place_in places i) (is_positive_at (slice_get (entries b) i)) r.head_left (reverse (map (fill_under s ys) r.fills))))
      [] (body_place r.head_left (len + n) ∷ []) (len + n + 2) (closing_if (is_positive_at (slice_get (entries b) i)) (place_in places i) (head_place r.head_left (len + n)))
  rewriting_advances b d i r places len n is next =
      let us = reverse (map (fill_under s ys) r.fills) in
      let positive = is_positive_at (slice_get (entries b) i) in
      let literal = place_in places i in
      let x = expansion len (place_in places r.axiom_place) literal positive r.head_left us in
      let many : length us ≡ n = length-reverse (map (fill_under s ys) r.fills) ∙ length-map r.fills (fill_under s ys) ∙ sym is in
      let go_on : StepTree → ℕ → ProofTree = λ c body_at. proof_below s ys (after b (rewrite i r)) (places ++ body_at ∷ []) (2 + (len + length us)) c in
      let further : 2 + (len + n) ≡ len + n + 2 = omega arith in
      record {
        rules = λ c.
            in_preorder len (place_in places r.axiom_place) literal positive r.head_left us (go_on c)
            ∙ opened positive x.before literal (head_place r.head_left (len + length us)) (preorder (go_on c x.result))
            ∙ ap (λ m. opening x ++ (preorder (proof_below s ys (after b (rewrite i r)) (places ++ body_place r.head_left (len + m) ∷ []) (2 + (len + m)) c) ++ closing_if positive literal (head_place r.head_left (len + m)))) many
            ∙ ap (λ m. opening x ++ (steps_below s ys (after b (rewrite i r)) (places ++ body_place r.head_left (len + n) ∷ []) m c ++ closing_if positive literal (head_place r.head_left (len + n)))) further;
        symbols = λ c. refl;
        stand = longer places (body_place r.head_left (len + n) ∷ []) (length (entries b)) _ 1 refl (rewriting_appends b d i r next);
      }

  pub fork_in_turn : (b : Branch) (i : ℕ) (places : List ℕ) (len n : ℕ) (c c' : StepTree) → n ≡ left_of (slice_get (entries b) i) → n ≡ right_of (slice_get (entries b) i)
      → steps_below s ys b places len (forks i c c')
      ≡ (gs3.beta (place_in places i) ∷ []) ++ (steps_below s ys (after b (go_left i)) (places ++ run_of len n) (len + n) c
      ++ steps_below s ys (after b (go_right i)) (places ++ run_of len n) (len + n) c')
  fork_in_turn b i places len n c c' left right =
      forks_in_turn s ys b places len i c c'
      ∙ ap (λ m. gs3.beta (place_in places i) ∷ (steps_below s ys (after b (go_left i)) (places ++ run_of len m) (len + m) c
      ++ steps_below s ys (after b (go_right i)) (places ++ run_of len (growth b (go_right i))) (len + growth b (go_right i)) c')) (left_grown b i ∙ sym left)
      ∙ ap (λ m. gs3.beta (place_in places i) ∷ (steps_below s ys (after b (go_left i)) (places ++ run_of len n) (len + n) c
      ++ steps_below s ys (after b (go_right i)) (places ++ run_of len m) (len + m) c')) (right_grown b i ∙ sym right)

pub left_stands : (b : Branch) (i : ℕ) (places : List ℕ) (len n : ℕ) → n ≡ left_of (slice_get (entries b) i) → length places ≡ length (entries b)
    → length (places ++ run_of len n) ≡ length (entries (after b (go_left i)))
left_stands b i places len n is =
    longer places (run_of len n) (length (entries b)) _ n (run_length len n)
    (more_entries b (go_left i) _ (count_left (metavars b) (slice_get (entries b) i) i) ∙ ap (λ k. length (entries b) + k) (sym is))

pub right_stands : (b : Branch) (i : ℕ) (places : List ℕ) (len n : ℕ) → n ≡ right_of (slice_get (entries b) i) → length places ≡ length (entries b)
    → length (places ++ run_of len n) ≡ length (entries (after b (go_right i)))
right_stands b i places len n is =
    longer places (run_of len n) (length (entries b)) _ n (run_length len n)
    (more_entries b (go_right i) _ (count_right (metavars b) (slice_get (entries b) i) i) ∙ ap (λ k. length (entries b) + k) (sym is))
