-- Where the steps of a rewriting go on with a refutation of the premise's list, all of them refute the list.
use Rattle.std.proofs.Common.{◌≡◌, ℕ, zero, suc, ◌+◌, Bool, true, false, List, [], ◌∷◌, ◌++◌, map, length, slice_get, Some, None, refl, ap, sym, ◌∙◌, subst, arith, append-nil, append_assoc, length-append}
use Rattle.std.specs.Prelude.{option_and_then}
use Rattle.fol_core.specs.Syntax.{PlainTerm, PlainTerms, PlainFormula, instance, atom, not}
use Rattle.gs3_rules.specs.Rules.{Rule, close, Closes, beta_parts, gamma_part}
use Rattle.gs3_rules.specs.Refutes.{ProofTree, by, no_premises, Refutes, RefutedBy}
use Rattle.rewrite_expand.specs.Expansion.{gammas, last_of, body_place, beta_on_literal, Expansion, expansion, rewriting, whole}
use Rattle.rewrite_expand.specs.Soundness.{Opens, literal, equivalence, in_order, IsRewriting}
use Rattle.rewrite_expand.proofs.InPreorder.{are_whole}

get_new : (list more : List PlainFormula) (a : PlainFormula) → slice_get (list ++ a ∷ more) (length list) ≡ Some a
get_new [] more a = refl
get_new (x ∷ list) more a = get_new list more a

get_second : (list more : List PlainFormula) (a b : PlainFormula) → slice_get (list ++ a ∷ b ∷ more) (suc (length list)) ≡ Some b
get_second [] more a b = refl
get_second (x ∷ list) more a b = get_second list more a b

get_kept : (list more : List PlainFormula) (i : ℕ) (a : PlainFormula) → slice_get list i ≡ Some a → slice_get (list ++ more) i ≡ Some a
get_kept [] more i a e = absurd (none_is_some e) where
  none_is_some : None ≡ Some a → ⊥
  none_is_some x = cc
get_kept (x ∷ list) more zero a e = e
get_kept (x ∷ list) more (suc i) a e = get_kept list more i a e

gammas_refute : (us : List PlainTerm) (place len : ℕ) (list : List PlainFormula) (a end : PlainFormula) (more : List PlainFormula) (t : ProofTree)
    → length list ≡ len → slice_get list place ≡ Some a → Opens a us more end
    → (slice_get (list ++ more) (last_of place len us) ≡ Some end → Refutes (list ++ more) t)
    → Refutes list (gammas place len us t)
gammas_refute [] place len list a end more t is at opens go =
    let same : list ++ more ≡ list = ap (λ m. list ++ m) opens.0 ∙ append-nil list in
    subst (λ l. Refutes l t) same (go (ap (λ l. slice_get l place) same ∙ at ∙ ap Some opens.1))
gammas_refute (u ∷ us) place len list a end more t is at (body, form, closed, rest, begins, opens) go =
    let part = instance body u in
    let longer : length (list ++ part ∷ []) ≡ suc len = length-append list (part ∷ []) ∙ omega (arith, is) in
    let same : (list ++ part ∷ []) ++ rest ≡ list ++ more = append_assoc list (part ∷ []) rest ∙ ap (λ m. list ++ m) (sym begins) in (
      (list ++ part ∷ []) ∷ [],
      (part, ap (option_and_then (gamma_part (λ b. instance b u))) (at ∙ ap Some form), closed, refl),
      (
        gammas_refute us len (suc len) (list ++ part ∷ []) part end rest t longer (ap (slice_get (list ++ part ∷ [])) (sym is) ∙ get_new list [] part) opens
            (λ there. subst (λ l. Refutes l t) (sym same) (go (ap (λ l. slice_get l (last_of len (suc len) us)) (sym same) ∙ there))),
        tt,
      ),
    )

closes_at : (list : List PlainFormula) (i k p : ℕ) (args : PlainTerms) → slice_get list i ≡ Some (atom p args) → slice_get list k ≡ Some (not (atom p args))
    → Refutes list (by (close i k) no_premises)
closes_at list i k p args at other = (
  [],
  (subst (λ o. Closes o (slice_get list k)) (sym at) (subst (λ o. Closes (Some (atom p args)) o) (sym other) (p, args, refl, refl)), refl),
  tt,
)

beta_refutes : (positive head_left : Bool) (i e len : ℕ) (list : List PlainFormula) (p : ℕ) (args : PlainTerms) (body : PlainFormula) (go_on : ℕ → ProofTree)
    → length list ≡ len → slice_get list i ≡ Some (literal positive (atom p args)) → slice_get list e ≡ Some (equivalence head_left (atom p args) body)
    → Refutes (list ++ map (literal positive) (in_order head_left (atom p args) body)) (go_on (body_place head_left len))
    → Refutes list (beta_on_literal head_left positive i e len go_on)
beta_refutes true true i e len list p args body go_on is at iff_at go =
    let h = atom p args in
    let right = list ++ not h ∷ not body ∷ [] in (
      (list ++ h ∷ body ∷ []) ∷ right ∷ [],
      (h ∷ body ∷ [], not h ∷ not body ∷ [], ap (option_and_then beta_parts) iff_at, refl),
      (go, (closes_at right i len p args (get_kept list (not h ∷ not body ∷ []) i h at) (ap (slice_get right) (sym is) ∙ get_new list (not body ∷ []) (not h)), tt)),
    )
beta_refutes true false i e len list p args body go_on is at iff_at go =
    let h = atom p args in
    let right = list ++ not body ∷ not h ∷ [] in (
      (list ++ body ∷ h ∷ []) ∷ right ∷ [],
      (body ∷ h ∷ [], not body ∷ not h ∷ [], ap (option_and_then beta_parts) iff_at, refl),
      (go, (closes_at right i (suc len) p args (get_kept list (not body ∷ not h ∷ []) i h at) (ap (λ n. slice_get right (suc n)) (sym is) ∙ get_second list [] (not body) (not h)), tt)),
    )
beta_refutes false true i e len list p args body go_on is at iff_at go =
    let h = atom p args in
    let left = list ++ h ∷ body ∷ [] in (
      left ∷ (list ++ not h ∷ not body ∷ []) ∷ [],
      (h ∷ body ∷ [], not h ∷ not body ∷ [], ap (option_and_then beta_parts) iff_at, refl),
      (closes_at left len i p args (ap (slice_get left) (sym is) ∙ get_new list (body ∷ []) h) (get_kept list (h ∷ body ∷ []) i (not h) at), (go, tt)),
    )
beta_refutes false false i e len list p args body go_on is at iff_at go =
    let h = atom p args in
    let left = list ++ body ∷ h ∷ [] in (
      left ∷ (list ++ not body ∷ not h ∷ []) ∷ [],
      (body ∷ h ∷ [], not body ∷ not h ∷ [], ap (option_and_then beta_parts) iff_at, refl),
      (closes_at left (suc len) i p args (ap (λ n. slice_get left (suc n)) (sym is) ∙ get_second list [] body h) (get_kept list (body ∷ h ∷ []) i (not h) at), (go, tt)),
    )

instances_length : (us : List PlainTerm) (a end : PlainFormula) (more : List PlainFormula) → Opens a us more end → length more ≡ length us
instances_length [] a end more opens = ap length opens.0
instances_length (u ∷ us) a end more (body, form, closed, rest, begins, opens) =
    ap length begins ∙ ap suc (instances_length us (instance body u) end rest opens)

longer : (len axiom_place literal_place : ℕ) (positive head_left : Bool) (us : List PlainTerm) (list new : List PlainFormula)
    → (r : IsRewriting len axiom_place literal_place positive head_left us list new) → length (list ++ r.instances) ≡ len + length us
longer len axiom_place literal_place positive head_left us list new r =
    length-append list r.instances
    ∙ omega (arith, r.few, instances_length us r.formula (equivalence head_left (atom r.predicate r.arguments) r.body) r.instances r.opens)

pub rewriting_refutes : (len axiom_place literal_place : ℕ) (positive head_left : Bool) (us : List PlainTerm) (list new : List PlainFormula) (go_on : ℕ → ProofTree)
    → IsRewriting len axiom_place literal_place positive head_left us list new → Refutes new (go_on (body_place head_left (len + length us)))
    → Refutes list (rewriting len axiom_place literal_place positive head_left us go_on)
rewriting_refutes len axiom_place literal_place positive head_left us list new go_on r go =
    gammas_refute us axiom_place len list r.formula (equivalence head_left (atom r.predicate r.arguments) r.body) r.instances
    (beta_on_literal head_left positive literal_place (last_of axiom_place len us) (len + length us) go_on) r.few r.axiom_there r.opens
    (λ there.
    beta_refutes positive head_left literal_place (last_of axiom_place len us) (len + length us) (list ++ r.instances) r.predicate r.arguments r.body go_on (longer len axiom_place literal_place positive head_left us list new r)
    (get_kept list r.instances literal_place (literal positive (atom r.predicate r.arguments)) r.literal_there) there (subst (λ l. Refutes l (go_on (body_place head_left (len + length us)))) r.goes_on go))

-- the same of steps that are an expansion
pub refuted_by_whole : (x : Expansion) (len axiom_place literal_place : ℕ) (positive head_left : Bool) (us : List PlainTerm)
    → x ≡ expansion len axiom_place literal_place positive head_left us → (list new : List PlainFormula) (steps : List Rule)
    → IsRewriting len axiom_place literal_place positive head_left us list new → RefutedBy new steps → RefutedBy list (whole x steps)
refuted_by_whole x len axiom_place literal_place positive head_left us is list new steps r (tree, are, refutes) = (
  rewriting len axiom_place literal_place positive head_left us (λ _. tree),
  are_whole x len axiom_place literal_place positive head_left us is (λ _. tree) ∙ ap (whole x) are,
  rewriting_refutes len axiom_place literal_place positive head_left us list new (λ _. tree) r refutes,
)

parts_there : (positive head_left : Bool) (len : ℕ) (list : List PlainFormula) (head body : PlainFormula) → length list ≡ len
    → slice_get (list ++ map (literal positive) (in_order head_left head body)) (body_place head_left len) ≡ Some (literal positive body)
parts_there positive true len list head body is =
    ap (λ n. slice_get (list ++ literal positive head ∷ literal positive body ∷ []) (suc n)) (sym is) ∙ get_second list [] (literal positive head) (literal positive body)
parts_there positive false len list head body is =
    ap (slice_get (list ++ literal positive body ∷ literal positive head ∷ [])) (sym is) ∙ get_new list (literal positive head ∷ []) (literal positive body)

-- the body or its negation stands in the premise that goes on
pub result_there : (x : Expansion) (len axiom_place literal_place : ℕ) (positive head_left : Bool) (us : List PlainTerm)
    → x ≡ expansion len axiom_place literal_place positive head_left us → (list new : List PlainFormula)
    → (r : IsRewriting len axiom_place literal_place positive head_left us list new) → slice_get new x.result ≡ Some (literal positive r.body)
result_there x len axiom_place literal_place positive head_left us is list new r =
    let head = atom r.predicate r.arguments in
    ap (slice_get new) (ap (λ y. y.result) is) ∙ ap (λ l. slice_get l (body_place head_left (len + length us))) r.goes_on
    ∙ parts_there positive head_left (len + length us) (list ++ r.instances) head r.body (longer len axiom_place literal_place positive head_left us list new r)
