-- A rewriting step in the calculus: gamma steps on the equivalence and beta on its instance, one side of which closes.
use Rattle.std.proofs.Common.{◌≡◌, ℕ, zero, suc, ◌+◌, ◌<◌, ◌≤◌, Bool, true, false, if◌then◌else◌, List, [], ◌∷◌, ◌++◌, map, reverse, length, Option, Some, None, option_and_then, slice_get, refl, ap, ap₂, sym, ◌∙◌, subst, arith, inl, inr, length-append, append_assoc, append-nil, zero-add}
use Rattle.std.proofs.lemmas.Bool.{false≢true}
use mathlib.Core.List.{reverse-cons}
use Rattle.fol_core.specs.Syntax as plain
use Rattle.fol_core.specs.Syntax.{PlainTerm, PlainTerms, PlainFormula, atom, not, iff, all, ex, open_at}
use Rattle.fol_core.specs.Symbol.{Symbol}
use Rattle.gs3_rules.specs.Rules as gs3
use Rattle.gs3_rules.specs.Rules.{beta_parts, gamma_part}
use Rattle.gs3_rules.specs.Refutes.{ProofTree, Refutes}
use Rattle.free_terms.specs.Free.{Name, FreeTerm, FreeTerms, FreeFormula, lift, fill_all}
use Rattle.free_terms.specs.Matching.{variable_in_terms, IsMatch}
use Rattle.unify.specs.Offers.{Offer, resolved_all}
use Rattle.rewrite_rules.specs.Rules.{RewriteRule, FitsWith, Equivalence, IsRuleOf, by_left, by_right, AreRules}
use Rattle.rewrite_rules.specs.Rewriting.{Rewriting, Fires, Rewrites, rewriting_by}
use Rattle.branch_rules.specs.Branch.{Branch, Done, rewrite, Entry, entry, entries, after}
use Rattle.translation.proofs.Grown.{entries_at, entries_stay}
use Rattle.translation.specs.Translation.{closed_all, term_under, fill_under, place_in, is_positive, is_positive_at}
use Rattle.rewrite_expand.specs.Expansion.{gammas, last_of, head_place, body_place, beta_on_literal, rewriting}
use Rattle.translation.proofs.Grounding.{under}
use Rattle.translation.proofs.Built.{IsBuiltTerm, AreBuiltTerms, IsBuilt, AreBuilt, both_built, all_wider, built_at, closed_term, opened, wider_term, Proves}
use Rattle.translation.proofs.Standing.{IsKnown, known_next, zero_known, Placed, placed_at, placed_more, placed_both, Stands, get_more, get_first_new, get_second_new}
use Rattle.translation.proofs.Opening.{opened_by, opened_from, from_outermost, opened_iff, opened_atom, quantified, open_quantified}
use Rattle.translation.proofs.Lifted.{NoParam, IsFilled, ListBuilt, list_closed, built_reverse, lifted, filled_formula, filled_arguments, stands_in_arguments, fills_built}

some_once : {A : Type 0} (a b : A) → Some a ≡ Some b → a ≡ b
some_once a b e = cc

none_is_some : {A : Type 0} (a : A) → None ≡ Some a → ⊥
none_is_some a e = cc

-- The rules by the axioms that they come from.

-- the sides of a rule's equivalence with this body
abbrev pub left_side : RewriteRule → PlainFormula → PlainFormula
left_side rule body = if rule.head_left then atom rule.predicate rule.arguments else body

abbrev pub right_side : RewriteRule → PlainFormula → PlainFormula
right_side rule body = if rule.head_left then body else atom rule.predicate rule.arguments

pub record IsFrom (a : PlainFormula) (rule : RewriteRule) : Type 0 where
  pub body : PlainFormula
  pub lifted_body : rule.body ≡ lift body
  pub form : a ≡ quantified rule.count (iff (left_side rule body) (right_side rule body))
  pub head : FitsWith (atom rule.predicate rule.arguments) body

equivalence_is : (n : ℕ) (a left right : PlainFormula) → Equivalence n a left right → a ≡ quantified n (iff left right)
equivalence_is zero a left right e = e
equivalence_is (suc n) a left right e = e.1 ∙ ap all (equivalence_is n e.0 left right e.2)

pub from_axiom : (place : ℕ) (a : PlainFormula) (rule : RewriteRule) → IsRuleOf place a rule → (rule.axiom_place ≡ place) × IsFrom a rule
from_axiom place a rule (by_left n p us right e head) = (refl, record { body = right; lifted_body = refl; form = equivalence_is n a (atom p us) right e; head = head })
from_axiom place a rule (by_right n p us left e other head) = (refl, record { body = left; lifted_body = refl; form = equivalence_is n a left (atom p us) e; head = head })

-- each rule comes from a start formula
abbrev pub HaveAxioms : List PlainFormula → List RewriteRule → Type 0
HaveAxioms start [] = Unit {0}
HaveAxioms start (rule ∷ rules) = ((a : PlainFormula) × (slice_get start rule.axiom_place ≡ Some a) × IsFrom a rule) × HaveAxioms start rules

pub axioms_of_rules : (front axioms more : List PlainFormula) (place : ℕ) (rules : List RewriteRule) → place ≡ length front → AreRules place axioms rules
    → HaveAxioms (front ++ (axioms ++ more)) rules
axioms_of_rules front [] more place rules e h = subst (HaveAxioms (front ++ more)) (sym h) tt
axioms_of_rules front (a ∷ axioms) more place rules e (inl p) =
    let from = from_axiom place a p.0 p.3 in
    let rest : HaveAxioms ((front ++ a ∷ []) ++ (axioms ++ more)) p.1
    = axioms_of_rules (front ++ a ∷ []) axioms more (suc place) p.1 (omega (arith, e, length-append front (a ∷ []))) p.4 in
    subst (HaveAxioms (front ++ a ∷ (axioms ++ more))) (sym p.2) (
      (a, ap (slice_get (front ++ a ∷ (axioms ++ more))) (from.0 ∙ e) ∙ get_first_new front a (axioms ++ more), from.1),
      subst (λ l. HaveAxioms l p.1) (append_assoc front (a ∷ []) (axioms ++ more)) rest,
    )
axioms_of_rules front (a ∷ axioms) more place rules e (inr p) =
    subst (λ l. HaveAxioms l rules) (append_assoc front (a ∷ []) (axioms ++ more))
    (axioms_of_rules (front ++ a ∷ []) axioms more (suc place) rules (omega (arith, e, length-append front (a ∷ []))) p.1)

-- the rule that rewrites, with its axiom
pub fired : (start : List PlainFormula) (rules : List RewriteRule) (a : FreeFormula) (r : Rewriting) → HaveAxioms start rules → Rewrites rules a (Some r)
    → (rule : RewriteRule) × Fires rule a r × (b : PlainFormula) × (slice_get start rule.axiom_place ≡ Some b) × IsFrom b rule
fired start [] a r have w = absurd (none_is_some r (sym w))
fired start (rule ∷ rules) a r have (inl p) = (rule, subst (Fires rule a) (sym (some_once r p.0 p.1)) p.2, have.0.0, have.0.1, have.0.2)
fired start (rule ∷ rules) a r have (inr p) = fired start rules a r have.1 p.1

get_map_at : {A B : Type 0} (f : A → B) (xs : List A) (i : ℕ) (x : A) → slice_get xs i ≡ Some x → slice_get (map f xs) i ≡ Some (f x)
get_map_at f [] i x e = absurd (none_is_some x e)
get_map_at f (y ∷ xs) zero x e = ap (λ z. Some (f z)) (some_once y x e)
get_map_at f (y ∷ xs) (suc i) x e = get_map_at f xs i x e

-- a start formula stands at its place on each branch
pub start_entry : (b : Branch) (start : List PlainFormula) (i : ℕ) (a : PlainFormula) → b.start ≡ map lift start → slice_get start i ≡ Some a → slice_get (entries b) i ≡ Some (entry 0 (lift a))
start_entry b start i a is e =
    let first = map (entry 0) b.start in
    let rest = entries_stay first [] b.steps in
    ap (λ es. slice_get es i) rest.1
    ∙ get_more first rest.0 i (entry 0 (lift a)) (get_map_at (entry 0) b.start i (lift a) (ap (λ l. slice_get l i) is ∙ get_map_at lift start i a e))

-- The gamma steps.
module _ (fs : List Symbol) (P : ℕ → Type 0) (most : ℕ) (few : (q : ℕ) → P q → q ≤ most) where
  pub gammas_prove : (us : List PlainTerm) (place len : ℕ) (list : List PlainFormula) (a : PlainFormula) (t : ProofTree)
      → slice_get list place ≡ Some (quantified (length us) a) → len ≡ length list → AreBuilt fs P list → ListBuilt fs P us
      → ((more : List PlainFormula) → len + length us ≡ length (list ++ more) → slice_get (list ++ more) (last_of place len us) ≡ Some (opened_from 0 us a)
      → AreBuilt fs P (list ++ more) → Proves fs most (list ++ more) t)
      → Proves fs most list (gammas place len us t)
  gammas_prove [] place len list a t at is built terms_built go =
      let same = append-nil list in
      subst (λ l. Proves fs most l t) same
      (go [] (subst (λ l. len + 0 ≡ length l) (sym same) (omega (arith, is))) (subst (λ l. slice_get l place ≡ Some a) (sym same) at) (subst (AreBuilt fs P) (sym same) built))
  gammas_prove (u ∷ us) place len list a t at is built terms_built go =
      let n = length us in
      let part = quantified n (open_at (0 + n) u a) in
      let opens : open_at 0 u (quantified n a) ≡ part = open_quantified 0 n u a in
      let new : IsBuilt fs P 0 part = subst (IsBuilt fs P 0) opens (opened fs P 0 u (quantified n a) terms_built.0 (built_at fs P list place (quantified (suc n) a) built at)) in
      let longer : length (list ++ part ∷ []) ≡ suc (length list) = length-append list (part ∷ []) ∙ omega arith in
      let rest : Proves fs most (list ++ part ∷ []) (gammas len (suc len) us t)
      = gammas_prove us len (suc len) (list ++ part ∷ []) (open_at (0 + n) u a) t
      (ap (slice_get (list ++ part ∷ [])) is ∙ get_first_new list part []) (omega (arith, is, longer))
      (both_built fs P list (part ∷ []) built (new, tt)) terms_built.1
      (λ more length_is final built_more.
      let same : (list ++ part ∷ []) ++ more ≡ list ++ part ∷ more = append_assoc list (part ∷ []) more in
      subst (λ l. Proves fs most l t) (sym same)
      (go (part ∷ more) (subst (λ l. len + suc n ≡ length l) same (omega (arith, length_is))) (subst (λ l. slice_get l (last_of len (suc len) us) ≡ Some (opened_from 0 us (open_at (0 + n) u a))) same final) (subst (AreBuilt fs P) same built_more))) in (
        (
          (list ++ part ∷ []) ∷ [],
          (part, ap (λ o. option_and_then (gamma_part (λ b. plain.instance b u)) o) at ∙ ap Some opens, closed_term fs P u terms_built.0, refl),
          (rest.0, tt),
        ),
        (wider_term fs P (λ q. q ≤ most) few 0 0 u (omega arith) terms_built.0, (rest.1, tt)),
      )

-- The beta step on an equivalence whose one side is the literal's atom: what is appended where the proof goes on, and where.
abbrev pub sides_in_order : Bool → PlainFormula → PlainFormula → List PlainFormula
sides_in_order head_left head body = if head_left then head ∷ body ∷ [] else body ∷ head ∷ []

get_pair : (head_left : Bool) (len : ℕ) (list : List PlainFormula) (head body : PlainFormula) → len ≡ length list
    → (slice_get (list ++ sides_in_order head_left head body) (head_place head_left len) ≡ Some head)
    × (slice_get (list ++ sides_in_order head_left head body) (body_place head_left len) ≡ Some body)
get_pair true len list head body e = (
  ap (slice_get (list ++ head ∷ body ∷ [])) e ∙ get_first_new list head (body ∷ []),
  ap (λ n. slice_get (list ++ head ∷ body ∷ []) (suc n)) e ∙ get_second_new list head body [],
)
get_pair false len list head body e = (
  ap (λ n. slice_get (list ++ body ∷ head ∷ []) (suc n)) e ∙ get_second_new list body head [],
  ap (slice_get (list ++ body ∷ head ∷ [])) e ∙ get_first_new list body (head ∷ []),
)

equivalence : Bool → PlainFormula → PlainFormula → PlainFormula
equivalence head_left head body = iff (if head_left then head else body) (if head_left then body else head)

-- of a positive literal
positive_beta : (head_left : Bool) (i e len : ℕ) (list : List PlainFormula) (p : ℕ) (us : PlainTerms) (body : PlainFormula) (go_on : ℕ → ProofTree)
    → slice_get list i ≡ Some (atom p us) → slice_get list e ≡ Some (iff (if head_left then atom p us else body) (if head_left then body else atom p us)) → len ≡ length list
    → Refutes (list ++ sides_in_order head_left (atom p us) body) (go_on (body_place head_left len))
    → Refutes list (beta_on_literal head_left true i e len go_on)
positive_beta true i e len list p us body go_on at_i at_e is go =
    let at_head = (get_pair true len list (not (atom p us)) (not body) is).0 in (
      (list ++ atom p us ∷ body ∷ []) ∷ (list ++ not (atom p us) ∷ not body ∷ []) ∷ [],
      (atom p us ∷ body ∷ [], not (atom p us) ∷ not body ∷ [], ap (λ o. option_and_then beta_parts o) at_e, refl),
      (
        go,
        (
          (
            [],
            (
              subst (λ o. gs3.Closes o (slice_get (list ++ not (atom p us) ∷ not body ∷ []) len)) (sym (get_more list (not (atom p us) ∷ not body ∷ []) i (atom p us) at_i))
                  (subst (λ o. gs3.Closes (Some (atom p us)) o) (sym at_head) (p, us, refl, refl)),
              refl,
            ),
            tt,
          ),
          tt,
        ),
      ),
    )
positive_beta false i e len list p us body go_on at_i at_e is go =
    let at_head = (get_pair false len list (not (atom p us)) (not body) is).0 in (
      (list ++ body ∷ atom p us ∷ []) ∷ (list ++ not body ∷ not (atom p us) ∷ []) ∷ [],
      (body ∷ atom p us ∷ [], not body ∷ not (atom p us) ∷ [], ap (λ o. option_and_then beta_parts o) at_e, refl),
      (
        go,
        (
          (
            [],
            (
              subst (λ o. gs3.Closes o (slice_get (list ++ not body ∷ not (atom p us) ∷ []) (suc len))) (sym (get_more list (not body ∷ not (atom p us) ∷ []) i (atom p us) at_i))
                  (subst (λ o. gs3.Closes (Some (atom p us)) o) (sym at_head) (p, us, refl, refl)),
              refl,
            ),
            tt,
          ),
          tt,
        ),
      ),
    )

-- of a negative literal
negative_beta : (head_left : Bool) (i e len : ℕ) (list : List PlainFormula) (p : ℕ) (us : PlainTerms) (body : PlainFormula) (go_on : ℕ → ProofTree)
    → slice_get list i ≡ Some (not (atom p us)) → slice_get list e ≡ Some (iff (if head_left then atom p us else body) (if head_left then body else atom p us)) → len ≡ length list
    → Refutes (list ++ sides_in_order head_left (not (atom p us)) (not body)) (go_on (body_place head_left len))
    → Refutes list (beta_on_literal head_left false i e len go_on)
negative_beta true i e len list p us body go_on at_i at_e is go =
    let at_head = (get_pair true len list (atom p us) body is).0 in (
      (list ++ atom p us ∷ body ∷ []) ∷ (list ++ not (atom p us) ∷ not body ∷ []) ∷ [],
      (atom p us ∷ body ∷ [], not (atom p us) ∷ not body ∷ [], ap (λ o. option_and_then beta_parts o) at_e, refl),
      (
        (
          [],
          (
            subst (λ o. gs3.Closes (slice_get (list ++ atom p us ∷ body ∷ []) len) o) (sym (get_more list (atom p us ∷ body ∷ []) i (not (atom p us)) at_i))
                (subst (λ o. gs3.Closes o (Some (not (atom p us)))) (sym at_head) (p, us, refl, refl)),
            refl,
          ),
          tt,
        ),
        (go, tt),
      ),
    )
negative_beta false i e len list p us body go_on at_i at_e is go =
    let at_head = (get_pair false len list (atom p us) body is).0 in (
      (list ++ body ∷ atom p us ∷ []) ∷ (list ++ not body ∷ not (atom p us) ∷ []) ∷ [],
      (body ∷ atom p us ∷ [], not body ∷ not (atom p us) ∷ [], ap (λ o. option_and_then beta_parts o) at_e, refl),
      (
        (
          [],
          (
            subst (λ o. gs3.Closes (slice_get (list ++ body ∷ atom p us ∷ []) (suc len)) o) (sym (get_more list (body ∷ atom p us ∷ []) i (not (atom p us)) at_i))
                (subst (λ o. gs3.Closes o (Some (not (atom p us)))) (sym at_head) (p, us, refl, refl)),
            refl,
          ),
          tt,
        ),
        (go, tt),
      ),
    )

-- of a literal of either sign
abbrev pub signed : Bool → PlainFormula → PlainFormula
signed true a = a
signed false a = not a

literal_beta : (fs : List Symbol) (most : ℕ) (positive head_left : Bool) (i e len : ℕ) (list : List PlainFormula) (p : ℕ) (us : PlainTerms) (body : PlainFormula) (go_on : ℕ → ProofTree)
    → slice_get list i ≡ Some (signed positive (atom p us)) → slice_get list e ≡ Some (iff (if head_left then atom p us else body) (if head_left then body else atom p us)) → len ≡ length list
    → Proves fs most (list ++ sides_in_order head_left (signed positive (atom p us)) (signed positive body)) (go_on (body_place head_left len))
    → Proves fs most list (beta_on_literal head_left positive i e len go_on)
literal_beta fs most false true i e len list p us body go_on at_i at_e is go =
    (negative_beta true i e len list p us body go_on at_i at_e is go.0, (tt, ((tt, tt), (go.1, tt))))
literal_beta fs most false false i e len list p us body go_on at_i at_e is go =
    (negative_beta false i e len list p us body go_on at_i at_e is go.0, (tt, ((tt, tt), (go.1, tt))))
literal_beta fs most true true i e len list p us body go_on at_i at_e is go =
    (positive_beta true i e len list p us body go_on at_i at_e is go.0, (tt, (go.1, ((tt, tt), tt))))
literal_beta fs most true false i e len list p us body go_on at_i at_e is go =
    (positive_beta false i e len list p us body go_on at_i at_e is go.0, (tt, (go.1, ((tt, tt), tt))))

sides_open : (q : Bool) (vs : List PlainTerm) (a b : PlainFormula) → opened_by 0 vs (if q then a else b) ≡ (if q then opened_by 0 vs a else opened_by 0 vs b)
sides_open true vs a b = refl
sides_open false vs a b = refl

built_sides : (fs : List Symbol) (P : ℕ → Type 0) (q : Bool) (n : ℕ) (a b : PlainFormula) → IsBuilt fs P n (iff (if q then a else b) (if q then b else a)) → IsBuilt fs P n a × IsBuilt fs P n b
built_sides fs P true n a b h = h
built_sides fs P false n a b h = (h.1, h.0)

sides_built : (fs : List Symbol) (P : ℕ → Type 0) (q positive : Bool) (a b : PlainFormula) → IsBuilt fs P 0 a × IsBuilt fs P 0 b → AreBuilt fs P (sides_in_order q (signed positive a) (signed positive b))
sides_built fs P true true a b h = (h.0, (h.1, tt))
sides_built fs P true false a b h = (h.0, (h.1, tt))
sides_built fs P false true a b h = (h.1, (h.0, tt))
sides_built fs P false false a b h = (h.1, (h.0, tt))

two_sides : (q : Bool) (a b : PlainFormula) → length (sides_in_order q a b) ≡ 2
two_sides true a b = refl
two_sides false a b = refl

unsigned_built : (fs : List Symbol) (P : ℕ → Type 0) (positive : Bool) (p : ℕ) (us : PlainTerms) → IsBuilt fs P 0 (signed positive (atom p us)) → AreBuiltTerms fs P 0 us
unsigned_built fs P true p us h = h
unsigned_built fs P false p us h = h

unquantified : (fs : List Symbol) (P : ℕ → Type 0) (k n : ℕ) (a : PlainFormula) → IsBuilt fs P k (quantified n a) → IsBuilt fs P (k + n) a
unquantified fs P k zero a h = let same : k ≡ k + 0 = omega arith in subst (λ m. IsBuilt fs P m a) same h
unquantified fs P k (suc n) a h = let same : suc k + n ≡ k + suc n = omega arith in subst (λ m. IsBuilt fs P m a) same (unquantified fs P (suc k) n a h)

within : {A : Type 0} (xs : List A) (i : ℕ) (x : A) → slice_get xs i ≡ Some x → i < length xs
within [] i x e = absurd (none_is_some x e)
within (y ∷ xs) zero x e = omega arith
within (y ∷ xs) (suc i) x e = omega (arith, within xs i x e)

length_reverse : {A : Type 0} (xs : List A) → length (reverse xs) ≡ length xs
length_reverse [] = refl
length_reverse (x ∷ xs) = ap length (reverse-cons x xs) ∙ length-append (reverse xs) (x ∷ []) ∙ omega (arith, length_reverse xs)

length_map : {A B : Type 0} (f : A → B) (xs : List A) → length (map f xs) ≡ length xs
length_map f [] = refl
length_map f (x ∷ xs) = ap suc (length_map f xs)

none_given : {A : Type 0} (t : A) → Some None ≡ Some (Some t) → ⊥
none_given t e = cc

module _ (fs : List Symbol) (s : Offer) (ys : List Name) (start : List PlainFormula) where
  -- The rewriting of an entry, where the proof goes on with what stands below it.
  abbrev pub RewriteProves : Branch → ℕ → List ℕ → ℕ → List PlainFormula → (ℕ → ProofTree) → Rewriting → Type 0
  RewriteProves b i places len list go_on r =
      let us = reverse (map (fill_under s ys) r.fills) in
      let place = place_in places r.axiom_place in
      ((body_at : ℕ) (longer : List PlainFormula) → Stands fs s ys (after b (rewrite i r)) (places ++ body_at ∷ []) longer → 2 + (len + length us) ≡ length longer → Proves fs (length ys) longer (go_on body_at))
      → Proves fs (length ys) list (rewriting len place (place_in places i) (is_positive_at (slice_get (entries b) i)) r.head_left us go_on)

  by_rule : (b : Branch) (i : ℕ) (e : Entry) (places : List ℕ) (len : ℕ) (list : List PlainFormula) (go_on : ℕ → ProofTree) (rule : RewriteRule) (axiom_ : PlainFormula)
      (positive : Bool) (p : ℕ) (us : FreeTerms) (fills : List (Option FreeTerm)) (result : FreeFormula)
      → Stands fs s ys b places list → len ≡ length list → AreBuilt fs NoParam start → b.start ≡ map lift start → slice_get (entries b) i ≡ Some e
      → slice_get start rule.axiom_place ≡ Some axiom_ → IsFrom axiom_ rule
      → slice_get list (place_in places i) ≡ Some (signed positive (atom p (closed_all ys (resolved_all s us)))) → is_positive_at (slice_get (entries b) i) ≡ positive
      → p ≡ rule.predicate → IsMatch rule.arguments rule.count us fills → under s ys result ≡ signed positive (under s ys (fill_all fills rule.body))
      → RewriteProves b i places len list go_on (rewriting_by rule fills result)
  by_rule b i e places len list go_on rule axiom_ positive p us fills result st is start_is_built from_start at_entry at_axiom from at_literal sign same_predicate match_ result_is below =
      gammas_prove fs K (length ys) (λ q k. k.0) (reverse vs) place len list sides tree at_list is st.built (built_reverse fs K vs vs_built) finish
    where
      K : ℕ → Type 0
      K = IsKnown s ys b

      vs : List PlainTerm
      vs = map (fill_under s ys) fills

      place : ℕ
      place = place_in places rule.axiom_place

      args : PlainTerms
      args = closed_all ys (resolved_all s us)

      body : PlainFormula
      body = under s ys (fill_all fills rule.body)

      sides : PlainFormula
      sides = iff (left_side rule from.body) (right_side rule from.body)

      step : Done
      step = rewrite i (rewriting_by rule fills result)

      more_len : ℕ
      more_len = len + length (reverse vs)

      tree : ProofTree
      tree = beta_on_literal rule.head_left (is_positive_at (slice_get (entries b) i)) (place_in places i) (last_of place len (reverse vs)) more_len go_on

      axiom_built : IsBuilt fs NoParam 0 axiom_
      axiom_built = built_at fs NoParam start rule.axiom_place axiom_ start_is_built at_axiom

      both_sides : IsBuilt fs NoParam rule.count (atom rule.predicate rule.arguments) × IsBuilt fs NoParam rule.count from.body
      both_sides = built_sides fs NoParam rule.head_left rule.count (atom rule.predicate rule.arguments) from.body
          (subst (λ n. IsBuilt fs NoParam n sides) (zero-add rule.count) (unquantified fs NoParam 0 rule.count sides (subst (IsBuilt fs NoParam 0) from.form axiom_built)))

      args_built : AreBuiltTerms fs K 0 args
      args_built = unsigned_built fs K positive p args (built_at fs K list (place_in places i) (signed positive (atom p args)) st.built at_literal)

      filled : IsFilled fills 0 (λ m. variable_in_terms m rule.arguments)
      filled n m e o none =
          let lt : n < rule.count = omega (arith, within fills n None none, match_.one_each) in
          let same : m ≡ n = omega (arith, e) in
          false≢true (sym ((match_.used n lt).0 none) ∙ ap (λ k. variable_in_terms k rule.arguments) (sym same) ∙ o)

      each_built : (n : ℕ) (t : FreeTerm) → slice_get fills n ≡ Some (Some t) → IsBuiltTerm fs K 0 (term_under s ys t)
      each_built n t at = by_test (variable_in_terms n rule.arguments) refl where
        by_test : (q : Bool) → variable_in_terms n rule.arguments ≡ q → IsBuiltTerm fs K 0 (term_under s ys t)
        by_test true o = stands_in_arguments fs s ys K fills n t at rule.arguments o (subst (λ ws. AreBuiltTerms fs K 0 (closed_all ys (resolved_all s ws))) (sym match_.same) args_built)
        by_test false o =
            let lt : n < rule.count = omega (arith, within fills n (Some t) at, match_.one_each) in
            absurd (none_given t (sym ((match_.used n lt).1 o) ∙ at))

      vs_built : ListBuilt fs K vs
      vs_built = fills_built fs s ys K (zero_known s ys b) fills each_built

      head_is : opened_by 0 vs (atom rule.predicate rule.arguments) ≡ atom p args
      head_is =
          opened_atom 0 vs rule.predicate rule.arguments
          ∙ ap (atom rule.predicate) (sym (filled_arguments fs s ys fills (list_closed fs K vs vs_built) rule.count rule.arguments both_sides.0 filled) ∙ ap (λ ws. closed_all ys (resolved_all s ws)) match_.same)
          ∙ ap (λ k. atom k args) (sym same_predicate)

      body_is : opened_by 0 vs from.body ≡ body
      body_is =
          sym (filled_formula fs s ys fills (list_closed fs K vs vs_built) rule.count from.body both_sides.1 (λ n m e o. filled n m e (from.head m o)))
          ∙ ap (λ c. under s ys (fill_all fills c)) (sym from.lifted_body)

      final_is : opened_from 0 (reverse vs) sides ≡ iff (if rule.head_left then atom p args else body) (if rule.head_left then body else atom p args)
      final_is =
          from_outermost 0 vs sides ∙ opened_iff 0 vs (left_side rule from.body) (right_side rule from.body)
          ∙ ap₂ iff (sides_open rule.head_left vs (atom rule.predicate rule.arguments) from.body ∙ ap₂ (λ x y. if rule.head_left then x else y) head_is body_is)
          (sides_open rule.head_left vs from.body (atom rule.predicate rule.arguments) ∙ ap₂ (λ x y. if rule.head_left then x else y) body_is head_is)

      many : length (reverse vs) ≡ rule.count
      many = length_reverse vs ∙ length_map (fill_under s ys) fills ∙ match_.one_each

      at_list : slice_get list place ≡ Some (quantified (length (reverse vs)) sides)
      at_list =
          placed_at s ys list places (entries b) rule.axiom_place (entry 0 (lift axiom_)) st.placed (start_entry b start rule.axiom_place axiom_ from_start at_axiom)
          ∙ ap Some (lifted fs s ys 0 axiom_ axiom_built ∙ from.form ∙ ap (λ n. quantified n sides) (sym many))

      finish : (more : List PlainFormula) → len + length (reverse vs) ≡ length (list ++ more) → slice_get (list ++ more) (last_of place len (reverse vs)) ≡ Some (opened_from 0 (reverse vs) sides)
          → AreBuilt fs K (list ++ more) → Proves fs (length ys) (list ++ more) tree
      finish more long final built_more =
          let at_e = final ∙ ap Some final_is in
          let new = sides_in_order rule.head_left (signed positive (atom p args)) (signed positive body) in
          let parts = built_sides fs K rule.head_left 0 (atom p args) body (built_at fs K (list ++ more) (last_of place len (reverse vs)) (iff (if rule.head_left then atom p args else body) (if rule.head_left then body else atom p args)) built_more at_e) in
          let all_built : AreBuilt fs K ((list ++ more) ++ new) = both_built fs K (list ++ more) new built_more (sides_built fs K rule.head_left positive (atom p args) body parts) in
          let at_body = (get_pair rule.head_left more_len (list ++ more) (signed positive (atom p args)) (signed positive body) long).1 in
          let entries_are = entries_at b step e at_entry in
          let placed_entries : Placed s ys ((list ++ more) ++ new) (places ++ body_place rule.head_left more_len ∷ []) (entries (after b step))
          = subst (Placed s ys ((list ++ more) ++ new) (places ++ body_place rule.head_left more_len ∷ [])) (sym entries_are)
          (placed_both s ys ((list ++ more) ++ new) places (body_place rule.head_left more_len ∷ []) (entries b) (record { formula = result; level = suc e.level } ∷ [])
          (placed_more s ys (list ++ more) new places (entries b) (placed_more s ys list more places (entries b) st.placed)) (at_body ∙ ap Some (sym result_is), tt)) in
          let standing : Stands fs s ys (after b step) (places ++ body_place rule.head_left more_len ∷ []) ((list ++ more) ++ new)
          = record { placed = placed_entries; built = all_wider fs K (IsKnown s ys (after b step)) (known_next s ys b step) ((list ++ more) ++ new) all_built } in
          subst (λ q. Proves fs (length ys) (list ++ more) (beta_on_literal rule.head_left q (place_in places i) (last_of place len (reverse vs)) more_len go_on)) (sym sign)
          (literal_beta fs (length ys) positive rule.head_left (place_in places i) (last_of place len (reverse vs)) more_len (list ++ more) p args body go_on
          (get_more list more (place_in places i) (signed positive (atom p args)) at_literal) at_e long
          (below (body_place rule.head_left more_len) ((list ++ more) ++ new) standing (omega (arith, long, length-append (list ++ more) new, two_sides rule.head_left (signed positive (atom p args)) (signed positive body)))))

  by_literal : (b : Branch) (i : ℕ) (e : Entry) (places : List ℕ) (len : ℕ) (list : List PlainFormula) (go_on : ℕ → ProofTree) (r : Rewriting) (rule : RewriteRule) (axiom_ : PlainFormula) (a : FreeFormula)
      → Stands fs s ys b places list → len ≡ length list → AreBuilt fs NoParam start → b.start ≡ map lift start → slice_get (entries b) i ≡ Some e
      → slice_get start rule.axiom_place ≡ Some axiom_ → IsFrom axiom_ rule → e.formula ≡ a → Fires rule a r → RewriteProves b i places len list go_on r
  by_literal b i e places len list go_on r rule axiom_ (atom p us) st is start_is_built from_start at_entry at_axiom from form fires =
      subst (RewriteProves b i places len list go_on) (sym fires.3)
      (by_rule b i e places len list go_on rule axiom_ true p us fires.1 (fill_all fires.1 rule.body) st is start_is_built from_start at_entry at_axiom from
      (placed_at s ys list places (entries b) i e st.placed at_entry ∙ ap (λ c. Some (under s ys c)) form) (ap is_positive_at at_entry ∙ ap is_positive form) fires.0 fires.2 refl)
  by_literal b i e places len list go_on r rule axiom_ (not (atom p us)) st is start_is_built from_start at_entry at_axiom from form fires =
      subst (RewriteProves b i places len list go_on) (sym fires.3)
      (by_rule b i e places len list go_on rule axiom_ false p us fires.1 (not (fill_all fires.1 rule.body)) st is start_is_built from_start at_entry at_axiom from
      (placed_at s ys list places (entries b) i e st.placed at_entry ∙ ap (λ c. Some (under s ys c)) form) (ap is_positive_at at_entry ∙ ap is_positive form) fires.0 fires.2 refl)
  by_literal b i e places len list go_on r rule axiom_ a st is start_is_built from_start at_entry at_axiom from form fires = absurd fires

  pub rewrite_proves : (b : Branch) (i : ℕ) (e : Entry) (places : List ℕ) (len : ℕ) (list : List PlainFormula) (go_on : ℕ → ProofTree) (r : Rewriting)
      → Stands fs s ys b places list → len ≡ length list → AreBuilt fs NoParam start → b.start ≡ map lift start → HaveAxioms start b.rules → slice_get (entries b) i ≡ Some e → Rewrites b.rules e.formula (Some r)
      → RewriteProves b i places len list go_on r
  rewrite_proves b i e places len list go_on r st is start_is_built from_start have at_entry w =
      let f = fired start b.rules e.formula r have w in by_literal b i e places len list go_on r f.0 f.2 e.formula st is start_is_built from_start at_entry f.3 f.4 refl f.1
