-- The translation of the closed tree of an offer of the round refutes the start list.
use Rattle.std.proofs.Common.{◌≡◌, ℕ, suc, ◌<◌, ◌≤◌, ◌^◌, Bool, true, false, List, [], ◌∷◌, ◌++◌, map, length, refl, ap, sym, ◌∙◌, subst, arith}
use Rattle.std.specs.List.{AllByRecursion}
use Rattle.fol_core.specs.Syntax.{PlainFormula}
use Rattle.fol_core.specs.Symbol.{Symbol, SymbolTable}
use Rattle.fof_parse.specs.WellFormed.{IsClosedOver}
use Rattle.gs3_rules.specs.Rules.{Rule, close, false_at, not_true, alpha, beta, delta, gamma}
use Rattle.gs3_rules.specs.Refutes.{ProofTree, by, Premises, no_premises, premise, Refutes, preorder, preorder_each}
use Rattle.gs3_text.specs.ProofText.{IsSpellableTerm}
use Rattle.free_terms.specs.Free.{Name, lift}
use Rattle.unify.specs.Offers.{Offer, IsOffer}
use Rattle.rewrite_rules.specs.Rules.{RewriteRule, RulesOf}
use Rattle.branch_rules.specs.Branch.{Branch, entry, entries, root}
use Rattle.tab_tree.specs.Tableau.{Tableau, IsTableau}
use Rattle.tab_tree.specs.Segments.{all_segments}
use Rattle.tab_tree.specs.Round.{IsOfRound}
use Rattle.tab_tree.specs.ClosedTree.{ClosedTree, IsClosedTree}
use Rattle.translation.proofs.Followed.{closed_tree_follows}
use Rattle.translation.specs.StepTree.{step_tree}
use Rattle.translation.specs.Translation.{skolems, run_of, proof_of}
use Rattle.translation.specs.Measures.{MeasuredProof, Translates, nesting_of, term_depth}
use Rattle.translation.proofs.Built.{IsBuiltTerm, AreBuilt, all_wider, well_formed, over_term, HasTerm, HasTerms, HaveTerms, Proves}
use Rattle.translation.proofs.Standing.{IsKnown, Placed, Stands}
use Rattle.translation.proofs.Lifted.{NoParam}
use Rattle.translation.proofs.Expanded.{HaveAxioms, axioms_of_rules}
use Rattle.translation.proofs.Translates.{placed_start, translates}

-- each formula of the list is closed and over the table's symbols
abbrev pub AreClosedOver : SymbolTable → List PlainFormula → Type 0
AreClosedOver table list = AllByRecursion (IsClosedOver table) list

start_built : (table : SymbolTable) (list : List PlainFormula) → AreClosedOver table list → AreBuilt table.functions NoParam list
start_built table [] h = tt
start_built table (a ∷ list) h = (well_formed table NoParam 0 a h.0, start_built table list h.1)

no_axioms : (start : List PlainFormula) (rules : List RewriteRule) → rules ≡ [] → HaveAxioms start rules
no_axioms start rules e = subst (HaveAxioms start) (sym e) tt

rules_have_axioms : (on : Bool) (axioms more : List PlainFormula) (rules : List RewriteRule) → RulesOf on axioms rules → HaveAxioms (axioms ++ more) rules
rules_have_axioms true axioms more rules h = axioms_of_rules [] axioms more 0 rules refl h
rules_have_axioms false axioms more rules h = no_axioms (axioms ++ more) rules h

length_map : {A B : Type 0} (f : A → B) (xs : List A) → length (map f xs) ≡ length xs
length_map f [] = refl
length_map f (x ∷ xs) = ap suc (length_map f xs)

-- The theorem, with what the terms of the proof are built of.
pub translation_proves : (table : SymbolTable) (axioms more : List PlainFormula) (on : Bool) (rules : List RewriteRule) (d : ℕ) (t : Tableau) (s : Offer) (c : ClosedTree)
    → AreClosedOver table (axioms ++ more) → RulesOf on axioms rules → IsTableau d (root (map lift (axioms ++ more)) rules) t
    → IsOffer s → IsOfRound table.functions (root (map lift (axioms ++ more)) rules) t s → IsClosedTree s (all_segments (root (map lift (axioms ++ more)) rules) t) c
    → Proves table.functions (length (skolems (step_tree (root (map lift (axioms ++ more)) rules) c))) (axioms ++ more) (proof_of s (root (map lift (axioms ++ more)) rules) c)
translation_proves table axioms more on rules d t s c closed_over of tableau offer round closed_tree =
    translates fs b t s ys offer round start (step_tree b c) d b (run_of 0 (length (entries b))) (length (entries b)) start
    (closed_tree_follows s d b t c tableau closed_tree) (λ x m. m) stands many built refl (rules_have_axioms on axioms more rules of)
  where
    start : List PlainFormula
    start = axioms ++ more

    b : Branch
    b = root (map lift start) rules

    ys : List Name
    ys = skolems (step_tree b c)

    fs : List Symbol
    fs = table.functions

    built : AreBuilt fs NoParam start
    built = start_built table start closed_over

    many : length (entries b) ≡ length start
    many = length_map (entry 0) (map lift start) ∙ length_map lift start

    stands : Stands fs s ys b (run_of 0 (length (entries b))) start
    stands = record {
      placed = subst (λ n. Placed s ys start (run_of 0 n) (entries b)) (sym many) (placed_start fs b t s ys offer round start [] start built);
      built = all_wider fs NoParam (IsKnown s ys b) (λ q p. absurd p) start built;
    }

-- For every start list of closed formulas over a problem's symbols, rules of its axioms, depth, and offer of the round: the
-- closed tree of the offer, translated, refutes the start list.
pub translation_refutes : (table : SymbolTable) (axioms more : List PlainFormula) (on : Bool) (rules : List RewriteRule) (d : ℕ) (t : Tableau) (s : Offer) (found : MeasuredProof)
    → AreClosedOver table (axioms ++ more) → RulesOf on axioms rules → IsTableau d (root (map lift (axioms ++ more)) rules) t
    → IsOffer s → IsOfRound table.functions (root (map lift (axioms ++ more)) rules) t s → Translates table.functions s (root (map lift (axioms ++ more)) rules) t found
    → Refutes (axioms ++ more) found.tree
translation_refutes table axioms more on rules d t s found closed_over of tableau offer round h =
    subst (λ m. Refutes (axioms ++ more) m.tree) (sym h.2) (translation_proves table axioms more on rules d t s h.0 closed_over of tableau offer round h.1).0

-- A proof text can spell the terms that nest no deeper than it allows.
module _ (fs : List Symbol) (most : ℕ) (small : most < 2 ^ 64) where
  term_spellable : (rule : Rule) → HasTerm (IsBuiltTerm fs (λ q. q ≤ most) 0) rule → term_depth rule ≤ 4096 → IsSpellableTerm fs rule
  term_spellable (close i j) h le = tt
  term_spellable (false_at i) h le = tt
  term_spellable (not_true i) h le = tt
  term_spellable (alpha i) h le = tt
  term_spellable (beta i) h le = tt
  term_spellable (delta i n) h le = tt
  term_spellable (gamma i t) h le = (over_term fs (λ q. q ≤ most) (λ q few. omega (arith, few, small)) t h, le)

  all_both : (xs ys : List Rule) → AllByRecursion (IsSpellableTerm fs) xs → AllByRecursion (IsSpellableTerm fs) ys → AllByRecursion (IsSpellableTerm fs) (xs ++ ys)
  all_both [] ys h k = k
  all_both (x ∷ xs) ys h k = (h.0, all_both xs ys h.1 k)

  first_nests : (xs ys : List Rule) → nesting_of (xs ++ ys) ≤ 4096 → nesting_of xs ≤ 4096
  first_nests [] ys le = omega arith
  first_nests (x ∷ xs) ys le = omega (arith, first_nests xs ys (omega (arith, le)), le)

  rest_nests : (xs ys : List Rule) → nesting_of (xs ++ ys) ≤ 4096 → nesting_of ys ≤ 4096
  rest_nests [] ys le = le
  rest_nests (x ∷ xs) ys le = rest_nests xs ys (omega (arith, le))

  mutual
    spellable : (tree : ProofTree) → HasTerms (IsBuiltTerm fs (λ q. q ≤ most) 0) tree → nesting_of (preorder tree) ≤ 4096 → AllByRecursion (IsSpellableTerm fs) (preorder tree)
    spellable (by rule subtrees) h le = (term_spellable rule h.0 (omega (arith, le)), each_spellable subtrees h.1 (omega (arith, le)))

    each_spellable : (trees : Premises) → HaveTerms (IsBuiltTerm fs (λ q. q ≤ most) 0) trees → nesting_of (preorder_each trees) ≤ 4096 → AllByRecursion (IsSpellableTerm fs) (preorder_each trees)
    each_spellable no_premises h le = tt
    each_spellable (premise tree trees) h le =
        all_both (preorder tree) (preorder_each trees) (spellable tree h.0 (first_nests (preorder tree) (preorder_each trees) le)) (each_spellable trees h.1 (rest_nests (preorder tree) (preorder_each trees) le))

-- So the translation within the limit of nesting has a proof text, with fewer than 2 ^ 64 parameters.
pub translation_spellable : (table : SymbolTable) (axioms more : List PlainFormula) (on : Bool) (rules : List RewriteRule) (d : ℕ) (t : Tableau) (s : Offer) (c : ClosedTree)
    → AreClosedOver table (axioms ++ more) → RulesOf on axioms rules → IsTableau d (root (map lift (axioms ++ more)) rules) t
    → IsOffer s → IsOfRound table.functions (root (map lift (axioms ++ more)) rules) t s → IsClosedTree s (all_segments (root (map lift (axioms ++ more)) rules) t) c → length (skolems (step_tree (root (map lift (axioms ++ more)) rules) c)) < 2 ^ 64
    → nesting_of (preorder (proof_of s (root (map lift (axioms ++ more)) rules) c)) ≤ 4096
    → AllByRecursion (IsSpellableTerm table.functions) (preorder (proof_of s (root (map lift (axioms ++ more)) rules) c))
translation_spellable table axioms more on rules d t s c closed_over of tableau offer round closed_tree few le =
    spellable table.functions (length (skolems (step_tree (root (map lift (axioms ++ more)) rules) c))) few (proof_of s (root (map lift (axioms ++ more)) rules) c)
    (translation_proves table axioms more on rules d t s c closed_over of tableau offer round closed_tree).1 le
