-- The calculus on a small example.
use Rattle.std.proofs.Common.{◌≡◌, List, [], ◌∷◌, ◌++◌, Some, refl, ap, sym, ◌∙◌, subst}
use Rattle.fol_core.specs.Syntax.{PlainTerms, no_terms, PlainFormula, atom, not, imp}
use Rattle.gs3_rules.specs.Rules.{close, beta, Step}
use Rattle.gs3_rules.specs.Refutes.{ProofTree, by, no_premises, premise, Refutes, preorder, RefutedBy, IsWhole}
use Rattle.gs3_rules.specs.InTurn.{RefuteInTurn}
use Rattle.gs3_rules.proofs.InTurn.{refuted_in_turn}

abbrev p : PlainFormula
p = atom 0 no_terms

abbrev q : PlainFormula
q = atom 1 no_terms

-- p, p => q and ~q
abbrev start : List PlainFormula
start = p ∷ imp p q ∷ not q ∷ []

abbrev tree : ProofTree
tree =
    by (beta 1) (premise (by (close 0 3) no_premises) (premise (by (close 3 2) no_premises) no_premises))

steps : preorder tree ≡ beta 1 ∷ close 0 3 ∷ close 3 2 ∷ []
steps = refl

is_whole : IsWhole (beta 1 ∷ close 0 3 ∷ close 3 2 ∷ [])
is_whole = (tree, (refl, ((refl, tt), ((refl, tt), tt))), refl)

refuted : Refutes start tree
refuted = (
  (start ++ not p ∷ []) ∷ (start ++ q ∷ []) ∷ [],
  (not p ∷ [], q ∷ [], refl, refl),
  (([], ((0, no_terms, refl, refl), refl), tt), (([], ((1, no_terms, refl, refl), refl), tt), tt)),
)

no_negation : (us : PlainTerms) (a : PlainFormula) → imp p q ≡ not a → ⊥
no_negation us a e = cc

same_some : {A : Type 0} (a b : A) → Some a ≡ Some b → a ≡ b
same_some a b e = cc

after_beta : (lists : List (List PlainFormula)) → Step start (beta 1) lists → lists ≡ (start ++ not p ∷ []) ∷ (start ++ q ∷ []) ∷ []
after_beta lists s = s.3 ∙ ap (λ parts. (start ++ parts.0) ∷ (start ++ parts.1) ∷ []) (sym (same_some (not p ∷ [], q ∷ []) (s.0, s.1) s.2))

-- with the last place 1 in place of 2, no tree of these steps refutes it
not_refuted : RefutedBy start (beta 1 ∷ close 0 3 ∷ close 3 1 ∷ []) → ⊥
not_refuted h =
    let turns = (refuted_in_turn start (beta 1 ∷ close 0 3 ∷ close 3 1 ∷ [])).0 h in
    let left : RefuteInTurn ((start ++ not p ∷ []) ∷ (start ++ q ∷ []) ∷ []) (close 0 3 ∷ close 3 1 ∷ [])
    = subst (λ a. RefuteInTurn (a ++ []) (close 0 3 ∷ close 3 1 ∷ [])) (after_beta turns.0 turns.1) turns.2 in
    let right : RefuteInTurn ((start ++ q ∷ []) ∷ []) (close 3 1 ∷ [])
    = subst (λ a. RefuteInTurn (a ++ (start ++ q ∷ []) ∷ []) (close 3 1 ∷ [])) left.1.1 left.2 in
    no_negation right.1.0.1 _ right.1.0.3
