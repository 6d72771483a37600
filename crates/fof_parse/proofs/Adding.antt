-- The problem of the statements so far, and of one more.
use Rattle.std.proofs.Common.{◌≡◌, ℕ, Bool, true, false, cond, not, ◌||◌, List, [], ◌∷◌, ◌++◌, map, filter, Option, None, refl, sym, ap, subst, ◌∙◌, append-nil}
use Rattle.std.specs.Prelude.{option_to_list}
use Rattle.std.specs.List.{flat_map}
use Rattle.std.proofs.lemmas.Grind.{flat_map-append}
use Rattle.std.proofs.lemmas.List.{map-append}
use Rattle.std.proofs.lemmas.List.Elements.{filter-append}
use Rattle.fol_core.specs.Syntax.{PlainFormula}
use Rattle.fol_core.specs.Symbol.{SymbolTable, IsAt}
use Rattle.fol_core.specs.Symbol.{Symbol as Known}
use Rattle.fof_parse.specs.declared.refusal.BadKind.{BadKind}
use Rattle.fof_parse.specs.Token.{Placed}
use Rattle.fof_parse.specs.Grammar.{Sentence, Statement}
use Rattle.fof_parse.specs.Problem.{PlainProblem, Label, is_conjecture, functions_in, predicates_in, InternsAll, ArePlain, AreLabels, formulas_in, IsProblemOf}
use Rattle.fof_parse.specs.Refusal.{IsGood, first_of, behind_first, AreGood, FirstBad, later}
use Rattle.fof_parse.specs.Reader.Adding.{Places, Adds, Leads}
use Rattle.fof_parse.proofs.Effects.{interns_all_keeps, interns_all-append, plain_kept}

are_plain-append : (table : SymbolTable) (ss ts : List Sentence) (bs cs : List PlainFormula) → ArePlain table ss bs → ArePlain table ts cs → ArePlain table (ss ++ ts) (bs ++ cs)
are_plain-append table [] ts [] cs h k = k
are_plain-append table [] ts (b ∷ bs) cs h k = absurd h
are_plain-append table (s ∷ ss) ts [] cs h k = absurd h
are_plain-append table (s ∷ ss) ts (b ∷ bs) cs h k = (h.0, are_plain-append table ss ts bs cs h.1 k)

are_labels-append : (ss ts : List Statement) (ls ms : List Label) → AreLabels ss ls → AreLabels ts ms → AreLabels (ss ++ ts) (ls ++ ms)
are_labels-append [] ts [] ms h k = k
are_labels-append [] ts (l ∷ ls) ms h k = absurd h
are_labels-append (s ∷ ss) ts [] ms h k = absurd h
are_labels-append (s ∷ ss) ts (l ∷ ls) ms h k = (h.0, h.1, are_labels-append ss ts ls ms h.2 k)

all_kept : (old new : SymbolTable) → ((t : Known) (n : ℕ) → IsAt old.functions t n → IsAt new.functions t n) → ((t : Known) (n : ℕ) → IsAt old.predicates t n → IsAt new.predicates t n)
    → (ss : List Sentence) (bs : List PlainFormula) → ArePlain old ss bs → ArePlain new ss bs
all_kept old new fs ps [] [] h = tt
all_kept old new fs ps [] (b ∷ bs) h = h
all_kept old new fs ps (s ∷ ss) [] h = h
all_kept old new fs ps (s ∷ ss) (b ∷ bs) h = (plain_kept old new fs ps [] s b h.0, all_kept old new fs ps ss bs h.1)

formulas_in-append : (p : Statement → Bool) (xs ys : List Statement) → formulas_in p (xs ++ ys) ≡ formulas_in p xs ++ formulas_in p ys
formulas_in-append p xs ys = ap (map (λ st. st.formula)) (filter-append p xs ys) ∙ map-append (λ (st : Statement). st.formula) (filter p xs) (filter p ys)

-- the formula of one statement, where it passes the test
formulas_in-one : (p : Statement → Bool) (st : Statement) (b : Bool) → p st ≡ b → formulas_in p (st ∷ []) ≡ cond b (st.formula ∷ []) []
formulas_in-one p st true e = ap (λ c. map (λ (s : Statement). s.formula) (cond c (st ∷ []) [])) e
formulas_in-one p st false e = ap (λ c. map (λ (s : Statement). s.formula) (cond c (st ∷ []) [])) e

module _ (done : List Statement) (old new : PlainProblem) (st : Statement) (before : IsProblemOf done old) (adds : Adds old st new) where
  kept : (p : Statement → Bool) (bs : List PlainFormula) → ArePlain old.symbols (formulas_in p done) bs → ArePlain new.symbols (formulas_in p done) bs
  kept p bs h =
      all_kept old.symbols new.symbols (λ t n. interns_all_keeps old.symbols.functions new.symbols.functions (functions_in st.formula) t n adds.functions)
      (λ t n. interns_all_keeps old.symbols.predicates new.symbols.predicates (predicates_in st.formula) t n adds.predicates) (formulas_in p done) bs h

  -- the statement's formula behind those of a kind
  taken : (p : Statement → Bool) (bs cs : List PlainFormula) → ArePlain old.symbols (formulas_in p done) bs → p st ≡ true → cs ≡ bs ++ adds.plain ∷ []
      → ArePlain new.symbols (formulas_in p (done ++ st ∷ [])) cs
  taken p bs cs h e c =
      subst (λ ss. ArePlain new.symbols ss cs) (sym (formulas_in-append p done (st ∷ []) ∙ ap (λ ss. formulas_in p done ++ ss) (formulas_in-one p st true e)))
      (subst (λ ds. ArePlain new.symbols (formulas_in p done ++ st.formula ∷ []) ds) (sym c)
      (are_plain-append new.symbols (formulas_in p done) (st.formula ∷ []) bs (adds.plain ∷ []) (kept p bs h) (adds.is_plain, tt)))

  -- the formulas of a kind that it is not of
  passed : (p : Statement → Bool) (bs cs : List PlainFormula) → ArePlain old.symbols (formulas_in p done) bs → p st ≡ false → cs ≡ bs
      → ArePlain new.symbols (formulas_in p (done ++ st ∷ [])) cs
  passed p bs cs h e c =
      subst (λ ss. ArePlain new.symbols ss cs)
      (sym (formulas_in-append p done (st ∷ []) ∙ ap (λ ss. formulas_in p done ++ ss) (formulas_in-one p st false e) ∙ append-nil (formulas_in p done)))
      (subst (λ ds. ArePlain new.symbols (formulas_in p done) ds) (sym c) (kept p bs h))

  axioms_of : (b : Bool) → is_conjecture st ≡ b → Places b adds.plain old new → ArePlain new.symbols (formulas_in (λ s. not (is_conjecture s)) (done ++ st ∷ [])) new.axioms
  axioms_of false e placed = taken (λ s. not (is_conjecture s)) old.axioms new.axioms before.axioms (ap not e) placed.0
  axioms_of true e placed = passed (λ s. not (is_conjecture s)) old.axioms new.axioms before.axioms (ap not e) placed.0

  conjecture_of : (b : Bool) → is_conjecture st ≡ b → (b ≡ true → old.conjecture ≡ None) → Places b adds.plain old new
      → ArePlain new.symbols (formulas_in is_conjecture (done ++ st ∷ [])) (option_to_list new.conjecture)
  conjecture_of false e first placed = passed is_conjecture (option_to_list old.conjecture) (option_to_list new.conjecture) before.conjecture e (ap option_to_list placed.1)
  conjecture_of true e first placed =
      taken is_conjecture (option_to_list old.conjecture) (option_to_list new.conjecture) before.conjecture e
      (ap option_to_list placed.1 ∙ ap (λ (o : Option PlainFormula). option_to_list o ++ adds.plain ∷ []) (sym (first refl)))

  symbols_more : (f : Sentence → List Known) (o n : List Known) → InternsAll [] (flat_map (λ s. f s.formula) done) o → InternsAll o (f st.formula) n
      → InternsAll [] (flat_map (λ s. f s.formula) (done ++ st ∷ [])) n
  symbols_more f o n h k =
      subst (λ ss. InternsAll [] ss n) (sym (flat_map-append (λ (s : Statement). f s.formula) done (st ∷ [])))
      (interns_all-append [] o n (flat_map (λ s. f s.formula) done) (f st.formula ++ []) h (subst (λ ss. InternsAll o ss n) (sym (append-nil (f st.formula))) k))

  pub problem_of_one_more : (is_conjecture st ≡ true → old.conjecture ≡ None) → IsProblemOf (done ++ st ∷ []) new
  problem_of_one_more first = record {
    functions = symbols_more functions_in old.symbols.functions new.symbols.functions before.functions adds.functions;
    predicates = symbols_more predicates_in old.symbols.predicates new.symbols.predicates before.predicates adds.predicates;
    labels = subst (AreLabels (done ++ st ∷ [])) (sym adds.labels) (are_labels-append done (st ∷ []) old.labels (adds.label ∷ []) before.labels (adds.name, adds.role, tt));
    axioms = axioms_of (is_conjecture st) refl adds.placed;
    conjecture = conjecture_of (is_conjecture st) refl first adds.placed;
  }

-- Leading

pub leads_more : (had : Bool) (ts : List Placed) (done : List Statement) (now : Bool) (t : Placed) (rest : List Placed) (st : Statement) → Leads had ts done now (t ∷ rest) → IsGood now (first_of (t ∷ rest)) st
    → Leads had ts (done ++ st ∷ []) (now || is_conjecture st) (behind_first (t ∷ rest))
leads_more had [] [] now t rest st h g = cc (h.1)
leads_more had (x ∷ ts) [] now t rest st h g =
    subst (λ us. Leads had us (st ∷ []) (now || is_conjecture st) (behind_first (t ∷ rest))) h.1
    (subst (λ b. Leads b (t ∷ rest) (st ∷ []) (now || is_conjecture st) (behind_first (t ∷ rest))) h.0 (g, (refl, refl)))
leads_more had [] (s ∷ done) now t rest st h g = absurd h
leads_more had (x ∷ ts) (s ∷ done) now t rest st h g = (h.0, leads_more (had || is_conjecture s) (behind_first (x ∷ ts)) done now t rest st h.1 g)

pub all_good : (had : Bool) (ts : List Placed) (done : List Statement) (now : Bool) → Leads had ts done now [] → AreGood had ts done
all_good had [] [] now h = tt
all_good had (x ∷ ts) [] now h = cc (h.1)
all_good had [] (s ∷ done) now h = absurd h
all_good had (x ∷ ts) (s ∷ done) now h = (h.0, all_good (had || is_conjecture s) (behind_first (x ∷ ts)) done now h.1)

pub first_bad : (had : Bool) (ts : List Placed) (done : List Statement) (now : Bool) (rest : List Placed) (at : ℕ) (k : BadKind) → Leads had ts done now rest → FirstBad now rest at k → FirstBad had ts at k
first_bad had ts [] now rest at k h b = subst (λ us. FirstBad had us at k) h.1 (subst (λ b. FirstBad b rest at k) h.0 b)
first_bad had [] (s ∷ done) now rest at k h b = absurd h
first_bad had (x ∷ ts) (s ∷ done) now rest at k h b = later had x ts s at k h.0 (first_bad (had || is_conjecture s) (behind_first (x ∷ ts)) done now rest at k h.1 b)
