-- The formulas of statements are closed formulas over the symbols.
use Rattle.std.proofs.Common.{◌≡◌, ℕ, suc, ◌<◌, Bool, true, false, cond, List, [], ◌∷◌, ◌++◌, length, Option, Some, None, refl, sym, ap, subst, ◌∙◌, arith, length-append, codes}
use Rattle.std.specs.Prelude.{slice_get, IfSome, option_to_list}
use Rattle.std.specs.List.{All}
use Rattle.std.specs.Str.{bytes_eq}
use Rattle.std.proofs.lemmas.List.Elements.{All-nil, All-cons}
use Rattle.fol_core.specs.Syntax.{PlainTerm, PlainTerms, PlainFormula}
use Rattle.fol_core.specs.Syntax as syntax
use Rattle.fol_core.specs.Symbol.{SymbolTable, IsAt}
use Rattle.fol_core.specs.Symbol.{Symbol as Known}
use Rattle.fol_core.specs.Spelling as plain
use Rattle.fof_parse.specs.declared.token.Operator.{Operator}
use Rattle.fof_parse.specs.declared.token.Operator.TheVariants.{Implies, ImpliedBy, Equivalent, NotEquivalent, NotAnd, NotOr, And, Or}
use Rattle.fof_parse.specs.declared.token.Quantifier.{Quantifier as Quantor}
use Rattle.fof_parse.specs.declared.token.Quantifier.TheVariants as quantifiers
use Rattle.fof_parse.specs.Grammar.{word, defined, Term, variable, numeral, object, applied, Terms, no_terms, terms, Sentence, atom, equality, negation, binary, quantified}
use Rattle.fof_parse.specs.Problem.{later_or, binder, count, truth, plain_binary, plain_quantified, IsPlainTerm, ArePlainTerms, IsPlain, ArePlain}
use Rattle.fof_parse.specs.WellFormed.{IsWellFormedTerm, AreWellFormedTerms, IsWellFormed, IsClosedOver}

-- A variable is bound by one of the quantifiers around.
bound_within : (vs : List (List ℕ)) (w : List ℕ) (n : ℕ) → binder vs w ≡ Some n → n < length vs
bound_within [] w n e = cc (e)
bound_within (v ∷ vs) w n e = inner (binder vs w) (bytes_eq v w) (λ k d. bound_within vs w k d) e where
  inner : (o : Option ℕ) (b : Bool) → ((k : ℕ) → o ≡ Some k → k < length vs) → later_or o (cond b (Some (length vs)) None) ≡ Some n → n < suc (length vs)
  inner None true below e = let same : length vs ≡ n = cc (e) in omega (arith, same)
  inner None false below e = cc (e)
  inner (Some k) b below e = let same : k ≡ n = cc (e) in omega (arith, same, below k refl)

same_count : (fs : List Known) (vs : List (List ℕ)) (us : Terms) (ts : PlainTerms) → ArePlainTerms fs vs us ts → count us ≡ plain.count ts
same_count fs vs no_terms ts e = ap plain.count (sym e)
same_count fs vs (terms u us) ts (t, rest, h, k, e) = ap suc (same_count fs vs us rest k) ∙ ap plain.count (sym e)

has_arity : (fs : List Known) (w : List ℕ) (k m n : ℕ) → IsAt fs (w, k) n → k ≡ m → plain.HasArity (slice_get fs n) m
has_arity fs w k m n at e = subst (λ o. plain.HasArity o m) (sym at) e

mutual
  closed_term : (fs : List Known) (vs : List (List ℕ)) (u : Term) (t : PlainTerm) → IsPlainTerm fs vs u t → IsWellFormedTerm fs (length vs) t
  closed_term fs vs (variable w) t (n, at, e) = subst (IsWellFormedTerm fs (length vs)) (sym e) (bound_within vs w n at)
  closed_term fs vs (numeral w) t h = absurd h
  closed_term fs vs (object w) t h = absurd h
  closed_term fs vs (applied (defined w) us) t h = absurd h
  closed_term fs vs (applied (word w) us) t (n, ts, at, h, e) =
      subst (IsWellFormedTerm fs (length vs)) (sym e) (has_arity fs w (count us) (plain.count ts) n at (same_count fs vs us ts h), closed_terms fs vs us ts h)

  closed_terms : (fs : List Known) (vs : List (List ℕ)) (us : Terms) (ts : PlainTerms) → ArePlainTerms fs vs us ts → AreWellFormedTerms fs (length vs) ts
  closed_terms fs vs no_terms ts e = subst (AreWellFormedTerms fs (length vs)) (sym e) tt
  closed_terms fs vs (terms u us) ts (t, rest, h, k, e) =
      subst (AreWellFormedTerms fs (length vs)) (sym e) (closed_term fs vs u t h, closed_terms fs vs us rest k)

-- `$true` and `$false`
closed_truth : (table : SymbolTable) (n : ℕ) (w : List ℕ) (us : Terms) (a : PlainFormula) → truth w us ≡ Some a → IsWellFormed table n a
closed_truth table n w (terms u us) a e = cc (e)
closed_truth table n w no_terms a e = split (bytes_eq w (codes "$true")) (bytes_eq w (codes "$false")) e where
  split : (b c : Bool) → cond b (Some syntax.verum) (cond c (Some syntax.falsum) None) ≡ Some a → IsWellFormed table n a
  split true c e = let same : syntax.verum ≡ a = cc (e) in subst (IsWellFormed table n) same tt
  split false true e = let same : syntax.falsum ≡ a = cc (e) in subst (IsWellFormed table n) same tt
  split false false e = cc (e)

closed_binary : (table : SymbolTable) (n : ℕ) (op : Operator) (a b : PlainFormula) → IsWellFormed table n a → IsWellFormed table n b → IsWellFormed table n (plain_binary op a b)
closed_binary table n Implies a b h k = (h, k)
closed_binary table n ImpliedBy a b h k = (k, h)
closed_binary table n Equivalent a b h k = (h, k)
closed_binary table n NotEquivalent a b h k = (h, k)
closed_binary table n NotAnd a b h k = (h, k)
closed_binary table n NotOr a b h k = (h, k)
closed_binary table n And a b h k = (h, k)
closed_binary table n Or a b h k = (h, k)

closed_quantified : (table : SymbolTable) (n : ℕ) (q : Quantor) (a : PlainFormula) → IsWellFormed table (suc n) a → IsWellFormed table n (plain_quantified q a)
closed_quantified table n quantifiers.All a h = h
closed_quantified table n quantifiers.Some a h = h

one_more : (vs : List (List ℕ)) (w : List ℕ) → length (vs ++ w ∷ []) ≡ suc (length vs)
one_more vs w = omega (arith, length-append vs (w ∷ []))

closed_formula : (table : SymbolTable) (vs : List (List ℕ)) (s : Sentence) (a : PlainFormula) → IsPlain table vs s a → IsWellFormed table (length vs) a
closed_formula table vs (atom (word w) us) a (n, ts, at, h, e) =
    subst (IsWellFormed table (length vs)) (sym e)
    (has_arity table.predicates w (count us) (plain.count ts) n at (same_count table.functions vs us ts h), closed_terms table.functions vs us ts h)
closed_formula table vs (atom (defined w) us) a h = closed_truth table (length vs) w us a h
closed_formula table vs (equality e t u) a h = absurd h
closed_formula table vs (negation s) a (b, h, e) = subst (IsWellFormed table (length vs)) (sym e) (closed_formula table vs s b h)
closed_formula table vs (binary op s t) a (b, c, h, k, e) =
    subst (IsWellFormed table (length vs)) (sym e) (closed_binary table (length vs) op b c (closed_formula table vs s b h) (closed_formula table vs t c k))
closed_formula table vs (quantified q w s) a (b, h, e) =
    subst (IsWellFormed table (length vs)) (sym e)
    (closed_quantified table (length vs) q b (subst (λ n. IsWellFormed table n b) (one_more vs w) (closed_formula table (vs ++ w ∷ []) s b h)))

pub all_closed : (table : SymbolTable) (ss : List Sentence) (bs : List PlainFormula) → ArePlain table ss bs → All (IsClosedOver table) bs
all_closed table [] [] h = All-nil (IsClosedOver table)
all_closed table [] (b ∷ bs) h = absurd h
all_closed table (s ∷ ss) [] h = absurd h
all_closed table (s ∷ ss) (b ∷ bs) h = All-cons (IsClosedOver table) b bs (closed_formula table [] s b h.0) (all_closed table ss bs h.1)

pub one_closed : (table : SymbolTable) (ss : List Sentence) (o : Option PlainFormula) → ArePlain table ss (option_to_list o) → IfSome o (IsClosedOver table)
one_closed table ss None h = tt
one_closed table [] (Some b) h = absurd h
one_closed table (s ∷ ss) (Some b) h = closed_formula table [] s b h.0
