-- What formulas add and mean, from what their parts do.
use Rattle.std.proofs.Common.{◌≡◌, ℕ, ◌<◌, true, not, List, [], ◌∷◌, ◌++◌, length, Option, Some, None, refl, sym, ap, subst, ◌∙◌, arith}
use Rattle.std.specs.Option.{is_some}
use Rattle.std.proofs.lemmas.Bool.{and_parts}
use Rattle.fol_core.specs.Syntax.{PlainTerm, PlainTerms, PlainFormula}
use Rattle.fol_core.specs.Syntax as syntax
use Rattle.fol_core.specs.Symbol.{IsAt, Interns}
use Rattle.fof_parse.specs.declared.refusal.BadKind.{BadKind}
use Rattle.fof_parse.specs.declared.refusal.BadKind.TheVariants as kinds
use Rattle.fof_parse.specs.declared.token.Operator.{Operator}
use Rattle.fof_parse.specs.declared.token.Quantifier.{Quantifier as Quantor}
use Rattle.fof_parse.specs.declared.token.Equality.{Equality as Equation}
use Rattle.fof_parse.specs.Grammar.{word, defined, Term, Terms, no_terms, terms, Sentence, atom, equality, negation, binary, quantified}
use Rattle.fof_parse.specs.Problem.{is_closed_term, are_closed_terms, is_closed, count, functions_in_term, functions_in_terms, functions_in, predicates_in, truth, plain_binary, plain_quantified}
use Rattle.fof_parse.specs.Refusal.{or_else, fault_if, term_fault, terms_fault, element_fault}
use Rattle.fof_parse.specs.Reader.Building.{State, Effect, TermBuilt, TermsBuilt, Built}
use Rattle.fof_parse.specs.Token.{Token}
use Rattle.fof_parse.specs.Reader.Reading.{next_operator}
use Rattle.fof_parse.specs.Reader.Parsing.{ReadsUnit, ReadsFormula, Parsed}
use Rattle.fof_parse.proofs.Fronts.{next_operator_is}
use Rattle.fof_parse.proofs.Formulas.{ReadsOn, on_no_unit, on_unit, on_end, first_unit}
use Rattle.fof_parse.specs.declared.term.Raw.{Raw}
use Rattle.fof_parse.specs.Reader.Views.{raws_of}
use Rattle.fof_parse.proofs.Effects.{interns_all_keeps, plain_kept, or_else-parts, effect_none, effect_then, effect_fault}

pub negation_built : (vs : List (List ℕ)) (old new : State) (s : Sentence) (a b : PlainFormula) → Built vs old new s b → a ≡ syntax.not b → Built vs old new (negation s) a
negation_built vs old new s a b h e = record { effect = h.effect; plain = λ none closed. (b, h.plain none closed, e) }

pub quantified_built : (vs : List (List ℕ)) (old new : State) (q : Quantor) (w : List ℕ) (s : Sentence) (a b : PlainFormula) → Built (vs ++ w ∷ []) old new s b → a ≡ plain_quantified q b
    → Built vs old new (quantified q w s) a
quantified_built vs old new q w s a b h e = record { effect = h.effect; plain = λ none closed. (b, h.plain none closed, e) }

pub binary_built : (vs : List (List ℕ)) (old mid new : State) (op : Operator) (s t : Sentence) (a b c : PlainFormula) → Built vs old mid s b → Built vs mid new t c → a ≡ plain_binary op b c
    → Built vs old new (binary op s t) a
binary_built vs old mid new op s t a b c h k e = record {
  effect = effect_then old mid new (element_fault s) (element_fault t) (is_closed vs s) (is_closed vs t) (functions_in s) (functions_in t) (predicates_in s) (predicates_in t) h.effect k.effect;
  plain = λ none closed.
      let f = or_else-parts (element_fault s) (element_fault t) none in
      let d = and_parts (is_closed vs s) (is_closed vs t) closed in
      let kept = plain_kept mid.symbols new.symbols (λ x n. interns_all_keeps mid.symbols.functions new.symbols.functions (functions_in t) x n k.effect.functions)
      (λ x n. interns_all_keeps mid.symbols.predicates new.symbols.predicates (predicates_in t) x n k.effect.predicates) vs s b (h.plain f.0 d.0) in
      (b, c, kept, k.plain f.1 d.1, e);
}

-- a predicate symbol in front of its terms
pub atom_built : (vs : List (List ℕ)) (old mid new : State) (w : List ℕ) (us : Terms) (n : ℕ) (ts : PlainTerms) (a : PlainFormula) → Interns old.symbols.predicates (w, count us) mid.symbols.predicates
    → IsAt mid.symbols.predicates (w, count us) n → mid.symbols.functions ≡ old.symbols.functions → mid.fault ≡ old.fault → mid.closed ≡ old.closed → TermsBuilt vs mid new us ts → a ≡ syntax.atom n ts
    → Built vs old new (atom (word w) us) a
atom_built vs old mid new w us n ts a i at fs f c h e =
    let first : Effect old mid None true [] ((w, count us) ∷ []) = record {
      faults = f ∙ (effect_none old).faults;
      closes = c ∙ (effect_none old).closes;
      functions = fs;
      predicates = (mid.symbols.predicates, i, refl);
    } in
    record {
      effect = effect_then old mid new None (terms_fault us) true (are_closed_terms vs us) [] (functions_in_terms us) ((w, count us) ∷ []) [] first h.effect;
      plain = λ none closed.
          (n, ts, subst (λ table. IsAt table (w, count us) n) (sym h.effect.predicates) at, h.plain none closed, e);
    }

truth_alone : (w : List ℕ) (us : Terms) (a : PlainFormula) → truth w us ≡ Some a → us ≡ no_terms
truth_alone w no_terms a h = refl
truth_alone w (terms u us) a h = cc

-- `$true` or `$false`
pub truth_built : (vs : List (List ℕ)) (s : State) (w : List ℕ) (us : Terms) (a : PlainFormula) → truth w us ≡ Some a → Built vs s s (atom (defined w) us) a
truth_built vs s w us a h =
    by_terms us h (truth_alone w us a h) where
      by_terms : (us : Terms) → truth w us ≡ Some a → us ≡ no_terms → Built vs s s (atom (defined w) us) a
      by_terms no_terms h e = record {
        effect = subst (λ k. Effect s s k true [] []) (sym (ap (λ (o : Option PlainFormula). fault_if (not (is_some o)) kinds.Dollar) h)) (effect_none s);
        plain = λ none closed. h;
      }
      by_terms (terms u us) h e = cc

-- another word with `$`
pub dollar_built : (vs : List (List ℕ)) (old mid new : State) (w : List ℕ) (us : Terms) (ts : PlainTerms) (a : PlainFormula) → truth w us ≡ None → mid.fault ≡ or_else old.fault (Some kinds.Dollar)
    → mid.symbols ≡ old.symbols → mid.closed ≡ old.closed → TermsBuilt vs mid new us ts → Built vs old new (atom (defined w) us) a
dollar_built vs old mid new w us ts a none f s c h =
    let e : element_fault (atom (defined w) us) ≡ Some kinds.Dollar = ap (λ (o : Option PlainFormula). fault_if (not (is_some o)) kinds.Dollar) none in
    record {
      effect = subst (λ k. Effect old new k (are_closed_terms vs us) (functions_in_terms us) []) (sym e)
          (effect_then old mid new (Some kinds.Dollar) (terms_fault us) true (are_closed_terms vs us) [] (functions_in_terms us) [] [] (effect_fault old mid kinds.Dollar f s c) h.effect);
      plain = λ no closed. cc (e, no);
    }

pub no_equality : (k : Option BadKind) → or_else k (Some kinds.Equality) ≡ None → ⊥
no_equality None h = cc
no_equality (Some k) h = cc

pub equality_built : (vs : List (List ℕ)) (old mid noted new : State) (e : Equation) (t u : Term) (b c : PlainTerm) (a : PlainFormula) → TermBuilt vs old mid t b → noted.fault ≡ or_else mid.fault (Some kinds.Equality)
    → noted.symbols ≡ mid.symbols → noted.closed ≡ mid.closed → TermBuilt vs noted new u c → Built vs old new (equality e t u) a
equality_built vs old mid noted new e t u b c a h f s d k = record {
  effect = effect_then old mid new (term_fault t) (Some kinds.Equality) (is_closed_term vs t) (is_closed_term vs u) (functions_in_term t) (functions_in_term u) [] [] h.effect
      (effect_then mid noted new (Some kinds.Equality) (term_fault u) true (is_closed_term vs u) [] (functions_in_term u) [] [] (effect_fault mid noted kinds.Equality f s d) k.effect);
  plain = λ none closed. absurd (no_equality (term_fault t) none);
}

-- Chains

next_less : (by : Option Operator) (ts : List Token) (op : Operator) (us : List Token) → next_operator by ts ≡ Some (op, us) → length us < length ts
next_less by ts op us h = omega (arith, ap length (next_operator_is by ts op us h).0)

-- the units of a formula that are read and built so far, and where it goes on
pub record FormulaSoFar (ts : List Token) (vs : List (List ℕ)) (old now : State) (by : Option Operator) (a : PlainFormula) (rest : List Token) : Type 0 where
  pub sentence : Sentence
  pub goes_on : (found : Option (Sentence × List Token)) → ReadsOn by sentence rest found → ReadsFormula ts found
  pub built : Built vs old now sentence a

pub one_unit : (ts : List Token) (vs : List (List ℕ)) (old now : State) (a : PlainFormula) (rest : List Token) → Parsed (ReadsUnit ts) vs old now a rest → FormulaSoFar ts vs old now None a rest
one_unit ts vs old now a rest p = record { sentence = p.sentence; goes_on = λ found on. first_unit ts p.sentence rest found p.reads on; built = p.built }

pub no_next_unit : (ts : List Token) (vs : List (List ℕ)) (old now : State) (by : Option Operator) (a : PlainFormula) (rest : List Token) (op : Operator) (us : List Token) → FormulaSoFar ts vs old now by a rest
    → next_operator by rest ≡ Some (op, us) → ReadsUnit us None → ReadsFormula ts None
no_next_unit ts vs old now by a rest op us s next h = s.goes_on None (on_no_unit by s.sentence rest op us next (next_less by rest op us next) h)

pub next_unit : (ts : List Token) (vs : List (List ℕ)) (old now new : State) (by : Option Operator) (a b c : PlainFormula) (rest : List Token) (op : Operator) (us behind : List Token) → FormulaSoFar ts vs old now by a rest
    → next_operator by rest ≡ Some (op, us) → Parsed (ReadsUnit us) vs now new b behind → c ≡ plain_binary op a b → FormulaSoFar ts vs old new (Some op) c behind
next_unit ts vs old now new by a b c rest op us behind s next p e = record {
  sentence = binary op s.sentence p.sentence;
  goes_on = λ found on. s.goes_on found (on_unit by s.sentence rest op us p.sentence behind found next (next_less by rest op us next) p.reads on);
  built = binary_built vs old now new op s.sentence p.sentence c a b s.built p.built e;
}

pub whole_formula : (ts : List Token) (vs : List (List ℕ)) (old now : State) (by : Option Operator) (a : PlainFormula) (rest : List Token) → FormulaSoFar ts vs old now by a rest → next_operator by rest ≡ None
    → Parsed (ReadsFormula ts) vs old now a rest
whole_formula ts vs old now by a rest s h = record { sentence = s.sentence; reads = s.goes_on (Some (s.sentence, rest)) (on_end by s.sentence rest h); built = s.built }

pub no_truth : (w : List ℕ) (us : List Raw) → 0 < length us → None ≡ truth w (raws_of us)
no_truth w [] h = absurd (omega (arith, h))
no_truth w (u ∷ us) h = refl
