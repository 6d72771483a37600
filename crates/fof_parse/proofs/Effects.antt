-- What the parts of a formula add, one after the other.
use Rattle.std.proofs.Common.{◌≡◌, ℕ, zero, suc, Bool, true, false, cond, ◌&&◌, ◌||◌, eqb, List, [], ◌∷◌, ◌++◌, length, Option, Some, None, refl, sym, ap, subst, ◌∙◌, ⊎_elim}
use Rattle.std.specs.Option.{is_some}
use Rattle.std.specs.Prelude.{slice_get}
use Rattle.std.proofs.lemmas.Bool.{false≢true, and_parts}
use Rattle.fol_core.specs.Syntax.{PlainTerm, PlainTerms, PlainFormula}
use Rattle.fol_core.specs.Syntax as syntax
use Rattle.fol_core.specs.Symbol.{Symbol as Known, SymbolTable, IsAt, Interns}
use Rattle.fof_parse.specs.declared.refusal.BadKind.{BadKind}
use Rattle.fof_parse.specs.declared.refusal.BadKind.TheVariants as kinds
use Rattle.fof_parse.specs.Token.{unescaped, unescaped_from}
use Rattle.fof_parse.specs.Grammar.{Symbol, word, defined, Term, variable, numeral, object, applied, Terms, no_terms, terms, Sentence, atom, equality, negation, binary, quantified}
use Rattle.fof_parse.specs.Problem.{binder, is_closed_term, are_closed_terms, count, functions_in_term, functions_in_terms, InternsAll, IsPlainTerm, ArePlainTerms, IsPlain}
use Rattle.fof_parse.specs.Refusal.{or_else, term_fault, terms_fault}
use Rattle.fof_parse.specs.Reader.Building.{State, Effect, TermBuilt, TermsBuilt, IsVariable, IsFunctionHead, has_backslash}
use Rattle.fof_parse.specs.Reader.Views.{terms_of_list}
use Rattle.fol_core.specs.View.{terms_of_list as plain_list}

or_parts : (a b : Bool) → (a || b) ≡ false → (a ≡ false) × (b ≡ false)
or_parts true b h = absurd (false≢true (sym h))
or_parts false b h = (refl, h)

pub no_escapes : (w : List ℕ) → has_backslash w ≡ false → unescaped w ≡ w
no_escapes [] h = refl
no_escapes (c ∷ cs) h =
    let b = or_parts (eqb c 92) (has_backslash cs) h in ap (λ e. cond e (unescaped_from true cs) (c ∷ unescaped cs)) b.0 ∙ ap (λ ds. c ∷ ds) (no_escapes cs b.1)

-- Symbols keep their numbers when others are put at the end of the list.
at_front : (xs ys : List Known) (n : ℕ) (s : Known) → slice_get xs n ≡ Some s → slice_get (xs ++ ys) n ≡ Some s
at_front [] ys n s h = cc
at_front (x ∷ xs) ys zero s h = h
at_front (x ∷ xs) ys (suc n) s h = at_front xs ys n s h

pub interns_keeps : (old new : List Known) (s t : Known) (n : ℕ) → Interns old s new → IsAt old t n → IsAt new t n
interns_keeps old new s t n h at =
    ⊎_elim (λ here. subst (λ table. IsAt table t n) (sym here.2) at) (λ added. subst (λ table. IsAt table t n) (sym added.1) (at_front old (s ∷ []) n t at)) h

pub interns_all_keeps : (old new : List Known) (ss : List Known) (t : Known) (n : ℕ) → InternsAll old ss new → IsAt old t n → IsAt new t n
interns_all_keeps old new [] t n h at = subst (λ table. IsAt table t n) (sym h) at
interns_all_keeps old new (s ∷ ss) t n h at = interns_all_keeps h.0 new ss t n h.2 (interns_keeps old h.0 s t n h.1 at)

pub interns_all-append : (old mid new : List Known) (ss ts : List Known) → InternsAll old ss mid → InternsAll mid ts new → InternsAll old (ss ++ ts) new
interns_all-append old mid new [] ts h k = subst (λ table. InternsAll table ts new) h k
interns_all-append old mid new (s ∷ ss) ts h k = (h.0, h.1, interns_all-append h.0 mid new ss ts h.2 k)

-- what is plain stays so where the lists keep their symbols
module _ (old new : List Known) (keeps : (t : Known) (n : ℕ) → IsAt old t n → IsAt new t n) (vs : List (List ℕ)) where
  mutual
    pub term_kept : (u : Term) (t : PlainTerm) → IsPlainTerm old vs u t → IsPlainTerm new vs u t
    term_kept (variable w) t h = h
    term_kept (numeral w) t h = h
    term_kept (object w) t h = h
    term_kept (applied (defined w) us) t h = h
    term_kept (applied (word w) us) t h = (h.0, h.1, keeps (w, count us) h.0 h.2, terms_kept us h.1 h.3, h.4)

    pub terms_kept : (us : Terms) (ts : PlainTerms) → ArePlainTerms old vs us ts → ArePlainTerms new vs us ts
    terms_kept no_terms ts h = h
    terms_kept (terms u us) ts h = (h.0, h.1, term_kept u h.0 h.2, terms_kept us h.1 h.3, h.4)

module _ (old new : SymbolTable) (fs : (t : Known) (n : ℕ) → IsAt old.functions t n → IsAt new.functions t n) (ps : (t : Known) (n : ℕ) → IsAt old.predicates t n → IsAt new.predicates t n) where
  pub plain_kept : (vs : List (List ℕ)) (s : Sentence) (a : PlainFormula) → IsPlain old vs s a → IsPlain new vs s a
  plain_kept vs (atom (word w) us) a h = (h.0, h.1, ps (w, count us) h.0 h.2, terms_kept old.functions new.functions fs vs us h.1 h.3, h.4)
  plain_kept vs (atom (defined w) us) a h = h
  plain_kept vs (equality e t u) a h = h
  plain_kept vs (negation s) a h = (h.0, plain_kept vs s h.0 h.1, h.2)
  plain_kept vs (binary op s t) a h = (h.0, h.1, plain_kept vs s h.0 h.2, plain_kept vs t h.1 h.3, h.4)
  plain_kept vs (quantified q w s) a h = (h.0, plain_kept (vs ++ w ∷ []) s h.0 h.1, h.2)

abbrev pub plains_before : List PlainTerm → PlainTerms → PlainTerms
plains_before [] ts = ts
plains_before (t ∷ out) ts = syntax.terms t (plains_before out ts)

-- Effects

or_else-none : (k : Option BadKind) → k ≡ or_else k None
or_else-none None = refl
or_else-none (Some k) = refl

or_else-assoc : (j k l : Option BadKind) → or_else (or_else j k) l ≡ or_else j (or_else k l)
or_else-assoc None k l = refl
or_else-assoc (Some j) k l = refl

pub or_else-parts : (j k : Option BadKind) → or_else j k ≡ None → (j ≡ None) × (k ≡ None)
or_else-parts None k h = (refl, h)
or_else-parts (Some j) k h = cc

and-true : (b : Bool) → b ≡ (b && true)
and-true true = refl
and-true false = refl

and-assoc : (a b c : Bool) → ((a && b) && c) ≡ (a && (b && c))
and-assoc true b c = refl
and-assoc false b c = refl

pub effect_none : (s : State) → Effect s s None true [] []
effect_none s = record { faults = or_else-none s.fault; closes = and-true s.closed; functions = refl; predicates = refl }

pub effect_then : (old mid new : State) (j k : Option BadKind) (a b : Bool) (fs gs ps qs : List Known) → Effect old mid j a fs ps → Effect mid new k b gs qs
    → Effect old new (or_else j k) (a && b) (fs ++ gs) (ps ++ qs)
effect_then old mid new j k a b fs gs ps qs h i = record {
  faults = i.faults ∙ ap (λ o. or_else o k) h.faults ∙ or_else-assoc old.fault j k;
  closes = i.closes ∙ ap (λ c. c && b) h.closes ∙ and-assoc old.closed a b;
  functions = interns_all-append old.symbols.functions mid.symbols.functions new.symbols.functions fs gs h.functions i.functions;
  predicates = interns_all-append old.symbols.predicates mid.symbols.predicates new.symbols.predicates ps qs h.predicates i.predicates;
}

-- Terms

pub no_terms_built : (vs : List (List ℕ)) (s : State) → TermsBuilt vs s s no_terms syntax.no_terms
no_terms_built vs s = record { effect = effect_none s; plain = λ h k. refl }

pub term_then : (vs : List (List ℕ)) (old mid new : State) (u : Term) (us : Terms) (t : PlainTerm) (ts : PlainTerms) → TermBuilt vs old mid u t → TermsBuilt vs mid new us ts
    → TermsBuilt vs old new (terms u us) (syntax.terms t ts)
term_then vs old mid new u us t ts h i = record {
  effect = effect_then old mid new (term_fault u) (terms_fault us) (is_closed_term vs u) (are_closed_terms vs us) (functions_in_term u) (functions_in_terms us) [] [] h.effect i.effect;
  plain = λ none closed.
      let f = or_else-parts (term_fault u) (terms_fault us) none in
      let c = and_parts (is_closed_term vs u) (are_closed_terms vs us) closed in
      (t, ts, term_kept mid.symbols.functions new.symbols.functions (λ s n. interns_all_keeps mid.symbols.functions new.symbols.functions (functions_in_terms us) s n i.effect.functions) vs u t (h.plain f.0 c.0), i.plain f.1 c.1, refl);
}

pub count_of_list : (us : List Term) → count (terms_of_list us) ≡ length us
count_of_list [] = refl
count_of_list (u ∷ us) = ap suc (count_of_list us)

pub same_effect : (old mid new : State) (k : Option BadKind) (b : Bool) (fs ps : List Known) → mid ≡ old → Effect mid new k b fs ps → Effect old new k b fs ps
same_effect old mid new k b fs ps e h = subst (λ s. Effect s new k b fs ps) e h

-- a fault alone
pub effect_fault : (old new : State) (k : BadKind) → new.fault ≡ or_else old.fault (Some k) → new.symbols ≡ old.symbols → new.closed ≡ old.closed → Effect old new (Some k) true [] []
effect_fault old new k f s c = record {
  faults = f;
  closes = c ∙ and-true old.closed;
  functions = ap (λ t. t.functions) s;
  predicates = ap (λ t. t.predicates) s;
}

pub fault_built : (vs : List (List ℕ)) (old new : State) (u : Term) (k : BadKind) (t : PlainTerm) → term_fault u ≡ Some k → is_closed_term vs u ≡ true → functions_in_term u ≡ [] → Effect old new (Some k) true [] []
    → TermBuilt vs old new u t
fault_built vs old new u k t f c fs h = record {
  effect = rw (f, c, fs) h;
  plain = λ none closed. cc (none, f);
}

and-false : (b : Bool) → false ≡ (b && false)
and-false true = refl
and-false false = refl

pub variable_built : (vs : List (List ℕ)) (old new : State) (w : List ℕ) (t : PlainTerm) → new.symbols ≡ old.symbols → new.fault ≡ old.fault → IsVariable (binder vs w) old.closed new.closed t
    → TermBuilt vs old new (variable w) t
variable_built vs old new w t s f h =
    by_case (binder vs w) refl h where
      by_case : (o : Option ℕ) → binder vs w ≡ o → IsVariable o old.closed new.closed t → TermBuilt vs old new (variable w) t
      by_case None e c = record {
        effect = record {
          faults = f ∙ or_else-none old.fault;
          closes = c ∙ and-false old.closed ∙ ap (λ o. old.closed && is_some o) (sym e);
          functions = ap (λ t. t.functions) s;
          predicates = ap (λ t. t.predicates) s;
        };
        plain = λ none closed. absurd (false≢true (sym (ap is_some e) ∙ closed));
      }
      by_case (Some n) e c = record {
        effect = record {
          faults = f ∙ or_else-none old.fault;
          closes = c.0 ∙ and-true old.closed ∙ ap (λ o. old.closed && is_some o) (sym e);
          functions = ap (λ t. t.functions) s;
          predicates = ap (λ t. t.predicates) s;
        };
        plain = λ none closed. (n, e, c.1);
      }

pub word_head : (old new : State) (w : List ℕ) (k n : ℕ) → Interns old.symbols.functions (w, k) new.symbols.functions → IsAt new.symbols.functions (w, k) n → new.symbols.predicates ≡ old.symbols.predicates
    → new.fault ≡ old.fault → new.closed ≡ old.closed → IsFunctionHead (word w) k old new n
word_head old new w k n i at ps f c = (
  record {
    faults = f ∙ or_else-none old.fault;
    closes = c ∙ and-true old.closed;
    functions = (new.symbols.functions, i, refl);
    predicates = ps;
  },
  at,
)

pub applied_built : (vs : List (List ℕ)) (old mid new : State) (f : Symbol) (us : Terms) (n : ℕ) (ts : PlainTerms) (t : PlainTerm) → IsFunctionHead f (count us) old mid n → TermsBuilt vs mid new us ts
    → t ≡ syntax.app n ts → TermBuilt vs old new (applied f us) t
applied_built vs old mid new (word w) us n ts t h i e = record {
  effect = effect_then old mid new None (terms_fault us) true (are_closed_terms vs us) ((w, count us) ∷ []) (functions_in_terms us) [] [] h.0 i.effect;
  plain = λ none closed.
      (n, ts, interns_all_keeps mid.symbols.functions new.symbols.functions (functions_in_terms us) (w, count us) n i.effect.functions h.1, i.plain none closed, e);
}
applied_built vs old mid new (defined w) us n ts t h i e = record {
  effect = effect_then old mid new (Some kinds.Dollar) (terms_fault us) true (are_closed_terms vs us) [] (functions_in_terms us) [] [] h i.effect;
  plain = λ none closed. cc (none);
}

-- the terms that are built so far, and where the rest of them is built
pub record TermsBuiltSoFar (vs : List (List ℕ)) (old now : State) (all rest : Terms) (out : List PlainTerm) : Type 0 where
  pub goes_on : (new : State) (ts : PlainTerms) → TermsBuilt vs now new rest ts → TermsBuilt vs old new all (plains_before out ts)

pub none_built_yet : (vs : List (List ℕ)) (s : State) (all : Terms) → TermsBuiltSoFar vs s s all all []
none_built_yet vs s all = record { goes_on = λ new ts h. h }

plains_before_more : (out : List PlainTerm) (t : PlainTerm) (ts : PlainTerms) → plains_before (out ++ t ∷ []) ts ≡ plains_before out (syntax.terms t ts)
plains_before_more [] t ts = refl
plains_before_more (x ∷ out) t ts = ap (syntax.terms x) (plains_before_more out t ts)

plains_before_none : (out : List PlainTerm) → plains_before out syntax.no_terms ≡ plain_list out
plains_before_none [] = refl
plains_before_none (x ∷ out) = ap (syntax.terms x) (plains_before_none out)

pub one_more_built : (vs : List (List ℕ)) (old now next : State) (all rest : Terms) (u : Term) (out new : List PlainTerm) (t : PlainTerm) → TermsBuiltSoFar vs old now all (terms u rest) out → TermBuilt vs now next u t
    → new ≡ out ++ t ∷ [] → TermsBuiltSoFar vs old next all rest new
one_more_built vs old now next all rest u out new t s h e = record {
  goes_on = λ end ts i.
      subst (TermsBuilt vs old end all) (sym (ap (λ o. plains_before o ts) e ∙ plains_before_more out t ts)) (s.goes_on end (syntax.terms t ts) (term_then vs now next end u rest t ts h i));
}

pub all_built : (vs : List (List ℕ)) (old now : State) (all : Terms) (out : List PlainTerm) → TermsBuiltSoFar vs old now all no_terms out → TermsBuilt vs old now all (plain_list out)
all_built vs old now all out s = subst (TermsBuilt vs old now all) (plains_before_none out) (s.goes_on now syntax.no_terms (no_terms_built vs now))
