-- A statement without a fault is put into the problem.
use Rattle.std.proofs.Common.{◌≡◌, ℕ, Bool, true, false, not, ◌&&◌, ◌||◌, List, [], ◌∷◌, ◌++◌, Option, Some, None, refl, sym, ap, subst, ◌∙◌}
use Rattle.std.proofs.lemmas.Bool.{false≢true}
use Rattle.std.specs.Prelude.{option_map}
use Rattle.std.specs.Option.{is_some}
use Rattle.fol_core.specs.View.{TermFormula, formula_of}
use Rattle.fol_core.specs.Syntax.{PlainFormula}
use Rattle.fof_parse.specs.declared.refusal.BadKind.{BadKind}
use Rattle.fof_parse.specs.declared.refusal.BadKind.TheVariants as kinds
use Rattle.fof_parse.specs.declared.statement.Role.{Role}
use Rattle.fof_parse.specs.Token.{Token, Placed}
use Rattle.fof_parse.specs.Grammar.{Statement}
use Rattle.fof_parse.specs.Problem.{PlainProblem, Label, empty_problem, is_conjecture_role, is_conjecture, is_closed, functions_in, predicates_in, InternsAll, IsPlain, IsProblemOf}
use Rattle.fof_parse.specs.Refusal.{fault_if, is_role, element_fault, late_fault, IsGood, IsBad, AreGood, FirstBad, here, first_of, behind_first}
use Rattle.fof_parse.specs.Reader.Building.{State}
use Rattle.fof_parse.specs.Reader.Verdict.{GoodRead}
use Rattle.fof_parse.specs.Reader.Adding.{Places, Leads}
use Rattle.fof_parse.specs.Reader.Chunks.{Puts, has_conjecture, Takes, ReadSoFar}
use Rattle.fof_parse.proofs.Effects.{or_else-parts}
use Rattle.fof_parse.proofs.Adding.{problem_of_one_more, leads_more, all_good, first_bad}

no_fault_if : (b : Bool) (k : BadKind) → fault_if b k ≡ None → b ≡ false
no_fault_if true k h = cc
no_fault_if false k h = refl

not_false : (b : Bool) → not b ≡ false → b ≡ true
not_false true h = refl
not_false false h = absurd (false≢true (sym h))

-- what a statement without a fault has
pub record Faultless (had : Bool) (st : Statement) : Type 0 where
  pub element : element_fault st.formula ≡ None
  pub role : is_role st.role ≡ true
  pub closed : is_closed [] st.formula ≡ true
  pub first : (had && is_conjecture st) ≡ false

pub faultless : (had : Bool) (st : Statement) → late_fault had st ≡ None → Faultless had st
faultless had st h =
    let a = or_else-parts (element_fault st.formula) _ h in
    let b = or_else-parts (fault_if (not (is_role st.role)) kinds.Role) _ a.1 in
    let c = or_else-parts (fault_if (not (is_closed [] st.formula)) kinds.FreeVariable) _ b.1 in
    record {
      element = a.0;
      role = not_false (is_role st.role) (no_fault_if (not (is_role st.role)) kinds.Role b.0);
      closed = not_false (is_closed [] st.formula) (no_fault_if (not (is_closed [] st.formula)) kinds.FreeVariable c.0);
      first = no_fault_if (had && is_conjecture st) kinds.SecondConjecture c.1;
    }

pub takes : (old mid new : PlainProblem) (s t : State) (had : Bool) (ts : List Token) (w : List ℕ) (r : Role) (a : PlainFormula) (l : Label) → GoodRead had ts s t w r a → had ≡ has_conjecture old → s.symbols ≡ old.symbols
    → mid.symbols ≡ t.symbols → mid.labels ≡ old.labels → mid.axioms ≡ old.axioms → mid.conjecture ≡ old.conjecture → l.name ≡ w → l.role ≡ r → Puts mid l a new → Takes old ts new
takes old mid new s t had ts w r a l g same start symbols labels axioms conjecture name role puts =
    let f = faultless had g.statement g.good.late in
    let now = puts.symbols ∙ symbols in
    record {
      statement = g.statement;
      good = subst (λ b. IsGood b ts g.statement) same g.good;
      adds = record {
        functions = subst (λ table. InternsAll old.symbols.functions (functions_in g.statement.formula) table.functions) (sym now)
            (subst (λ table. InternsAll table.functions (functions_in g.statement.formula) t.symbols.functions) start g.built.effect.functions);
        predicates = subst (λ table. InternsAll old.symbols.predicates (predicates_in g.statement.formula) table.predicates) (sym now)
            (subst (λ table. InternsAll table.predicates (predicates_in g.statement.formula) t.symbols.predicates) start g.built.effect.predicates);
        label = l;
        name = name ∙ sym g.name;
        role = g.role ∙ ap Some (sym role);
        labels = puts.labels ∙ ap (λ ls. ls ++ l ∷ []) labels;
        plain = a;
        is_plain = subst (λ table. IsPlain table [] g.statement.formula a) (sym now) (g.built.plain f.element f.closed);
        placed = places_as (is_conjecture g.statement) (ap is_conjecture_role (ap Some role ∙ sym g.role)) puts.placed;
      };
    } where
      places_as : (b : Bool) → is_conjecture_role (Some l.role) ≡ b → Places (is_conjecture_role (Some l.role)) a mid new → Places b a old new
      places_as b e p = by_case b (subst (λ c. Places c a mid new) e p) where
        by_case : (b : Bool) → Places b a mid new → Places b a old new
        by_case false p = (p.0 ∙ ap (λ bs. bs ++ a ∷ []) axioms, p.1 ∙ conjecture)
        by_case true p = (p.0 ∙ axioms, p.1)

-- Reading on

pub nothing_so_far : (ts : List Placed) (problem : PlainProblem) → problem ≡ empty_problem → ReadSoFar ts ts problem
nothing_so_far ts problem e = subst (ReadSoFar ts ts) (sym e) (record {
  done = [];
  leads = (refl, refl);
  meaning = record { functions = refl; predicates = refl; labels = tt; axioms = tt; conjecture = tt };
})

-- the conjecture of one statement more
conjecture_more : (b : Bool) (a : PlainFormula) (old new : PlainProblem) → Places b a old new → (has_conjecture old || b) ≡ has_conjecture new
conjecture_more false a old new p = or_none (has_conjecture old) ∙ ap (λ (o : Option PlainFormula). is_some o) (sym p.1) where
  or_none : (c : Bool) → (c || false) ≡ c
  or_none true = refl
  or_none false = refl
conjecture_more true a old new p = or_all (has_conjecture old) ∙ ap (λ (o : Option PlainFormula). is_some o) (sym p.1) where
  or_all : (c : Bool) → (c || true) ≡ true
  or_all true = refl
  or_all false = refl

no_conjecture : (o : Option PlainFormula) → is_some o ≡ false → o ≡ None
no_conjecture None h = refl
no_conjecture (Some a) h = absurd (false≢true (sym h))

and_second : (a b : Bool) → (a && b) ≡ false → b ≡ true → a ≡ false
and_second true b h e = absurd (false≢true (sym h ∙ e))
and_second false b h e = refl

pub one_statement_more : (ts : List Placed) (t : Placed) (rest behind : List Placed) (front : List Token) (old new : PlainProblem) → ReadSoFar ts (t ∷ rest) old → first_of (t ∷ rest) ≡ front → behind_first (t ∷ rest) ≡ behind
    → Takes old front new → ReadSoFar ts behind new
one_statement_more ts t rest behind front old new s first next k =
    let good = subst (λ us. IsGood (has_conjecture old) us k.statement) (sym first) k.good in
    let f = faultless (has_conjecture old) k.statement k.good.late in
    record {
      done = s.done ++ k.statement ∷ [];
      leads = subst (λ us. Leads false ts (s.done ++ k.statement ∷ []) (has_conjecture new) us) next
          (subst (λ b. Leads false ts (s.done ++ k.statement ∷ []) b (behind_first (t ∷ rest))) (conjecture_more (is_conjecture k.statement) k.adds.plain old new k.adds.placed)
          (leads_more false ts s.done (has_conjecture old) t rest k.statement s.leads good));
      meaning = problem_of_one_more s.done old new k.statement s.meaning k.adds (λ e. no_conjecture old.conjecture (and_second (has_conjecture old) (is_conjecture k.statement) f.first e));
    }

pub bad_statement : (ts : List Placed) (t : Placed) (rest : List Placed) (front : List Token) (old : PlainProblem) (k : BadKind) → ReadSoFar ts (t ∷ rest) old → first_of (t ∷ rest) ≡ front → IsBad (has_conjecture old) front k
    → FirstBad false ts t.offset k
bad_statement ts t rest front old k s first bad =
    first_bad false ts s.done (has_conjecture old) (t ∷ rest) t.offset k s.leads (here (has_conjecture old) t rest k (subst (λ us. IsBad (has_conjecture old) us k) (sym first) bad))

pub whole_text : (ts : List Placed) (problem : PlainProblem) → ReadSoFar ts [] problem → (sts : List Statement) × AreGood false ts sts × IsProblemOf sts problem
whole_text ts problem s = (s.done, all_good false ts s.done (has_conjecture problem) s.leads, s.meaning)

pub has_as : (o : Option TermFormula) → is_some o ≡ is_some (option_map formula_of o)
has_as None = refl
has_as (Some f) = refl
