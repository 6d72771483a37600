-- What a whole statement is, from what is read of it.
use Rattle.std.proofs.Common.{◌≡◌, ℕ, suc, Bool, true, false, ◌&&◌, List, [], length, Some, None, refl, sym, ap, subst, ◌∙◌, arith}
use Rattle.fol_core.specs.Syntax.{PlainFormula}
use Rattle.fof_parse.specs.declared.refusal.BadKind.{BadKind}
use Rattle.fof_parse.specs.declared.statement.Role.{Role}
use Rattle.fof_parse.specs.Token.{Token}
use Rattle.fof_parse.specs.Grammar.{Statement}
use Rattle.fof_parse.specs.Problem.{role_of, is_closed}
use Rattle.fof_parse.specs.Refusal.{or_else, element_fault, early_fault, late_fault, IsBad, is_late}
use Rattle.fof_parse.specs.Reader.Reading.{heading_at, is_ending, statement_within}
use Rattle.fof_parse.specs.Reader.Parsing.{ReadsFormula, Parsed}
use Rattle.fof_parse.specs.Reader.Building.{State, Built}
use Rattle.fof_parse.specs.Reader.Verdict.{StatementRead, IsNoStatement, judged, GoodRead}
use Rattle.fof_parse.proofs.Statements.{heading_less, statement_read, statement_is}

pub refuted : (ts : List Token) → statement_within (suc (length ts)) ts ≡ None → IsNoStatement ts
refuted ts h st is = cc (h, statement_read ts st is (suc (length ts)) (omega arith))

pub no_heading : (ts : List Token) → heading_at ts ≡ None → IsNoStatement ts
unfolding statement_within
no_heading ts h = refuted ts (rw h refl)

module _ (ts body : List Token) (w role : List ℕ) (heading : heading_at ts ≡ Some ((w, role), body)) where
  pub no_formula : ReadsFormula body None → IsNoStatement ts
  unfolding statement_within
  no_formula h = refuted ts (rw heading (rw (h (suc (length ts)) (omega (arith, heading_less ts w role body heading))) refl))

  module _ (vs : List (List ℕ)) (old new : State) (a : PlainFormula) (rest : List Token) (p : Parsed (ReadsFormula body) vs old new a rest) where
    pub no_ending : is_ending rest ≡ false → IsNoStatement ts
    unfolding statement_within
    no_ending h = refuted ts (rw heading (rw (p.reads (suc (length ts)) (omega (arith, heading_less ts w role body heading))) (rw h refl)))

    made : Statement
    made = record { name = w; role = role; formula = p.sentence }

    is_read : is_ending rest ≡ true → statement_within (suc (length ts)) ts ≡ Some made
    unfolding statement_within made
    is_read h = rw heading (rw (p.reads (suc (length ts)) (omega (arith, heading_less ts w role body heading))) (rw h refl))

    pub whole_statement : vs ≡ [] → is_ending rest ≡ true → StatementRead ts old new w role a
    unfolding made
    whole_statement e h = record {
      statement = made;
      is = statement_is (suc (length ts)) ts made (is_read h);
      name = refl;
      role = refl;
      built = subst (λ xs. Built xs old new p.sentence a) e p.built;
    }

-- the first fault of a statement that is read, from an empty state
late_is : (had : Bool) (ts : List Token) (old new : State) (w role : List ℕ) (a : PlainFormula) → old.fault ≡ None → old.closed ≡ true → (r : StatementRead ts old new w role a)
    → late_fault had r.statement ≡ judged new.fault new.closed (role_of role) had
late_is had ts old new w role a f c r =
    let fault = r.built.effect.faults ∙ ap (λ k. or_else k (element_fault r.statement.formula)) f in
    let closed = r.built.effect.closes ∙ ap (λ b. b && is_closed [] r.statement.formula) c in
    ap (λ x. judged (element_fault r.statement.formula) (is_closed [] r.statement.formula) (role_of x) had) r.role
    ∙ ap (λ k. judged k (is_closed [] r.statement.formula) (role_of role) had) (sym fault) ∙ ap (λ b. judged new.fault b (role_of role) had) (sym closed)

pub late_bad : (had : Bool) (ts : List Token) (old new : State) (w role : List ℕ) (a : PlainFormula) (k : BadKind) → old.fault ≡ None → old.closed ≡ true → early_fault ts ≡ None → StatementRead ts old new w role a
    → judged new.fault new.closed (role_of role) had ≡ Some k → IsBad had ts k
late_bad had ts old new w role a k f c early r h = is_late k r.statement early r.is (late_is had ts old new w role a f c r ∙ h)

pub good_read : (had : Bool) (ts : List Token) (old new : State) (w word : List ℕ) (role : Role) (a : PlainFormula) → old.fault ≡ None → old.closed ≡ true → early_fault ts ≡ None → StatementRead ts old new w word a
    → judged new.fault new.closed (role_of word) had ≡ None → role_of word ≡ Some role → GoodRead had ts old new w role a
good_read had ts old new w word role a f c early r h e = record {
  statement = r.statement;
  good = record { early = early; statement = r.is; late = late_is had ts old new w word a f c r ∙ h };
  name = r.name;
  role = ap role_of r.role ∙ e;
  built = r.built;
}
