-- The problem of a text keeps its facts.
use Rattle.std.proofs.Common.{◌≡◌, ℕ, suc, ◌≤◌, Bool, true, false, cond, not, List, [], ◌∷◌, length, map, filter, Option, Some, refl, sym, ap, ◌∙◌, arith}
use Rattle.std.specs.Prelude.{option_to_list}
use Rattle.std.proofs.lemmas.List.{length-map}
use Rattle.std.proofs.lemmas.List.Sums.{length-filter}
use Rattle.fof_lex.proofs.UpTo.{tokens_in}
use Rattle.fof_parse.specs.declared.statement.Role.{Role}
use Rattle.fof_parse.specs.Token.{placed}
use Rattle.fof_parse.specs.Grammar.{Statement}
use Rattle.fof_parse.specs.Problem.{PlainProblem, Label, role_of, is_conjecture_role, is_conjecture, AreLabels, formulas_in}
use Rattle.fof_parse.specs.TheProblem.{most_bytes, IsProblemText}
use Rattle.fof_parse.specs.Kept.{is_axiom_label, is_conjecture_label, IsKept}
use Rattle.fof_parse.proofs.Chunks.{found_in}
use Rattle.fof_parse.proofs.Lengths.{tokens_fit, statements_fit, functions_fit, predicates_fit, all_interned_fit, as_many_plain, as_many_labels, formulas_fit}
use Rattle.fof_parse.proofs.Named.{all_named, labels_named}
use Rattle.fof_parse.proofs.Closed.{all_closed, one_closed}

-- the labels of a kind of roles, and the formulas of their statements
by_roles : (p : Option Role → Bool) (sts : List Statement) (ls : List Label) → AreLabels sts ls
    → length (filter (λ l. p (Some l.role)) ls) ≡ length (formulas_in (λ st. p (role_of st.role)) sts)
by_roles p [] [] h = refl
by_roles p [] (l ∷ ls) h = absurd h
by_roles p (st ∷ sts) [] h = absurd h
by_roles p (st ∷ sts) (l ∷ ls) h = split (p (Some l.role)) (p (role_of st.role)) (ap p (sym h.1)) (by_roles p sts ls h.2) where
  split : (b c : Bool) → b ≡ c → length (filter (λ l. p (Some l.role)) ls) ≡ length (formulas_in (λ st. p (role_of st.role)) sts)
      → length (cond b (l ∷ filter (λ l. p (Some l.role)) ls) (filter (λ l. p (Some l.role)) ls))
      ≡ length (map (λ (s : Statement). s.formula) (cond c (st ∷ filter (λ st. p (role_of st.role)) sts) (filter (λ st. p (role_of st.role)) sts)))
  split true true e h = ap suc h
  split true false e h = cc (e)
  split false true e h = cc (e)
  split false false e h = h

pub kept : (bytes : List ℕ) (problem : PlainProblem) → IsProblemText bytes problem → IsKept problem
kept bytes problem h =
    let m = h.meaning in
    let sts = h.statements in
    let table = problem.symbols in
    let ts = map (placed bytes) h.tokens in
    let found = tokens_in bytes h.tokens h.lexed in
    let long : length ts ≤ most_bytes = omega (arith, h.within, tokens_fit bytes 0 h.tokens (omega arith) found, length-map h.tokens (placed bytes)) in
    let statements : length sts ≤ length ts = statements_fit false ts sts h.good in
    let axioms_in = formulas_in (λ st. not (is_conjecture st)) sts in
    let conjectures_in = formulas_in is_conjecture sts in
    record {
      few_labels = omega (arith, long, statements, as_many_labels sts problem.labels m.labels);
      few_axioms = omega (arith, long, statements, as_many_plain table axioms_in problem.axioms m.axioms, formulas_fit (λ st. not (is_conjecture st)) sts);
      few_functions = omega (arith, long, functions_fit false ts sts h.good, all_interned_fit [] table.functions _ m.functions);
      few_predicates = omega (arith, long, predicates_fit false ts sts h.good, all_interned_fit [] table.predicates _ m.predicates);
      named = labels_named false ts sts problem.labels (all_named bytes h.tokens (found_in bytes 0 h.tokens found)) h.good m.labels;
      axioms = all_closed table axioms_in problem.axioms m.axioms;
      conjecture = one_closed table conjectures_in problem.conjecture m.conjecture;
      axiom_labels = sym (length-filter is_axiom_label problem.labels) ∙ by_roles (λ r. not (is_conjecture_role r)) sts problem.labels m.labels
          ∙ sym (as_many_plain table axioms_in problem.axioms m.axioms);
      conjecture_labels = sym (length-filter is_conjecture_label problem.labels) ∙ by_roles is_conjecture_role sts problem.labels m.labels
          ∙ sym (as_many_plain table conjectures_in (option_to_list problem.conjecture) m.conjecture);
    }
