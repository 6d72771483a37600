-- What is told of a search.
use Rattle.std.proofs.Common.{◌≡◌, ◌∙◌, ℕ, ◌++◌, List, Option, None, Some, sym, ap, refl, subst}
use Rattle.std.specs.Prelude.{is_some, option_map}
use Rattle.fol_core.specs.View.{TermFormula, formula_of}
use Rattle.fol_core.specs.Symbol.{Symbol, SymbolTable}
use Rattle.fof_parse.specs.Problem.{PlainProblem, Start}
use Rattle.gs3_rules.specs.Apply.{rules_of}
use Rattle.gs3_rules.specs.Refutes.{ProofTree, HasShape, preorder}
use Rattle.gs3_rules.specs.declared.step.Step.{Step}
use Rattle.gs3_rules.proofs.Shapes.{refutation_shape}
use Rattle.gs3_text.specs.ProofText.{ProofText, proof_lines, text_of}
use Rattle.rewrite_rules.specs.Rules.{RewriteRule, RulesOf}
use Rattle.round_offers.specs.RoundOffer.{RoundOffer}
use Rattle.goeland_words.specs.declared.prove.ProveWords.{ProveWords}
use Rattle.deepening.specs.declared.kept.Kept.{Kept}
use Rattle.deepening.specs.declared.order.Way.{Way}
use Rattle.goeland_report.specs.Outcome.{Outcome, Proof, GiveUp, proof, give_up}
use Rattle.goeland_report.specs.Output.{output, first_part}
use Rattle.goeland_report.specs.Reported.{IsReport}
use Rattle.goeland_report.specs.declared.cause.Cause.{Cause}
use Rattle.goeland_report.specs.declared.found.Report.{Report}
use Rattle.goeland_run.specs.Histories.{offer_words, asked_history, engine_or_plain}
use Rattle.goeland_run.specs.Searched.{limits_of, HasAnswer, HasSteps, HasCause}
use Rattle.goeland_run.specs.Telling.{FindsOut, TellsOutcome}
use Rattle.goeland_run.specs.declared.answers.Answer.{Answer}
use Rattle.goeland_run.specs.declared.answers.Answer.TheVariants as answer
use Rattle.goeland_run.specs.declared.printed.Printed.TheVariants.{Made}
use Rattle.goeland_run.specs.declared.status.Status.TheVariants as status

pub some_map : (o : Option TermFormula) → is_some o ≡ is_some (option_map formula_of o)
some_map None = refl
some_map (Some a) = refl

-- a report over equal tables of symbols
pub respelled_with : (table symbols : SymbolTable) (file : List ℕ) (o : Outcome RoundOffer) (r : Report) → table ≡ symbols
    → IsReport (offer_words table.functions) file o r → IsReport (offer_words symbols.functions) file o r
respelled_with table symbols file o r e h =
    subst (λ (s : SymbolTable). IsReport (offer_words s.functions) file o r) e h

-- a report's two parts are the whole text
pub made_text : (functions : List Symbol) (file : List ℕ) (o : Outcome RoundOffer) (r : Report)
    → IsReport (offer_words functions) file o r → r.first.items ++ r.second.items ≡ output (offer_words functions) file o
made_text functions file o r report =
    ap (λ (x : List ℕ). x ++ r.second.items) report.first
    ∙ ap (λ (y : List ℕ). first_part (offer_words functions) file o ++ y) report.second

module _ (way : Way) (p : ProveWords) (problem : PlainProblem) (kept : Kept) where
  abbrev pub functions : List Symbol
  functions = problem.symbols.functions

  -- the report of a proof, from what each part of it says
  pub tells_proof : (steps : List Step) (told : Proof RoundOffer) (r : Report) → HasSteps way p problem kept steps
      → told.depth ≡ kept.depth → told.theorem ≡ is_some problem.conjecture → told.engine ≡ engine_or_plain kept.engine
      → told.history ≡ asked_history p.history kept
      → told.text ≡ text_of (proof_lines functions (rules_of steps))
      → ((whole : ProofTree) → HasShape whole → preorder whole ≡ rules_of steps → ProofText functions told.text whole)
      → ((tree : ProofTree) → ProofText functions told.text tree → ProofText functions (r.first.items ++ r.second.items) tree)
      → IsReport (offer_words functions) p.file (proof told) r → TellsOutcome way p problem kept (Made r) status.Proved
  tells_proof steps told r has depth theorem engine history text of_tree whole report =
      let found = has.found.found in
      let shape = refutation_shape (Start problem) found.tree has.found.is_found.refutes in
      let all = whole found.tree (of_tree found.tree shape (sym has.found.are_steps)) in
      let same = made_text functions p.file (proof told) r report in
      record {
        outcome = proof told;
        found_out =
            record {
              rules = has.rules;
              of_problem = has.of_problem;
              found = found;
              is_found = has.found.is_found;
              depth = depth;
              theorem = theorem;
              engine = engine;
              history = history;
              is_text = text ∙ ap (λ rules. text_of (proof_lines functions rules)) has.found.are_steps;
              written = subst (λ (bytes : List ℕ). ProofText functions bytes found.tree) same all;
            };
        text = same;
        status = refl;
      }

  -- the report of a search that was given up
  pub tells_cause : (cause : Cause) (told : GiveUp RoundOffer) (r : Report) → HasCause way p problem kept cause
      → told.cause ≡ cause → told.engine ≡ engine_or_plain kept.engine → told.history ≡ asked_history p.history kept
      → IsReport (offer_words functions) p.file (give_up told) r → TellsOutcome way p problem kept (Made r) status.GaveUp
  tells_cause cause told r has is engine history report =
      record {
        outcome = give_up told;
        found_out =
            record {
              cause = subst (HasCause way p problem kept) (sym is) has;
              engine = engine;
              history = history;
            };
        text = made_text functions p.file (give_up told) r report;
        status = refl;
      }

  -- the answer under the rules of the problem
  pub finds_out : (rules : List RewriteRule) (found : Answer) → RulesOf p.rewrite problem.axioms rules
      → HasAnswer problem rules (limits_of p) way kept found → FindsOut way p problem kept found
  finds_out rules (answer.Steps steps) of_problem has = record { rules = rules; of_problem = of_problem; found = has }
  finds_out rules (answer.GaveUp cause) of_problem has = record { rules = rules; of_problem = of_problem; why = has }
