-- What a run finds out about a problem.
use Rattle.std.specs.Prelude.{◌≡◌, ℕ, List, Option, None, Some, is_some, nat_le, if◌then◌else◌}
use Rattle.fof_parse.specs.Problem.{PlainProblem}
use Rattle.gs3_rules.specs.Refutes.{preorder}
use Rattle.gs3_rules.specs.declared.step.Step.{Step}
use Rattle.gs3_text.specs.ProofText.{ProofText, proof_lines, text_of}
use Rattle.rewrite_rules.specs.Rules.{RewriteRule, RulesOf}
use Rattle.round_offers.specs.RoundOffer.{RoundOffer}
use Rattle.translation.specs.Measures.{MeasuredProof}
use Rattle.goeland_words.specs.declared.prove.ProveWords.{ProveWords}
use Rattle.goeland_words.specs.declared.prove.Schedule.{Schedule}
use Rattle.deepening.specs.Endings.{IsFound, HasFound, IsExhausted, IsSpent, IsLong, IsDeep}
use Rattle.deepening.specs.declared.kept.Kept.{Kept}
use Rattle.deepening.specs.declared.limits.Limits.{Limits}
use Rattle.deepening.specs.declared.order.Order.{Order}
use Rattle.deepening.specs.declared.order.Order.TheVariants.{Plain, Scheduled}
use Rattle.deepening.specs.declared.order.Way.{Way}
use Rattle.deepening.specs.declared.order.Way.TheVariants.{Alone, Agents}
use Rattle.goeland_report.specs.Outcome.{Proof, GiveUp, Outcome, give_up, proof}
use Rattle.goeland_report.specs.Output.{output}
use Rattle.goeland_report.specs.declared.cause.Cause.{Cause}
use Rattle.goeland_report.specs.declared.cause.Cause.TheVariants.{Depth, Tries, Bytes, Nesting}
use Rattle.goeland_run.specs.Histories.{offer_words, asked_history, engine_or_plain}
use Rattle.goeland_run.specs.declared.answers.Answer.{Answer}
use Rattle.goeland_run.specs.declared.ways.Threading.{Threading}
use Rattle.goeland_run.specs.declared.ways.Threading.TheVariants.{OneThread, ManyThreads}
use Rattle.goeland_run.specs.declared.answers.Answer.TheVariants as answer

abbrev pub limits_of : ProveWords → Limits
limits_of p = record { depth = p.depth; tries = p.tries; proof_bytes = p.proof_bytes }

-- the order that the words ask for
abbrev pub order_of : Option Schedule → Order
order_of None = Plain
order_of (Some schedule) = Scheduled schedule.seed schedule.turns

-- Whether the run may start workers, and does where more than one is asked for and no schedule is.
abbrev pub way_of : Threading → ℕ → Option Schedule → Way
way_of OneThread workers schedule = Alone (order_of schedule)
way_of ManyThreads workers (Some schedule) = Alone (order_of (Some schedule))
way_of ManyThreads workers None = if nat_le 2 workers then Agents workers else Alone Plain

abbrev pub way_asked : Threading → ProveWords → Way
way_asked threads p = way_of threads p.workers p.schedule

-- what the bench runs with, with rewriting
abbrev pub bench_limits : Limits
bench_limits = record { depth = 8; tries = None; proof_bytes = 67108864 }

module _ (problem : PlainProblem) (rules : List RewriteRule) (limits : Limits) (way : Way) (kept : Kept) where
  -- the search was given up for that cause
  abbrev pub IsGivenUp : Cause → Type 0
  IsGivenUp (Depth limit walked) = (limit ≡ limits.depth) × IsExhausted problem rules limits way kept walked
  IsGivenUp (Tries made depth) = (depth ≡ kept.depth) × IsSpent problem rules limits way kept made
  IsGivenUp (Bytes limit) = (limit ≡ limits.proof_bytes) × IsLong problem rules limits way kept
  IsGivenUp Nesting = IsDeep problem rules limits way kept

  -- the search has that answer
  abbrev pub HasAnswer : Answer → Type 0
  HasAnswer (answer.Steps steps) = HasFound problem rules limits way kept steps
  HasAnswer (answer.GaveUp cause) = IsGivenUp cause

module _ (way : Way) (p : ProveWords) (problem : PlainProblem) (kept : Kept) where
  -- These are the steps of a proof of the problem.
  pub record HasSteps (steps : List Step) : Type 0 where
    pub rules : List RewriteRule
    pub of_problem : RulesOf p.rewrite problem.axioms rules
    pub found : HasFound problem rules (limits_of p) way kept steps

  -- The search of the problem was given up for that cause.
  pub record HasCause (cause : Cause) : Type 0 where
    pub rules : List RewriteRule
    pub of_problem : RulesOf p.rewrite problem.axioms rules
    pub why : IsGivenUp problem rules (limits_of p) way kept cause

  -- That is told, with what ended the last round, and the histories where they are asked for.
  pub record HasGivenUp (g : GiveUp RoundOffer) : Type 0 where
    pub cause : HasCause g.cause
    pub engine : g.engine ≡ engine_or_plain kept.engine
    pub history : g.history ≡ asked_history p.history kept

  -- A proof of the problem was found, and this is its text. All that is written is a text of the same proof.
  pub record HasProved (told : Proof RoundOffer) : Type 0 where
    pub rules : List RewriteRule
    pub of_problem : RulesOf p.rewrite problem.axioms rules
    pub found : MeasuredProof
    pub is_found : IsFound problem rules (limits_of p) way kept found
    pub depth : told.depth ≡ kept.depth
    pub theorem : told.theorem ≡ is_some problem.conjecture
    pub engine : told.engine ≡ engine_or_plain kept.engine
    pub history : told.history ≡ asked_history p.history kept
    pub is_text : told.text ≡ text_of (proof_lines problem.symbols.functions (preorder found.tree))
    pub written : ProofText problem.symbols.functions
        (output (offer_words problem.symbols.functions) p.file (proof told)) found.tree

  -- the outcome of the search
  abbrev pub IsFoundOut : Outcome RoundOffer → Type 0
  IsFoundOut (give_up g) = HasGivenUp g
  IsFoundOut (proof told) = HasProved told
  IsFoundOut _ = ⊥
