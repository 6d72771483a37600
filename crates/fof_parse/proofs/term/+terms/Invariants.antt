use Rattle.std.proofs.Common.{◌≤◌, ◌+◌, ◌-◌, ◌*◌, length, map}
use Rattle.fof_parse.specs.Reader.Text.{from}
use Rattle.fof_parse.specs.Reader.Views.{raw_of}
use Rattle.fof_parse.proofs.Terms.{TermsSoFar}
use Rattle.fof_parse.proofs.term.+terms.Given as goal

abbrev pub decreases-applied_at : goal.decreases-applied_at
decreases-applied_at l = 3 * (length l.text.now.tokens.now - l.at)

abbrev pub decreases-term_at : goal.decreases-term_at
decreases-term_at l = 3 * (length l.text.now.tokens.now - l.at) + 1

abbrev pub decreases-terms_at : goal.decreases-terms_at
decreases-terms_at l = 3 * (length l.text.now.tokens.now - l.at) + 2

abbrev pub invariant-terms_at-loop-terms : goal.invariant-terms_at-loop-terms
invariant-terms_at-loop-terms l = record {
  so_far : TermsSoFar (from l.text l.initial.at) (map raw_of l.terms) (from l.text l.at);
  further : l.initial.at ≤ l.at;
}

abbrev pub decreases-terms_at-loop-terms : goal.decreases-terms_at-loop-terms
decreases-terms_at-loop-terms l = length l.text.tokens.now - l.at
