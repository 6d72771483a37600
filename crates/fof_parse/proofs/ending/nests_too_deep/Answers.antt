use Rattle.std.proofs.Common.{reverse}
use Rattle.fof_parse.proofs.Deep.{too_deep}
use Rattle.fof_parse.proofs.ending.nests_too_deep.Goals as goal

pub returns-then-count-gt-MAX_NESTING : goal.returns-then-count-gt-MAX_NESTING
returns-then-count-gt-MAX_NESTING c =
    too_deep c.loop-token.count c.in_ok-count.count (reverse c.loop-token.kept.items) _ _ _ _ c.in-Some.ensures.token.0 c.in_ok-count.ensures.count c.if-count-gt-MAX_NESTING.true c.loop-token.invariant.same
