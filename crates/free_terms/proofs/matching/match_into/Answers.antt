use Rattle.fol_core.specs.View as plain
use Rattle.free_terms.specs.View.{fills_of, terms_of}
use Rattle.free_terms.proofs.Matched.{found_by, none_by}
use Rattle.free_terms.proofs.matching.match_into.Goals as goal

pub returns-then-branch : goal.returns-then-branch
returns-then-branch c =
    found_by _ (fills_of c.match_terms.new.fills) (plain.terms_of c.args.pattern.now) c.args.count (terms_of c.args.target.now) _ c.in_ok-fills.ensures c.if-branch.true
    c.in_ok-match_terms.ensures

pub returns-else-branch : goal.returns-else-branch
returns-else-branch c =
    none_by _ (fills_of c.match_terms.new.fills) (plain.terms_of c.args.pattern.now) c.args.count (terms_of c.args.target.now) _ c.in_ok-fills.ensures c.if-branch.false
    c.in_ok-match_terms.ensures
