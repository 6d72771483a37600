use Rattle.std.proofs.Common.{rules, ◌∙◌, ap, sym, Some}
use Rattle.nego_core.proofs.Reading.{parent-within, asked-other}
use Rattle.nego_core.proofs.play.Play.asked.Goals as goal

pub node-requires-after_bounds : goal.node-requires-after_bounds
node-requires-after_bounds g c κs within =
    parent-within _ _ _ _ _ _ c.requires.plays c.args.at c.link-link.result (search rules) c.link-link.ensures c.requires.at

pub returns-in-None : goal.returns-in-None
returns-in-None g c =
    λ n is.
    c.in-None.ensures.task
    ∙ sym (asked-other _ _ _ _ _ _ c.requires.plays c.args.at c.link-link.result c.node.result.now n (search rules) c.link-link.ensures c.node.ensures is)

pub returns-in_ok-copy-in-Some : goal.returns-in_ok-copy-in-Some
returns-in_ok-copy-in-Some g c =
    λ n is.
    ap Some c.in_ok-copy-in-Some.ensures
    ∙ (c.in-Some.ensures.task
    ∙ sym (asked-other _ _ _ _ _ _ c.requires.plays c.args.at c.link-link.result c.node.result.now n (search rules) c.link-link.ensures c.node.ensures is))
