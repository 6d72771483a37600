use Rattle.std.proofs.Common.{rules, ◌∙◌, ap, sym, Some}
use Rattle.nego_core.proofs.Reading.{part-within, said-part, said-none}
use Rattle.nego_core.proofs.play.Play.said.Goals as goal

pub returns-in-None : goal.returns-in-None
returns-in-None g c = λ n is. sym (said-none _ _ _ _ _ _ c.requires.plays c.args.at c.link.result c.args.side n c.link.ensures (search rules) is)

pub node-requires-after_bounds : goal.node-requires-after_bounds
node-requires-after_bounds g c κs within =
    rw c.place_of.ensures (part-within _ _ _ _ _ _ c.requires.plays c.args.at c.link.result c.in-Some.parts c.args.side c.link.ensures (search rules) c.requires.at)

pub returns-in-None-answer : goal.returns-in-None-answer
returns-in-None-answer g c =
    λ n is.
    c.in-None-answer.ensures.answer
    ∙ sym (said-part _ _ _ _ _ _ c.requires.plays c.args.at c.link.result c.in-Some.parts c.args.side c.node.result.now n c.link.ensures (search rules) (rw (← c.place_of.ensures) c.node.ensures) is)

pub returns-in_ok-copy-in-Some-answer : goal.returns-in_ok-copy-in-Some-answer
returns-in_ok-copy-in-Some-answer g c =
    λ n is.
    ap Some c.in_ok-copy-in-Some-answer.ensures
    ∙ (c.in-Some-answer.ensures.answer
    ∙ sym (said-part _ _ _ _ _ _ c.requires.plays c.args.at c.link.result c.in-Some.parts c.args.side c.node.result.now n c.link.ensures (search rules) (rw (← c.place_of.ensures) c.node.ensures) is))
