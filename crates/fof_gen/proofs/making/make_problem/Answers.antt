use Rattle.std.proofs.Common.{◌≡◌, ap, ◌∙◌, ◌++◌, [], ◌∷◌, arith}
use Rattle.fof_gen.specs.Generated.{rule_line, last_line}
use Rattle.fof_gen.proofs.Lines.{begun, one_more, ended}
use Rattle.fof_gen.proofs.making.make_problem.Goals as goal

pub returns : goal.returns
returns c =
    let within = c.loop-i.auto.i-end in
    let past = c.loop-i-test.false in
    let all : c.loop-i.i ≡ c.args.n = omega arith in
    c.in_ok-put_last.ensures ∙ ap (λ x. x ++ (last_line c.args.n ++ 10 ∷ [])) (c.loop-i.invariant ∙ ap begun all) ∙ ended c.args.n

pub loop-i-preserved : goal.loop-i-preserved
loop-i-preserved c = c.in_ok-put_rule.ensures ∙ ap (λ x. x ++ (rule_line c.loop-i.i ++ 10 ∷ [])) c.loop-i.invariant ∙ one_more c.loop-i.i
