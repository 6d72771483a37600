use Rattle.std.proofs.Common.{◌≡◌, ◌+◌, ◌∷◌, [], drop, rules, ap, ◌∙◌, subst, refl, Err}
use Rattle.std.specs.Prelude.{IfSome}
use Rattle.std.proofs.lemmas.List.{drop_all}
use Rattle.gs3_rules.specs.Apply.{rule_of, rules_of}
use Rattle.gs3_kernel.specs.OpenLists.{LeftIsSound}
use Rattle.gs3_kernel.specs.declared.checking.CheckError.TheVariants.{Wrong}
use Rattle.gs3_kernel.proofs.Turns.{refused, accepted, too_many, too_few, fails_here, goes_on, all_done, rules_from}
use Rattle.gs3_kernel.proofs.checking.check_steps.Goals as goal
use Rattle.gs3_kernel.proofs.checking.check_steps.Goals.{in-None, in-Some-left}

pub returns-in_default : goal.returns-in_default
returns-in_default c =
    let more : rules_of (drop c.loop-at.at c.args.steps.now) ≡ rule_of c.step-item.result ∷ rules_of (drop (c.loop-at.at + 1) c.args.steps.now) = rules_from c.args.steps.now c.loop-at.at c.step-item.result (search rules) (search rules) in
    refused _ _ c.loop-at.at _ refl (too_many _ _ _ _ _ c.loop-at.invariant.reaches _ _ c.in_default.is more)

pub returns-in_default-2 : goal.returns-in_default-2
returns-in_default-2 c =
    let more : rules_of (drop c.loop-at.at c.args.steps.now) ≡ rule_of c.step-item.result ∷ rules_of (drop (c.loop-at.at + 1) c.args.steps.now) = rules_from c.args.steps.now c.loop-at.at c.step-item.result (search rules) (search rules) in
    refused _ _ c.loop-at.at _ refl (fails_here _ _ _ _ _ c.loop-at.invariant.reaches c.in-Some.state _ _ c.in_ok-next.field-0 c.in-Some.is more c.in_ok-next.ensures.left c.in_default-2.is)

pub loop-at-preserved : goal.loop-at-preserved
loop-at-preserved c =
    let more : rules_of (drop c.loop-at.at c.args.steps.now) ≡ rule_of c.step-item.result ∷ rules_of (drop (c.loop-at.at + 1) c.args.steps.now) = rules_from c.args.steps.now c.loop-at.at c.step-item.result (search rules) (search rules) in
    record {
      sound = subst (λ o. IfSome o LeftIsSound) c.in-Some-2.is c.in_ok-next.ensures.sound;
      reaches = goes_on _ _ _ _ _ c.loop-at.invariant.reaches c.in-Some.state _ _ c.in_ok-next.field-0 _ c.in-Some.is more c.in_ok-next.ensures.left c.in-Some-2.is;
    }

pub returns : goal.returns
returns c =
    let none_left : drop c.loop-at.at c.args.steps.now ≡ [] = drop_all c.loop-at.at c.args.steps.now (search rules) in
    elim c.match-left-2.branch [
      | in-None w ↦ accepted _ _ _ w.result-is (all_done _ _ _ _ _ c.loop-at.invariant.reaches w.in-None.is (ap rules_of none_left))
      | in-Some-left w ↦ refused _ _ c.loop-at.at _ (w.result-is ∙ ap (λ n. Err (Wrong n)) (search rules)) (too_few _ _ _ _ _ c.loop-at.invariant.reaches _ w.in-Some-left.is (ap rules_of none_left))
    ]
