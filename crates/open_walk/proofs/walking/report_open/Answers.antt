use Rattle.std.proofs.Common.{◌≡◌, ◌<◌, ◌≤◌, ◌∙◌, arith, sym, subst}
use Rattle.std.proofs.lemmas.Bool.{false≢true}
use Rattle.tab_tree.specs.declared.words.OpenAnswer.TheVariants as answer
use Rattle.open_walk.specs.Walk.{IsOpenAnswer}
use Rattle.open_walk.specs.declared.limit.TheConstants.{MOST_SEGMENTS}
use Rattle.open_walk.proofs.Waiting.{started, of_round_last, gone_on, open_found, ended, cut}
use Rattle.open_walk.proofs.walking.report_open.Goals as goal

pub loop-visits-init : goal.loop-visits-init
loop-visits-init c = started c.args.round.now c.in_ok-waiting.waiting c.in_ok-waiting.ensures

pub returns-in_default : goal.returns-in_default
returns-in_default c =
    let within : c.loop-visits._visits ≤ MOST_SEGMENTS = omega (arith, c.loop-visits-test.true) in
    ended c.args.round.now c.loop-visits.waiting c.loop-visits._visits c.loop-visits.invariant within c.in_default.ensures.0

pub visit-requires : goal.visit-requires
visit-requires c =
    of_round_last c.args.round.now c.loop-visits.waiting c.pop.new.self c.in-Some.site c.loop-visits._visits c.loop-visits.invariant c.in-Some.ensures

pub returns-then-branch : goal.returns-then-branch
returns-then-branch c =
    let within : c.loop-visits._visits < MOST_SEGMENTS = omega (arith, c.loop-visits-test.true) in
    subst (λ n. IsOpenAnswer c.args.round.now (answer.Branch n)) (sym c.site_name.ensures)
    (open_found c.args.round.now c.loop-visits.waiting c.pop.new.self c.visit.new.waiting c.in-Some.site c.loop-visits._visits c.in_ok-visit.field-0
    c.loop-visits.invariant within c.in-Some.ensures c.in_ok-visit.ensures c.if-branch.true)

pub loop-visits-preserved : goal.loop-visits-preserved
loop-visits-preserved c =
    gone_on c.args.round.now c.loop-visits.waiting c.pop.new.self c.visit.new.waiting c.in-Some.site c.loop-visits._visits c.in_ok-visit.field-0
    c.loop-visits.invariant c.in-Some.ensures c.in_ok-visit.ensures c.if-branch.false

pub returns-then-is_empty : goal.returns-then-is_empty
returns-then-is_empty c =
    let within : c.loop-visits._visits ≤ MOST_SEGMENTS = omega (arith, c.loop-visits-test.false) in
    ended c.args.round.now c.loop-visits.waiting c.loop-visits._visits c.loop-visits.invariant within (c.is_empty.ensures.0 c.if-is_empty.true)

pub returns : goal.returns
returns c =
    let all : c.loop-visits._visits ≡ MOST_SEGMENTS = omega (arith, c.loop-visits-test.false) in
    cut c.args.round.now c.loop-visits.waiting c.loop-visits._visits c.loop-visits.invariant all
    (λ e. false≢true (sym c.if-is_empty.false ∙ c.is_empty.ensures.1 e))
