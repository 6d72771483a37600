use Rattle.std.proofs.Common.{◌≡◌, ℕ, List, ◌∷◌, map, option_map, length, Some, arith, ap, sym, ◌∙◌, subst}
use Rattle.std.proofs.lemmas.List.{map_push}
use Rattle.fol_core.specs.Syntax.{param}
use Rattle.fol_core.specs.View.{term_of}
use Rattle.fol_core.proofs.Trees.{term_of_param}
use Rattle.gs3_text.specs.Reading.{onto, after_argument, term_at, arguments_from}
use Rattle.gs3_text.proofs.Terms.{term_too_deep, term_empty, term_param, term_other, term_shorter}
use Rattle.gs3_text.proofs.Arguments.{fails_on, more_on, last_on, none_on, fails_map, behind_other}
use Rattle.gs3_text.proofs.term.+term.Goals as goal

pub term_at-returns-in_default : goal.term_at-returns-in_default
term_at-returns-in_default t c = let e = c.in_default.ensures in term_too_deep c.args.symbols.now.functions c.args.depth c.args.bytes.now (omega arith)

pub term_at-returns-in_default-front : goal.term_at-returns-in_default-front
term_at-returns-in_default-front t c =
    let e = c.in-Some.ensures in let text = c.in_default-front.ensures in
    term_empty c.args.symbols.now.functions c.args.depth c.in-Some.inside c.args.bytes.now (omega arith) text

pub term_at-returns-then-first-ne35 : goal.term_at-returns-then-first-ne35
term_at-returns-then-first-ne35 t c =
    let e = c.in-Some.ensures in let text = c.in-Some-front.ensures in
    rw (term_other c.args.symbols.now.functions c.args.depth c.in-Some.inside c.args.bytes.now c.in-Some-front.first c.in-Some-front.digits.now (omega arith) text c.if-first-ne35.true)
    c.application_at.ensures

pub term_at-returns-in-Ok : goal.term_at-returns-in-Ok
term_at-returns-in-Ok t c =
    let e = c.in-Some.ensures in let text = c.in-Some-front.ensures in let read = c.in-Ok.ensures.read in
    term_param c.args.symbols.now.functions c.args.depth c.in-Some.inside c.args.bytes.now c.in-Some-front.first c.in-Some-front.digits.now (omega arith) text c.if-first-ne35.false
    ∙ ap (option_map (λ (n : ℕ × List ℕ). (param n.0, n.1))) read ∙ ap (λ u. Some (u, c.in-Ok.rest.now)) (sym (term_of_param c.in-Ok.param))

pub term_at-returns-in-Err : goal.term_at-returns-in-Err
term_at-returns-in-Err t c =
    let e = c.in-Some.ensures in let text = c.in-Some-front.ensures in let read = c.in-Err.ensures.read in
    fails_map c.in-Err.fault _ _ _ (term_param c.args.symbols.now.functions c.args.depth c.in-Some.inside c.args.bytes.now c.in-Some-front.first c.in-Some-front.digits.now (omega arith) text c.if-first-ne35.false) read

pub arguments_from-returns-in-Err : goal.arguments_from-returns-in-Err
arguments_from-returns-in-Err t c =
    let fails = c.in-Err.ensures in
    fails_on (term_at c.args.symbols.now.functions c.args.depth) c.in-Err.fault c.arguments.rest.now (map term_of c.arguments.args) _ c.arguments.invariant fails

pub arguments_from-returns-in_default : goal.arguments_from-returns-in_default
arguments_from-returns-in_default t c =
    let read = c.in-Ok.ensures in let none = c.in_default.ensures in
    none_on (term_at c.args.symbols.now.functions c.args.depth) (term_shorter c.args.symbols.now.functions c.args.depth) c.arguments.rest.now c.in-Ok.read.1.now (map term_of c.arguments.args) (term_of c.in-Ok.read.0) _ c.arguments.invariant read
    (λ more. ap (λ after. after_argument (term_of c.in-Ok.read.0) after more) none)

pub arguments_from-arguments-smaller : goal.arguments_from-arguments-smaller
arguments_from-arguments-smaller t c =
    let read = c.in-Ok.ensures in let text = c.in-Some.ensures in
    omega (arith, term_shorter c.args.symbols.now.functions c.args.depth c.arguments.rest.now (term_of c.in-Ok.read.0) c.in-Ok.read.1.now read, ap length text)

pub arguments_from-arguments-preserved : goal.arguments_from-arguments-preserved
arguments_from-arguments-preserved t c =
    let read = c.in-Ok.ensures in let text = c.in-Some.ensures in let pushed = c.in_ok-push.ensures.ok in
    let r = term_at c.args.symbols.now.functions c.args.depth in let u = term_of c.in-Ok.read.0 in let more = c.in-Some.more.now in
    subst (λ us. onto us (arguments_from r (length more) more) ≡ arguments_from r (length c.args.bytes.now) c.args.bytes.now) (sym (ap (map term_of) pushed ∙ map_push term_of c.arguments.args c.in-Ok.read.0))
    (more_on r (term_shorter c.args.symbols.now.functions c.args.depth) c.arguments.rest.now more (map term_of c.arguments.args) u _ c.arguments.invariant (read ∙ ap (λ after. Some (u, after)) text ∙ ap (λ mark. Some (u, mark ∷ more)) c.if-mark-eq44.true))

pub arguments_from-returns-then-mark-eq41 : goal.arguments_from-returns-then-mark-eq41
arguments_from-returns-then-mark-eq41 t c =
    let read = c.in-Ok.ensures in let text = c.in-Some.ensures in let pushed = c.in_ok-push.ensures.ok in let shared = c.in_ok-new.ensures in
    let r = term_at c.args.symbols.now.functions c.args.depth in let u = term_of c.in-Ok.read.0 in let more = c.in-Some.more.now in
    last_on r (term_shorter c.args.symbols.now.functions c.args.depth) c.arguments.rest.now more (map term_of c.arguments.args) u _ c.arguments.invariant (read ∙ ap (λ after. Some (u, after)) text ∙ ap (λ mark. Some (u, mark ∷ more)) c.if-mark-eq41.true)
    ∙ ap (λ us. Some (us, more)) (sym (ap (map term_of) pushed ∙ map_push term_of c.arguments.args c.in-Ok.read.0))
    ∙ ap (λ us. Some (map term_of us, more)) (sym shared)

pub arguments_from-returns-else-mark-eq41 : goal.arguments_from-returns-else-mark-eq41
arguments_from-returns-else-mark-eq41 t c =
    let read = c.in-Ok.ensures in let text = c.in-Some.ensures in
    none_on (term_at c.args.symbols.now.functions c.args.depth) (term_shorter c.args.symbols.now.functions c.args.depth) c.arguments.rest.now c.in-Ok.read.1.now (map term_of c.arguments.args) (term_of c.in-Ok.read.0) _ c.arguments.invariant read
    (behind_other (term_of c.in-Ok.read.0) c.in-Ok.read.1.now c.in-Some.mark c.in-Some.more.now text c.if-mark-eq44.false c.if-mark-eq41.false)
