use Rattle.std.proofs.Common.{◌∙◌, sym}
use Rattle.std.proofs.lemmas.Bool.{false≢true}
use Rattle.free_terms.specs.View.{name_of, term_of}
use Rattle.unify.specs.View.{offer_of}
use Rattle.unify.proofs.Reduce.{held_clash}
use Rattle.unify.proofs.step.against.Goals as goal

pub returns-then-branch : goal.returns-then-branch
returns-then-branch c =
    held_clash (offer_of c.args.s.now) (name_of c.args.x) (term_of c.args.t.now) c.requires.head
    (λ e. false≢true (sym c.if-is_metavar.false ∙ c.is_metavar.ensures.1 e))
    (c.in_ok-occurs.ensures.0 c.if-branch.true)
