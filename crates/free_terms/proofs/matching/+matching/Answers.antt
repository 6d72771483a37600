use Rattle.std.proofs.Common.{ap, sym, ◌∙◌, length}
use Rattle.free_terms.proofs.Matched.{given_length}
use Rattle.free_terms.proofs.matching.+matching.Goals as goal

pub match_terms-returns-then-ps-us : goal.match_terms-returns-then-ps-us
match_terms-returns-then-ps-us t c = λ g f q. c.if-ps-us.true
    (ap length (c.as_slice-ps.ensures ∙ c.get.ensures) ∙ given_length g c.args.ps.now c.args.us.now q ∙ sym (ap length (c.as_slice-us.ensures ∙ c.get-2.ensures)))
