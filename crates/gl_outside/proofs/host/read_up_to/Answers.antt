use Rattle.std.proofs.Common.{◌≡◌, ◌<◌, length, IfSome, subst, arith}
use Rattle.gl_outside.proofs.ReadingLemmas.{whole}
use Rattle.gl_outside.proofs.host.read_up_to.Goals as goal

pub returns-in-Ok-2-clause-bytes : goal.returns-in-Ok-2-clause-bytes
returns-in-Ok-2-clause-bytes g c =
    let bytes = c.read_to_end.new.buf.items in
    let short : length bytes < c.take.result.limit = omega (arith, c.take.ensures.limit, c.saturating_add.ensures, c.len.ensures, c.read_to_end.new.buf.ok.0, c.read_to_end.new.buf.small) in
    subst (λ (r : g.row.R.Denot). IfSome (g.R.Read.remaining r) (λ xs. bytes ≡ xs)) c.take.ensures.inner
    (whole (g.R.Read.remaining c.take.result.inner) c.take.result.limit c.new-bytes.result.items bytes c.new-bytes.ensures.items c.in-Ok-2.ensures.bytes short)
