use Rattle.free_terms.specs.View.{terms_of}
use Rattle.lit_index.proofs.Clashes.{never_equated}
use Rattle.lit_index.proofs.positions.apart.Goals as goal

pub returns-clause-refused : goal.returns-clause-refused
returns-clause-refused c = λ h. never_equated (terms_of c.args.a.now) (terms_of c.args.b.now) (c.some_clash.ensures.0 h)
