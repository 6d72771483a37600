use Rattle.fof_parse.specs.Reader.Building.{state_of}
use Rattle.fof_parse.proofs.Means.{equality_built}
use Rattle.fof_parse.proofs.atom.equation.Goals as goal

pub returns : goal.returns
returns c = λ e. equality_built _ _ (state_of c.term.new.draft) (state_of c.note.new.self) _ e _ _ _ _ _ c.in_ok-term.ensures c.note.ensures.fault c.note.ensures.symbols c.note.ensures.closed c.in_ok-term-2.ensures
