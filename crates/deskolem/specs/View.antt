-- The names that the program's names stand for.
use Rattle.std.specs.Prelude.{List, map}
use Rattle.free_terms.specs.Free as free
use Rattle.free_terms.specs.View.{name_of}
use Rattle.free_terms.specs.declared.term.Name.{Name}

abbrev pub names_of : List Name → List free.Name
names_of xs = map name_of xs
