-- A spelling in the program as one in the text.
use Rattle.gs3_text.specs.declared.spelling.Spelling.{Spelling}
use Rattle.gs3_text.specs.Reading as reading

abbrev pub view : Spelling → reading.Spelling
view s = (s.quoted, s.text.now)
