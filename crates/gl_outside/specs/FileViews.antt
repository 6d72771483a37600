-- a file of the program without where it lies in memory
use Rattle.std.specs.Prelude.{string_bytes}
use Rattle.gl_outside.specs.Files.{NamedBytes}
use Rattle.gl_outside.specs.declared.files.File.{File}

abbrev pub named_bytes : File → NamedBytes
named_bytes file = (string_bytes file.name, file.bytes.items)
