use Rattle.std.proofs.Common.{◌≡◌, map, drop}
use Rattle.gl_outside.specs.Files.{bytes_of}
use Rattle.gl_outside.specs.FileViews.{named_bytes}
use Rattle.gl_outside.proofs.files.Files.find.Given as goal

abbrev pub invariant-loop-file : goal.invariant-loop-file
invariant-loop-file l =
    bytes_of (map named_bytes (drop l.file-index l.file-items)) l.name ≡ bytes_of (map named_bytes l.file-items) l.name
