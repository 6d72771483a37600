-- The histories that are asked for.
use Rattle.std.specs.Prelude.{List, Option, option_map}
use Rattle.history_text.specs.Lines.{NodeHistory, history_of}
use Rattle.history_text.specs.declared.node_line.NodeLine.{NodeLine}

abbrev pub asked_of : {O : Type 0} → Option (List (NodeLine O)) → Option (List (NodeHistory O))
asked_of history = option_map history_of history
