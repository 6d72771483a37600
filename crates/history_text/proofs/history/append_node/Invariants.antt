use Rattle.std.proofs.Common.{◌≡◌, ◌++◌, drop}
use Rattle.fol_core.specs.Spelling.{IsGrown}
use Rattle.gs3_text.specs.ProofText.{text_of}
use Rattle.history_text.specs.Lines.{node_lines}
use Rattle.history_text.proofs.history.append_node.Given as goal

abbrev pub invariant-loop-event : goal.invariant-loop-event
invariant-loop-event g l = record {
  value : l.out.items ++ text_of (node_lines (g.S.OfferSpelling.text l.spelling) l.name (drop l.event-index l.events))
      ≡ l.fn.out.items ++ text_of (node_lines (g.S.OfferSpelling.text l.spelling) l.name l.events);
  grows : IsGrown l.fn.out.items l.out.items;
}
