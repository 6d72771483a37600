use Rattle.std.proofs.Common.{◌≡◌, ◌++◌, drop}
use Rattle.fol_core.specs.Spelling.{IsGrown}
use Rattle.gs3_text.specs.ProofText.{text_of}
use Rattle.history_text.specs.Lines.{history_lines, history_of}
use Rattle.history_text.proofs.history.append_history.Given as goal

abbrev pub invariant-loop-node : goal.invariant-loop-node
invariant-loop-node g l = record {
  value : l.out.items ++ text_of (history_lines (g.S.OfferSpelling.text l.spelling) (history_of (drop l.node-index l.nodes)))
      ≡ l.fn.out.items ++ text_of (history_lines (g.S.OfferSpelling.text l.spelling) (history_of l.nodes));
  grows : IsGrown l.fn.out.items l.out.items;
}
