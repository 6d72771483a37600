use Rattle.std.proofs.Common.{refl}
use Rattle.deskolem.proofs.Spanned.{all_spans}
use Rattle.deskolem.proofs.lengths.lengths_of.Goals as goal

pub returns : goal.returns
returns c = record {
  symbols = c.in_ok-symbol_lengths.ensures;
  skolems = all_spans c.args.names.now c.in_ok-skolem_lengths.field-0 c.in_ok-skolem_lengths.ensures;
  other = refl;
}
