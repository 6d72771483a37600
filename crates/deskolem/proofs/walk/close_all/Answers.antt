use Rattle.std.proofs.Common.{◌++◌, ap, sym, subst, ◌∙◌}
use Rattle.std.specs.List.{AllByRecursion}
use Rattle.deskolem.specs.Lines.{HasRoom, rules_of_lines, symbols_of}
use Rattle.deskolem.specs.Walking.{closing_rules}
use Rattle.deskolem.specs.declared.line.Line.TheVariants.{Close}
use Rattle.deskolem.proofs.Walks.{closed_one, closed_symbols, rooms_of_last}
use Rattle.deskolem.proofs.walk.close_all.Goals as goal

pub loop-atom-preserved : goal.loop-atom-preserved
loop-atom-preserved c =
    let pushed = c.in_ok-push.ensures.ok in
    let closing = c.in-Some.field-0 in
    record {
      standing = record {
        fits = c.loop-atom.invariant.standing.fits;
        room = subst (AllByRecursion HasRoom) (sym pushed) (rooms_of_last c.loop-atom.walk.lines (Close closing.atom closing.negated) c.loop-atom.invariant.standing.room tt);
      };
      written = λ s ys.
          ap (λ l. rules_of_lines s ys l ++ closing_rules c.pop.new.self) pushed
          ∙ closed_one s ys c.loop-atom.walk.lines _ c.loop-atom.closings c.pop.new.self closing.atom closing.negated c.in-Some.ensures (c.loop-atom.invariant.written s ys);
      symbols = ap symbols_of pushed ∙ closed_symbols c.loop-atom.walk.lines closing.atom closing.negated ∙ c.loop-atom.invariant.symbols;
      places = c.loop-atom.invariant.places;
      left = c.loop-atom.invariant.left;
      len = c.loop-atom.invariant.len;
    }
