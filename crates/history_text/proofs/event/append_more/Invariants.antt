use Rattle.std.proofs.Common.{◌≡◌, ◌++◌, drop}
use Rattle.std.specs.Prelude.{codes}
use Rattle.std.specs.List.{flat_map}
use Rattle.fol_core.specs.Spelling.{IsGrown}
use Rattle.history_text.proofs.event.append_more.Given as goal

abbrev pub invariant-loop-offer : goal.invariant-loop-offer
invariant-loop-offer g l =
    let all = flat_map (λ s. codes "," ++ g.S.OfferSpelling.text l.spelling s) in record {
      value : l.out.items ++ all (drop l.offer-index l.offers) ≡ l.fn.out.items ++ all l.offers;
      grows : IsGrown l.fn.out.items l.out.items;
    }
