use Rattle.std.proofs.Common.{◌≡◌, length, arith, refl, ◌∙◌, sym}
use Rattle.std.proofs.lemmas.Bool.{false≢true}
use Rattle.tab_tree.specs.Segments.{items}
use Rattle.tab_tree.specs.SiteValue.{segment_of}
use Rattle.open_walk.proofs.Found.{found_at, none_further, none_found}
use Rattle.open_walk.proofs.unifiable.has_unifiable.Goals as goal

pub returns-then-branch : goal.returns-then-branch
returns-then-branch c =
    (λ t. found_at (segment_of c.args.site.now) c.loop-item.item (c.in_ok-is_unifiable.ensures.0 c.if-branch.true), λ u. refl)

pub loop-item-preserved : goal.loop-item-preserved
loop-item-preserved c =
    none_further (segment_of c.args.site.now) c.loop-item.item c.loop-item.invariant
    (λ u. false≢true (sym c.if-branch.false ∙ c.in_ok-is_unifiable.ensures.1 u))

pub returns : goal.returns
returns c =
    let all : c.loop-item.item ≡ length (items (segment_of c.args.site.now)) = omega (arith, c.loop-item-test.false) in
    (λ t. absurd (false≢true t), λ u. absurd (none_found (segment_of c.args.site.now) c.loop-item.item all c.loop-item.invariant u))
