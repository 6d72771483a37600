-- What solves a site solves its segments, and the other way round.
use Rattle.std.proofs.Common.{◌≡◌, ℕ, true, false, ◌↔◌, ◌*◌, ◌+◌, ◌<◌, Some, ap, sym, ◌∙◌, subst, arith, inl, inr}
use Rattle.std.proofs.lemmas.Bool.{false≢true}
use Rattle.unify.specs.Offers.{Offer}
use Rattle.nego_laws.specs.Tree.{Tree, by_item, by_parts}
use Rattle.nego_laws.specs.Tree as field
use Rattle.branch_rules.specs.Branch.{entries}
use Rattle.tab_tree.specs.Items.{ClosesSome}
use Rattle.tab_tree.specs.Segments.{Segments, tip, node, top, items, Solves}
use Rattle.round_offers.specs.Places.{segments_at, part, has_parts}
use Rattle.round_offers.specs.ClosingTests.{count_at, closes_at}
use Rattle.round_offers.specs.OfferTree.{tree_of}
use Rattle.round_offers.proofs.Places.{at_left, at_right, at_first}
use Rattle.round_offers.proofs.ClosingTests.{closed_by_number, closed_of_number}

by_its_item : (s : Offer) (hs : Segments) → ClosesSome s (entries (top hs).branch) (items (top hs)) → Solves s hs
by_its_item s (tip g) c = c
by_its_item s (node g l r) c = inl c

module _ {O : Type 0} (offer : O → Offer) (free : O) (gs : Segments) (s : O) where
  abbrev tree : Tree O
  tree = tree_of offer free gs

  of_parts : (n : ℕ) (hs : Segments) → 0 < n → segments_at gs n ≡ Some hs → has_parts (segments_at gs n) ≡ true
      → ((ls : Segments) → segments_at gs (2 * n) ≡ Some ls → Solves (offer s) ls)
      → ((rs : Segments) → segments_at gs (2 * n + 1) ≡ Some rs → Solves (offer s) rs)
      → Solves (offer s) hs
  of_parts n (tip g) pos at p left right = absurd (false≢true (sym (ap has_parts at) ∙ p))
  of_parts n (node g l r) pos at p left right = inr (left l (at_left gs n pos ∙ ap (part false) at), right r (at_right gs n pos ∙ ap (part true) at))

  solved : (n : ℕ) (hs : Segments) → 0 < n → segments_at gs n ≡ Some hs → field.Solves tree s n → Solves (offer s) hs
  solved n hs pos at (by_item i within c) =
      by_its_item (offer s) hs (closed_of_number (offer s) (entries (top hs).branch) (items (top hs)) i (sym (ap (λ o. closes_at o i (offer s)) at) ∙ c))
  solved n hs pos at (by_parts p l r) =
      of_parts n hs pos at p (λ ls e. solved (2 * n) ls (omega (arith, pos)) e l) (λ rs e. solved (2 * n + 1) rs (omega (arith, pos)) e r)

  by_number : (n : ℕ) (hs : Segments) → segments_at gs n ≡ Some hs → ClosesSome (offer s) (entries (top hs).branch) (items (top hs)) → field.Solves tree s n
  by_number n hs at c =
      let found = closed_by_number (offer s) (entries (top hs).branch) (items (top hs)) c in
      by_item found.0 (subst (λ o. found.0 < count_at o) (sym at) found.1) (ap (λ o. closes_at o found.0 (offer s)) at ∙ found.2)

  solves : (n : ℕ) (hs : Segments) → 0 < n → segments_at gs n ≡ Some hs → Solves (offer s) hs → field.Solves tree s n
  solves n (tip g) pos at c = by_number n (tip g) at c
  solves n (node g l r) pos at (inl c) = by_number n (node g l r) at c
  solves n (node g l r) pos at (inr c) =
      by_parts (ap has_parts at)
      (solves (2 * n) l (omega (arith, pos)) (at_left gs n pos ∙ ap (part false) at) c.0)
      (solves (2 * n + 1) r (omega (arith, pos)) (at_right gs n pos ∙ ap (part true) at) c.1)

  -- the offer solves site 1 exactly where it solves the segments
  pub solves_root : field.Solves tree s 1 ↔ Solves (offer s) gs
  solves_root = (solved 1 gs (omega arith) (at_first gs), solves 1 gs (omega arith) (at_first gs))
