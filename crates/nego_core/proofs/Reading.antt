use Rattle.std.proofs.Common.{◌≡◌, ◌∙◌, ℕ, zero, suc, ◌<◌, true, false, inl, inr, Option, Some, None, List, [], ◌∷◌, length, slice_get, sym, ap, refl, subst, arith}
use Rattle.std.proofs.lemmas.Option.{slice_get_within}
use Rattle.nego_laws.specs.Tree.{Tree}
use Rattle.nego_node.specs.Machine.{half, part_of, asked_in}
use Rattle.nego_node.specs.NodeValue.{NodeValue}
use Rattle.nego_node.specs.Board.{BoardNode, node_named, first_task, asked_at, said_by, said_at}
use Rattle.nego_node.specs.declared.tasks.Side.{Side}
use Rattle.nego_node.proofs.Sides.{none-some, same-some}
use Rattle.nego_node.proofs.BoardLookups.{lookup}
use Rattle.nego_node.proofs.Boards.{asked-part, asked-root}
use Rattle.nego_core.specs.Bare.{bare_node, bare}
use Rattle.nego_core.specs.Links.{place_of, LinkFits}
use Rattle.nego_core.specs.Plays.{Plays}
use Rattle.nego_core.specs.declared.links.Link.{Link}
use Rattle.nego_core.proofs.Places.{get-within}
use Rattle.nego_core.proofs.Playing.{named-at}

module _ {S O : Type 0} where
  pub bare-get : (nodes : List (NodeValue S O)) (i : ℕ) (v : NodeValue S O) → slice_get nodes i ≡ Some v → slice_get (bare nodes) i ≡ Some (bare_node v)
  bare-get [] i v e = absurd (none-some refl e)
  bare-get (x ∷ nodes) zero v e = ap (λ (y : NodeValue S O). Some (bare_node y)) (same-some refl e)
  bare-get (x ∷ nodes) (suc i) v e = bare-get nodes i v e

  pub get-bare : (nodes : List (NodeValue S O)) (i : ℕ) (n : BoardNode O) → slice_get (bare nodes) i ≡ Some n → (v : NodeValue S O) × (slice_get nodes i ≡ Some v) × (bare_node v ≡ n)
  get-bare [] i n e = absurd (none-some refl e)
  get-bare (x ∷ nodes) zero n e = (x, refl, same-some refl e)
  get-bare (x ∷ nodes) (suc i) n e = get-bare nodes i n e

  pub bare-length : (nodes : List (NodeValue S O)) → length (bare nodes) ≡ length nodes
  bare-length [] = refl
  bare-length (x ∷ nodes) = ap suc (bare-length nodes)

module _ {S O : Type 0} (tree : O → Tree O) (t : Tree O) (around : S → Tree O) (round : ℕ) (nodes : List (NodeValue S O)) (links : List Link) (plays : Plays tree t around round nodes links) where
  pub link-within : (at : ℕ) → at < length nodes → at < length links
  link-within at l = let e : length links ≡ length nodes = plays.play.linked.as_many ∙ bare-length nodes in omega arith

  node-within : (i : ℕ) (m : BoardNode O) → slice_get (bare nodes) i ≡ Some m → i < length nodes
  node-within i m e =
      let l : i < length (bare nodes) = slice_get_within (bare nodes) i m e in
      let q : length (bare nodes) ≡ length nodes = bare-length nodes in
      omega arith

  at-place : (at : ℕ) → at < length nodes → (v : NodeValue S O) × (slice_get nodes at ≡ Some v)
  at-place at l = get-within nodes at l

  fits-at : (at : ℕ) (link : Link) (n : BoardNode O) → slice_get links at ≡ Some link → slice_get (bare nodes) at ≡ Some n → LinkFits (bare nodes) at link n
  fits-at at link n on is = plays.play.linked.fit at link n on is

  -- the parent of a node other than the root
  parent-at : (at : ℕ) (link : Link) (n : BoardNode O) → (at ≡ 0 → ⊥) → slice_get links at ≡ Some link → slice_get (bare nodes) at ≡ Some n → (m : BoardNode O) × (slice_get (bare nodes) link.parent ≡ Some m) × (part_of m.state.name link.side ≡ n.state.name)
  parent-at at link n ne on is = elim (fits-at at link n on is).up [ inl root ↦ absurd (ne root) | inr w ↦ w ]

  pub parent-within : (at : ℕ) (link : Link) → (at ≡ 0 → ⊥) → slice_get links at ≡ Some link → at < length nodes → link.parent < length nodes
  parent-within at link ne on l =
      let v = at-place at l in
      let w = parent-at at link (bare_node v.0) ne on (bare-get nodes at v.0 v.1) in
      node-within link.parent w.0 w.1

  pub asked-first : (at : ℕ) (n : BoardNode O) → at ≡ 0 → slice_get (bare nodes) at ≡ Some n → asked_at t round (bare nodes) n.state.name ≡ Some (first_task t round)
  asked-first at n root is =
      let w = plays.play.starts in
      let one : w.0 ≡ n = same-some w.1 (ap (λ (i : ℕ). slice_get (bare nodes) i) (sym root) ∙ is) in
      asked-root t round (bare nodes) n.state.name (ap (λ (x : BoardNode O). x.state.name) (sym one) ∙ w.2)

  named : (i : ℕ) (n : BoardNode O) → slice_get (bare nodes) i ≡ Some n → node_named (bare nodes) n.state.name ≡ Some n
  named i n is = named-at (bare nodes) i n plays.play.board.distinct is

  pub asked-other : (at : ℕ) (link : Link) (v : NodeValue S O) (n : BoardNode O) → (at ≡ 0 → ⊥) → slice_get links at ≡ Some link → slice_get nodes link.parent ≡ Some v → slice_get (bare nodes) at ≡ Some n → asked_at t round (bare nodes) n.state.name ≡ asked_in (half v.state link.side).slot
  asked-other at link v n ne on up is =
      let w = parent-at at link n ne on is in
      let m : BoardNode O = bare_node v in
      let found : slice_get (bare nodes) link.parent ≡ Some m = bare-get nodes link.parent v up in
      let name : part_of m.state.name link.side ≡ n.state.name = ap (λ (x : BoardNode O). part_of x.state.name link.side) (same-some found w.1) ∙ w.2 in
      let there : node_named (bare nodes) m.state.name ≡ Some m = named link.parent m found in
      ap (λ (b : ℕ). asked_at t round (bare nodes) b) (sym name)
      ∙ asked-part t round (bare nodes) m.state.name link.side m (plays.play.board.nodes m.state.name m there).positive there

  -- the part of a node
  pub part-within : (at : ℕ) (link : Link) (p : ℕ × ℕ) (side : Side) → slice_get links at ≡ Some link → link.parts ≡ Some p → at < length nodes → place_of p side < length nodes
  part-within at link p side on parts l =
      let v = at-place at l in
      let w = (fits-at at link (bare_node v.0) on (bare-get nodes at v.0 v.1)).down p parts side in
      node-within (place_of p side) w.0 w.1

  pub said-part : (at : ℕ) (link : Link) (p : ℕ × ℕ) (side : Side) (v : NodeValue S O) (n : BoardNode O) → slice_get links at ≡ Some link → link.parts ≡ Some p → slice_get nodes (place_of p side) ≡ Some v → slice_get (bare nodes) at ≡ Some n → said_at (bare nodes) (part_of n.state.name side) ≡ v.state.answer
  said-part at link p side v n on parts down is =
      let w = (fits-at at link n on is).down p parts side in
      let m : BoardNode O = bare_node v in
      let found : slice_get (bare nodes) (place_of p side) ≡ Some m = bare-get nodes (place_of p side) v down in
      let name : m.state.name ≡ part_of n.state.name side = ap (λ (x : BoardNode O). x.state.name) (same-some found w.1) ∙ w.2 in
      ap (λ (b : ℕ). said_at (bare nodes) b) (sym name) ∙ ap (λ (o : Option (BoardNode O)). said_by o) (named (place_of p side) m found)

  pub said-none : (at : ℕ) (link : Link) (side : Side) (n : BoardNode O) → slice_get links at ≡ Some link → link.parts ≡ None → slice_get (bare nodes) at ≡ Some n → said_at (bare nodes) (part_of n.state.name side) ≡ None
  said-none at link side n on none is =
      let unsplit : n.state.has_split ≡ false = (fits-at at link n on is).unsplit none in
      let there : node_named (bare nodes) n.state.name ≡ Some n = named at n is in
      elim (lookup (bare nodes) (part_of n.state.name side)) [
        | inl absent ↦ ap (λ (o : Option (BoardNode O)). said_by o) absent
        | inr w ↦
            let up = plays.play.board.parents n.state.name side w.0 (plays.play.board.nodes n.state.name n there).positive w.1 in
            let has : n.state.has_split ≡ true = subst (λ (x : BoardNode O). x.state.has_split ≡ true) (same-some up.1 there) up.2 in
            absurd (let k : false ≡ true = sym unsplit ∙ has in cc)
      ]
