use Rattle.std.proofs.Common.{◌≡◌, ◌≢◌, ◌∙◌, ℕ, ◌+◌, ◌*◌, ◌/◌, ◌≤◌, Bool, true, false, Option, Some, nat_eq, List, [], ◌∷◌, ◌++◌, IsPermutation, sym, ap, refl, subst, if◌then◌else◌, arith, append-nil}
use Rattle.std.proofs.lemmas.Bool.{eqb-true, eq-eqb}
use Rattle.std.proofs.lemmas.List.Sorted.{IsPermutation-refl}
use Rattle.nego_laws.specs.Tree.{Tree, left_of, right_of}
use Rattle.nego_node.specs.Machine.{Slot, half, part_of}
use Rattle.nego_node.specs.Lawful.{Lawful}
use Rattle.nego_node.specs.Moves.{IsOf}
use Rattle.nego_node.specs.declared.tasks.Side.{Side}
use Rattle.nego_node.specs.declared.tasks.Side.TheVariants.{Left, Right}
use Rattle.nego_node.specs.declared.events.Event.{Event}
use Rattle.nego_node.specs.declared.events.Event.TheVariants as event
use Rattle.nego_node.specs.declared.moves.Move.{Move}
use Rattle.nego_node.specs.declared.moves.Move.TheVariants.{Split}
use Rattle.nego_node.specs.declared.acts.Act.{Act}
use Rattle.nego_node.specs.declared.acts.Act.TheVariants.{Receive, Post, Make}
use Rattle.nego_node.specs.Board.{BoardNode, node_named, with_event, opens, asked_at, said_by, Comes, IsOfAct, parent_of, side_within}
use Rattle.nego_plain.specs.Width.{Sites, leaf, fork}
use Rattle.nego_plain.specs.PlainOrder.{WaitsFor, IsPlainPick}
use Rattle.nego_plain.specs.PlainOrder as order
use Rattle.nego_plain.specs.Family.{Family, alone, with_parts, top, with_top, Steps, moves, splits, takes_left, takes_right, posts_left, posts_right, below_left, below_right}
use Rattle.nego_plain.specs.Fits.{IsFamily}
use Rattle.nego_plain.specs.BoardOf.{nodes_of, count}
use Rattle.nego_plain.proofs.OwnEvents.{own-received, own-posted, own-split}
use Rattle.nego_plain.proofs.Boards.{Has, has-top, has-left, has-right, first, later, step_all, top-changes, left-changes, right-changes, count-cons, count-append}

-- the names of parts
parent-left : (b : ℕ) → parent_of (left_of b) ≡ b
parent-left b = omega arith

parent-right : (b : ℕ) → parent_of (right_of b) ≡ b
parent-right b = omega arith

side-left : (b : ℕ) → side_within (left_of b) ≡ Left
side-left b = ap (λ (x : Bool). if x then Left else Right) (eq-eqb (2 * (2 * b / 2)) (2 * b) (omega arith))

side-right : (b : ℕ) → side_within (right_of b) ≡ Right
side-right b = ap (λ (x : Bool). if x then Left else Right) (odd (nat_eq (2 * ((2 * b + 1) / 2)) (2 * b + 1)) refl)
  where
    odd : (x : Bool) → nat_eq (2 * ((2 * b + 1) / 2)) (2 * b + 1) ≡ x → nat_eq (2 * ((2 * b + 1) / 2)) (2 * b + 1) ≡ false
    odd true e = absurd (let f : 2 * ((2 * b + 1) / 2) ≡ 2 * b + 1 = eqb-true (2 * ((2 * b + 1) / 2)) (2 * b + 1) e in omega (arith, f))
    odd false e = e

not-root : (b : ℕ) → 2 ≤ b → nat_eq b 1 ≡ false
not-root b h = go (nat_eq b 1) refl
  where
    go : (x : Bool) → nat_eq b 1 ≡ x → nat_eq b 1 ≡ false
    go true e = absurd (let f : b ≡ 1 = eqb-true b 1 e in omega (arith, f, h))
    go false e = e

module _ {O : Type 0} where
  own-opens : (round b : ℕ) (step : Move) (e : Event O) → IsOf step e → step ≢ Split → opens round b e ≡ []
  own-opens round b step (event.Received z) is differs = refl
  own-opens round b step (event.Tried item x) is differs = refl
  own-opens round b step event.Split is differs = absurd (differs (own-split O step is))
  own-opens round b step (event.Asked side z) is differs = refl
  own-opens round b step (event.Posted side a) is differs = refl
  own-opens round b step (event.Adopted side g x) is differs = refl
  own-opens round b step (event.Agreed side g x) is differs = refl
  own-opens round b step (event.Forbidden side g x) is differs = refl
  own-opens round b step (event.Refused side g) is differs = refl
  own-opens round b step event.Exhausted is differs = refl

  own-comes : (t : Tree O) (round : ℕ) (ns : List (BoardNode O)) (b : ℕ) (step : Move) (e : Event O) → IsOf step e → Comes t round ns b e
  own-comes t round ns b step (event.Received z) is = absurd (own-received step z is)
  own-comes t round ns b step (event.Tried item x) is = tt
  own-comes t round ns b step event.Split is = tt
  own-comes t round ns b step (event.Asked side z) is = tt
  own-comes t round ns b step (event.Posted side a) is = absurd (own-posted step side a is)
  own-comes t round ns b step (event.Adopted side g x) is = tt
  own-comes t round ns b step (event.Agreed side g x) is = tt
  own-comes t round ns b step (event.Forbidden side g x) is = tt
  own-comes t round ns b step (event.Refused side g) is = tt
  own-comes t round ns b step event.Exhausted is = tt

  -- what a part is asked is in its parent's slot
  asks-part : (t : Tree O) (round : ℕ) (ns : List (BoardNode O)) (n : BoardNode O) (side : Side) (k : Slot O) (b : ℕ) → 1 ≤ n.state.name → node_named ns n.state.name ≡ Some n → (half n.state side).slot ≡ Some k → b ≡ part_of n.state.name side → asked_at t round ns b ≡ Some k.task
  asks-part t round ns n Left k b low at slot is =
      let up : parent_of b ≡ n.state.name = ap parent_of is ∙ parent-left n.state.name in
      let way : side_within b ≡ Left = ap side_within is ∙ side-left n.state.name in
      rw (not-root b (omega (arith, is, low)), way, up, at, slot) refl
  asks-part t round ns n Right k b low at slot is =
      let up : parent_of b ≡ n.state.name = ap parent_of is ∙ parent-right n.state.name in
      let way : side_within b ≡ Right = ap side_within is ∙ side-right n.state.name in
      rw (not-root b (omega (arith, is, low)), way, up, at, slot) refl

-- one event of a family, on its board: where it happens, the pick that is found from the top, and what becomes of the nodes
pub record Picks {O : Type 0} (tree : O → Tree O) (t : Tree O) (round : ℕ) (ns : List (BoardNode O)) (f : Family O) (e : Event O) (f' : Family O) : Type 0 where
  pub node : BoardNode O
  pub has : Has node (nodes_of f)
  pub act : Act
  pub pick : IsPlainPick t ns (top f).state.name node.state.name act
  pub of_act : IsOfAct act e
  pub comes : Comes t round ns node.state.name e
  pub lawful : Lawful tree t node.state e
  pub becomes : ((c : ℕ) → count c (nodes_of f) ≤ 1) → IsPermutation (step_all t e node (nodes_of f) ++ opens round node.state.name e) (nodes_of f')

module _ {O : Type 0} (tree : O → Tree O) (t : Tree O) (round : ℕ) (ns : List (BoardNode O)) where
  named : (b : ℕ) (sh : Sites) (f : Family O) → IsFamily tree t round b sh f → (top f).state.name ≡ b
  named b (leaf own) (alone n) fam = fam.named
  named b (leaf own) (with_parts n l r) fam = absurd fam
  named b (fork own x y) (alone n) fam = fam.0.named
  named b (fork own x y) (with_parts n l r) fam = fam.0.named

  abbrev Finds : Family O → Type 0
  Finds f = (n : BoardNode O) → Has n (nodes_of f) → node_named ns n.state.name ≡ Some n

  -- the counts of the parts are no greater
  left-once : (n : BoardNode O) (l r : Family O) → ((c : ℕ) → count c (nodes_of (with_parts n l r)) ≤ 1) → (c : ℕ) → count c (nodes_of l) ≤ 1
  left-once n l r once c = omega (arith, once c, count-cons c n (nodes_of l ++ nodes_of r), count-append c (nodes_of l) (nodes_of r))

  right-once : (n : BoardNode O) (l r : Family O) → ((c : ℕ) → count c (nodes_of (with_parts n l r)) ≤ 1) → (c : ℕ) → count c (nodes_of r) ≤ 1
  right-once n l r once c = omega (arith, once c, count-cons c n (nodes_of l ++ nodes_of r), count-append c (nodes_of l) (nodes_of r))

  no-more : (e : Event O) (n : BoardNode O) (xs ys zs : List (BoardNode O)) → zs ≡ [] → xs ≡ ys → IsPermutation (xs ++ zs) ys
  no-more e n xs ys zs none same = subst (λ (z : List (BoardNode O)). IsPermutation z ys) (sym (ap (λ (w : List (BoardNode O)). xs ++ w) none ∙ (append-nil xs ∙ same))) (IsPermutation-refl ys)

  pub picks : (b : ℕ) (sh : Sites) {f f' : Family O} {e : Event O} → 1 ≤ b → IsFamily tree t round b sh f → Finds f → Steps tree t round f e f' → Picks tree t round ns f e f'
  picks b sh low fam finds (moves f step e holds next not_wait not_split is lawful) =
      let n : BoardNode O = top f in
      record {
        node = n;
        has = has-top f;
        act = Make step;
        pick = order.moves n step (finds _ (has-top f)) holds next not_wait;
        of_act = is;
        comes = own-comes t round ns n.state.name step e is;
        lawful = lawful;
        becomes = λ once. no-more e n _ _ _ (own-opens round n.state.name step e is not_split) (top-changes t e f (once n.state.name));
      }
  picks b sh low fam finds (splits n holds next may) =
      record {
        node = n;
        has = first n [];
        act = Make Split;
        pick = order.moves n Split (finds _ (first n [])) holds next (λ e. cc);
        of_act = refl;
        comes = tt;
        lawful = may;
        becomes = λ once.
            subst (λ (z : List (BoardNode O)). IsPermutation (z ++ opens round n.state.name event.Split) (with_event t event.Split n ∷ opens round n.state.name event.Split)) (sym (top-changes t event.Split (alone n) (once n.state.name)))
            (IsPermutation-refl _);
      }
  picks b (leaf own) low fam finds (takes_left n l r k waits differs may) = absurd fam
  picks b (fork own x y) low fam finds (takes_left n l r k waits differs may) =
      let e : Event O = event.Received k.task in
      let m : BoardNode O = top l in
      let at_l : m.state.name ≡ part_of n.state.name Left = named (left_of b) x l fam.2 ∙ ap left_of (sym fam.0.named) in
      let mine : node_named ns n.state.name ≡ Some n = finds _ (first n (nodes_of l ++ nodes_of r)) in
      let has_m : Has m (nodes_of (with_parts n l r)) = later m n (nodes_of l ++ nodes_of r) (has-left (nodes_of r) (has-top l)) in
      let its : node_named ns m.state.name ≡ Some m = finds m has_m in
      record {
        node = m;
        has = has_m;
        act = Receive;
        pick = subst (λ (c : ℕ). IsPlainPick t ns n.state.name c Receive) (sym at_l) (order.asks n m Left k mine waits (subst (λ (c : ℕ). node_named ns c ≡ Some m) at_l its) differs);
        of_act = (k.task, refl);
        comes = asks-part t round ns n Left k m.state.name (subst (λ (c : ℕ). 1 ≤ c) (sym fam.0.named) low) mine waits.slot at_l;
        lawful = may;
        becomes = λ once.
            left-changes t e n (nodes_of l) (nodes_of (with_top l (with_event t e m))) (nodes_of r) [] m (has-top l) (once m.state.name)
            (no-more e m _ _ [] refl (top-changes t e l (left-once n l r once m.state.name)));
      }
  picks b (leaf own) low fam finds (takes_right n l r k waits differs may) = absurd fam
  picks b (fork own x y) low fam finds (takes_right n l r k waits differs may) =
      let e : Event O = event.Received k.task in
      let m : BoardNode O = top r in
      let at_r : m.state.name ≡ part_of n.state.name Right = named (right_of b) y r fam.3 ∙ ap right_of (sym fam.0.named) in
      let mine : node_named ns n.state.name ≡ Some n = finds _ (first n (nodes_of l ++ nodes_of r)) in
      let has_m : Has m (nodes_of (with_parts n l r)) = later m n (nodes_of l ++ nodes_of r) (has-right (nodes_of l) (has-top r)) in
      let its : node_named ns m.state.name ≡ Some m = finds m has_m in
      record {
        node = m;
        has = has_m;
        act = Receive;
        pick = subst (λ (c : ℕ). IsPlainPick t ns n.state.name c Receive) (sym at_r) (order.asks n m Right k mine waits (subst (λ (c : ℕ). node_named ns c ≡ Some m) at_r its) differs);
        of_act = (k.task, refl);
        comes = asks-part t round ns n Right k m.state.name (subst (λ (c : ℕ). 1 ≤ c) (sym fam.0.named) low) mine waits.slot at_r;
        lawful = may;
        becomes = λ once.
            right-changes t e n (nodes_of l) (nodes_of r) (nodes_of (with_top r (with_event t e m))) [] m (has-top r) (once m.state.name)
            (no-more e m _ _ [] refl (top-changes t e r (right-once n l r once m.state.name)));
      }
  picks b (leaf own) low fam finds (posts_left n l r k a waits held said may) = absurd fam
  picks b (fork own x y) low fam finds (posts_left n l r k a waits held said may) =
      let e : Event O = event.Posted Left a in
      let m : BoardNode O = top l in
      let at_l : m.state.name ≡ part_of n.state.name Left = named (left_of b) x l fam.2 ∙ ap left_of (sym fam.0.named) in
      let its : node_named ns (part_of n.state.name Left) ≡ Some m = subst (λ (c : ℕ). node_named ns c ≡ Some m) at_l (finds _ (later m n (nodes_of l ++ nodes_of r) (has-left (nodes_of r) (has-top l)))) in
      record {
        node = n;
        has = first n (nodes_of l ++ nodes_of r);
        act = Post Left;
        pick = order.posts n m Left k a (finds _ (first n (nodes_of l ++ nodes_of r))) waits its held said;
        of_act = (a, refl);
        comes = ap (λ (o : Option (BoardNode O)). said_by o) its ∙ said;
        lawful = may;
        becomes = λ once. no-more e n _ _ [] refl (top-changes t e (with_parts n l r) (once n.state.name));
      }
  picks b (leaf own) low fam finds (posts_right n l r k a waits held said may) = absurd fam
  picks b (fork own x y) low fam finds (posts_right n l r k a waits held said may) =
      let e : Event O = event.Posted Right a in
      let m : BoardNode O = top r in
      let at_r : m.state.name ≡ part_of n.state.name Right = named (right_of b) y r fam.3 ∙ ap right_of (sym fam.0.named) in
      let its : node_named ns (part_of n.state.name Right) ≡ Some m = subst (λ (c : ℕ). node_named ns c ≡ Some m) at_r (finds _ (later m n (nodes_of l ++ nodes_of r) (has-right (nodes_of l) (has-top r)))) in
      record {
        node = n;
        has = first n (nodes_of l ++ nodes_of r);
        act = Post Right;
        pick = order.posts n m Right k a (finds _ (first n (nodes_of l ++ nodes_of r))) waits its held said;
        of_act = (a, refl);
        comes = ap (λ (o : Option (BoardNode O)). said_by o) its ∙ said;
        lawful = may;
        becomes = λ once. no-more e n _ _ [] refl (top-changes t e (with_parts n l r) (once n.state.name));
      }
  picks b (leaf own) low fam finds (below_left n l r l' k e waits held quiet step) = absurd fam
  picks b (fork own x y) low fam finds (below_left n l r l' k e waits held quiet step) =
      let m : BoardNode O = top l in
      let at_l : m.state.name ≡ part_of n.state.name Left = named (left_of b) x l fam.2 ∙ ap left_of (sym fam.0.named) in
      let its : node_named ns (part_of n.state.name Left) ≡ Some m = subst (λ (c : ℕ). node_named ns c ≡ Some m) at_l (finds _ (later m n (nodes_of l ++ nodes_of r) (has-left (nodes_of r) (has-top l)))) in
      let sub : Picks tree t round ns l e l' = picks (left_of b) x (omega (arith, low)) fam.2 (λ i h. finds i (later i n (nodes_of l ++ nodes_of r) (has-left (nodes_of r) h))) step in
      record {
        node = sub.node;
        has = later sub.node n (nodes_of l ++ nodes_of r) (has-left (nodes_of r) sub.has);
        act = sub.act;
        pick = order.below n m Left k (finds _ (first n (nodes_of l ++ nodes_of r))) waits its held quiet (subst (λ (c : ℕ). IsPlainPick t ns c sub.node.state.name sub.act) at_l sub.pick);
        of_act = sub.of_act;
        comes = sub.comes;
        lawful = sub.lawful;
        becomes = λ once. left-changes t e n (nodes_of l) (nodes_of l') (nodes_of r) (opens round sub.node.state.name e) sub.node sub.has (once sub.node.state.name) (sub.becomes (left-once n l r once));
      }
  picks b (leaf own) low fam finds (below_right n l r r' k e waits held quiet step) = absurd fam
  picks b (fork own x y) low fam finds (below_right n l r r' k e waits held quiet step) =
      let m : BoardNode O = top r in
      let at_r : m.state.name ≡ part_of n.state.name Right = named (right_of b) y r fam.3 ∙ ap right_of (sym fam.0.named) in
      let its : node_named ns (part_of n.state.name Right) ≡ Some m = subst (λ (c : ℕ). node_named ns c ≡ Some m) at_r (finds _ (later m n (nodes_of l ++ nodes_of r) (has-right (nodes_of l) (has-top r)))) in
      let sub : Picks tree t round ns r e r' = picks (right_of b) y (omega (arith, low)) fam.3 (λ i h. finds i (later i n (nodes_of l ++ nodes_of r) (has-right (nodes_of l) h))) step in
      record {
        node = sub.node;
        has = later sub.node n (nodes_of l ++ nodes_of r) (has-right (nodes_of l) sub.has);
        act = sub.act;
        pick = order.below n m Right k (finds _ (first n (nodes_of l ++ nodes_of r))) waits its held quiet (subst (λ (c : ℕ). IsPlainPick t ns c sub.node.state.name sub.act) at_r sub.pick);
        of_act = sub.of_act;
        comes = sub.comes;
        lawful = sub.lawful;
        becomes = λ once. right-changes t e n (nodes_of l) (nodes_of r) (nodes_of r') (opens round sub.node.state.name e) sub.node sub.has (once sub.node.state.name) (sub.becomes (right-once n l r once));
      }
