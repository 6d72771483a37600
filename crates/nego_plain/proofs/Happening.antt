use Rattle.std.proofs.Common.{◌≡◌, ◌≢◌, ◌∙◌, ℕ, ◌+◌, ◌≤◌, Bool, true, false, ◌⊎◌, inl, inr, Option, Some, None, nat_eq, List, [], ◌∷◌, ◌++◌, map, sum_by, IsPermutation, All, sym, ap, refl, subst, if◌then◌else◌, arith}
use Rattle.std.proofs.lemmas.Bool.{eqb-true, eq-eqb}
use Rattle.std.proofs.lemmas.List.Elements.{All-nil, All-cons, All-append}
use Rattle.std.proofs.lemmas.List.Sums.{sum_by-cons, sum_by-append}
use Rattle.std.proofs.lemmas.List.Sorted.{IsPermutation-map, IsPermutation-trans, IsPermutation-append_left, sum_by-IsPermutation}
use Rattle.nego_laws.specs.Tree.{Tree, left_of, right_of}
use Rattle.nego_node.specs.Machine.{State, after, proposing, giving_up, resumed, fresh, goes_on}
use Rattle.nego_node.specs.Lawful.{Lawful, MaySplit}
use Rattle.nego_node.specs.declared.tasks.Task.{Task}
use Rattle.nego_node.specs.declared.events.Outcome.TheVariants as outcome
use Rattle.nego_node.specs.declared.events.Event.{Event}
use Rattle.nego_node.specs.declared.events.Event.TheVariants as event
use Rattle.nego_node.specs.Board.{BoardNode, opened, with_event, opens, done, Happens, IsOfAct}
use Rattle.nego_node.specs.declared.acts.Act.{Act}
use Rattle.nego_node.proofs.Kept.{after-name}
use Rattle.nego_plain.specs.Width.{Sites, leaf, fork}
use Rattle.nego_plain.specs.PlainOrder.{IsPlainPick}
use Rattle.nego_plain.specs.Family.{Family, alone, with_parts, top, Steps}
use Rattle.nego_plain.specs.Fits.{IsFamily}
use Rattle.nego_plain.specs.BoardOf.{nodes_of, has_name, is_closed, count, count_closed, IsBoardOf}
use Rattle.nego_plain.proofs.Tests.{no-bool}
use Rattle.nego_plain.proofs.Boards.{Has, first, later, has-board, step_all, changing, changed-map, find, count-cons, count-append, has-all}
use Rattle.nego_plain.proofs.Picking.{Picks, picks}

-- one for the same number
abbrev pub one_when : Bool → ℕ
one_when b = if b then 1 else 0

abbrev pub same_one : ℕ → ℕ → ℕ
same_one a c = one_when (nat_eq a c)

pub same-is : (a c : ℕ) → ((same_one a c ≡ 1) × (a ≡ c)) ⊎ ((same_one a c ≡ 0) × (a ≢ c))
same-is a c = go (nat_eq a c) refl
  where
    go : (x : Bool) → nat_eq a c ≡ x → ((same_one a c ≡ 1) × (a ≡ c)) ⊎ ((same_one a c ≡ 0) × (a ≢ c))
    go true e = inl (ap (λ (y : Bool). one_when y) e, eqb-true a c e)
    go false e = inr (ap (λ (y : Bool). one_when y) e, λ f. no-bool (eq-eqb a c f) e)

opened-count : (Q : Type 0) (round a d c : ℕ) → count {O = Q} c (opened {O = Q} round a ∷ opened round d ∷ []) ≡ same_one a c + same_one d c
opened-count Q round a d c = omega (arith, count-cons c (opened {O = Q} round a) (opened round d ∷ []), count-cons c (opened {O = Q} round d) [])

opened-closed : (Q : Type 0) (round a d c : ℕ) → count_closed {O = Q} c (opened {O = Q} round a ∷ opened round d ∷ []) ≡ same_one a c + same_one d c
opened-closed Q round a d c = omega (arith, sum_by-cons (is_closed c) (opened {O = Q} round a) (opened round d ∷ []), sum_by-cons (is_closed c) (opened {O = Q} round d) [])

pub at-most : (a c : ℕ) → same_one a c ≤ 1
at-most a c = elim (same-is a c) [ inl x ↦ omega (arith, x.0) | inr x ↦ omega (arith, x.0) ]

module _ {O : Type 0} where
  -- no event but Split changes whether a node has split
  proposing-split : (s : State O) (h : Option (Task O)) (x : O) → (proposing s h x).has_split ≡ s.has_split
  proposing-split s None x = refl
  proposing-split s (Some task) x = refl

  giving_up-split : (s : State O) (h : Option (Task O)) → (giving_up s h).has_split ≡ s.has_split
  giving_up-split s None = refl
  giving_up-split s (Some task) = refl

  received-split : (s : State O) (task : Task O) (b : Bool) → (if b then resumed s task else fresh s task).has_split ≡ s.has_split
  received-split s task true = refl
  received-split s task false = refl

  pub data IsSplitOr (t : Tree O) (round : ℕ) : Event O → Type 0 where
    splits : {e : Event O} → e ≡ event.Split → IsSplitOr t round e
    keeps : {e : Event O} → ((s : State O) → (after t s e).has_split ≡ s.has_split) → ((b : ℕ) → opens round b e ≡ []) → IsSplitOr t round e

  pub split-or : (t : Tree O) (round : ℕ) (e : Event O) → IsSplitOr t round e
  split-or t round (event.Received z) = keeps (λ s. received-split s z (goes_on t s.held s.answer z)) (λ b. refl)
  split-or t round (event.Tried item outcome.None) = keeps (λ s. refl) (λ b. refl)
  split-or t round (event.Tried item (outcome.Banned x)) = keeps (λ s. refl) (λ b. refl)
  split-or t round (event.Tried item (outcome.Offer x)) = keeps (λ s. proposing-split (record s { next = s.next + 1 }) s.held x) (λ b. refl)
  split-or t round event.Split = splits refl
  split-or t round (event.Asked side z) = keeps (λ s. refl) (λ b. refl)
  split-or t round (event.Posted side a) = keeps (λ s. refl) (λ b. refl)
  split-or t round (event.Adopted side g x) = keeps (λ s. refl) (λ b. refl)
  split-or t round (event.Agreed side g x) = keeps (λ s. proposing-split s s.held x) (λ b. refl)
  split-or t round (event.Forbidden side g x) = keeps (λ s. refl) (λ b. refl)
  split-or t round (event.Refused side g) = keeps (λ s. refl) (λ b. refl)
  split-or t round event.Exhausted = keeps (λ s. giving_up-split s s.held) (λ b. refl)

  sum-less : (h : BoardNode O → ℕ) (g : BoardNode O → BoardNode O) (ns : List (BoardNode O)) → ((n : BoardNode O) → h (g n) ≤ h n) → sum_by h (map g ns) ≤ sum_by h ns
  sum-less h g [] f = omega arith
  sum-less h g (n ∷ ns) f = omega (arith, f n, sum-less h g ns f, sum_by-cons h n ns, sum_by-cons h (g n) (map g ns))

  sum-same : (h : BoardNode O → ℕ) (g : BoardNode O → BoardNode O) (ns : List (BoardNode O)) → ((n : BoardNode O) → h (g n) ≡ h n) → sum_by h (map g ns) ≡ sum_by h ns
  sum-same h g [] f = refl
  sum-same h g (n ∷ ns) f = omega (arith, f n, sum-same h g ns f, sum_by-cons h n ns, sum_by-cons h (g n) (map g ns))

  sum-none : (h : BoardNode O → ℕ) (g : BoardNode O → BoardNode O) (ns : List (BoardNode O)) → ((n : BoardNode O) → h (g n) ≡ 0) → sum_by h (map g ns) ≡ 0
  sum-none h g [] f = refl
  sum-none h g (n ∷ ns) f = omega (arith, f n, sum-none h g ns f, sum_by-cons h (g n) (map g ns))

  module _ (t : Tree O) (e : Event O) (b : ℕ) where
    kept-name : (n : BoardNode O) → (changing t b e n).state.name ≡ n.state.name
    kept-name n = go (nat_eq n.state.name b)
      where
        go : (x : Bool) → (if x then with_event t e n else n).state.name ≡ n.state.name
        go true = after-name t n.state e
        go false = refl

    pub count-changing : (c : ℕ) (ns : List (BoardNode O)) → count c (map (changing t b e) ns) ≡ count c ns
    count-changing c ns = sum-same (has_name c) (changing t b e) ns (λ n. ap (λ (i : ℕ). if nat_eq i c then 1 else 0) (kept-name n))

    kept-split : ((s : State O) → (after t s e).has_split ≡ s.has_split) → (n : BoardNode O) → (changing t b e n).state.has_split ≡ n.state.has_split
    kept-split same n = go (nat_eq n.state.name b)
      where
        go : (x : Bool) → (if x then with_event t e n else n).state.has_split ≡ n.state.has_split
        go true = same n.state
        go false = refl

    pub closed-changing : ((s : State O) → (after t s e).has_split ≡ s.has_split) → (c : ℕ) (ns : List (BoardNode O)) → count_closed c (map (changing t b e) ns) ≡ count_closed c ns
    closed-changing same c ns =
        sum-same (is_closed c) (changing t b e) ns
        (λ n. ap (λ (i : ℕ). if nat_eq i c then (if (changing t b e n).state.has_split then 0 else 1) else 0) (kept-name n) ∙ ap (λ (x : Bool). if nat_eq n.state.name c then (if x then 0 else 1) else 0) (kept-split same n))

  closed-after : (t : Tree O) (b c : ℕ) (ns : List (BoardNode O)) → count_closed c (map (changing t b event.Split) ns) ≤ count_closed c ns
  closed-after t b c ns = sum-less (is_closed c) (changing t b event.Split) ns (λ n. cases n (nat_eq n.state.name b) (nat_eq n.state.name c) refl)
    where
      cases : (n : BoardNode O) (x y : Bool) → nat_eq n.state.name c ≡ y → is_closed c (if x then with_event t event.Split n else n) ≤ is_closed c n
      cases n true true e = rw e (omega arith)
      cases n true false e = rw e (omega arith)
      cases n false y e = omega arith

  closed-there : (t : Tree O) (b : ℕ) (ns : List (BoardNode O)) → count_closed b (map (changing t b event.Split) ns) ≡ 0
  closed-there t b ns = sum-none (is_closed b) (changing t b event.Split) ns (λ n. cases n (nat_eq n.state.name b) refl)
    where
      cases : (n : BoardNode O) (x : Bool) → nat_eq n.state.name b ≡ x → is_closed b (if x then with_event t event.Split n else n) ≡ 0
      cases n true e = rw e refl
      cases n false e = rw e refl

  closed-count : {n : BoardNode O} {ns : List (BoardNode O)} → Has n ns → n.state.has_split ≡ false → 1 ≤ count_closed n.state.name ns
  closed-count (first n ns) open_yet =
      let one : is_closed n.state.name n ≡ 1 = rw (eq-eqb n.state.name n.state.name refl, open_yet) refl in
      omega (arith, sum_by-cons (is_closed n.state.name) n ns, one)
  closed-count (later n m ns h) open_yet = omega (arith, sum_by-cons (is_closed n.state.name) m ns, closed-count h open_yet)

  module _ (tree : O → Tree O) (t : Tree O) (round : ℕ) (ns : List (BoardNode O)) (f : Family O) (board : IsBoardOf ns f) (node : BoardNode O) (has : Has node (nodes_of f)) (e : Event O) (lawful : Lawful tree t node.state e) (low : 1 ≤ node.state.name) where
    abbrev b : ℕ
    b = node.state.name

    abbrev ms : List (BoardNode O)
    ms = map (changing t b e) ns

    abbrev new : List (BoardNode O)
    new = ms ++ opens round b e

    it-is : done t round ns b e ≡ new
    it-is = ap (λ (z : List (BoardNode O)). z ++ opens round b e) (changed-map t b e ns (board.once b))

    counts : (c : ℕ) → count c new ≡ count c ns + count c (opens round b e)
    counts c = count-append c ms (opens round b e) ∙ ap (λ (k : ℕ). k + count c (opens round b e)) (count-changing t e b c ns)

    closeds : (c : ℕ) → count_closed c new ≡ count_closed c ms + count_closed c (opens round b e)
    closeds c = sum_by-append (is_closed c) ms (opens round b e)

    -- what the board keeps
    record Keeps : Type 0 where
      once : (c : ℕ) → count c new ≤ 1
      left : (c : ℕ) → 1 ≤ c → count (left_of c) new + count_closed c new ≤ count c new
      right : (c : ℕ) → 1 ≤ c → count (right_of c) new + count_closed c new ≤ count c new

    by-kind : IsSplitOr t round e → Keeps
    by-kind (keeps same none) =
        let no : (c : ℕ) → count c (opens round b e) ≡ 0 = λ c. ap (λ (z : List (BoardNode O)). count c z) (none b) in
        let no' : (c : ℕ) → count_closed c (opens round b e) ≡ 0 = λ c. ap (λ (z : List (BoardNode O)). count_closed c z) (none b) in
        let closed : (c : ℕ) → count_closed c ms ≡ count_closed c ns = λ c. closed-changing t e b same c ns in
        record {
          once = λ c. omega (arith, counts c, no c, board.once c);
          left = λ c h. omega (arith, counts c, no c, counts (left_of c), no (left_of c), closeds c, no' c, closed c, board.left c h);
          right = λ c h. omega (arith, counts c, no c, counts (right_of c), no (right_of c), closeds c, no' c, closed c, board.right c h);
        }
    by-kind (splits same) =
        let may : MaySplit t node.state = subst (λ (z : Event O). Lawful tree t node.state z) same lawful in
        let two : opens round b e ≡ opened round (left_of b) ∷ opened round (right_of b) ∷ [] = ap (λ (z : Event O). opens round b z) same in
        let more : (c : ℕ) → count c (opens round b e) ≡ same_one (left_of b) c + same_one (right_of b) c = λ c. ap (λ (z : List (BoardNode O)). count c z) two ∙ opened-count O round (left_of b) (right_of b) c in
        let more' : (c : ℕ) → count_closed c (opens round b e) ≡ same_one (left_of b) c + same_one (right_of b) c = λ c. ap (λ (z : List (BoardNode O)). count_closed c z) two ∙ opened-closed O round (left_of b) (right_of b) c in
        let less : (c : ℕ) → count_closed c ms ≤ count_closed c ns = λ c. subst (λ (z : Event O). count_closed c (map (changing t b z) ns) ≤ count_closed c ns) (sym same) (closed-after t b c ns) in
        let gone : count_closed b ms ≡ 0 = subst (λ (z : Event O). count_closed b (map (changing t b z) ns) ≡ 0) (sym same) (closed-there t b ns) in
        let here : 1 ≤ count_closed b ns = closed-count (has-board ns f board node has) may.not_yet in
        let no_left : count (left_of b) ns ≡ 0 = omega (arith, board.left b low, board.once b, here) in
        let no_right : count (right_of b) ns ≡ 0 = omega (arith, board.right b low, board.once b, here) in
        let one : 1 ≤ count b ns = omega (arith, board.left b low, here) in
        record {
          once = λ c. once-more c (same-is (left_of b) c) (same-is (right_of b) c) (counts c) (more c) no_left no_right;
          left = λ c h. left-more c h (same-is b c) (same-is (left_of b) (left_of c)) (same-is (right_of b) (left_of c)) (counts c) (counts (left_of c)) (closeds c) (more c) (more' c) (more (left_of c)) (less c) gone no_left one;
          right = λ c h. right-more c h (same-is b c) (same-is (left_of b) (right_of c)) (same-is (right_of b) (right_of c)) (counts c) (counts (right_of c)) (closeds c) (more c) (more' c) (more (right_of c)) (less c) gone no_right one;
        }
      where
        once-more : (c : ℕ) → ((same_one (left_of b) c ≡ 1) × (left_of b ≡ c)) ⊎ ((same_one (left_of b) c ≡ 0) × (left_of b ≢ c)) → ((same_one (right_of b) c ≡ 1) × (right_of b ≡ c)) ⊎ ((same_one (right_of b) c ≡ 0) × (right_of b ≢ c)) → count c new ≡ count c ns + count c (opens round b e) → count c (opens round b e) ≡ same_one (left_of b) c + same_one (right_of b) c → count (left_of b) ns ≡ 0 → count (right_of b) ns ≡ 0 → count c new ≤ 1
        once-more c (inl x) (inl y) n m zl zr = absurd (omega (arith, x.1, y.1))
        once-more c (inl x) (inr y) n m zl zr = let z : count c ns ≡ 0 = ap (λ (i : ℕ). count i ns) (sym x.1) ∙ zl in omega (arith, n, m, z, x.0, y.0)
        once-more c (inr x) (inl y) n m zl zr = let z : count c ns ≡ 0 = ap (λ (i : ℕ). count i ns) (sym y.1) ∙ zr in omega (arith, n, m, z, x.0, y.0)
        once-more c (inr x) (inr y) n m zl zr = omega (arith, n, m, x.0, y.0, board.once c)

        left-more : (c : ℕ) → 1 ≤ c → ((same_one b c ≡ 1) × (b ≡ c)) ⊎ ((same_one b c ≡ 0) × (b ≢ c)) → ((same_one (left_of b) (left_of c) ≡ 1) × (left_of b ≡ left_of c)) ⊎ ((same_one (left_of b) (left_of c) ≡ 0) × (left_of b ≢ left_of c)) → ((same_one (right_of b) (left_of c) ≡ 1) × (right_of b ≡ left_of c)) ⊎ ((same_one (right_of b) (left_of c) ≡ 0) × (right_of b ≢ left_of c)) → count c new ≡ count c ns + count c (opens round b e) → count (left_of c) new ≡ count (left_of c) ns + count (left_of c) (opens round b e) → count_closed c new ≡ count_closed c ms + count_closed c (opens round b e) → count c (opens round b e) ≡ same_one (left_of b) c + same_one (right_of b) c → count_closed c (opens round b e) ≡ same_one (left_of b) c + same_one (right_of b) c → count (left_of c) (opens round b e) ≡ same_one (left_of b) (left_of c) + same_one (right_of b) (left_of c) → count_closed c ms ≤ count_closed c ns → count_closed b ms ≡ 0 → count (left_of b) ns ≡ 0 → 1 ≤ count b ns → count (left_of c) new + count_closed c new ≤ count c new
        left-more c h q x (inl y) n nl u m mu ml less gone zl one = absurd (omega (arith, y.1))
        left-more c h (inl q) x (inr y) n nl u m mu ml less gone zl one =
            let g : count_closed c ms ≡ 0 = ap (λ (i : ℕ). count_closed i ms) (sym q.1) ∙ gone in
            let z : count (left_of c) ns ≡ 0 = ap (λ (i : ℕ). count (left_of i) ns) (sym q.1) ∙ zl in
            let o : 1 ≤ count c ns = subst (λ (i : ℕ). 1 ≤ count i ns) q.1 one in
            omega (arith, n, nl, u, m, mu, ml, g, z, o, y.0, at-most (left_of b) (left_of c))
        left-more c h (inr q) (inl x) (inr y) n nl u m mu ml less gone zl one = absurd (q.1 (omega (arith, x.1)))
        left-more c h (inr q) (inr x) (inr y) n nl u m mu ml less gone zl one = omega (arith, n, nl, u, m, mu, ml, less, x.0, y.0, board.left c h)

        right-more : (c : ℕ) → 1 ≤ c → ((same_one b c ≡ 1) × (b ≡ c)) ⊎ ((same_one b c ≡ 0) × (b ≢ c)) → ((same_one (left_of b) (right_of c) ≡ 1) × (left_of b ≡ right_of c)) ⊎ ((same_one (left_of b) (right_of c) ≡ 0) × (left_of b ≢ right_of c)) → ((same_one (right_of b) (right_of c) ≡ 1) × (right_of b ≡ right_of c)) ⊎ ((same_one (right_of b) (right_of c) ≡ 0) × (right_of b ≢ right_of c)) → count c new ≡ count c ns + count c (opens round b e) → count (right_of c) new ≡ count (right_of c) ns + count (right_of c) (opens round b e) → count_closed c new ≡ count_closed c ms + count_closed c (opens round b e) → count c (opens round b e) ≡ same_one (left_of b) c + same_one (right_of b) c → count_closed c (opens round b e) ≡ same_one (left_of b) c + same_one (right_of b) c → count (right_of c) (opens round b e) ≡ same_one (left_of b) (right_of c) + same_one (right_of b) (right_of c) → count_closed c ms ≤ count_closed c ns → count_closed b ms ≡ 0 → count (right_of b) ns ≡ 0 → 1 ≤ count b ns → count (right_of c) new + count_closed c new ≤ count c new
        right-more c h q (inl x) y n nr u m mu mr less gone zr one = absurd (omega (arith, x.1))
        right-more c h (inl q) (inr x) y n nr u m mu mr less gone zr one =
            let g : count_closed c ms ≡ 0 = ap (λ (i : ℕ). count_closed i ms) (sym q.1) ∙ gone in
            let z : count (right_of c) ns ≡ 0 = ap (λ (i : ℕ). count (right_of i) ns) (sym q.1) ∙ zr in
            let o : 1 ≤ count c ns = subst (λ (i : ℕ). 1 ≤ count i ns) q.1 one in
            omega (arith, n, nr, u, m, mu, mr, g, z, o, x.0, at-most (right_of b) (right_of c))
        right-more c h (inr q) (inr x) (inl y) n nr u m mu mr less gone zr one = absurd (q.1 (omega (arith, y.1)))
        right-more c h (inr q) (inr x) (inr y) n nr u m mu mr less gone zr one = omega (arith, n, nr, u, m, mu, mr, less, x.0, y.0, board.right c h)

    pub after-board : (f' : Family O) → IsPermutation (step_all t e node (nodes_of f) ++ opens round b e) (nodes_of f') → IsBoardOf (done t round ns b e) f'
    after-board f' perm =
        let k : Keeps = by-kind (split-or t round e) in
        subst (λ (z : List (BoardNode O)). IsBoardOf z f') (sym it-is) (
        record {
          nodes = IsPermutation-trans new (step_all t e node (nodes_of f) ++ opens round b e) (nodes_of f') (IsPermutation-append_left (opens round b e) ms (step_all t e node (nodes_of f)) (IsPermutation-map (changing t b e) ns (nodes_of f) board.nodes)) perm;
          once = k.once;
          left = k.left;
          right = k.right;
        }
        )

-- an event of the plain order in the root's family is a pick of the plain order on its board
pub record Happened {O : Type 0} (tree : O → Tree O) (t : Tree O) (round : ℕ) (ns : List (BoardNode O)) (e : Event O) (f' : Family O) : Type 0 where
  pub at : ℕ
  pub act : Act
  pub board : List (BoardNode O)
  pub pick : IsPlainPick t ns 1 at act
  pub of_act : IsOfAct act e
  pub happens : Happens tree t round ns at e board
  pub is_board : IsBoardOf board f'

module _ {O : Type 0} (tree : O → Tree O) (t : Tree O) (round : ℕ) where
  -- every node of a family of the root has a name above zero
  named-top : (b : ℕ) (sh : Sites) (f : Family O) → IsFamily tree t round b sh f → (top f).state.name ≡ b
  named-top b (leaf own) (alone n) fam = fam.named
  named-top b (leaf own) (with_parts n l r) fam = absurd fam
  named-top b (fork own x y) (alone n) fam = fam.0.named
  named-top b (fork own x y) (with_parts n l r) fam = fam.0.named

  low-names : (b : ℕ) (sh : Sites) (f : Family O) (m : BoardNode O) → 1 ≤ b → IsFamily tree t round b sh f → Has m (nodes_of f) → 1 ≤ m.state.name
  low-names b sh f m low fam has = has-all (λ n. 1 ≤ n.state.name) has (all-low b sh f low fam)
    where
      all-low : (b : ℕ) (sh : Sites) (f : Family O) → 1 ≤ b → IsFamily tree t round b sh f → All (λ n. 1 ≤ n.state.name) (nodes_of f)
      all-low b (leaf own) (alone n) low fam = All-cons (λ (i : BoardNode O). 1 ≤ i.state.name) n [] (subst (λ (c : ℕ). 1 ≤ c) (sym fam.named) low) (All-nil (λ (i : BoardNode O). 1 ≤ i.state.name))
      all-low b (leaf own) (with_parts n l r) low fam = absurd fam
      all-low b (fork own x y) (alone n) low fam = All-cons (λ (i : BoardNode O). 1 ≤ i.state.name) n [] (subst (λ (c : ℕ). 1 ≤ c) (sym fam.0.named) low) (All-nil (λ (i : BoardNode O). 1 ≤ i.state.name))
      all-low b (fork own x y) (with_parts n l r) low fam =
          All-cons (λ (i : BoardNode O). 1 ≤ i.state.name) n _ (subst (λ (c : ℕ). 1 ≤ c) (sym fam.0.named) low)
          (All-append (λ (i : BoardNode O). 1 ≤ i.state.name) (nodes_of l) (nodes_of r) (all-low (left_of b) x l (omega (arith, low)) fam.2) (all-low (right_of b) y r (omega (arith, low)) fam.3))

  pub happened : (sh : Sites) (f f' : Family O) (e : Event O) (ns : List (BoardNode O)) → IsFamily tree t round 1 sh f → IsBoardOf ns f → Steps tree t round f e f' → Happened tree t round ns e f'
  happened sh f f' e ns fam board step =
      let p : Picks tree t round ns f e f' = picks tree t round ns 1 sh (omega arith) fam (λ n h. find ns f board n h) step in
      let once : (c : ℕ) → count c (nodes_of f) ≤ 1 = λ c. omega (arith, board.once c, sum_by-IsPermutation (has_name c) ns (nodes_of f) board.nodes) in
      record {
        at = p.node.state.name;
        act = p.act;
        board = done t round ns p.node.state.name e;
        pick = subst (λ (c : ℕ). IsPlainPick t ns c p.node.state.name p.act) (named-top 1 sh f fam) p.pick;
        of_act = p.of_act;
        happens = record { node = p.node; is_node = find ns f board p.node p.has; comes = p.comes; lawful = p.lawful; becomes = refl };
        is_board = after-board tree t round ns f board p.node p.has e p.lawful (low-names 1 sh f p.node (omega arith) fam p.has) f' (p.becomes once);
      }
