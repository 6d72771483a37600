use Rattle.std.proofs.Common.{◌≡◌, ◌∙◌, ℕ, ◌+◌, ◌-◌, ◌*◌, ◌^◌, ◌≤◌, min, Bool, true, false, ◌⊎◌, inl, inr, Option, Some, None, nat_le, [], sym, ap, refl, subst, arith, if◌then◌else◌, zero-mul}
use Rattle.std.proofs.Common.{leb-false, zero, suc}
use Rattle.std.proofs.lemmas.List.Sorted.{IsPermutation-refl}
use Rattle.std.proofs.lemmas.List.Sums.{sum_by-cons}
use Rattle.std.proofs.lemmas.List.Elements.{All-nil}
use Rattle.nego_laws.specs.Tree.{Tree, Laws, left_of, right_of}
use Rattle.nego_node.specs.Lawful.{MayReceive}
use Rattle.nego_node.specs.Sound.{Belongs}
use Rattle.nego_node.specs.declared.tasks.Task.{Task}
use Rattle.nego_node.specs.declared.events.Event.{Event}
use Rattle.nego_node.specs.declared.events.Event.TheVariants as event
use Rattle.nego_node.specs.declared.acts.Act.TheVariants.{Receive}
use Rattle.nego_node.specs.Board.{BoardNode, node_named, opened, with_event, first_task, first_board, said_by, said_at, done}
use Rattle.nego_plain.specs.Width.{Sites, leaf, fork, width, attempts, IsSites, sites_to, sites_at}
use Rattle.nego_plain.specs.PlainOrder.{IsPlainPick, PlainRun, stays, goes, tried_in}
use Rattle.nego_plain.specs.PlainOrder as order
use Rattle.nego_plain.specs.Family.{Family, alone, with_parts, top, Steps}
use Rattle.nego_plain.specs.Rest.{whole, cost, effort, IsBounded}
use Rattle.nego_plain.specs.Fits.{IsNodeAt, IsFamily}
use Rattle.nego_plain.specs.BoardOf.{count, count_closed, is_closed, IsBoardOf}
use Rattle.nego_plain.specs.Engine.{DidStep, IsInPlain, has_reached, is_spent, count_after}
use Rattle.nego_plain.specs.Settling.{Counts, IsUnderWay}
use Rattle.nego_plain.specs.declared.tries.Tries.{Tries}
use Rattle.nego_plain.proofs.Tests.{false-if}
use Rattle.nego_plain.proofs.Within.{within}
use Rattle.nego_plain.proofs.Taking.{Takes, takes}
use Rattle.nego_plain.proofs.Falling.{Falls, falls}
use Rattle.nego_plain.proofs.Boards.{has-top, first, find, count-cons}
use Rattle.nego_plain.proofs.Happening.{Happened, happened, after-board, same_one, same-is, at-most}

-- the sites to the height of a site are all that it has
module _ {O : Type 0} (tree : O → Tree O) (t : Tree O) (laws : Laws t (λ s. tree s ≡ t)) where
  sites-if : (h b : ℕ) (p : Bool) → t.parted b ≡ p → (p ≡ true → IsSites t (left_of b) (sites_to h t (left_of b)) × IsSites t (right_of b) (sites_to h t (right_of b))) → IsSites t b (if p then fork (t.items b) (sites_to h t (left_of b)) (sites_to h t (right_of b)) else leaf (t.items b))
  sites-if h b true e below = let two = below refl in (refl, e, two.0, two.1)
  sites-if h b false e below = (refl, e)

  pub are-sites : (h b : ℕ) → t.height b ≤ h → IsSites t b (sites_to h t b)
  are-sites zero b low = (refl, false-if (t.parted b) (λ p. omega (arith, laws.left_is_lower b p, low)))
  are-sites (suc h) b low =
      sites-if h b (t.parted b) refl (λ p. (are-sites h (left_of b) (omega (arith, laws.left_is_lower b p, low)), are-sites h (right_of b) (omega (arith, laws.right_is_lower b p, low))))

  pub all-sites : (b : ℕ) → IsSites t b (sites_at t b)
  all-sites b = are-sites (t.height b) b (omega arith)

pub whole-attempts : (sh : Sites) → whole 0 sh ≡ attempts sh
whole-attempts (leaf own) = omega arith
whole-attempts (fork own a b) =
    let z : 0 * (5 * width b + 8) ≡ 0 = zero-mul (5 * width b + 8) in
    let s : whole 0 b + 0 * (5 * width b + 8) ≡ attempts b = omega (arith, z, whole-attempts b) in
    let p : width a * (whole 0 b + 0 * (5 * width b + 8)) ≡ width a * attempts b = ap (λ (n : ℕ). width a * n) s in
    omega (arith, p, whole-attempts a)

pub one-each : {O : Type 0} (e : Event O) → cost 1 e ≡ 1
one-each (event.Received z) = refl
one-each (event.Tried i x) = refl
one-each event.Split = refl
one-each (event.Asked side z) = refl
one-each (event.Posted side a) = refl
one-each (event.Adopted side g x) = refl
one-each (event.Agreed side g x) = refl
one-each (event.Forbidden side g x) = refl
one-each (event.Refused side g) = refl
one-each event.Exhausted = refl

pub attempts-only : {O : Type 0} (e : Event O) → (cost 0 e ≡ tried_in e) × ((tried_in e ≡ 0) ⊎ (tried_in e ≡ 1))
attempts-only (event.Received z) = (refl, inl refl)
attempts-only (event.Tried i x) = (refl, inr refl)
attempts-only event.Split = (refl, inl refl)
attempts-only (event.Asked side z) = (refl, inl refl)
attempts-only (event.Posted side a) = (refl, inl refl)
attempts-only (event.Adopted side g x) = (refl, inl refl)
attempts-only (event.Agreed side g x) = (refl, inl refl)
attempts-only (event.Forbidden side g x) = (refl, inl refl)
attempts-only (event.Refused side g) = (refl, inl refl)
attempts-only event.Exhausted = (refl, inl refl)

-- one more attempt, or none
pub counts-more : (before mid after : Tries) (n more : ℕ) → Counts before mid n → after.limit ≡ mid.limit → after.made ≡ count_after mid.made more → (more ≡ 1 → is_spent mid ≡ false) → (more ≡ 0) ⊎ (more ≡ 1) → Counts before after (n + more)
counts-more before mid after n more c same made allowed (inl none) =
    let is : after.made ≡ mid.made = made ∙ ap (λ (k : ℕ). count_after mid.made k) none in
    record {
      limit = same ∙ c.limit;
      made = λ fits. is ∙ (c.made fits ∙ ap (λ (k : ℕ). min (before.made + k) (2 ^ 64 - 1)) (omega (arith, none)));
      within = λ l e. elim (c.within l e) [ inl z ↦ inl (omega (arith, z, none)) | inr w ↦ inr (omega (arith, w, is)) ];
    }
counts-more before mid after n more c same made allowed (inr one) =
    let is : after.made ≡ min (mid.made + 1) (2 ^ 64 - 1) = made ∙ ap (λ (k : ℕ). count_after mid.made k) one in
    record {
      limit = same ∙ c.limit;
      made = λ fits. omega (arith, is, c.made fits, one);
      within = λ l e. inr (room l (c.limit ∙ e) (allowed one) is);
    }
  where
    room : (l : ℕ) → mid.limit ≡ Some l → is_spent mid ≡ false → after.made ≡ min (mid.made + 1) (2 ^ 64 - 1) → after.made ≤ l
    room l e free is =
        let open_yet : nat_le l mid.made ≡ false = sym (ap (λ (o : Option ℕ). has_reached o mid.made) e) ∙ free in
        omega (arith, is, leb-false l mid.made open_yet)

module _ {O : Type 0} (tree : O → Tree O) (t : Tree O) (laws : Laws t (λ s. tree s ≡ t)) (round : ℕ) where
  pub top-node : (b : ℕ) (sh : Sites) (f : Family O) → IsFamily tree t round b sh f → IsNodeAt tree t round b (top f)
  top-node b (leaf own) (alone n) fam = fam
  top-node b (leaf own) (with_parts n l r) fam = absurd fam
  top-node b (fork own x y) (alone n) fam = fam.0
  top-node b (fork own x y) (with_parts n l r) fam = fam.0

  -- the root of the board is the top of the family
  pub root-node : (before after : Tries) (f : Family O) (u : IsUnderWay tree t round before after f) → node_named u.board 1 ≡ Some (top f)
  root-node before after f u =
      let named : (top f).state.name ≡ 1 = (top-node 1 (sites_at t 1) f u.family).named in
      subst (λ (c : ℕ). node_named u.board c ≡ Some (top f)) named (find u.board f u.is_board (top f) (has-top f))

  pub in-plain : (before after : Tries) (f : Family O) → IsUnderWay tree t round before after f → IsInPlain tree t f
  in-plain before after f u = record { round = round; site = 1; sites = sites_at t 1; are_sites = all-sites tree t laws 1; family = u.family; bounded = u.bounded }

  pub goes-on : (before mid after : Tries) (f f' : Family O) → IsUnderWay tree t round before mid f → (top f).state.answer ≡ None → DidStep tree t (top f).state.round f f' mid after → IsUnderWay tree t round before after f'
  goes-on before mid after f f' u none did =
      let sh : Sites = sites_at t 1 in
      let sites = all-sites tree t laws 1 in
      let node = top-node 1 sh f u.family in
      let steps : Steps tree t round f did.event f' = subst (λ (c : ℕ). Steps tree t c f did.event f') node.of_round did.steps in
      let fell : Falls 0 tree t round 1 sh f did.event f' = falls 0 tree t laws round 1 sh sites u.family u.bounded steps in
      let h : Happened tree t round u.board did.event f' = happened tree t round sh f f' did.event u.board u.family u.is_board steps in
      let kind = attempts-only did.event in
      let said : said_at u.board 1 ≡ None = ap (λ (o : Option (BoardNode O)). said_by o) (root-node before mid f u) ∙ none in
      record {
        board = h.board;
        made = u.made + tried_in did.event;
        run = goes h.act did.event u.run said h.pick h.of_act h.happens;
        counts = counts-more before mid after u.made (tried_in did.event) u.counts did.same_limit did.made did.allowed kind.1;
        is_board = h.is_board;
        family = fell.family;
        bounded = fell.bounded;
        held = fell.held ∙ u.held;
        bound = omega (arith, u.bound, fell.effort, kind.0);
      }

  -- the board of the root alone
  first-is-board : IsBoardOf (first_board {O = O} round) (alone (opened round 1))
  first-is-board =
      record {
        nodes = IsPermutation-refl _;
        once = λ c. omega (arith, one-count c, at-most 1 c);
        left = λ c h. omega (arith, one-count c, one-count (left_of c), one-closed c, no-part (left_of c) (omega (arith, h)));
        right = λ c h. omega (arith, one-count c, one-count (right_of c), one-closed c, no-part (right_of c) (omega (arith, h)));
      }
    where
      one-count : (c : ℕ) → count c (first_board {O = O} round) ≡ same_one 1 c
      one-count c = omega (arith, count-cons c (opened {O = O} round 1) [])

      one-closed : (c : ℕ) → count_closed c (first_board {O = O} round) ≡ same_one 1 c
      one-closed c = omega (arith, sum_by-cons (is_closed c) (opened {O = O} round 1) [])

      no-part : (c : ℕ) → 2 ≤ c → same_one 1 c ≡ 0
      no-part c h = elim (same-is 1 c) [ inl x ↦ absurd (omega (arith, x.1, h)) | inr x ↦ x.0 ]

  start-family : (sh : Sites) → IsFamily tree t round 1 sh (alone (opened round 1))
  start-family (leaf own) = record { named = refl; of_round = refl; keeps = inl refl }
  start-family (fork own x y) = (record { named = refl; of_round = refl; keeps = inl refl }, refl)

  start-bound : (sh : Sites) → IsBounded t sh (alone (opened round 1))
  start-bound (leaf own) = tt
  start-bound (fork own x y) = tt

  -- the root takes its task
  pub started : (before : Tries) (f : Family O) → f ≡ alone (with_event t (event.Received (first_task t round)) (opened round 1)) → IsUnderWay tree t round before before f
  started before f is =
      let sh : Sites = sites_at t 1 in
      let o : BoardNode O = opened round 1 in
      let task : Task O = first_task t round in
      let belongs : Belongs tree t task = record { given = laws.free_belongs; ban = All-nil _ } in
      let may : MayReceive o.state task = record { round = refl; node = refl; is_newer = omega arith } in
      let got : Takes 0 tree t round 1 sh (alone o) task (alone (with_event t (event.Received task) o)) = takes 0 tree t laws round 1 sh (alone o) task (start-family sh) (start-bound sh) may belongs in
      let left : effort 0 t sh (alone (with_event t (event.Received task) o)) ≤ whole 0 sh = (within 0 t sh (alone (with_event t (event.Received task) o)) got.bounded).1 in
      subst (λ (z : Family O). IsUnderWay tree t round before before z) (sym is) (
      record {
        board = done t round (first_board round) 1 (event.Received task);
        made = 0;
        run =
            goes Receive (event.Received task) stays refl (order.receives o refl refl) (task, refl)
            (record { node = o; is_node = refl; comes = refl; lawful = may; becomes = refl });
        counts = record { limit = refl; made = λ fits. omega (arith, fits); within = λ l e. inl refl };
        is_board = after-board tree t round (first_board round) (alone o) first-is-board o (first o []) (event.Received task) may (omega arith) (alone (with_event t (event.Received task) o)) (IsPermutation-refl _);
        family = got.family;
        bounded = got.bounded;
        held = got.held;
        bound = omega (arith, left, whole-attempts sh);
      }
      )
