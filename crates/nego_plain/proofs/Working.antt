use Rattle.std.proofs.Common.{◌≡◌, ◌∙◌, ℕ, suc, ◌+◌, ◌<◌, ◌≤◌, Bool, true, false, Option, Some, None, is_some, sym, ap, refl, subst, IsSome, arith}
use Rattle.nego_laws.specs.Tree.{Tree, Laws, left_of, right_of}
use Rattle.nego_node.specs.Machine.{Slot}
use Rattle.nego_node.specs.declared.tasks.Task.{Task}
use Rattle.nego_node.specs.declared.tasks.Side.{Side}
use Rattle.nego_node.specs.declared.tasks.Side.TheVariants.{Left, Right}
use Rattle.nego_node.specs.declared.answers.Answer.{Answer}
use Rattle.nego_node.specs.declared.events.Event.{Event}
use Rattle.nego_node.specs.Board.{BoardNode}
use Rattle.nego_plain.specs.Width.{Sites, leaf, fork, IsSites, sites_at}
use Rattle.nego_plain.specs.PlainOrder.{WaitsFor}
use Rattle.nego_plain.specs.Family.{Family, alone, with_parts, top, Steps}
use Rattle.nego_plain.specs.Family as family
use Rattle.nego_plain.specs.Rest.{effort, IsBounded}
use Rattle.nego_plain.specs.Fits.{IsNodeAt, IsFamily}
use Rattle.nego_plain.specs.Engine.{IsInPlain, IsSeeking, Plays, stays, goes, IsStopped, DidPlay, DidWork, NextIsTry, left_below, right_below, join}
use Rattle.nego_plain.specs.Views.{family_below}
use Rattle.nego_plain.specs.declared.tries.Tries.{Tries}
use Rattle.nego_plain.specs.declared.family.Below.{Below}
use Rattle.nego_plain.proofs.Tests.{no-bool}
use Rattle.nego_plain.proofs.Falling.{falls}
use Rattle.nego_plain.proofs.Joining.{top-below}
use Rattle.nego_plain.proofs.Running.{all-sites, one-each, top-node}

-- a site has one tree of sites
one-sites : {O : Type 0} (t : Tree O) (b : ℕ) (x y : Sites) → IsSites t b x → IsSites t b y → x ≡ y
one-sites t b (leaf m) (leaf n) h k = ap (λ (i : ℕ). leaf i) (sym h.0 ∙ k.0)
one-sites t b (leaf m) (fork n u v) h k = absurd (no-bool k.1 h.1)
one-sites t b (fork m x y) (leaf n) h k = absurd (no-bool h.1 k.1)
one-sites t b (fork m x y) (fork n u v) h k =
    ap (λ (i : ℕ). fork i x y) (sym h.0 ∙ k.0) ∙ (ap (λ (z : Sites). fork n z y) (one-sites t (left_of b) x u h.2 k.2) ∙ ap (λ (z : Sites). fork n u z) (one-sites t (right_of b) y v h.3 k.3))

-- some events
pub record HasPlayed {O : Type 0} (tree : O → Tree O) (t : Tree O) (round : ℕ) (f f' : Family O) (tries tries' : Tries) : Type 0 where
  pub events : ℕ
  pub plays : Plays tree t round f tries events f' tries'

-- the work ends with the top's answer, or where it is stopped
pub work-ends : {O : Type 0} (tree : O → Tree O) (t : Tree O) (round : ℕ) (f f' : Family O) (tries tries' : Tries) → HasPlayed tree t round f f' tries tries' → IsSome (top f').state.answer → DidWork tree t round true f f' tries tries'
work-ends tree t round f f' tries tries' played some =
    record { events = played.events; plays = played.plays; answered = λ e. some; stopped = λ e. absurd (no-bool {b = true} refl e) }

pub work-stops : {O : Type 0} (tree : O → Tree O) (t : Tree O) (round : ℕ) (f f' : Family O) (tries tries' : Tries) → HasPlayed tree t round f f' tries tries' → IsStopped t f' tries' → DidWork tree t round false f f' tries tries'
work-stops tree t round f f' tries tries' played stop =
    record { events = played.events; plays = played.plays; answered = λ e. absurd (no-bool e refl); stopped = λ e. stop }

-- one run of events and then another
pub plays-on : {O : Type 0} {tree : O → Tree O} {t : Tree O} {round : ℕ} {f g : Family O} {tries mid : Tries} {f' : Family O} {tries' : Tries} {n k : ℕ} → Plays tree t round f tries n g mid → Plays tree t round g mid k f' tries' → HasPlayed tree t round f f' tries tries'
plays-on {n = n} first stays = record { events = n; plays = first }
plays-on first (goes h then_tries before none did) =
    let so_far = plays-on first before in
    record { events = suc so_far.events; plays = goes h then_tries so_far.plays none did }

-- where the top had no answer and has one, something was done
pub some-done : {O : Type 0} {tree : O → Tree O} {t : Tree O} {round : ℕ} {f : Family O} {tries : Tries} {f' : Family O} {tries' : Tries} {n : ℕ} → Plays tree t round f tries n f' tries' → (top f).state.answer ≡ None → IsSome (top f').state.answer → 1 ≤ n
some-done stays none some = absurd (no-bool some (ap (λ (o : Option (Answer _)). is_some o) none))
some-done (goes g mid before quiet did) none some = omega arith

-- what so many events do to a family
pub record After {O : Type 0} (tree : O → Tree O) (t : Tree O) (f f' : Family O) (n : ℕ) : Type 0 where
  pub plain : IsInPlain tree t f'
  pub held : (top f').state.held ≡ (top f).state.held
  pub name : (top f').state.name ≡ (top f).state.name
  pub round : (top f').state.round ≡ (top f).state.round
  pub less : effort 1 t (sites_at t (top f').state.name) f' + n ≤ effort 1 t (sites_at t (top f).state.name) f

record Along {O : Type 0} (tree : O → Tree O) (t : Tree O) (round b : ℕ) (sh : Sites) (f f' : Family O) (n : ℕ) : Type 0 where
  family : IsFamily tree t round b sh f'
  bounded : IsBounded t sh f'
  held : (top f').state.held ≡ (top f).state.held
  less : effort 1 t sh f' + n ≤ effort 1 t sh f

module _ {O : Type 0} (tree : O → Tree O) (t : Tree O) (laws : Laws t (λ s. tree s ≡ t)) where
  along : (round b : ℕ) (sh : Sites) {f : Family O} {tries : Tries} {f' : Family O} {tries' : Tries} {n : ℕ} → IsSites t b sh → IsFamily tree t round b sh f → IsBounded t sh f → Plays tree t round f tries n f' tries' → Along tree t round b sh f f' n
  along round b sh sites fam bounded stays = record { family = fam; bounded = bounded; held = refl; less = omega arith }
  along round b sh sites fam bounded (goes g mid before none did) =
      let so_far = along round b sh sites fam bounded before in
      let fell = falls 1 tree t laws round b sh sites so_far.family so_far.bounded did.steps in
      record { family = fell.family; bounded = fell.bounded; held = fell.held ∙ so_far.held; less = omega (arith, so_far.less, fell.effort, one-each did.event) }

  top-of : (f : Family O) (plain : IsInPlain tree t f) → IsNodeAt tree t plain.round plain.site (top f)
  top-of f plain = top-node tree t laws plain.round plain.site plain.sites f plain.family

  -- the sites are those that the tree has there
  its-sites : (f : Family O) (plain : IsInPlain tree t f) (b : ℕ) → b ≡ plain.site → plain.sites ≡ sites_at t b
  its-sites f plain b e =
      one-sites t plain.site plain.sites (sites_at t b) plain.are_sites (subst (λ (c : ℕ). IsSites t c (sites_at t b)) e (all-sites tree t laws b))

  pub after : (f f' : Family O) {tries tries' : Tries} {n : ℕ} (round : ℕ) → IsInPlain tree t f → round ≡ (top f).state.round → Plays tree t round f tries n f' tries' → After tree t f f' n
  after f f' {tries = tries} {tries' = tries'} {n = n} round plain same plays =
      let now = top-of f plain in
      let mine : Plays tree t plain.round f tries n f' tries' = subst (λ (r : ℕ). Plays tree t r f tries n f' tries') (same ∙ now.of_round) plays in
      let all = along plain.round plain.site plain.sites plain.are_sites plain.family plain.bounded mine in
      let next : IsInPlain tree t f' = record { round = plain.round; site = plain.site; sites = plain.sites; are_sites = plain.are_sites; family = all.family; bounded = all.bounded } in
      let then_top = top-of f' next in
      record {
        plain = next;
        held = all.held;
        name = then_top.named ∙ sym now.named;
        round = then_top.of_round ∙ sym now.of_round;
        less =
            subst (λ (sh : Sites). effort 1 t sh f' + n ≤ effort 1 t (sites_at t (top f).state.name) f) (its-sites f plain (top f').state.name then_top.named)
            (subst (λ (sh : Sites). effort 1 t plain.sites f' + n ≤ effort 1 t sh f) (its-sites f plain (top f).state.name now.named) all.less);
      }

  -- the parts have a lesser height
  pub part-lower : (side : Side) (n : BoardNode O) (c other : Family O) → IsInPlain tree t (join side n c other) → t.height (top c).state.name < t.height n.state.name
  part-lower Left n c other plain = go plain.site plain.sites plain.are_sites plain.family
    where
      go : (b : ℕ) (sh : Sites) → IsSites t b sh → IsFamily tree t plain.round b sh (with_parts n c other) → t.height (top c).state.name < t.height n.state.name
      go b (leaf own) sites fam = absurd fam
      go b (fork own x y) sites fam =
          let down = top-node tree t laws plain.round (left_of b) x c fam.2 in
          omega (arith, laws.left_is_lower b sites.1, ap t.height down.named, ap t.height fam.0.named)
  part-lower Right n c other plain = go plain.site plain.sites plain.are_sites plain.family
    where
      go : (b : ℕ) (sh : Sites) → IsSites t b sh → IsFamily tree t plain.round b sh (with_parts n other c) → t.height (top c).state.name < t.height n.state.name
      go b (leaf own) sites fam = absurd fam
      go b (fork own x y) sites fam =
          let down = top-node tree t laws plain.round (right_of b) y c fam.3 in
          omega (arith, laws.right_is_lower b sites.1, ap t.height down.named, ap t.height fam.0.named)

module _ {O : Type 0} (tree : O → Tree O) (t : Tree O) (round : ℕ) where
  pub top-join : (side : Side) (n : BoardNode O) (c other : Family O) → top (join side n c other) ≡ n
  top-join Left n c other = refl
  top-join Right n c other = refl

  -- an event below a part is one of the family
  below-part : (side : Side) (n : BoardNode O) (c c' other : Family O) (k : Slot O) (e : Event O) → WaitsFor t n.state side k → (top c).state.held ≡ Some k.task → (top c).state.answer ≡ None → Steps tree t round c e c' → Steps tree t round (join side n c other) e (join side n c' other)
  below-part Left n c c' other k e waits held none step = family.below_left n c other c' k e waits held none step
  below-part Right n c c' other k e waits held none step = family.below_right n other c c' k e waits held none step

  next-part : (side : Side) (n : BoardNode O) (c other : Family O) (k : Slot O) → WaitsFor t n.state side k → (top c).state.held ≡ Some k.task → (top c).state.answer ≡ None → NextIsTry t c → NextIsTry t (join side n c other)
  next-part Left n c other k waits held none next = left_below n c other k waits held none next
  next-part Right n c other k waits held none next = right_below n other c k waits held none next

-- what is done below a part, which has its task, is done in the family
module _ {O : Type 0} (tree : O → Tree O) (t : Tree O) (laws : Laws t (λ s. tree s ≡ t)) (round : ℕ) (n : BoardNode O) (side : Side) (c : Family O) (k : Slot O) (waits : WaitsFor t n.state side k) (held : (top c).state.held ≡ Some k.task) (plain : IsInPlain tree t c) (same : round ≡ (top c).state.round) where
  quiet-top : (c' other : Family O) → (top (join side n c' other)).state.answer ≡ None
  quiet-top c' other = ap (λ (z : BoardNode O). z.state.answer) (top-join tree t round side n c' other) ∙ waits.unanswered

  lifted : {tries : Tries} {c' : Family O} {tries' : Tries} {m : ℕ} (other : Family O) → Plays tree t round c tries m c' tries' → Plays tree t round (join side n c other) tries m (join side n c' other) tries'
  lifted other stays = stays
  lifted {c' = c'} other (goes g mid before none did) =
      goes (join side n g other) mid (lifted other before) (quiet-top g other) (
      record {
        event = did.event;
        steps = below-part tree t round side n g c' other k did.event waits ((after tree t laws c g round plain same before).held ∙ held) none did.steps;
        same_limit = did.same_limit;
        made = did.made;
        allowed = did.allowed;
      }
      )

  pub worked : (c' : Family O) (tries tries' : Tries) (ended : Bool) → (top c).state.answer ≡ None → DidWork tree t round ended c c' tries tries' → (other : Family O) → DidPlay tree t round ended (join side n c other) (join side n c' other) tries tries'
  worked c' tries tries' ended none did other =
      record {
        events = did.events;
        plays = lifted other did.plays;
        some = λ e. some-done did.plays none (did.answered e);
        stopped = λ e.
            let s = did.stopped e in
            record {
              unanswered = quiet-top c' other;
              next = next-part tree t round side n c' other k waits ((after tree t laws c c' round plain same did.plays).held ∙ held) s.unanswered s.next;
              reached = s.reached;
            };
      }

module _ {F O S : Type 0} (tree : O → Tree O) (t : Tree O) (laws : Laws t (λ s. tree s ≡ t)) (before mid after_it : Tries) (n n' n'' : BoardNode O) (b b' b'' : Below F O S) (plain : IsInPlain tree t (family_below n b)) where
  same-round : n.state.round ≡ (top (family_below n b)).state.round
  same-round = ap (λ (z : BoardNode O). z.state.round) (sym (top-below n b))

  module _ (played : HasPlayed tree t n.state.round (family_below n b) (family_below n' b') before mid) where
    its : After tree t (family_below n b) (family_below n' b') played.events
    its = after tree t laws (family_below n b) (family_below n' b') n.state.round plain same-round played.plays

    pub work-plain : IsInPlain tree t (family_below n' b')
    work-plain = its.plain

    pub work-seeks : IsSome n.state.held → n'.state.answer ≡ None → IsSeeking n'.state
    work-seeks holds none =
        let same : n'.state.held ≡ n.state.held = ap (λ (z : BoardNode O). z.state.held) (sym (top-below n' b')) ∙ (its.held ∙ ap (λ (z : BoardNode O). z.state.held) (top-below n b)) in
        (ap (λ (o : Option (Task O)). is_some o) same ∙ holds, none)

    pub work-name : n'.state.name ≡ n.state.name
    work-name = ap (λ (z : BoardNode O). z.state.name) (sym (top-below n' b')) ∙ (its.name ∙ ap (λ (z : BoardNode O). z.state.name) (top-below n b))

    work-round : n'.state.round ≡ n.state.round
    work-round = ap (λ (z : BoardNode O). z.state.round) (sym (top-below n' b')) ∙ (its.round ∙ ap (λ (z : BoardNode O). z.state.round) (top-below n b))

    pub work-goes : (moved : Bool) → DidPlay tree t n'.state.round moved (family_below n' b') (family_below n'' b'') mid after_it → HasPlayed tree t n.state.round (family_below n b) (family_below n'' b'') before after_it
    work-goes moved did =
        plays-on played.plays (subst (λ (r : ℕ). Plays tree t r (family_below n' b') mid did.events (family_below n'' b'') after_it) work-round did.plays)

    -- each pass of the loop leaves less to be done
    pub work-smaller : (moved : Bool) → moved ≡ true → DidPlay tree t n'.state.round moved (family_below n' b') (family_below n'' b'') mid after_it → effort 1 t (sites_at t n''.state.name) (family_below n'' b'') < effort 1 t (sites_at t n'.state.name) (family_below n' b')
    work-smaller moved e did =
        let now = after tree t laws (family_below n' b') (family_below n'' b'') n'.state.round its.plain (ap (λ (z : BoardNode O). z.state.round) (sym (top-below n' b'))) did.plays in
        let less : effort 1 t (sites_at t n''.state.name) (family_below n'' b'') + did.events ≤ effort 1 t (sites_at t n'.state.name) (family_below n' b') =
        subst (λ (z : BoardNode O). effort 1 t (sites_at t n''.state.name) (family_below n'' b'') + did.events ≤ effort 1 t (sites_at t z.state.name) (family_below n' b')) (top-below n' b')
        (subst (λ (z : BoardNode O). effort 1 t (sites_at t z.state.name) (family_below n'' b'') + did.events ≤ effort 1 t (sites_at t (top (family_below n' b')).state.name) (family_below n' b')) (top-below n'' b'') now.less)
        in
        omega (arith, less, did.some e)
