use Rattle.std.proofs.Common.{◌≡◌, ◌∙◌, ℕ, zero, suc, ◌+◌, ◌<◌, inl, inr, Some, None, List, [], ◌∷◌, ◌++◌, length, slice_get, slice_set, sym, ap, refl, subst, arith}
use Rattle.std.proofs.lemmas.Bool.{cases_eq, eq-eqb, ne_eqb}
use Rattle.std.proofs.lemmas.List.{append-nil, length-append}
use Rattle.std.proofs.lemmas.Option.{slice_get_within}
use Rattle.nego_laws.specs.Tree.{Tree, Laws, left_of, right_of}
use Rattle.nego_node.specs.Machine.{part_of}
use Rattle.nego_node.specs.Lawful.{Lawful}
use Rattle.nego_node.specs.Board.{BoardNode, node_named, opened, with_event, changed, opens, Comes, Happens}
use Rattle.nego_node.specs.BoardSound.{AreDistinct}
use Rattle.nego_node.specs.declared.tasks.Side.{Side}
use Rattle.nego_node.specs.declared.tasks.Side.TheVariants.{Left, Right}
use Rattle.nego_node.specs.declared.events.Event.{Event}
use Rattle.nego_node.specs.declared.events.Event.TheVariants.{Received, Tried, Split, Asked, Posted, Adopted, Agreed, Forbidden, Refused, Exhausted}
use Rattle.nego_node.proofs.Sides.{none-some, same-some}
use Rattle.nego_node.proofs.Kept.{after-name}
use Rattle.nego_node.proofs.BoardLookups.{here, further}
use Rattle.nego_node.proofs.BoardParts.{split-after}
use Rattle.nego_node.proofs.Boards.{happens-board}
use Rattle.nego_core.specs.Links.{place_of, StandsAt, LinkFits, AreLinked, IsPlay}
use Rattle.nego_core.specs.declared.links.Link.{Link}
use Rattle.nego_core.proofs.Places.{get-set-here, get-set-away, set-length, get-front, get-behind, get-either}

module _ {O : Type 0} where
  -- the node at a place is the one of its name
  pub named-at : (ns : List (BoardNode O)) (i : ℕ) (n : BoardNode O) → AreDistinct ns → slice_get ns i ≡ Some n → node_named ns n.state.name ≡ Some n
  named-at [] i n d e = absurd (none-some refl e)
  named-at (m ∷ ns) zero n d e = here m ns n.state.name (ap (λ (x : BoardNode O). x.state.name) (same-some refl e)) ∙ e
  named-at (m ∷ ns) (suc i) n d e =
      let there : node_named ns n.state.name ≡ Some n = named-at ns i n d.1 e in
      further m ns n.state.name (λ h. none-some d.0 (ap (λ (b : ℕ). node_named ns b) h ∙ there)) ∙ there

  -- an event at the node of a place
  pub changed-at : (t : Tree O) (e : Event O) (ns : List (BoardNode O)) (i : ℕ) (n : BoardNode O) → AreDistinct ns → slice_get ns i ≡ Some n → changed t ns n.state.name e ≡ slice_set ns i (with_event t e n)
  changed-at t e [] i n d at = absurd (none-some refl at)
  changed-at t e (m ∷ ns) zero n d at =
      let same : m ≡ n = same-some refl at in
      subst (λ (x : BoardNode O). changed t (m ∷ ns) x.state.name e ≡ with_event t e x ∷ ns) same (changed-first m)
    where
      changed-first : (m : BoardNode O) → changed t (m ∷ ns) m.state.name e ≡ with_event t e m ∷ ns
      changed-first m = rw (eq-eqb m.state.name m.state.name refl) refl
  changed-at t e (m ∷ ns) (suc i) n d at =
      let there : node_named ns n.state.name ≡ Some n = named-at ns i n d.1 at in
      let ne : m.state.name ≡ n.state.name → ⊥ = λ h. none-some d.0 (ap (λ (b : ℕ). node_named ns b) h ∙ there) in
      changed-rest ne ∙ ap (λ (l : List (BoardNode O)). m ∷ l) (changed-at t e ns i n d.1 at)
    where
      changed-rest : (m.state.name ≡ n.state.name → ⊥) → changed t (m ∷ ns) n.state.name e ≡ m ∷ changed t ns n.state.name e
      changed-rest ne = rw (ne_eqb m.state.name n.state.name ne) refl

  -- only Split opens nodes
  pub opens-none : (round b : ℕ) (e : Event O) → (e ≡ Split → ⊥) → opens round b e ≡ []
  opens-none round b (Received task) ne = refl
  opens-none round b (Tried item outcome) ne = refl
  opens-none round b Split ne = absurd (ne refl)
  opens-none round b (Asked side task) ne = refl
  opens-none round b (Posted side a) ne = refl
  opens-none round b (Adopted side g x) ne = refl
  opens-none round b (Agreed side g x) ne = refl
  opens-none round b (Forbidden side g x) ne = refl
  opens-none round b (Refused side g) ne = refl
  opens-none round b Exhausted ne = refl

  -- Of two boards the second has at each place a node of the same name, and at each place of the first one that has split where that one has.
  pub record IsAlike (ns ns' : List (BoardNode O)) : Type 0 where
    pub back : (i : ℕ) (m : BoardNode O) → slice_get ns' i ≡ Some m → (n : BoardNode O) × (slice_get ns i ≡ Some n) × (m.state.name ≡ n.state.name) × (m.state.has_split ≡ n.state.has_split)
    pub forth : (i : ℕ) (n : BoardNode O) → slice_get ns i ≡ Some n → StandsAt ns' i n.state.name

  stands-alike : (ns ns' : List (BoardNode O)) → ((i : ℕ) (n : BoardNode O) → slice_get ns i ≡ Some n → StandsAt ns' i n.state.name) → (i b : ℕ) → StandsAt ns i b → StandsAt ns' i b
  stands-alike ns ns' forth i b w = let v = forth i w.0 w.1 in (v.0, v.1, v.2 ∙ w.2)

  fits-alike : (ns ns' : List (BoardNode O)) → ((i : ℕ) (n : BoardNode O) → slice_get ns i ≡ Some n → StandsAt ns' i n.state.name) → (i : ℕ) (l : Link) (n m : BoardNode O) → m.state.name ≡ n.state.name → m.state.has_split ≡ n.state.has_split → LinkFits ns i l n → LinkFits ns' i l m
  fits-alike ns ns' forth i l n m name split fits =
      record {
        up =
            elim fits.up [
              | inl root ↦ inl root
              | inr w ↦ let v = forth l.parent w.0 w.1 in inr (v.0, v.1, ap (λ (b : ℕ). part_of b l.side) v.2 ∙ (w.2 ∙ sym name))
            ];
        down = λ p is side. subst (λ (b : ℕ). StandsAt ns' (place_of p side) (part_of b side)) (sym name) (stands-alike ns ns' forth (place_of p side) (part_of n.state.name side) (fits.down p is side));
        unsplit = λ none. split ∙ fits.unsplit none;
      }

  linked-alike : (ns ns' : List (BoardNode O)) (ls : List Link) → length ns' ≡ length ns → IsAlike ns ns' → AreLinked ns ls → AreLinked ns' ls
  linked-alike ns ns' ls same alike linked =
      record {
        as_many = linked.as_many ∙ sym same;
        fit = λ i l m is at. let w = alike.back i m at in fits-alike ns ns' alike.forth i l w.0 m w.2 w.3 (linked.fit i l w.0 is w.1);
      }

  -- a node in place of one of the same name
  pub set-forth : (ns : List (BoardNode O)) (j : ℕ) (n m : BoardNode O) → slice_get ns j ≡ Some n → m.state.name ≡ n.state.name → (i : ℕ) (k : BoardNode O) → slice_get ns i ≡ Some k → StandsAt (slice_set ns j m) i k.state.name
  set-forth ns j n m at name i k is =
      elim (cases_eq i j) [
        | inl same ↦
            let one : n ≡ k = same-some at (ap (λ (x : ℕ). slice_get ns x) (sym same) ∙ is) in
            (m, ap (λ (x : ℕ). slice_get (slice_set ns j m) x) same ∙ get-set-here ns j m n at, name ∙ ap (λ (x : BoardNode O). x.state.name) one)
        | inr away ↦ (k, get-set-away ns j i m away ∙ is, refl)
      ]

  set-alike : (ns : List (BoardNode O)) (j : ℕ) (n m : BoardNode O) → slice_get ns j ≡ Some n → m.state.name ≡ n.state.name → m.state.has_split ≡ n.state.has_split → IsAlike ns (slice_set ns j m)
  set-alike ns j n m at name split =
      record {
        back = λ i k is.
            elim (cases_eq i j) [
              | inl same ↦
                  let one : m ≡ k = same-some (get-set-here ns j m n at) (ap (λ (x : ℕ). slice_get (slice_set ns j m) x) (sym same) ∙ is) in
                  (n, ap (λ (x : ℕ). slice_get ns x) same ∙ at, ap (λ (x : BoardNode O). x.state.name) (sym one) ∙ name, ap (λ (x : BoardNode O). x.state.has_split) (sym one) ∙ split)
              | inr away ↦ (k, sym (get-set-away ns j i m away) ∙ is, refl, refl)
            ];
        forth = set-forth ns j n m at name;
      }

module _ {O : Type 0} (tree : O → Tree O) (t : Tree O) (laws : Laws t (λ s. tree s ≡ t)) (round : ℕ) (ns : List (BoardNode O)) (ls : List Link) (play : IsPlay tree t round ns ls) (at : ℕ) (n : BoardNode O) (is : slice_get ns at ≡ Some n) where
  -- the node at the place, by its name
  pub by-name : node_named ns n.state.name ≡ Some n
  by-name = named-at ns at n play.board.distinct is

  module _ (e : Event O) (comes : Comes t round ns n.state.name e) (lawful : Lawful tree t n.state e) where
    -- an event other than Split changes the node at its place and nothing else
    pub happens-at : (ns' : List (BoardNode O)) → (e ≡ Split → ⊥) → ns' ≡ slice_set ns at (with_event t e n) → Happens tree t round ns n.state.name e ns'
    happens-at ns' ne becomes =
        record {
          node = n;
          is_node = by-name;
          comes = comes;
          lawful = lawful;
          becomes =
              becomes
              ∙ (sym (changed-at t e ns at n play.board.distinct is)
              ∙ (sym (append-nil (changed t ns n.state.name e)) ∙ ap (λ (l : List (BoardNode O)). changed t ns n.state.name e ++ l) (sym (opens-none round n.state.name e ne))));
        }

    pub play-after : (ns' : List (BoardNode O)) → (e ≡ Split → ⊥) → ns' ≡ slice_set ns at (with_event t e n) → IsPlay tree t round ns' ls
    play-after ns' ne becomes =
        let name : (with_event t e n).state.name ≡ n.state.name = after-name t n.state e in
        let split : (with_event t e n).state.has_split ≡ n.state.has_split = elim (split-after t n.state e) [ inl now ↦ absurd (ne now) | inr same ↦ same ] in
        let later : List (BoardNode O) = slice_set ns at (with_event t e n) in
        record {
          board = happens-board tree t laws round ns n.state.name e ns' play.board (happens-at ns' ne becomes);
          starts =
              subst (λ (l : List (BoardNode O)). StandsAt l 0 1) (sym becomes)
              (stands-alike ns later (set-forth ns at n (with_event t e n) is name) 0 1 play.starts);
          linked =
              subst (λ (l : List (BoardNode O)). AreLinked l ls) (sym becomes)
              (linked-alike ns later ls (set-length ns at (with_event t e n)) (set-alike ns at n (with_event t e n) is name split) play.linked);
        }

  -- Split also opens both parts, behind the others
  module _ (lawful : Lawful tree t n.state Split) (link : Link) (is_link : slice_get ls at ≡ Some link) where
    abbrev later : List (BoardNode O)
    later = slice_set ns at (with_event t Split n) ++ opened round (left_of n.state.name) ∷ opened round (right_of n.state.name) ∷ []

    abbrev pub linked_part : Side → Link
    linked_part side = record { parent = at; side = side; parts = None }

    abbrev pub links_after : List Link
    links_after = slice_set ls at (record link { parts = Some (length ns, length ns + 1) }) ++ linked_part Left ∷ linked_part Right ∷ []

    pub split-happens : (ns' : List (BoardNode O)) → ns' ≡ later → Happens tree t round ns n.state.name Split ns'
    split-happens ns' becomes =
        record {
          node = n;
          is_node = by-name;
          comes = tt;
          lawful = lawful;
          becomes = becomes ∙ ap (λ (l : List (BoardNode O)). l ++ opens round n.state.name Split) (sym (changed-at t Split ns at n play.board.distinct is));
        }

    abbrev changed_ns : List (BoardNode O)
    changed_ns = slice_set ns at (with_event t Split n)

    forth-later : (i : ℕ) (k : BoardNode O) → slice_get ns i ≡ Some k → StandsAt later i k.state.name
    forth-later i k found =
        let w = set-forth ns at n (with_event t Split n) is refl i k found in
        (w.0, get-front (slice_set ns at (with_event t Split n)) _ i w.0 w.1, w.2)

    new-part : (side : Side) → StandsAt later (place_of (length ns, length ns + 1) side) (part_of n.state.name side)
    new-part Left = (
      opened round (left_of n.state.name),
      ap (λ (i : ℕ). slice_get later i) (let q : length (slice_set ns at (with_event t Split n)) ≡ length ns = set-length ns at (with_event t Split n) in
          let k : length ns ≡ length (slice_set ns at (with_event t Split n)) + 0 = omega arith in k)
          ∙ get-behind (slice_set ns at (with_event t Split n)) (opened round (left_of n.state.name) ∷ opened round (right_of n.state.name) ∷ []) 0,
      refl,
    )
    new-part Right = (
      opened round (right_of n.state.name),
      ap (λ (i : ℕ). slice_get later i) (let q : length (slice_set ns at (with_event t Split n)) ≡ length ns = set-length ns at (with_event t Split n) in
          let k : length ns + 1 ≡ length (slice_set ns at (with_event t Split n)) + 1 = omega arith in k)
          ∙ get-behind (slice_set ns at (with_event t Split n)) (opened round (left_of n.state.name) ∷ opened round (right_of n.state.name) ∷ []) 1,
      refl,
    )

    abbrev old_links : List Link
    old_links = slice_set ls at (record link { parts = Some (length ns, length ns + 1) })

    same-length : length changed_ns ≡ length old_links
    same-length = set-length ns at (with_event t Split n) ∙ (sym play.linked.as_many ∙ sym (set-length ls at (record link { parts = Some (length ns, length ns + 1) })))

    -- the nodes that were there
    fits-before : (i : ℕ) (l : Link) (m : BoardNode O) → slice_get old_links i ≡ Some l → slice_get changed_ns i ≡ Some m → LinkFits later i l m
    fits-before i l m on there =
        elim (cases_eq i at) [
          | inl same ↦
              let one : with_event t Split n ≡ m = same-some (get-set-here ns at (with_event t Split n) n is) (ap (λ (x : ℕ). slice_get changed_ns x) (sym same) ∙ there) in
              let its : record link { parts = Some (length ns, length ns + 1) } ≡ l = same-some (get-set-here ls at (record link { parts = Some (length ns, length ns + 1) }) link is_link) (ap (λ (x : ℕ). slice_get old_links x) (sym same) ∙ on) in
              let old = play.linked.fit at link n is_link is in
              subst (λ (x : BoardNode O). LinkFits later i l x) one
              (subst (λ (x : Link). LinkFits later i x (with_event t Split n)) its
              (record {
                up =
                    elim old.up [
                      | inl root ↦ inl (same ∙ root)
                      | inr w ↦ let v = forth-later link.parent w.0 w.1 in inr (v.0, v.1, ap (λ (b : ℕ). part_of b link.side) v.2 ∙ w.2)
                    ];
                down = λ p e side. subst (λ (q : ℕ × ℕ). StandsAt later (place_of q side) (part_of n.state.name side)) (same-some refl e) (new-part side);
                unsplit = λ none. absurd (none-some none refl);
              }))
          | inr away ↦
              let there_before : slice_get ns i ≡ Some m = sym (get-set-away ns at i (with_event t Split n) away) ∙ there in
              let on_before : slice_get ls i ≡ Some l = sym (get-set-away ls at i (record link { parts = Some (length ns, length ns + 1) }) away) ∙ on in
              fits-alike ns later forth-later i l m m refl refl (play.linked.fit i l m on_before there_before)
        ]

    fits-new : (side : Side) (i : ℕ) → LinkFits later i (linked_part side) (opened round (part_of n.state.name side))
    fits-new side i =
        let v = forth-later at n is in
        record {
          up = inr (v.0, v.1, ap (λ (b : ℕ). part_of b side) v.2);
          down = λ p e. absurd (none-some refl e);
          unsplit = λ none. refl;
        }

    fits-behind : (k i : ℕ) (l : Link) (m : BoardNode O) → slice_get (linked_part Left ∷ linked_part Right ∷ []) k ≡ Some l → slice_get (opened round (left_of n.state.name) ∷ opened round (right_of n.state.name) ∷ []) k ≡ Some m → LinkFits later i l m
    fits-behind zero i l m on there =
        subst (λ (x : Link). LinkFits later i x m) (same-some refl on) (subst (λ (x : BoardNode O). LinkFits later i (linked_part Left) x) (same-some refl there) (fits-new Left i))
    fits-behind (suc zero) i l m on there =
        subst (λ (x : Link). LinkFits later i x m) (same-some refl on) (subst (λ (x : BoardNode O). LinkFits later i (linked_part Right) x) (same-some refl there) (fits-new Right i))
    fits-behind (suc (suc k)) i l m on there = absurd (none-some refl on)

    fits-later : (i : ℕ) (l : Link) (m : BoardNode O) → slice_get links_after i ≡ Some l → slice_get later i ≡ Some m → LinkFits later i l m
    fits-later i l m on there =
        let new_links : List Link = linked_part Left ∷ linked_part Right ∷ [] in
        let new_nodes : List (BoardNode O) = opened round (left_of n.state.name) ∷ opened round (right_of n.state.name) ∷ [] in
        elim (get-either changed_ns new_nodes i m there) [
          | inl there_before ↦
              elim (get-either old_links new_links i l on) [
                | inl on_before ↦ fits-before i l m on_before there_before
                | inr w ↦
                    let within : i < length changed_ns = slice_get_within changed_ns i m there_before in
                    let far : i ≡ length old_links + w.0 = w.1 in
                    let eq : length changed_ns ≡ length old_links = same-length in
                    absurd (omega arith)
              ]
          | inr v ↦
              let where_it_is : i ≡ length old_links + v.0 = v.1 ∙ ap (λ (x : ℕ). x + v.0) same-length in
              fits-behind v.0 i l m (sym (get-behind old_links new_links v.0) ∙ (ap (λ (x : ℕ). slice_get links_after x) (sym where_it_is) ∙ on)) v.2
        ]

    pub play-split : (ns' : List (BoardNode O)) (ls' : List Link) → ns' ≡ later → ls' ≡ links_after → IsPlay tree t round ns' ls'
    play-split ns' ls' becomes on =
        record {
          board = happens-board tree t laws round ns n.state.name Split ns' play.board (split-happens ns' becomes);
          starts = subst (λ (x : List (BoardNode O)). StandsAt x 0 1) (sym becomes) (stands-alike ns later forth-later 0 1 play.starts);
          linked =
              subst (λ (x : List (BoardNode O)). AreLinked x ls') (sym becomes)
              (subst (λ (x : List Link). AreLinked later x) (sym on)
              (record {
                as_many =
                    length-append old_links (linked_part Left ∷ linked_part Right ∷ [])
                    ∙ (ap (λ (x : ℕ). x + 2) (sym same-length) ∙ sym (length-append changed_ns (opened round (left_of n.state.name) ∷ opened round (right_of n.state.name) ∷ [])));
                fit = fits-later;
              }));
        }
