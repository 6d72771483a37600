use Rattle.std.proofs.Common.{◌≡◌, ◌∙◌, ℕ, zero, suc, ◌+◌, ◌<◌, true, Some, None, List, [], ◌∷◌, ◌++◌, All, length, slice_get, slice_set, sym, ap, refl, subst, arith}
use Rattle.std.proofs.lemmas.List.{length-append, append_assoc}
use Rattle.std.proofs.lemmas.List.Elements.{All-push}
use Rattle.nego_laws.specs.Tree.{Tree, Laws, left_of, right_of}
use Rattle.nego_node.specs.Machine.{State, after}
use Rattle.nego_node.specs.Moves.{Did}
use Rattle.nego_node.specs.declared.events.Event.{Event}
use Rattle.nego_node.specs.Lawful.{MaySplit}
use Rattle.nego_node.specs.NodeValue.{NodeValue}
use Rattle.nego_node.specs.Board.{BoardNode, opened, with_event}
use Rattle.nego_node.specs.declared.tasks.Side.{Side}
use Rattle.nego_node.specs.declared.tasks.Side.TheVariants.{Left, Right}
use Rattle.nego_node.specs.declared.events.Event.TheVariants.{Split}
use Rattle.nego_node.specs.declared.moves.Move.TheVariants as moves
use Rattle.nego_node.specs.declared.acts.Act.TheVariants.{Make}
use Rattle.nego_node.proofs.Sides.{same-some}
use Rattle.nego_core.specs.Bare.{bare_node, bare}
use Rattle.nego_core.specs.Plays.{Plays, Acted, Stepped, Opens}
use Rattle.nego_core.specs.declared.links.Link.{Link}
use Rattle.nego_core.proofs.Places.{set-length}
use Rattle.nego_core.proofs.Playing.{split-happens, play-split}
use Rattle.nego_core.proofs.Reading.{bare-length}
use Rattle.nego_core.proofs.Acting.{here-bare, with-event, sites-after}

-- what a split makes of a node
pub split-of : {O : Type 0} (tree : O → Tree O) (t : Tree O) (s s' : State O) (h h' : List (Event O)) → Did tree t moves.Split s s' h h' → (s' ≡ after t s Split) × (h' ≡ h ++ Split ∷ [])
split-of {O} tree t s s' h h' did =
    (did.state ∙ ap (λ (e : Event O). after t s e) did.is_of, did.history ∙ ap (λ (e : Event O). h ++ e ∷ []) did.is_of)

bare-append : {S O : Type 0} (xs ys : List (NodeValue S O)) → bare (xs ++ ys) ≡ bare xs ++ bare ys
bare-append [] ys = refl
bare-append (x ∷ xs) ys = ap (λ (l : List _). bare_node x ∷ l) (bare-append xs ys)

set-front : {A : Type 0} (xs ys : List A) (i : ℕ) (x : A) → i < length xs → slice_set (xs ++ ys) i x ≡ slice_set xs i x ++ ys
set-front [] ys i x l = absurd (let k : i < 0 = l in omega arith)
set-front (z ∷ xs) ys zero x l = refl
set-front (z ∷ xs) ys (suc i) x l = ap (λ (q : List _). z ∷ q) (set-front xs ys i x (let k : suc i < suc (length xs) = l in omega arith))

module _ {S O : Type 0} (tree : O → Tree O) (t : Tree O) (laws : Laws t (λ s. tree s ≡ t)) (around : S → Tree O) (round : ℕ) (nodes : List (NodeValue S O)) (links : List Link) (plays : Plays tree t around round nodes links) (at : ℕ) (v : NodeValue S O) (is : slice_get nodes at ≡ Some v) (link : Link) (on : slice_get links at ≡ Some link) where
  abbrev pub linked_part_at : Side → Link
  linked_part_at side = record { parent = at; side = side; parts = None }

  pub split-stepped : (v' : NodeValue S O) (left right : S) (b c p q : ℕ) (nodes₁ nodes₂ nodes₃ : List (NodeValue S O)) (links' : List Link) → MaySplit t v.state → v'.site ≡ v.site → v'.state ≡ after t v.state Split → v'.history ≡ v.history ++ Split ∷ [] → nodes₁ ≡ slice_set nodes at v' → around left ≡ t → around right ≡ t → b ≡ left_of v.state.name → c ≡ right_of v.state.name → p ≡ length nodes₁ → Opens round left b nodes₁ nodes₂ → q ≡ length nodes₂ → Opens round right c nodes₂ nodes₃ → at < length links → links' ≡ slice_set ((links ++ linked_part_at Left ∷ []) ++ linked_part_at Right ∷ []) at (record { parent = link.parent; side = link.side; parts = Some (p, q) }) → Stepped tree t around round at (Make moves.Split) nodes nodes₃ links' true
  split-stepped v' left right b c p q nodes₁ nodes₂ nodes₃ links' lawful site state history is₁ of_left of_right name_left name_right first opens second opens' within is_links =
      let n : BoardNode O = bare_node v in
      let set : List (NodeValue S O) = slice_set nodes at v' in
      let x : NodeValue S O = opens.node in
      let y : NodeValue S O = opens'.node in
      let all : nodes₃ ≡ set ++ x ∷ y ∷ [] =
      opens'.becomes ∙ (ap (λ (l : List (NodeValue S O)). l ++ y ∷ []) (opens.becomes ∙ ap (λ (l : List (NodeValue S O)). l ++ x ∷ []) is₁) ∙ append_assoc set (x ∷ []) (y ∷ []))
      in
      let new_left : bare_node x ≡ opened round (left_of v.state.name) = opens.is_new ∙ ap (λ (k : ℕ). opened round k) name_left in
      let new_right : bare_node y ≡ opened round (right_of v.state.name) = opens'.is_new ∙ ap (λ (k : ℕ). opened round k) name_right in
      let here : bare set ≡ slice_set (bare nodes) at (with_event t Split n) = with-event tree t laws around round nodes links plays at v is v' Split state history in
      let becomes : bare nodes₃ ≡ slice_set (bare nodes) at (with_event t Split n) ++ opened round (left_of v.state.name) ∷ opened round (right_of v.state.name) ∷ [] =
      ap bare all
      ∙ (bare-append set (x ∷ y ∷ [])
      ∙ (ap (λ (l : List (BoardNode O)). l ++ bare_node x ∷ bare_node y ∷ []) here
      ∙ (ap (λ (k : BoardNode O). slice_set (bare nodes) at (with_event t Split n) ++ k ∷ bare_node y ∷ []) new_left
      ∙ ap (λ (k : BoardNode O). slice_set (bare nodes) at (with_event t Split n) ++ opened round (left_of v.state.name) ∷ k ∷ []) new_right)))
      in
      let long : length nodes₁ ≡ length (bare nodes) = ap length is₁ ∙ (set-length nodes at v' ∙ sym (bare-length nodes)) in
      let p_is : p ≡ length (bare nodes) = first ∙ long in
      let q_is : q ≡ length (bare nodes) + 1 = second ∙ (ap length opens.becomes ∙ (length-append nodes₁ (x ∷ []) ∙ ap (λ (k : ℕ). k + 1) long)) in
      let marked : Link = record { parent = link.parent; side = link.side; parts = Some (p, q) } in
      let linked : links' ≡ slice_set links at (record link { parts = Some (length (bare nodes), length (bare nodes) + 1) }) ++ linked_part_at Left ∷ linked_part_at Right ∷ [] =
      is_links
      ∙ (ap (λ (l : List Link). slice_set l at marked) (append_assoc links (linked_part_at Left ∷ []) (linked_part_at Right ∷ []))
      ∙ (set-front links (linked_part_at Left ∷ linked_part_at Right ∷ []) at marked within
      ∙ (ap (λ (k : ℕ). let l : Link = record { parent = link.parent; side = link.side; parts = Some (k, q) } in slice_set links at l ++ linked_part_at Left ∷ linked_part_at Right ∷ []) p_is
      ∙ ap (λ (k : ℕ). let l : Link = record { parent = link.parent; side = link.side; parts = Some (length (bare nodes), k) } in slice_set links at l ++ linked_part_at Left ∷ linked_part_at Right ∷ []) q_is)))
      in
      let found : slice_get (bare nodes) at ≡ Some n = here-bare tree t laws around round nodes links plays at v is in
      record {
        plays =
            record {
              play = play-split tree t laws round (bare nodes) links plays.play at n found lawful link on (bare nodes₃) links' becomes linked;
              sites =
                  subst (λ (l : List (NodeValue S O)). All (λ z. around z.site ≡ t) l) (sym (opens'.becomes ∙ ap (λ (l : List (NodeValue S O)). l ++ y ∷ []) (opens.becomes ∙ ap (λ (l : List (NodeValue S O)). l ++ x ∷ []) is₁)))
                  (All-push (λ z. around z.site ≡ t) (set ++ x ∷ []) y
                  (All-push (λ z. around z.site ≡ t) set x (sites-after tree t laws around round nodes links plays at v is v' site) (ap around opens.of_site ∙ of_left)) (ap around opens'.of_site ∙ of_right));
            };
        acted = λ m found'.
            subst (λ (z : BoardNode O). Acted tree t round (Make moves.Split) (bare nodes) (bare nodes₃) z true) (same-some found found')
            (Split, refl, split-happens tree t laws round (bare nodes) links plays.play at n found lawful link on (bare nodes₃) becomes);
      }
