use Rattle.std.proofs.Common.{◌≡◌, ◌∙◌, ℕ, Some, None, List, [], ◌∷◌, ◌++◌, sym, ap, refl, subst}
use Rattle.std.proofs.lemmas.Bool.{eq-eqb, ne_eqb, cases_eq}
use Rattle.std.proofs.Common.{◌⊎◌, inl, inr}
use Rattle.nego_laws.specs.Tree.{Tree, left_of, right_of}
use Rattle.nego_node.specs.Machine.{part_of}
use Rattle.nego_node.specs.Board.{BoardNode, node_named, opened, with_event, changed, opens, done}
use Rattle.nego_node.specs.BoardSound.{AreDistinct}
use Rattle.nego_node.specs.declared.tasks.Side.{Side}
use Rattle.nego_node.specs.declared.tasks.Side.TheVariants.{Left, Right}
use Rattle.nego_node.specs.declared.events.Event.{Event}
use Rattle.nego_node.specs.declared.events.Event.TheVariants.{Received, Tried, Split, Asked, Posted, Adopted, Agreed, Forbidden, Refused, Exhausted}
use Rattle.nego_node.proofs.Sides.{none-some, same-some}
use Rattle.nego_node.proofs.Kept.{after-name}
use Rattle.nego_node.proofs.BoardNames.{same-part}

-- the name of the first node
module _ {O : Type 0} where
  pub here : (n : BoardNode O) (ns : List (BoardNode O)) (b : ℕ) → n.state.name ≡ b → node_named (n ∷ ns) b ≡ Some n
  here n ns b e = rw (eq-eqb n.state.name b e) refl

  pub further : (n : BoardNode O) (ns : List (BoardNode O)) (b : ℕ) → (n.state.name ≡ b → ⊥) → node_named (n ∷ ns) b ≡ node_named ns b
  further n ns b e = rw (ne_eqb n.state.name b e) refl

  -- a lookup finds the first node or one further on
  pub found-in : (n : BoardNode O) (ns : List (BoardNode O)) (b : ℕ) (m : BoardNode O) → node_named (n ∷ ns) b ≡ Some m → ((n.state.name ≡ b) × (n ≡ m)) ⊎ ((n.state.name ≡ b → ⊥) × (node_named ns b ≡ Some m))
  found-in n ns b m e =
      elim (cases_eq n.state.name b) [
        | inl same ↦ inl (same, same-some (here n ns b same) e)
        | inr away ↦ inr (away, sym (further n ns b away) ∙ e)
      ]

  -- what is found has the name
  pub found-name : (ns : List (BoardNode O)) (b : ℕ) (m : BoardNode O) → node_named ns b ≡ Some m → m.state.name ≡ b
  found-name [] b m e = absurd (none-some refl e)
  found-name (n ∷ ns) b m e =
      elim (found-in n ns b m e) [
        | inl at ↦ ap (λ (x : BoardNode O). x.state.name) (sym at.1) ∙ at.0
        | inr on ↦ found-name ns b m on.1
      ]

  -- a lookup in two lists is one in the first, and where it finds nothing one in the second
  pub in-first : (ns ms : List (BoardNode O)) (b : ℕ) (m : BoardNode O) → node_named ns b ≡ Some m → node_named (ns ++ ms) b ≡ Some m
  in-first [] ms b m e = absurd (none-some refl e)
  in-first (n ∷ ns) ms b m e =
      elim (found-in n ns b m e) [
        | inl at ↦ here n (ns ++ ms) b at.0 ∙ ap Some at.1
        | inr on ↦ further n (ns ++ ms) b on.0 ∙ in-first ns ms b m on.1
      ]

  pub in-second : (ns ms : List (BoardNode O)) (b : ℕ) → node_named ns b ≡ None → node_named (ns ++ ms) b ≡ node_named ms b
  in-second [] ms b e = refl
  in-second (n ∷ ns) ms b e =
      elim (cases_eq n.state.name b) [
        | inl same ↦ absurd (none-some e (here n ns b same))
        | inr away ↦ further n (ns ++ ms) b away ∙ in-second ns ms b (sym (further n ns b away) ∙ e)
      ]

  pub lookup : (ns : List (BoardNode O)) (b : ℕ) → (node_named ns b ≡ None) ⊎ ((m : BoardNode O) × (node_named ns b ≡ Some m))
  lookup [] b = inl refl
  lookup (n ∷ ns) b =
      elim (cases_eq n.state.name b) [
        | inl same ↦ inr (n, here n ns b same)
        | inr away ↦ elim (lookup ns b) [ inl none ↦ inl (further n ns b away ∙ none) | inr w ↦ inr (w.0, further n ns b away ∙ w.1) ]
      ]

  pub in-either : (ns ms : List (BoardNode O)) (b : ℕ) (m : BoardNode O) → node_named (ns ++ ms) b ≡ Some m → (node_named ns b ≡ Some m) ⊎ ((node_named ns b ≡ None) × (node_named ms b ≡ Some m))
  in-either ns ms b m e =
      elim (lookup ns b) [
        | inl none ↦ inr (none, sym (in-second ns ms b none) ∙ e)
        | inr w ↦ inl (w.1 ∙ ap Some (same-some (in-first ns ms b w.0 w.1) e))
      ]

-- the board after an event at a node
module _ {O : Type 0} (t : Tree O) (e : Event O) where
  same-name : (n : BoardNode O) → (with_event t e n).state.name ≡ n.state.name
  same-name n = after-name t n.state e

  at-first : (n : BoardNode O) (ns : List (BoardNode O)) (b : ℕ) → n.state.name ≡ b → changed t (n ∷ ns) b e ≡ with_event t e n ∷ ns
  at-first n ns b same = rw (eq-eqb n.state.name b same) refl

  at-rest : (n : BoardNode O) (ns : List (BoardNode O)) (b : ℕ) → (n.state.name ≡ b → ⊥) → changed t (n ∷ ns) b e ≡ n ∷ changed t ns b e
  at-rest n ns b away = rw (ne_eqb n.state.name b away) refl

  -- the node of the name has the event
  pub changed-here : (ns : List (BoardNode O)) (b : ℕ) (n : BoardNode O) → node_named ns b ≡ Some n → node_named (changed t ns b e) b ≡ Some (with_event t e n)
  changed-here [] b n is = absurd (none-some refl is)
  changed-here (m ∷ ns) b n is =
      elim (found-in m ns b n is) [
        | inl at ↦
            ap (λ (x : List (BoardNode O)). node_named x b) (at-first m ns b at.0)
            ∙ (here (with_event t e m) ns b (same-name m ∙ at.0) ∙ ap (λ (x : BoardNode O). Some (with_event t e x)) at.1)
        | inr on ↦
            ap (λ (x : List (BoardNode O)). node_named x b) (at-rest m ns b on.0)
            ∙ (further m (changed t ns b e) b on.0 ∙ changed-here ns b n on.1)
      ]

  -- all others are as they were
  pub changed-else : (ns : List (BoardNode O)) (b x : ℕ) → (x ≡ b → ⊥) → node_named (changed t ns b e) x ≡ node_named ns x
  changed-else [] b x ne = refl
  changed-else (m ∷ ns) b x ne =
      elim (cases_eq m.state.name b) [
        | inl same ↦
            let none_there : m.state.name ≡ x → ⊥ = λ h. ne (sym h ∙ same) in
            ap (λ (y : List (BoardNode O)). node_named y x) (at-first m ns b same)
            ∙ (further (with_event t e m) ns x (λ h. none_there (sym (same-name m) ∙ h)) ∙ sym (further m ns x none_there))
        | inr away ↦
            ap (λ (y : List (BoardNode O)). node_named y x) (at-rest m ns b away)
            ∙ elim (cases_eq m.state.name x) as (λ _. node_named (m ∷ changed t ns b e) x ≡ node_named (m ∷ ns) x) [
              | inl at ↦ here m (changed t ns b e) x at ∙ sym (here m ns x at)
              | inr on ↦ further m (changed t ns b e) x on ∙ (changed-else ns b x ne ∙ sym (further m ns x on))
            ]
      ]

  module _ (round : ℕ) where
    -- where a node of the board after the event comes from
    pub data From (ns : List (BoardNode O)) (b x : ℕ) (m : BoardNode O) : Type 0 where
      is_here : (n : BoardNode O) → x ≡ b → node_named ns b ≡ Some n → m ≡ with_event t e n → From ns b x m
      was_there : (x ≡ b → ⊥) → node_named ns x ≡ Some m → From ns b x m
      is_new : (side : Side) → e ≡ Split → x ≡ part_of b side → node_named ns x ≡ None → (x ≡ b → ⊥) → m ≡ opened round x → From ns b x m

    pub opened-by : (d : Event O) (b x : ℕ) (m : BoardNode O) → node_named (opens round b d) x ≡ Some m → (side : Side) × (d ≡ Split) × (x ≡ part_of b side) × (m ≡ opened round x)
    opened-by (Received task) b x m is = absurd (none-some refl is)
    opened-by (Tried item outcome) b x m is = absurd (none-some refl is)
    opened-by Split b x m is =
        elim (found-in (opened round (left_of b)) (opened round (right_of b) ∷ []) x m is) [
          | inl at ↦ (Left, refl, sym at.0, sym at.1 ∙ ap (λ (y : ℕ). opened round y) at.0)
          | inr on ↦
              elim (found-in (opened round (right_of b)) [] x m on.1) [
                | inl at ↦ (Right, refl, sym at.0, sym at.1 ∙ ap (λ (y : ℕ). opened round y) at.0)
                | inr none_there ↦ absurd (none-some refl none_there.1)
              ]
        ]
    opened-by (Asked side task) b x m is = absurd (none-some refl is)
    opened-by (Posted side a) b x m is = absurd (none-some refl is)
    opened-by (Adopted side g o) b x m is = absurd (none-some refl is)
    opened-by (Agreed side g o) b x m is = absurd (none-some refl is)
    opened-by (Forbidden side g o) b x m is = absurd (none-some refl is)
    opened-by (Refused side g) b x m is = absurd (none-some refl is)
    opened-by Exhausted b x m is = absurd (none-some refl is)

    module _ (ns : List (BoardNode O)) (b : ℕ) (n : BoardNode O) (is : node_named ns b ≡ Some n) where
      pub comes-from : (x : ℕ) (m : BoardNode O) → node_named (done t round ns b e) x ≡ Some m → From ns b x m
      comes-from x m found =
          elim (in-either (changed t ns b e) (opens round b e) x m found) [
            | inl at ↦
                elim (cases_eq x b) [
                  | inl same ↦
                      is_here n same is
                      (same-some (subst (λ (y : ℕ). node_named (changed t ns b e) y ≡ Some m) same at) (changed-here ns b n is))
                  | inr away ↦ was_there away (sym (changed-else ns b x away) ∙ at)
                ]
            | inr on ↦
                let ne : x ≡ b → ⊥ =
                λ same. none-some (subst (λ (y : ℕ). node_named (changed t ns b e) y ≡ None) same on.0) (changed-here ns b n is)
                in
                let w = opened-by e b x m on.1 in
                is_new w.0 w.1 w.2 (sym (changed-else ns b x ne) ∙ on.0) ne w.3
          ]

      -- and what there was is there
      pub done-here : node_named (done t round ns b e) b ≡ Some (with_event t e n)
      done-here = in-first (changed t ns b e) (opens round b e) b (with_event t e n) (changed-here ns b n is)

      pub done-else : (x : ℕ) (m : BoardNode O) → (x ≡ b → ⊥) → node_named ns x ≡ Some m → node_named (done t round ns b e) x ≡ Some m
      done-else x m ne at = in-first (changed t ns b e) (opens round b e) x m (changed-else ns b x ne ∙ at)

      pub done-there : (x : ℕ) (m : BoardNode O) → node_named ns x ≡ Some m → (k : BoardNode O) × (node_named (done t round ns b e) x ≡ Some k)
      done-there x m at =
          elim (cases_eq x b) [
            | inl same ↦ (with_event t e n, ap (λ (y : ℕ). node_named (done t round ns b e) y) same ∙ done-here)
            | inr away ↦ (m, done-else x m away at)
          ]

      opens-part : (d : Event O) (side : Side) → d ≡ Split → (k : BoardNode O) × (node_named (opens round b d) (part_of b side) ≡ Some k)
      opens-part d Left split =
          (opened round (left_of b), ap (λ (x : Event O). node_named (opens round b x) (left_of b)) split ∙ here (opened round (left_of b)) (opened round (right_of b) ∷ []) (left_of b) refl)
      opens-part d Right split =
          let ne : left_of b ≡ right_of b → ⊥ = λ h. let k : Left ≡ Right = (same-part b b Left Right h).1 in cc in (
            opened round (right_of b),
            ap (λ (x : Event O). node_named (opens round b x) (right_of b)) split
                ∙ (further (opened round (left_of b)) (opened round (right_of b) ∷ []) (right_of b) ne
                ∙ here (opened round (right_of b)) [] (right_of b) refl),
          )

      pub done-part : (side : Side) → e ≡ Split → (k : BoardNode O) × (node_named (done t round ns b e) (part_of b side) ≡ Some k)
      done-part side split =
          elim (lookup (changed t ns b e) (part_of b side)) [
            | inl none ↦ let w = opens-part e side split in (w.0, in-second (changed t ns b e) (opens round b e) (part_of b side) none ∙ w.1)
            | inr w ↦ (w.0, in-first (changed t ns b e) (opens round b e) (part_of b side) w.0 w.1)
          ]

  -- names stay distinct
  changed-none : (ns : List (BoardNode O)) (b x : ℕ) → node_named ns x ≡ None → node_named (changed t ns b e) x ≡ None
  changed-none ns b x none =
      elim (cases_eq x b) [
        | inl same ↦ elim (lookup ns b) [
          | inl none_there ↦ absent ns b x none_there none
          | inr w ↦ absurd (none-some none (ap (λ (y : ℕ). node_named ns y) same ∙ w.1))
        ]
        | inr away ↦ changed-else ns b x away ∙ none
      ]
    where
      absent : (ns : List (BoardNode O)) (b x : ℕ) → node_named ns b ≡ None → node_named ns x ≡ None → node_named (changed t ns b e) x ≡ None
      absent [] b x none_there none = refl
      absent (m ∷ ns) b x none_there none =
          let ne : m.state.name ≡ b → ⊥ = λ h. none-some none_there (here m ns b h) in
          let nx : m.state.name ≡ x → ⊥ = λ h. none-some none (here m ns x h) in
          ap (λ (y : List (BoardNode O)). node_named y x) (at-rest m ns b ne)
          ∙ (further m (changed t ns b e) x nx ∙ absent ns b x (sym (further m ns b ne) ∙ none_there) (sym (further m ns x nx) ∙ none))

  pub changed-distinct : (ns : List (BoardNode O)) (b : ℕ) → AreDistinct ns → AreDistinct (changed t ns b e)
  changed-distinct [] b d = tt
  changed-distinct (m ∷ ns) b d =
      elim (cases_eq m.state.name b) [
        | inl same ↦
            subst (λ (y : List (BoardNode O)). AreDistinct y) (sym (at-first m ns b same))
            (ap (λ (y : ℕ). node_named ns y) (same-name m) ∙ d.0, d.1)
        | inr away ↦
            subst (λ (y : List (BoardNode O)). AreDistinct y) (sym (at-rest m ns b away))
            (changed-none ns b m.state.name d.0, changed-distinct ns b d.1)
      ]

-- distinct nodes, and others of other names behind them
module _ {O : Type 0} where
  pub distinct-append : (ns ms : List (BoardNode O)) → AreDistinct ns → AreDistinct ms → ((x : ℕ) (n m : BoardNode O) → node_named ns x ≡ Some n → node_named ms x ≡ Some m → ⊥) → AreDistinct (ns ++ ms)
  distinct-append [] ms d c apart = c
  distinct-append (n ∷ ns) ms d c apart =
      let none : node_named ms n.state.name ≡ None =
      elim (lookup ms n.state.name) [ inl none_there ↦ none_there | inr w ↦ absurd (apart n.state.name n w.0 (here n ns n.state.name refl) w.1) ]
      in (
        in-second ns ms n.state.name d.0 ∙ none,
        distinct-append ns ms d.1 c (λ x k m at on.
            elim (cases_eq n.state.name x) [
              | inl same ↦ none-some d.0 (ap (λ (y : ℕ). node_named ns y) same ∙ at)
              | inr away ↦ apart x k m (further n ns x away ∙ at) on
            ]),
      )
