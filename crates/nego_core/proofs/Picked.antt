use Rattle.std.proofs.Common.{◌≡◌, ◌∙◌, ℕ, zero, suc, ◌+◌, ◌%◌, ◌<◌, ◌≤◌, Bool, true, false, inl, inr, Some, None, List, [], ◌∷◌, ◌++◌, All, length, slice_get, get_or, take, sym, ap, refl, subst, arith}
use Rattle.std.proofs.lemmas.Option.{slice_get_within}
use Rattle.std.proofs.Math.Seq.{take-suc}
use Rattle.std.proofs.lemmas.List.{length-append}
use Rattle.std.proofs.lemmas.List.Elements.{All-nil, All-cons}
use Rattle.nego_laws.specs.Tree.{Tree, Laws}
use Rattle.nego_node.specs.NodeValue.{NodeValue}
use Rattle.nego_node.specs.Lawful.{Lawful}
use Rattle.nego_node.specs.Board.{BoardNode, node_named, opened, first_board, MayAct}
use Rattle.nego_node.specs.declared.tasks.Side.TheVariants.{Left}
use Rattle.nego_node.specs.declared.acts.Act.{Act}
use Rattle.nego_node.proofs.Sides.{none-some, same-some}
use Rattle.nego_node.proofs.Boards.{first-is-board}
use Rattle.nego_node.proofs.BoardActs.{act-may}
use Rattle.nego_core.specs.Acts.{acts}
use Rattle.nego_core.specs.Bare.{bare_node, bare}
use Rattle.nego_core.specs.Links.{LinkFits, IsPlay}
use Rattle.nego_core.specs.Picking.{MayPick, IsPicked, Leads}
use Rattle.nego_core.specs.Plays.{Plays, Acted, Stepped, Opens, counted, HasTurned, HasPicked}
use Rattle.nego_core.specs.declared.links.Link.{Link}
use Rattle.nego_core.specs.declared.picks.Pick.{Pick}
use Rattle.nego_core.proofs.Places.{get-within}
use Rattle.nego_core.proofs.Playing.{named-at}
use Rattle.nego_core.proofs.Reading.{bare-length, bare-get}

abbrev root_link : Link
root_link = record { parent = 0; side = Left; parts = None }

module _ {S O : Type 0} (tree : O → Tree O) (t : Tree O) (around : S → Tree O) (round : ℕ) where
  pub some-nodes : (nodes : List (NodeValue S O)) (links : List Link) → Plays tree t around round nodes links → 0 < length nodes
  some-nodes nodes links plays =
      let l : 0 < length (bare nodes) = slice_get_within (bare nodes) 0 plays.play.starts.0 plays.play.starts.1 in
      let q : length (bare nodes) ≡ length nodes = bare-length nodes in
      omega arith

  -- an act at the place of a pick is what the pick does
  module _ (nodes : List (NodeValue S O)) (pick : Pick) (at : ℕ) (is_at : at ≡ pick.node % length nodes) (within : at < length nodes) where
    there : (n : BoardNode O) → slice_get (bare nodes) at ≡ Some n → slice_get (bare nodes) (pick.node % length (bare nodes)) ≡ Some n
    there n e = ap (λ (k : ℕ). slice_get (bare nodes) (pick.node % k)) (bare-length nodes) ∙ (ap (λ (k : ℕ). slice_get (bare nodes) k) (sym is_at) ∙ e)

    may-pick : (act : Act) (n : BoardNode O) → slice_get acts pick.act ≡ Some act → slice_get (bare nodes) at ≡ Some n → MayAct t round (bare nodes) n.state.name n.state act → MayPick tree t round (bare nodes) pick
    may-pick act n is_act found may = record { node = n; is_node = there n found; act = act; is_act = is_act; may = may }

    picked-by : (act : Act) (nodes' : List (NodeValue S O)) (did : Bool) (n : BoardNode O) → slice_get acts pick.act ≡ Some act → slice_get (bare nodes) at ≡ Some n → node_named (bare nodes) n.state.name ≡ Some n → Acted tree t round act (bare nodes) (bare nodes') n did → (u : ℕ) → IsPicked tree t round (bare nodes) u pick (bare nodes') (counted did u)
    picked-by act nodes' true n is_act found named acted u =
        inl (may-pick act n is_act found (act-may tree t n.state round (bare nodes) n.state.name act acted.0 acted.1 acted.2.comes (subst (λ (x : BoardNode O). Lawful tree t x.state acted.0) (same-some acted.2.is_node named) acted.2.lawful)), record { node = n; is_node = there n found; act = act; is_act = is_act; event = acted.0; is_of = acted.1; happens = acted.2 }, refl)
    picked-by act nodes' false n is_act found named acted u =
        inr (
          λ may.
              let same : may.node ≡ n = same-some may.is_node (there n found) in
              let one : may.act ≡ act = same-some may.is_act is_act in
              acted.0 (subst (λ (x : BoardNode O). MayAct t round (bare nodes) x.state.name x.state act) same (subst (λ (a : Act). MayAct t round (bare nodes) may.node.state.name may.node.state a) one may.may)),
          acted.1,
          refl,
        )

    pub turned-by : (links : List Link) → Plays tree t around round nodes links → (act : Act) (nodes' : List (NodeValue S O)) (links' : List Link) (did : Bool) → slice_get acts pick.act ≡ Some act → Stepped tree t around round at act nodes nodes' links' did → HasTurned tree t around round pick nodes nodes' links' did
    turned-by links plays act nodes' links' did is_act step =
        let v = get-within nodes at within in
        let found : slice_get (bare nodes) at ≡ Some (bare_node v.0) = bare-get nodes at v.0 v.1 in
        record { plays = step.plays; picked = picked-by act nodes' did (bare_node v.0) is_act found (named-at (bare nodes) at (bare_node v.0) plays.play.board.distinct found) (step.acted (bare_node v.0) found) }

    pub turned-none : (links : List Link) → None ≡ slice_get acts pick.act → Plays tree t around round nodes links → HasTurned tree t around round pick nodes nodes links false
    turned-none links none plays =
        record { plays = plays; picked = λ u. inr (λ may. none-some (sym none) may.is_act, refl, refl) }

  leads-push : (ns : List (BoardNode O)) (u : ℕ) (ps : List Pick) (ms : List (BoardNode O)) (k : ℕ) (p : Pick) (ms' : List (BoardNode O)) (k' : ℕ) → Leads tree t round ns u ps ms k → IsPicked tree t round ms k p ms' k' → Leads tree t round ns u (ps ++ p ∷ []) ms' k'
  leads-push ns u [] ms k p ms' k' led picked =
      let back : IsPicked tree t round ns u p ms' k' = subst (λ (x : List (BoardNode O)). IsPicked tree t round x u p ms' k') led.0 (subst (λ (x : ℕ). IsPicked tree t round ms x p ms' k') led.1 picked) in
      (ms', k', back, (refl, refl))
  leads-push ns u (q ∷ ps) ms k p ms' k' led picked = (led.0, led.1, led.2, leads-push led.0 led.1 ps ms k p ms' k' led.3 picked)

  counted-few : (did : Bool) (u : ℕ) → counted did u ≤ u + 1
  counted-few true u = omega arith
  counted-few false u = omega arith

  pub picked-more : (picks : List Pick) (pick : Pick) (nodes : List (NodeValue S O)) (links : List Link) (u : ℕ) (nodes' : List (NodeValue S O)) (links' : List Link) (did : Bool) → HasPicked tree t around round picks nodes links u → HasTurned tree t around round pick nodes nodes' links' did → HasPicked tree t around round (picks ++ pick ∷ []) nodes' links' (counted did u)
  picked-more picks pick nodes links u nodes' links' did before turned =
      record {
        plays = turned.plays;
        led = leads-push (first_board round) 0 picks (bare nodes) u pick (bare nodes') (counted did u) before.led (turned.picked u);
        few =
            let a : counted did u ≤ u + 1 = counted-few did u in
            let b : u ≤ length picks = before.few in
            let c : length (picks ++ pick ∷ []) ≡ length picks + 1 = length-append picks (pick ∷ []) in
            omega arith;
      }

  -- the root alone
  pub picked-none : Laws t (λ s. tree s ≡ t) → (site : S) (b : ℕ) (nodes : List (NodeValue S O)) (links : List Link) → around site ≡ t → b ≡ 1 → Opens round site b [] nodes → links ≡ record { parent = 0; side = Left; parts = None } ∷ [] → HasPicked tree t around round [] nodes links 0
  picked-none laws site b nodes links of_tree name opens is_links =
      let v : NodeValue S O = opens.node in
      let new : bare_node v ≡ opened round 1 = opens.is_new ∙ ap (λ (k : ℕ). opened round k) name in
      let all : bare nodes ≡ first_board round = ap bare opens.becomes ∙ ap (λ (x : BoardNode O). x ∷ []) new in
      let link : Link = root_link in
      let play : IsPlay tree t round (first_board round) (link ∷ []) =
      record {
        board = first-is-board tree t laws round;
        starts = (opened round 1, refl, refl);
        linked = record { as_many = refl; fit = only };
      }
      in
      record {
        plays =
            record {
              play =
                  subst (λ (l : List (BoardNode O)). IsPlay tree t round l links) (sym all)
                  (subst (λ (l : List Link). IsPlay tree t round (first_board round) l) (sym is_links) play);
              sites =
                  subst (λ (l : List (NodeValue S O)). All (λ x. around x.site ≡ t) l) (sym opens.becomes)
                  (All-cons (λ x. around x.site ≡ t) v [] (ap around opens.of_site ∙ of_tree) (All-nil (λ x. around x.site ≡ t)));
            };
        led = (all, refl);
        few = omega arith;
      }
    where
      only : (i : ℕ) (l : Link) (n : BoardNode O) → slice_get (root_link ∷ []) i ≡ Some l → slice_get (first_board {O = O} round) i ≡ Some n → LinkFits (first_board round) i l n
      only zero l n on is =
          record {
            up = inl refl;
            down = λ p e. absurd (none-some (ap (λ (x : Link). x.parts) (sym (same-some refl on))) e);
            unsplit = λ none. ap (λ (x : BoardNode O). x.state.has_split) (sym (same-some refl is));
          }
      only (suc i) l n on is = absurd (none-some refl on)

  -- one pick more of a list
  pub picked-next : (picks : List Pick) (i : ℕ) (d : Pick) (nodes : List (NodeValue S O)) (links : List Link) (u : ℕ) (nodes' : List (NodeValue S O)) (links' : List Link) (did : Bool) (u' : ℕ) → HasPicked tree t around round (take i picks) nodes links u → HasTurned tree t around round (get_or picks i d) nodes nodes' links' did → i < length picks → u' ≡ counted did u → HasPicked tree t around round (take (i + 1) picks) nodes' links' u'
  picked-next picks i d nodes links u nodes' links' did u' before turned within is =
      let next : take (i + 1) picks ≡ take i picks ++ get_or picks i d ∷ [] =
      ap (λ (k : ℕ). take k picks) (let e : i + 1 ≡ suc i = omega arith in e) ∙ take-suc picks i d within
      in
      subst (λ (l : List Pick). HasPicked tree t around round l nodes' links' u') (sym next)
      (subst (λ (x : ℕ). HasPicked tree t around round (take i picks ++ get_or picks i d ∷ []) nodes' links' x) (sym is)
      (picked-more (take i picks) (get_or picks i d) nodes links u nodes' links' did before turned))
