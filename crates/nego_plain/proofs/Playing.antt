use Rattle.std.proofs.Common.{◌≡◌, ◌∙◌, ℕ, Bool, true, false, not, Option, Some, None, IsSome, is_some, is_none, sym, ap, refl, subst, MatchBool, option_copied, Bor}
use Rattle.nego_laws.specs.Tree.{Tree, Laws}
use Rattle.nego_node.specs.declared.tasks.Task.{Task}
use Rattle.nego_node.specs.Board.{BoardNode}
use Rattle.nego_plain.specs.Width.{sites_at}
use Rattle.nego_plain.specs.Family.{Family}
use Rattle.nego_plain.specs.Engine.{DidStep, Plays, stays, goes, DidWork, NextIsTry, is_spent}
use Rattle.nego_plain.specs.Settling.{IsUnderWay}
use Rattle.nego_plain.specs.Views.{family_below}
use Rattle.nego_plain.specs.declared.tries.Tries.{Tries}
use Rattle.nego_plain.specs.declared.family.Below.{Below}
use Rattle.nego_plain.proofs.Joining.{top-below}
use Rattle.nego_plain.proofs.Tests.{no-bool}
use Rattle.nego_plain.proofs.Running.{goes-on, top-node}

pub copied-none : {A : Type 0} (r : Option (Bor A)) (a : Option A) → option_copied r ≡ a → is_none r ≡ true → a ≡ None
copied-none None a e h = sym e
copied-none (Some x) a e h = absurd (no-bool h refl)

pub copied-some : {A : Type 0} (r : Option (Bor A)) (a : Option A) → option_copied r ≡ a → is_none r ≡ false → is_some a ≡ true
copied-some None a e h = absurd (no-bool {b = true} refl h)
copied-some (Some x) a e h = ap (λ (o : Option _). is_some o) (sym e)

-- a run from the root's family
under-way : {O : Type 0} (tree : O → Tree O) (t : Tree O) (laws : Laws t (λ s. tree s ≡ t)) (round : ℕ) (before mid : Tries) (f : Family O) {f' : Family O} {after : Tries} {n : ℕ} → IsUnderWay tree t round before mid f → Plays tree t round f mid n f' after → IsUnderWay tree t round before after f'
under-way tree t laws round before mid f u stays = u
under-way tree t laws round before mid f {f' = f'} {after = after} u (goes g then_tries plays none did) =
    let so_far = under-way tree t laws round before mid f u plays in
    let node = top-node tree t laws round 1 (sites_at t 1) g so_far.family in
    goes-on tree t laws round before then_tries after g f' so_far none (subst (λ (r : ℕ). DidStep tree t r g f' then_tries after) (sym node.of_round) did)

module _ {F O S : Type 0} (tree : O → Tree O) (t : Tree O) (laws : Laws t (λ s. tree s ≡ t)) (round : ℕ) (before after : Tries) (n n' : BoardNode O) (b b' : Below F O S) (u : IsUnderWay tree t round before before (family_below n b)) where
  pub play-holds : IsSome n.state.held
  play-holds = ap (λ (o : Option (Task O)). is_some o) (ap (λ (z : BoardNode O). z.state.held) (sym (top-below n b)) ∙ u.held)

  pub play-goes : (ended : Bool) → DidWork tree t n.state.round ended (family_below n b) (family_below n' b') before after → IsUnderWay tree t round before after (family_below n' b')
  play-goes ended did =
      let node = top-node tree t laws round 1 (sites_at t 1) (family_below n b) u.family in
      let of_round : n.state.round ≡ round = ap (λ (z : BoardNode O). z.state.round) (sym (top-below n b)) ∙ node.of_round in
      under-way tree t laws round before before (family_below n b) u (subst (λ (r : ℕ). Plays tree t r (family_below n b) before did.events (family_below n' b') after) of_round did.plays)

pub play-ends : {F O S : Type 0} (tree : O → Tree O) (t : Tree O) (round : ℕ) (before after : Tries) (f : Family O) (n' : BoardNode O) (b' : Below F O S) (ended : Bool) → DidWork tree t round ended f (family_below n' b') before after → MatchBool (not ended) (NextIsTry t (family_below n' b') × (n'.state.answer ≡ None) × (is_spent after ≡ true)) (IsSome n'.state.answer)
play-ends tree t round before after f n' b' true did = subst (λ (z : BoardNode _). IsSome z.state.answer) (top-below n' b') (did.answered refl)
play-ends tree t round before after f n' b' false did =
    let s = did.stopped refl in
    (s.next, subst (λ (z : BoardNode _). z.state.answer ≡ None) (top-below n' b') s.unanswered, s.reached)
