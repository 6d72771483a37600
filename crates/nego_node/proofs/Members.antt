use Rattle.std.proofs.Common.{◌≡◌, true, ℕ, zero, suc, Some, List, [], ◌∷◌, slice_get}
use Rattle.nego_laws.specs.Tree.{Tree}
use Rattle.nego_node.specs.Truth.{entails_some}
use Rattle.nego_node.proofs.Entailing.{or-left, or-right}

module _ {O : Type 0} where
  first_at : (t : Tree O) (r b x : O) → Some x ≡ Some b → t.entails r b ≡ true → t.entails r x ≡ true
  first_at t r b x e h = cc

  -- what entails the member at a place entails a member
  pub some_at : (t : Tree O) (r b : O) (bs : List O) (i : ℕ) → slice_get bs i ≡ Some b → t.entails r b ≡ true → entails_some t r bs ≡ true
  some_at t r b [] i e h = cc
  some_at t r b (x ∷ bs) zero e h = or-left (t.entails r x) (entails_some t r bs) (first_at t r b x e h)
  some_at t r b (x ∷ bs) (suc i) e h = or-right (t.entails r x) (entails_some t r bs) (some_at t r b bs i e h)
