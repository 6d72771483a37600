use Rattle.std.proofs.Common.{◌≡◌, ◌∙◌, ℕ, ◌<◌, Some, List, [], length, slice_get, get_or, ap, sym}
use Rattle.std.proofs.lemmas.Option.{slice_get-get_or}
use Rattle.nego_node.specs.Machine.{State, beginning}
use Rattle.nego_node.specs.NodeValue.{NodeValue}
use Rattle.nego_node.specs.Board.{BoardNode, opened}
use Rattle.nego_core.specs.Bare.{bare_node}

-- what an index reads
pub read-at : {A : Type 0} (xs : List A) (i : ℕ) (x : A) → i < length xs → x ≡ get_or xs i x → slice_get xs i ≡ Some x
read-at xs i x l e = slice_get-get_or xs i x l ∙ ap Some (sym e)

-- a node that has just begun
pub begun : {S O : Type 0} (v : NodeValue S O) (round name b : ℕ) → v.state ≡ beginning round name → v.history ≡ [] → name ≡ b → bare_node v ≡ opened round b
begun v round name b state history same =
    ap (λ (x : State _). let n : BoardNode _ = record { state = x; history = v.history } in n) state
    ∙ (ap (λ (x : List _). let n : BoardNode _ = record { state = beginning round name; history = x } in n) history
    ∙ ap (λ (x : ℕ). opened round x) same)
