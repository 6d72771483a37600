use Rattle.std.specs.Prelude.{ℕ, ◌+◌, Option, Some, None, [], ◌∷◌, ◌++◌}
use Rattle.nego_node.specs.Machine.{pick, other}
use Rattle.nego_node.specs.declared.tasks.Side.{Side}
use Rattle.nego_node.specs.declared.parts.Part.{Part}
use Rattle.nego_node.specs.declared.parts.Parts.{Parts}
use Rattle.nego_node.specs.declared.parts.Asking.{Asking}

-- the part of a side
abbrev pub part : {O : Type 0} → Parts O → Side → Part O
part ps side = pick side ps.left ps.right

-- p for this side and q for the other one
abbrev pub joined : {O : Type 0} → Side → Part O → Part O → Parts O
joined side p q = record { left = pick side p q; right = pick side q p }

-- p for this side, and the other one as it was
abbrev pub with_part : {O : Type 0} → Parts O → Side → Part O → Parts O
with_part ps side p = joined side p (part ps (other side))

abbrev pub emptied_part_of : {O : Type 0} → Part O → Option (Asking O) → Part O
emptied_part_of p None = p
emptied_part_of p (Some k) = record { forbidden = p.forbidden; generation = p.generation + 1; slot = None }

abbrev pub emptied_part : {O : Type 0} → Part O → Part O
emptied_part p = emptied_part_of p p.slot

abbrev pub cleared_part : {O : Type 0} → Part O → Part O
cleared_part p = record (emptied_part p) { forbidden = [] }

abbrev pub forbidding_part : {O : Type 0} → Part O → O → Part O
forbidding_part p offer = record (emptied_part p) { forbidden = p.forbidden ++ offer ∷ [] }

abbrev pub filled_part : {O : Type 0} → Part O → Asking O → Part O
filled_part p k = record p { slot = Some k }

abbrev pub marked_part_of : {O : Type 0} → Part O → Option (Asking O) → ℕ → Part O
marked_part_of p None place = p
marked_part_of p (Some k) place = record p { slot = Some (record k { answer = Some place }) }

abbrev pub marked_part : {O : Type 0} → Part O → ℕ → Part O
marked_part p place = marked_part_of p p.slot place
