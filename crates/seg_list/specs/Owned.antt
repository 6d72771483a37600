-- What the newest part of a list, open or sealed, stands for together with what stands above it.
use Rattle.std.specs.Prelude.{true, false}
use Rattle.seg_list.specs.Branching.{Branching}
use Rattle.seg_list.specs.declared.list.Own.{Own}
use Rattle.seg_list.specs.declared.list.Own.TheVariants.{Open, Sealed}

abbrev pub branching_of : {T : Type 0} → Own T → Branching T
branching_of (Open c) = record { items = c.items; own_start = c.start; sealed = false }
branching_of (Sealed c) = record { items = c.items; own_start = c.start; sealed = true }
