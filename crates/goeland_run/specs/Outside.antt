-- What the outside of a run was before, and is after.
use Rattle.std.specs.Prelude.{◌≡◌, ℕ, List, Option}
use Rattle.gl_outside.specs.Outside.{Puts}
use Rattle.goeland_run.specs.declared.status.Status.{Status}
use Rattle.goeland_run.specs.declared.status.Status.TheVariants.{WriteFault}

-- the bytes that the shelf holds under each name, and its faults before and after
pub record Reading : Type 0 where
  pub holds : List ℕ → Option (List ℕ)
  pub unread : ℕ
  pub unread_after : ℕ

-- what was written before and is after, and the faults of writing before and after
pub record Writing : Type 0 where
  pub written : Option (List ℕ)
  pub written_after : Option (List ℕ)
  pub unwritten : ℕ
  pub unwritten_after : ℕ

-- no fault of the shelf came
abbrev pub IsReadable : Reading → Type 0
IsReadable r = r.unread_after ≡ r.unread

-- nothing was written, and no fault came of it
abbrev pub IsUntouched : Writing → Type 0
IsUntouched w = (w.written_after ≡ w.written) × (w.unwritten_after ≡ w.unwritten)

-- The text was written whole, and the status is the one that belongs to it; or some front of it was, and a fault came.
abbrev pub Prints : Writing → List ℕ → Status → Status → Type 0
Prints w text usual = Puts w.written text w.written_after w.unwritten w.unwritten_after usual WriteFault
