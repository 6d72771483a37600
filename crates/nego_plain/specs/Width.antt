use Rattle.std.specs.Prelude.{ℕ, zero, suc, ◌+◌, ◌*◌, ◌≡◌, true, false, if◌then◌else◌}
use Rattle.nego_laws.specs.Tree.{Tree, left_of, right_of}

-- The sites at and below one of them, each with the number of its own items.
pub data Sites : Type 0 where
  leaf : ℕ → Sites
  fork : ℕ → Sites → Sites → Sites

-- what the tree of a field has at and below site b
abbrev pub IsSites : {O : Type 0} → Tree O → ℕ → Sites → Type 0
IsSites t b (leaf own) = (t.items b ≡ own) × (t.parted b ≡ false)
IsSites t b (fork own l r) = (t.items b ≡ own) × (t.parted b ≡ true) × IsSites t (left_of b) l
    × IsSites t (right_of b) r

-- the same to a number of levels; what lies deeper is left out
abbrev pub sites_to : {O : Type 0} → ℕ → Tree O → ℕ → Sites
sites_to zero t b = leaf (t.items b)
sites_to (suc h) t b = if t.parted b then fork (t.items b) (sites_to h t (left_of b)) (sites_to h t (right_of b))
    else leaf (t.items b)

-- all of them
abbrev pub sites_at : {O : Type 0} → Tree O → ℕ → Sites
sites_at t b = sites_to (t.height b) t b

-- in the plain order the top site answers at most so many proposals from one fresh task to the next
abbrev pub width : Sites → ℕ
width (leaf own) = own
width (fork own l r) = own + width l * width r

-- and so many attempts are made there and below for one fresh task, with what is resumed of it later
abbrev pub attempts : Sites → ℕ
attempts (leaf own) = own
attempts (fork own l r) = own + attempts l + width l * attempts r
