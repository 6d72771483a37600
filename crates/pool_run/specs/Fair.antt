use Rattle.std.specs.Prelude.{◌≡◌, ℕ, ◌+◌, List, [], ◌∷◌, ◌++◌}
use Rattle.pool_run.specs.Entries.{EntryValue}
use Rattle.pool_run.specs.declared.entry.Hand.{Hand}

-- the weights, added up
abbrev pub weigh : {T : Type 0} → (T → ℕ) → List T → ℕ
weigh h [] = 0
weigh h (x ∷ xs) = h x + weigh h xs

module _ {F K O S : Type 0} where
  abbrev pub hand : List (EntryValue F O S) → List (EntryValue F O S) → Hand F K O S
  hand put taken = record { put = put; taken = taken }

  -- what went into the deque is what was taken from it and what it holds, however the entries are weighed
  abbrev pub IsBalanced : List (EntryValue F O S) → List (Hand F K O S) → Type 0
  IsBalanced items views =
      (h : EntryValue F O S → ℕ) → weigh (λ v. weigh h v.put) views
      ≡ weigh (λ v. weigh h v.taken) views + weigh h items
