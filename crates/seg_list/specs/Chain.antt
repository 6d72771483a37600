-- What a chain of segments stands for.
use Rattle.std.specs.Prelude.{◌<◌, ◌+◌, ℕ, List, [], ◌∷◌, ◌++◌, length, take, refl, Option, Some, None}
use Rattle.std.specs.Coded.{Coded, code_by, coded×, coded_ℕ, coded_list}

-- the items of all segments from the first on, the place where the last segment starts, and how many segments stand
-- above it
pub record Chain (T : Type 0) : Type 0 where
  pub items : List T
  pub start : ℕ
  pub depth : ℕ

abbrev pub chain_code : {T : Type 0} → Coded T → Coded (Chain T)
chain_code {T} t =
    code_by (List T × (ℕ × ℕ)) (coded× (coded_list t) (coded× coded_ℕ coded_ℕ)) (λ c. (c.items, (c.start, c.depth)))
    (λ p. record { items = p.0; start = p.1.0; depth = p.1.1 }) (λ _. refl)

-- the chain of one segment without an item
abbrev pub no_chain : {T : Type 0} → Chain T
no_chain = record { items = []; start = 0; depth = 0 }

-- the chain with a segment more, without an item yet
abbrev pub chain_below : {T : Type 0} → Chain T → Chain T
chain_below c = record { items = c.items; start = length c.items; depth = c.depth + 1 }

-- the chain with an item more in its last segment
abbrev pub chain_with : {T : Type 0} → Chain T → T → Chain T
chain_with c item = record { items = c.items ++ item ∷ []; start = c.start; depth = c.depth }

-- the chain without the items from a place on
abbrev pub chain_shortened : {T : Type 0} → Chain T → ℕ → Chain T
chain_shortened c len = record { items = take len c.items; start = c.start; depth = c.depth }

-- the items of the chain above a segment
abbrev pub items_above : {T : Type 0} → Option (Chain T) → List T
items_above None = []
items_above (Some c) = c.items

-- a chain above a segment is less deep than the segment
abbrev pub IsBelow : {T : Type 0} → Option (Chain T) → ℕ → Type 0
IsBelow None depth = Unit
IsBelow (Some c) depth = c.depth < depth
