-- What a list that is forked stands for.
use Rattle.std.specs.Prelude.{ℕ, Bool, true, false, List, [], ◌∷◌, ◌++◌, length, take, refl}
use Rattle.seg_list.specs.Chain.{Chain}
use Rattle.std.specs.Coded.{Coded, code_by, coded×, coded_ℕ, coded_bool, coded_list}

-- a list, the place where its own part starts, and whether it is sealed
pub record Branching (T : Type 0) : Type 0 where
  pub items : List T
  pub own_start : ℕ
  pub sealed : Bool

abbrev pub branching_code : {T : Type 0} → Coded T → Coded (Branching T)
branching_code {T} t =
    code_by (List T × (ℕ × Bool)) (coded× (coded_list t) (coded× coded_ℕ coded_bool))
    (λ b. (b.items, (b.own_start, b.sealed)))
    (λ p. record { items = p.0; own_start = p.1.0; sealed = p.1.1 }) (λ _. refl)

-- the list without an item
abbrev pub no_items : {T : Type 0} → Branching T
no_items = record { items = []; own_start = 0; sealed = false }

-- the list with an item more in its own part
abbrev pub with_item : {T : Type 0} → Branching T → T → Branching T
with_item l item = record { items = l.items ++ item ∷ []; own_start = l.own_start; sealed = l.sealed }

-- the list without the items from a place on
abbrev pub shortened : {T : Type 0} → Branching T → ℕ → Branching T
shortened l len = record { items = take len l.items; own_start = l.own_start; sealed = l.sealed }

-- the same list, sealed
abbrev pub sealed_list : {T : Type 0} → Branching T → Branching T
sealed_list l = record { items = l.items; own_start = l.own_start; sealed = true }

-- the list that goes on below a fork: its own part begins where the forked one ends
abbrev pub half : {T : Type 0} → Branching T → Branching T
half l = record { items = l.items; own_start = length l.items; sealed = false }

-- the list that goes on below a chain of segments
abbrev pub list_after : {T : Type 0} → Chain T → Branching T
list_after c = record { items = c.items; own_start = length c.items; sealed = false }
