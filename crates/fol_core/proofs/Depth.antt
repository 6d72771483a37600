-- The count of quantifiers on the way down a spine, kept in a number that stops at a limit.
use Rattle.std.proofs.Common.{◌≡◌, ℕ, ◌+◌, ◌-◌, ◌≤◌, min, max, arith}

-- The greatest number so far, and n with d quantifiers above it, make up the whole.
pub record Remains (limit depth most n whole : ℕ) : Type 0 where
  pub d : ℕ
  pub count : depth ≡ min d limit
  pub value : max most (n - d) ≡ whole

pub remains_start : (limit n : ℕ) → Remains limit 0 0 n n
remains_start limit n = record { d = 0; count = omega arith; value = omega arith }

pub remains_quantifier : (limit depth next most n below whole : ℕ) → n ≡ below - 1 → next ≡ min (depth + 1) limit → Remains limit depth most n whole → Remains limit next most below whole
remains_quantifier limit depth next most n below whole e next_is r = record { d = r.d + 1; count = omega arith; value = omega arith }

pub remains_binary : (limit depth most a b whole : ℕ) → Remains limit depth most (max a b) whole → b ≤ limit → Remains limit depth (max most (b - depth)) a whole
remains_binary limit depth most a b whole r h = record { d = r.d; count = r.count; value = omega arith }

pub remains_end : (limit depth most n whole : ℕ) → Remains limit depth most n whole → n ≤ limit → max most (n - depth) ≡ whole
remains_end limit depth most n whole r h = omega arith

pub ruleset remaining = (remains_start, remains_quantifier, remains_binary, remains_end)
