-- A text before and after its first byte k.
use Rattle.std.specs.Prelude.{◌≡◌, ◌==◌, ℕ, Bool, true}
use Rattle.std.specs.List.{list_any, before_first, after_first}
use Rattle.goeland_words.specs.Table.{Text}

abbrev pub has_byte : ℕ → Text → Bool
has_byte k text = list_any (λ x. x == k) text

abbrev pub before : ℕ → Text → Text
before k text = before_first (λ x. x == k) text

abbrev pub after : ℕ → Text → Text
after k text = after_first (λ x. x == k) text

-- the byte is there, and these are the parts
pub record CutsAt (k : ℕ) (n v text : Text) : Type 0 where
  pub has : has_byte k text ≡ true
  pub front : before k text ≡ n
  pub back : after k text ≡ v
