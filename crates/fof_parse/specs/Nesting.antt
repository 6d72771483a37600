-- How deep the tokens of a statement nest.
use Rattle.std.specs.Prelude.{ℕ, suc, max, List, [], ◌∷◌}
use Rattle.fof_parse.specs.Token.{Token, upper, marked}
use Rattle.fof_parse.specs.declared.ending.TheConstants.{MAX_NESTING}
use Rattle.fof_parse.specs.declared.token.Bracket.TheVariants.{Round}
use Rattle.fof_parse.specs.declared.token.Mark.TheVariants.{Open, Close, Not, Quantifier, Binary}

-- what the opening parenthesis kept that was opened last
abbrev pub last_kept : ℕ → List ℕ → ℕ
last_kept n [] = n
last_kept n (k ∷ kept) = k

abbrev pub without_last_kept : List ℕ → List ℕ
without_last_kept [] = []
without_last_kept (k ∷ kept) = kept

-- The count behind a token, where it is n before it and the open parentheses keep these counts. `(`, `~`, the
-- quantifiers, the operators and the upper words add 1, and `)` sets the count back to what its `(` kept.
abbrev pub count_behind : ℕ → List ℕ → Token → ℕ
count_behind n kept (marked (Open Round)) = suc n
count_behind n kept (marked (Close Round)) = last_kept n kept
count_behind n kept (marked Not) = suc n
count_behind n kept (marked (Quantifier q)) = suc n
count_behind n kept (marked (Binary op)) = suc n
count_behind n kept (upper w) = suc n
count_behind n kept _ = n

-- the counts that the open parentheses keep behind a token
abbrev pub kept_behind : ℕ → List ℕ → Token → List ℕ
kept_behind n kept (marked (Open Round)) = n ∷ kept
kept_behind n kept (marked (Close Round)) = without_last_kept kept
kept_behind n kept _ = kept

-- The greatest value of the count over the tokens. A statement begins with the count 0, and none is kept.
abbrev pub nesting : ℕ → List ℕ → List Token → ℕ
nesting n kept [] = n
nesting n kept (t ∷ ts) = max n (nesting (count_behind n kept t) (kept_behind n kept t) ts)

abbrev pub most_nesting : ℕ
most_nesting = MAX_NESTING
