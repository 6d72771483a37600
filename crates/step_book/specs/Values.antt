use Rattle.std.specs.Prelude.{ℕ, List}

-- the tries that were taken, and how many may be
pub record CountValue : Type 0 where
  pub number : ℕ
  pub limit : ℕ

-- The shares that stand here now, each as the number of tries that were taken by it, how many shares there are in all,
-- and the limit of the book.
pub record SharesValue : Type 0 where
  pub held : List ℕ
  pub made : ℕ
  pub limit : ℕ
