-- Which offers close the tableaux of a problem, and the least depth with one.
use Rattle.std.specs.Prelude.{ℕ, ◌≤◌, ◌<◌, List, map, Option}
use Rattle.fof_parse.specs.Problem.{PlainProblem, Start}
use Rattle.free_terms.specs.Free.{lift}
use Rattle.unify.specs.Offers.{Offer}
use Rattle.rewrite_rules.specs.Rules.{RewriteRule}
use Rattle.tab_tree.specs.Tableau.{Closes, Least}

module _ (problem : PlainProblem) (rules : List RewriteRule) where
  -- the offer closes the problem's tableau of that depth
  abbrev pub ClosesAt : ℕ → Offer → Type 0
  ClosesAt d s = Closes (map lift (Start problem)) rules d s

  -- no offer closes the tableau of that depth
  abbrev pub NoneCloses : ℕ → Type 0
  NoneCloses d = (s : Offer) → ClosesAt d s → ⊥

  -- no offer closes one of a lesser depth
  abbrev pub NoneBefore : ℕ → Type 0
  NoneBefore d = (e : ℕ) (s : Offer) → 1 ≤ e → e < d → ClosesAt e s → ⊥

  -- the least depth up to the limit whose tableau some offer closes, or none
  abbrev pub LeastUpTo : ℕ → Option ℕ → Type 0
  LeastUpTo limit least = Least (map lift (Start problem)) rules limit least
