-- Each step keeps the balance of a deque.
use Rattle.std.proofs.Common.{◌≡◌, ℕ, zero, suc, ◌+◌, List, [], ◌∷◌, ◌++◌, set, sym, refl, ap, ◌∙◌, arith, subst}
use mathlib.Core.Option.{some, some-ne-none}
use lib.ListN.{get_elem?}
use Rattle.crossbeam_deque.specs.Tasks.{Pushes, Takes, Pops, Admits}
use Rattle.pool_run.specs.Entries.{EntryValue}
use Rattle.pool_run.specs.declared.entry.Hand.{Hand}
use Rattle.pool_run.specs.Fair.{weigh, hand, IsBalanced}

pub weigh-append : {T : Type 0} (h : T → ℕ) (xs ys : List T) → weigh h (xs ++ ys) ≡ weigh h xs + weigh h ys
weigh-append h [] ys = omega arith
weigh-append h (x ∷ xs) ys = omega (arith, weigh-append h xs ys)

pub weigh-set : {V : Type 0} (f : V → ℕ) (views : List V) (port : ℕ) (v w : V) → get_elem? views port ≡ some v → weigh f (set views port w) + f v ≡ weigh f views + f w
weigh-set f [] port v w at = absurd (some-ne-none v (sym at))
weigh-set f (x ∷ xs) zero v w at = let e : f x ≡ f v = ap f (cc) in omega arith
weigh-set f (x ∷ xs) (suc j) v w at = omega (arith, weigh-set f xs j v w at)

module _ {F K O S : Type 0} where
  pub admits : Admits (IsBalanced {F = F} {K = K} {O = O} {S = S}) (hand [] [])
  admits items views kept h =
      omega (arith, kept h, weigh-append (λ (v : Hand F K O S). weigh h v.put) views (hand [] [] ∷ []), weigh-append (λ (v : Hand F K O S). weigh h v.taken) views (hand [] [] ∷ []))

  pub puts : (port : ℕ) (v : Hand F K O S) (xs : List (EntryValue F O S)) → Pushes IsBalanced port v xs (λ w. w ≡ hand (v.put ++ xs) v.taken)
  puts port v xs items views kept at =
      let w = hand (v.put ++ xs) v.taken in (
        w,
        (λ h.
            omega (
              arith,
              kept h,
              weigh-set (λ (u : Hand F K O S). weigh h u.put) views port v w at,
              weigh-set (λ (u : Hand F K O S). weigh h u.taken) views port v w at,
              weigh-append h v.put xs,
              weigh-append h items xs,
            )),
        refl,
      )

  pub takes : (port : ℕ) (v : Hand F K O S) → Takes IsBalanced port v 1 (λ xs w. w ≡ hand v.put (v.taken ++ xs))
  takes port v xs items views some_there few kept at =
      let w = hand v.put (v.taken ++ xs) in (
        w,
        (λ h.
            omega (
              arith,
              kept h,
              weigh-set (λ (u : Hand F K O S). weigh h u.put) views port v w at,
              weigh-set (λ (u : Hand F K O S). weigh h u.taken) views port v w at,
              weigh-append h v.taken xs,
              weigh-append h xs items,
            )),
        refl,
      )

  pub pops : (port : ℕ) (v : Hand F K O S) → Pops IsBalanced port v (λ xs w. w ≡ hand v.put (v.taken ++ xs))
  pops port v x items views kept at =
      let w = hand v.put (v.taken ++ x ∷ []) in (
        w,
        (λ h.
            omega (
              arith,
              kept h,
              weigh-set (λ (u : Hand F K O S). weigh h u.put) views port v w at,
              weigh-set (λ (u : Hand F K O S). weigh h u.taken) views port v w at,
              weigh-append h v.taken (x ∷ []),
              weigh-append h items (x ∷ []),
            )),
        refl,
      )
