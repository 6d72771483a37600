use Rattle.std.proofs.Common.{◌≡◌, ◌∙◌, ℕ, suc, ◌+◌, ◌-◌, ◌<◌, ◌≤◌, List, [], ◌∷◌, ◌++◌, ap, sym, arith}
use Rattle.std.proofs.lemmas.List.{append_assoc, append-nil}
use Rattle.rand_pcg.specs.Lcg.{Lcg, started, increment_of}
use Rattle.rand_pcg.specs.Pcg.{multiplier_64}
use Rattle.nego_core.specs.Schedule.{pick_of, picks_from, scheduled}
use Rattle.nego_core.specs.declared.picks.Pick.{Pick}

-- what was picked, and what the generator has to come, is the whole
pub at-first : (seed turns : ℕ) (picks : List Pick) (g : Lcg) → picks ≡ [] → g ≡ started 64 multiplier_64 seed (increment_of 64 1) → picks ++ picks_from g (turns - 0) ≡ scheduled seed turns
at-first seed turns picks g none new =
    ap (λ (l : List Pick). l ++ picks_from g (turns - 0)) none
    ∙ (ap (λ (k : ℕ). picks_from g k) (let q : turns - 0 ≡ turns = omega arith in q) ∙ ap (λ (x : Lcg). picks_from x turns) new)

-- one pick more, and one less to come
one-more : (all picks : List Pick) (g : Lcg) (turns i : ℕ) → i < turns → picks ++ picks_from g (turns - i) ≡ all → (picks ++ (pick_of g).0 ∷ []) ++ picks_from (pick_of g).1 (turns - (i + 1)) ≡ all
one-more all picks g turns i l e =
    append_assoc picks ((pick_of g).0 ∷ []) (picks_from (pick_of g).1 (turns - (i + 1)))
    ∙ (ap (λ (k : ℕ). picks ++ picks_from g k) (let q : suc (turns - (i + 1)) ≡ turns - i = omega arith in q) ∙ e)

pub next-one : (all picks picks' : List Pick) (p : Pick) (g g' : Lcg) (turns i : ℕ) → i < turns → picks' ≡ picks ++ p ∷ [] → (p, g') ≡ pick_of g → picks ++ picks_from g (turns - i) ≡ all → picks' ++ picks_from g' (turns - (i + 1)) ≡ all
next-one all picks picks' p g g' turns i l pushed drawn e =
    ap (λ (x : List Pick). x ++ picks_from g' (turns - (i + 1))) pushed
    ∙ (ap (λ (w : Pick × Lcg). (picks ++ w.0 ∷ []) ++ picks_from w.1 (turns - (i + 1))) drawn ∙ one-more all picks g turns i l e)

pub at-last : (all picks : List Pick) (g : Lcg) (turns i : ℕ) → turns ≤ i → picks ++ picks_from g (turns - i) ≡ all → picks ≡ all
at-last all picks g turns i l e =
    sym (append-nil picks) ∙ (ap (λ (k : ℕ). picks ++ picks_from g k) (let q : 0 ≡ turns - i = omega arith in q) ∙ e)
