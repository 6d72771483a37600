-- Lists that are grown by a step are longer by what it appends.
use Rattle.std.proofs.Common.{◌≡◌, ℕ, zero, suc, ◌+◌, ◌<◌, ◌≤◌, List, [], ◌∷◌, ◌++◌, map, length, get_or, replicate, slice_set, refl, ap, sym, ◌∙◌, subst, arith, length-append, ◌-◌}
use Rattle.std.proofs.lemmas.List.{map-append, get_or_append_left, get_or-set_same, get_or-set_other, length-set, length-replicate, get_or-append_right, get_or-replicate}
use Rattle.free_terms.specs.View.{name_of}
use Rattle.free_terms.specs.View.{FreeTermFormula}
use Rattle.branch_rules.specs.Branch.{Branch, principal, introduced}
use Rattle.branch_rules.specs.BranchValue.{done_of}
use Rattle.branch_rules.specs.BranchView.{born_in, branch_in, Reads}
use Rattle.branch_rules.specs.ListsGrown.{held_at, names_by, place_of, IsGrown}
use Rattle.branch_rules.specs.declared.held.Held.{Held}
use Rattle.branch_rules.specs.declared.step.Done.{Done}
use Rattle.branch_rules.specs.declared.step.Done.TheVariants.{Step, Left, Right}
use Rattle.branch_rules.specs.declared.step.TabKind.TheVariants.{Alpha, Rewrite, Skolem, Instance}
use Rattle.branch_rules.specs.declared.branch.Turn.{Turn}
use Rattle.branch_rules.specs.declared.branch.Lists.{Lists}
use Rattle.branch_rules.proofs.Grows.{GrowsBy}

pub place_principal : (d : Done) → principal (done_of d) ≡ place_of d
place_principal (Step i Alpha) = refl
place_principal (Step i (Rewrite r)) = refl
place_principal (Step i (Skolem x)) = refl
place_principal (Step i (Instance x)) = refl
place_principal (Left i) = refl
place_principal (Right i) = refl

names_introduced : (d : Done) → map name_of (names_by d) ≡ introduced (done_of d)
names_introduced (Step i Alpha) = refl
names_introduced (Step i (Rewrite r)) = refl
names_introduced (Step i (Skolem x)) = refl
names_introduced (Step i (Instance x)) = refl
names_introduced (Left i) = refl
names_introduced (Right i) = refl

pub held_many : (n k : ℕ) (fs : List FreeTermFormula) → length (held_at n k fs) ≡ length fs
held_many n k [] = refl
held_many n k (f ∷ fs) = ap suc (held_many n k fs)

born_many : (n k : ℕ) (fs : List FreeTermFormula) → map (λ h. h.born) (held_at n k fs) ≡ replicate (length fs) k
born_many n k [] = refl
born_many n k (f ∷ fs) = ap (λ z. k ∷ z) (born_many n k fs)

born_length : (hs : List Held) → length (map (λ h. h.born) hs) ≡ length hs
born_length [] = refl
born_length (h ∷ hs) = ap suc (born_length hs)

old_item : (xs : List ℕ) (n x i : ℕ) → i < length xs → get_or (xs ++ replicate n x) i 0 ≡ get_or xs i 0
old_item xs n x i lt = get_or_append_left xs (replicate n x) 0 i lt

new_item : (xs : List ℕ) (n x i : ℕ) → length xs ≤ i → i < length xs + n → get_or (xs ++ replicate n x) i 0 ≡ x
new_item xs n x i le lt = get_or-append_right xs (replicate n x) (length xs) i 0 refl le ∙ get_or-replicate n (i - length xs) x 0 (omega (arith, le, lt))

pub grows_by : (l m : Lists) (turns more : List Turn) (d : Done) (level : ℕ) (parts : List FreeTermFormula) (uses : ℕ)
    → IsGrown l m turns more d level parts uses → GrowsBy l m d (held_at level (suc (length l.steps.items)) parts)
grows_by l m turns more d level parts uses g = record {
  rules = g.rules;
  start = g.start;
  entries_more = g.entries;
  steps_more = g.steps;
  metavars_more = ap (map name_of) g.metavars ∙ map-append name_of l.metavars.items (names_by d) ∙ ap (λ xs. map name_of l.metavars.items ++ xs) (names_introduced d);
  born_old = λ i lt. ap (λ xs. get_or xs i 0) born ∙ old_item (born_in l) many number i (omega (arith, lt, born_length l.entries.items));
  born_new = λ i le lt. ap (λ xs. get_or xs i 0) born ∙ new_item (born_in l) many number i (omega (arith, le, born_length l.entries.items)) (omega (arith, lt, born_length l.entries.items, longer));
} where
  many : ℕ
  many = length parts

  number : ℕ
  number = suc (length l.steps.items)

  born : born_in m ≡ born_in l ++ replicate many number
  born = ap (map (λ h. h.born)) g.entries ∙ map-append (λ h. h.born) l.entries.items (held_at level number parts) ∙ ap (λ xs. born_in l ++ xs) (born_many level number parts)

  longer : length m.entries.items ≡ length l.entries.items + many
  longer = ap length g.entries ∙ length-append l.entries.items (held_at level number parts) ∙ ap (λ k. length l.entries.items + k) (held_many level number parts)
