-- What it says that lines were read, and that the lines of a proof are read.
use Rattle.std.proofs.Common.{◌≡◌, ℕ, zero, suc, ◌+◌, Bool, true, false, cond, List, [], ◌∷◌, ◌++◌, map, drop, length, Option, Some, None, refl, ap, sym, ◌∙◌, subst, arith, append_assoc}
use Rattle.std.specs.List.{AllByRecursion, filter}
use Rattle.std.specs.Str.{bytes_eq}
use Rattle.std.proofs.lemmas.List.{append-nil}
use Rattle.std.proofs.lemmas.Option.{none-some, same_Some, cond_some}
use Rattle.std.proofs.lemmas.Slice.Eq.{bytes_eq-Decides}
use Rattle.fol_core.specs.Symbol.{Symbol, AreSymbols}
use Rattle.gs3_rules.specs.Rules.{Rule}
use Rattle.gs3_rules.specs.Refutes.{ProofTree, preorder, premises_of}
use Rattle.gs3_text.specs.ProofText.{heading, line_of, proof_lines, says, IsSpellable, numbers_from, AreLinesOf}
use Rattle.gs3_text.specs.Reading.{step_of, ◌>>=◌}
use Rattle.gs3_text.specs.Scanning.{Scan, start, with_step, said_by, next_scan}
use Rattle.gs3_text.proofs.Options.{bind_some}
use Rattle.gs3_text.proofs.Lines.{step_takes, step_again}
use Rattle.gs3_text.proofs.Shapes.{heads, tails, owed_after, whole_owes}

-- the lines, the first of which has the number n, read one after the other
abbrev pub scan : List Symbol → ℕ → Scan → List (List ℕ) → Option Scan
scan functions n s [] = Some s
scan functions n s (line ∷ lines) = next_scan functions n line s >>= λ t. scan functions (suc n) t lines

pub scan-append : (functions : List Symbol) (ls ms : List (List ℕ)) (n : ℕ) (s t : Scan) → scan functions n s ls ≡ Some t → scan functions n s (ls ++ ms) ≡ scan functions (n + length ls) t ms
scan-append functions [] ms n s t e = let k : n ≡ n + 0 = omega arith in λ i. scan functions (k i) (same_Some s t e i) ms
scan-append functions (l ∷ ls) ms n s t e =
    let first = bind_some (next_scan functions n l s) (λ u. scan functions (suc n) u ls) t e in
    let k : suc n + length ls ≡ n + suc (length ls) = omega arith in
    ap (λ o. o >>= λ u. scan functions (suc n) u (ls ++ ms)) first.1 ∙ scan-append functions ls ms (suc n) first.0 t first.2 ∙ ap (λ j. scan functions j t ms) k

pub scan_front : (functions : List Symbol) (ls ms : List (List ℕ)) (n : ℕ) (s t : Scan) → scan functions n s (ls ++ ms) ≡ Some t → (u : Scan) × (scan functions n s ls ≡ Some u)
scan_front functions [] ms n s t e = (s, refl)
scan_front functions (l ∷ ls) ms n s t e =
    let first = bind_some (next_scan functions n l s) (λ u. scan functions (suc n) u (ls ++ ms)) t e in
    let more = scan_front functions ls ms (suc n) first.0 t first.2 in
    (more.0, ap (λ o. o >>= λ u. scan functions (suc n) u ls) first.1 ∙ more.1)

no_cons : {A : Type 0} (x : A) (xs : List A) → x ∷ xs ≡ [] → ⊥
no_cons x xs e = cc

-- Lines behind the heading

-- What the lines say, read where j premises are open.
pub record Say (functions : List Symbol) (n j : ℕ) (s : Scan) (lines : List (List ℕ)) (t : Scan) : Type 0 where
  pub steps : List Rule
  pub said : filter says lines ≡ map (line_of functions) steps
  pub spellable : AllByRecursion (IsSpellable functions) steps
  pub left : ℕ
  pub owes : t.owed ≡ Some left
  pub counted : owed_after j steps ≡ Some left
  pub rules : t.rules ≡ s.rules ++ steps
  pub numbers : t.numbers ≡ s.numbers ++ numbers_from n lines

say_step : (functions : List Symbol) (n others : ℕ) (s : Scan) (line : List ℕ) (lines : List (List ℕ)) (rule : Rule) (t : Scan) → says line ≡ true → step_of functions line ≡ Some rule → Say functions (suc n) (others + premises_of rule) (with_step n others s rule) lines t → Say functions n (suc others) s (line ∷ lines) t
say_step functions n others s line lines rule t is read more =
    let taken = step_takes functions line rule read in record {
      steps = rule ∷ more.steps;
      said = ap (λ b. cond b (line ∷ filter says lines) (filter says lines)) is ∙ (λ i. taken.0 i ∷ more.said i);
      spellable = (taken.1, more.spellable);
      left = more.left;
      owes = more.owes;
      counted = more.counted;
      rules = more.rules ∙ append_assoc s.rules (rule ∷ []) more.steps;
      numbers = more.numbers ∙ append_assoc s.numbers (n ∷ []) (numbers_from (suc n) lines)
          ∙ ap (λ b. s.numbers ++ cond b (n ∷ numbers_from (suc n) lines) (numbers_from (suc n) lines)) (sym is);
    }

say_none : (functions : List Symbol) (n j : ℕ) (s : Scan) (line : List ℕ) (lines : List (List ℕ)) (t : Scan) → says line ≡ false → Say functions (suc n) j s lines t → Say functions n j s (line ∷ lines) t
say_none functions n j s line lines t is more = record {
  steps = more.steps;
  said = ap (λ b. cond b (line ∷ filter says lines) (filter says lines)) is ∙ more.said;
  spellable = more.spellable;
  left = more.left;
  owes = more.owes;
  counted = more.counted;
  rules = more.rules;
  numbers = more.numbers ∙ ap (λ b. s.numbers ++ cond b (n ∷ numbers_from (suc n) lines) (numbers_from (suc n) lines)) (sym is);
}

line_says : (functions : List Symbol) (line : List ℕ) (lines : List (List ℕ)) (n j : ℕ) (s u t : Scan) (b : Bool) → says line ≡ b → s.owed ≡ Some j → cond b (said_by functions n line s.owed s) (Some s) ≡ Some u → scan functions (suc n) u lines ≡ Some t
    → ((k : ℕ) (v : Scan) → v.owed ≡ Some k → scan functions (suc n) v lines ≡ Some t → Say functions (suc n) k v lines t) → Say functions n j s (line ∷ lines) t
unfolding said_by
line_says functions line lines n j s u t false is owes e f rest =
    say_none functions n j s line lines t is (rest j s owes (ap (λ u. scan functions (suc n) u lines) (same_Some s u e) ∙ f))
line_says functions line lines n zero s u t true is owes e f rest = absurd (none-some u (ap (λ o. said_by functions n line o s) (sym owes) ∙ e))
line_says functions line lines n (suc others) s u t true is owes e f rest =
    let found = bind_some (step_of functions line) (λ rule. Some (with_step n others s rule)) u (ap (λ o. said_by functions n line o s) (sym owes) ∙ e) in
    say_step functions n others s line lines found.0 t is found.1
    (rest (others + premises_of found.0) (with_step n others s found.0) refl (ap (λ u. scan functions (suc n) u lines) (same_Some (with_step n others s found.0) u found.2) ∙ f))

pub scan_says : (functions : List Symbol) (lines : List (List ℕ)) (n j : ℕ) (s t : Scan) → s.owed ≡ Some j → scan functions n s lines ≡ Some t → Say functions n j s lines t
unfolding next_scan
scan_says functions [] n j s t owes e =
    subst (Say functions n j s []) (same_Some s t e)
    (record { steps = []; said = refl; spellable = tt; left = j; owes = owes; counted = refl; rules = sym (append-nil s.rules); numbers = sym (append-nil s.numbers) })
scan_says functions (line ∷ lines) n j s t owes e =
    let first = bind_some (next_scan functions n line s) (λ u. scan functions (suc n) u lines) t e in
    line_says functions line lines n j s first.0 t (says line) refl owes first.1 first.2 (λ k v. scan_says functions lines (suc n) k v t)

-- Lines from the beginning

-- The lines say nothing so far, or the heading and then steps.
pub data Front (functions : List Symbol) (n : ℕ) (lines : List (List ℕ)) (t : Scan) : Type 0 where
  nothing : filter says lines ≡ [] → t.owed ≡ None → Front functions n lines t
  begun : (steps : List Rule) (left : ℕ) → filter says lines ≡ proof_lines functions steps → AllByRecursion (IsSpellable functions) steps → owed_after 1 steps ≡ Some left → t.owed ≡ Some left → t.rules ≡ steps → t.numbers ≡ drop 1 (numbers_from n lines) → Front functions n lines t

front_none : (functions : List Symbol) (n : ℕ) (line : List ℕ) (lines : List (List ℕ)) (t : Scan) → says line ≡ false → Front functions (suc n) lines t → Front functions n (line ∷ lines) t
front_none functions n line lines t is (nothing said owes) = nothing (ap (λ b. cond b (line ∷ filter says lines) (filter says lines)) is ∙ said) owes
front_none functions n line lines t is (begun steps left said spellable counted owes rules numbers) =
    begun steps left (ap (λ b. cond b (line ∷ filter says lines) (filter says lines)) is ∙ said) spellable counted owes rules
    (numbers ∙ ap (λ b. drop 1 (cond b (n ∷ numbers_from (suc n) lines) (numbers_from (suc n) lines))) (sym is))

abbrev pub headed : Scan
headed = record { owed = Some 1; rules = []; numbers = [] }

front_head : (functions : List Symbol) (n : ℕ) (line : List ℕ) (lines : List (List ℕ)) (t : Scan) → says line ≡ true → line ≡ heading → Say functions (suc n) 1 headed lines t → Front functions n (line ∷ lines) t
front_head functions n line lines t is head more =
    begun more.steps more.left (ap (λ b. cond b (line ∷ filter says lines) (filter says lines)) is ∙ (λ i. head i ∷ more.said i)) more.spellable more.counted more.owes more.rules
    (more.numbers ∙ ap (λ b. drop 1 (cond b (n ∷ numbers_from (suc n) lines) (numbers_from (suc n) lines))) (sym is))

front_line : (functions : List Symbol) (line : List ℕ) (lines : List (List ℕ)) (n : ℕ) (u t : Scan) (b : Bool) → says line ≡ b → cond b (said_by functions n line None start) (Some start) ≡ Some u → scan functions (suc n) u lines ≡ Some t
    → (scan functions (suc n) start lines ≡ Some t → Front functions (suc n) lines t) → Front functions n (line ∷ lines) t
unfolding said_by
front_line functions line lines n u t false is e f rest = front_none functions n line lines t is (rest (ap (λ u. scan functions (suc n) u lines) (same_Some start u e) ∙ f))
front_line functions line lines n u t true is e f rest =
    let found = cond_some (bytes_eq line heading) headed u e in
    front_head functions n line lines t is ((bytes_eq-Decides line heading).0 found.0)
    (scan_says functions lines (suc n) 1 headed t refl (ap (λ u. scan functions (suc n) u lines) found.1 ∙ f))

pub scan_front_says : (functions : List Symbol) (lines : List (List ℕ)) (n : ℕ) (t : Scan) → scan functions n start lines ≡ Some t → Front functions n lines t
unfolding next_scan
scan_front_says functions [] n t e = nothing refl (ap (λ (s : Scan). s.owed) (sym (same_Some start t e)))
scan_front_says functions (line ∷ lines) n t e =
    let first = bind_some (next_scan functions n line start) (λ u. scan functions (suc n) u lines) t e in
    front_line functions line lines n first.0 t (says line) refl first.1 first.2 (λ f. scan_front_says functions lines (suc n) t f)

-- The lines of a proof are read

abbrev pub Comes : List Symbol → ℕ → Scan → List (List ℕ) → ℕ → Type 0
Comes functions n s lines left = (t : Scan) × (scan functions n s lines ≡ Some t) × (t.owed ≡ Some left)

comes_line : (functions : List Symbol) → AreSymbols functions → (n j left : ℕ) (s : Scan) (line : List ℕ) (lines : List (List ℕ)) (steps : List Rule) (b : Bool) → says line ≡ b → s.owed ≡ Some j
    → cond b (line ∷ filter says lines) (filter says lines) ≡ map (line_of functions) steps → AllByRecursion (IsSpellable functions) steps → owed_after j steps ≡ Some left
    → ((k : ℕ) (v : Scan) (more : List Rule) → v.owed ≡ Some k → filter says lines ≡ map (line_of functions) more → AllByRecursion (IsSpellable functions) more → owed_after k more ≡ Some left → Comes functions (suc n) v lines left)
    → Comes functions n s (line ∷ lines) left
unfolding next_scan said_by
comes_line functions symbols n j left s line lines steps false is owes said spellable counted rest =
    let more = rest j s steps owes said spellable counted in
    (more.0, ap (λ b. cond b (said_by functions n line s.owed s) (Some s) >>= λ t. scan functions (suc n) t lines) is ∙ more.1, more.2)
comes_line functions symbols n j left s line lines [] true is owes said spellable counted rest = absurd (no_cons line (filter says lines) said)
comes_line functions symbols n zero left s line lines (rule ∷ steps) true is owes said spellable counted rest = absurd (none-some left counted)
comes_line functions symbols n (suc others) left s line lines (rule ∷ steps) true is owes said spellable counted rest =
    let more = rest (others + premises_of rule) (with_step n others s rule) steps refl (tails line (line_of functions rule) (filter says lines) (map (line_of functions) steps) said) spellable.1 counted in
    let read = ap (step_of functions) (heads line (line_of functions rule) (filter says lines) (map (line_of functions) steps) said) ∙ step_again functions symbols rule spellable.0 in (
      more.0,
      ap (λ b. cond b (said_by functions n line s.owed s) (Some s) >>= λ t. scan functions (suc n) t lines) is
          ∙ ap (λ o. said_by functions n line o s >>= λ t. scan functions (suc n) t lines) owes
          ∙ ap (λ o. (o >>= λ rule. Some (with_step n others s rule)) >>= λ t. scan functions (suc n) t lines) read ∙ more.1,
      more.2,
    )

pub steps_come : (functions : List Symbol) → AreSymbols functions → (lines : List (List ℕ)) (steps : List Rule) (n j left : ℕ) (s : Scan) → s.owed ≡ Some j → filter says lines ≡ map (line_of functions) steps → AllByRecursion (IsSpellable functions) steps → owed_after j steps ≡ Some left → Comes functions n s lines left
steps_come functions symbols [] [] n j left s owes said spellable counted = (s, refl, owes ∙ counted)
steps_come functions symbols [] (rule ∷ steps) n j left s owes said spellable counted = absurd (no_cons (line_of functions rule) (map (line_of functions) steps) (sym said))
steps_come functions symbols (line ∷ lines) steps n j left s owes said spellable counted =
    comes_line functions symbols n j left s line lines steps (says line) refl owes said spellable counted
    (λ k v more. steps_come functions symbols lines more (suc n) k left v)

head_line : (functions : List Symbol) → AreSymbols functions → (n left : ℕ) (line : List ℕ) (lines : List (List ℕ)) (steps : List Rule) (b : Bool) → says line ≡ b
    → cond b (line ∷ filter says lines) (filter says lines) ≡ proof_lines functions steps → AllByRecursion (IsSpellable functions) steps → owed_after 1 steps ≡ Some left
    → (filter says lines ≡ proof_lines functions steps → Comes functions (suc n) start lines left) → Comes functions n start (line ∷ lines) left
unfolding next_scan said_by
head_line functions symbols n left line lines steps false is said spellable counted rest =
    let more = rest said in
    (more.0, ap (λ b. cond b (said_by functions n line None start) (Some start) >>= λ t. scan functions (suc n) t lines) is ∙ more.1, more.2)
head_line functions symbols n left line lines steps true is said spellable counted rest =
    let more = steps_come functions symbols lines steps (suc n) 1 left headed refl (tails line heading (filter says lines) (map (line_of functions) steps) said) spellable counted in
    let head = (bytes_eq-Decides line heading).1 (heads line heading (filter says lines) (map (line_of functions) steps) said) in (
      more.0,
      ap (λ b. cond b (said_by functions n line None start) (Some start) >>= λ t. scan functions (suc n) t lines) is
          ∙ ap (λ b. cond b (Some headed) None >>= λ t. scan functions (suc n) t lines) head ∙ more.1,
      more.2,
    )

pub proof_comes : (functions : List Symbol) → AreSymbols functions → (lines : List (List ℕ)) (steps : List Rule) (n left : ℕ) → filter says lines ≡ proof_lines functions steps → AllByRecursion (IsSpellable functions) steps → owed_after 1 steps ≡ Some left → Comes functions n start lines left
proof_comes functions symbols [] steps n left said spellable counted = absurd (no_cons heading (map (line_of functions) steps) (sym said))
proof_comes functions symbols (line ∷ lines) steps n left said spellable counted =
    head_line functions symbols n left line lines steps (says line) refl said spellable counted
    (λ more. proof_comes functions symbols lines steps (suc n) left more spellable counted)

pub tree_comes : (functions : List Symbol) → AreSymbols functions → (lines : List (List ℕ)) (tree : ProofTree) → AreLinesOf functions lines tree → Comes functions 1 start lines 0
tree_comes functions symbols lines tree are = proof_comes functions symbols lines (preorder tree) 1 0 are.said are.spellable (whole_owes tree are.shaped)
