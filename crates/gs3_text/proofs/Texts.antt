-- What reading a text line by line says of the whole text.
use Rattle.std.proofs.Common.{◌≡◌, ℕ, zero, suc, ◌+◌, ◌<◌, Bool, true, false, cond, List, [], ◌∷◌, ◌++◌, map, take, drop, length, Some, None, ◌⊎◌, inl, inr, refl, ap, sym, ◌∙◌, subst, arith, append_assoc, length-append, take-append-drop, lit<}
use Rattle.std.specs.List.{AllByRecursion, filter}
use Rattle.std.proofs.lemmas.Bool.{cases_order}
use Rattle.std.proofs.lemmas.List.{append-nil, map-append, take_at, take_all}
use Rattle.std.proofs.lemmas.Option.{none-some, same_Some}
use Rattle.fol_core.specs.Symbol.{Symbol, AreSymbols}
use Rattle.gs3_rules.specs.Rules.{Rule, false_at}
use Rattle.gs3_rules.specs.Refutes.{ProofTree, preorder, IsWhole}
use Rattle.gs3_text.specs.ProofText.{heading, line_of, proof_lines, text_of, says, IsLine, IsSpellable, IsSpellableTerm, AreLinesOf, ProofText, CanGoOn, IsMalformedAt, IsReading}
use Rattle.gs3_text.specs.Scanning.{Scan, start, next_scan}
use Rattle.gs3_text.specs.Reading.{step_of, ◌>>=◌}
use Rattle.gs3_text.proofs.Feeds.{decimal_is_line}
use Rattle.gs3_text.proofs.Written.{all_said}
use Rattle.gs3_text.proofs.Lines.{step_again}
use Rattle.gs3_text.proofs.Shapes.{heads, tails, owed-append, whole_from, closing, closing_owes, one_tree_of}
use Rattle.gs3_text.proofs.Cuts.{text_cons, text-append, lines-append, one_cut, cut}
use Rattle.gs3_text.proofs.Scans.{scan, scan-append, scan_front, Front, nothing, begun, scan_front_says, tree_comes}

chosen_first : (b : Bool) (l : List ℕ) (ls ms : List (List ℕ)) → cond b (l ∷ (ls ++ ms)) (ls ++ ms) ≡ cond b (l ∷ ls) ls ++ ms
chosen_first true l ls ms = refl
chosen_first false l ls ms = refl

filter-append : (ls ms : List (List ℕ)) → filter says (ls ++ ms) ≡ filter says ls ++ filter says ms
filter-append [] ms = refl
filter-append (l ∷ ls) ms = ap (λ more. cond (says l) (l ∷ more) more) (filter-append ls ms) ∙ chosen_first (says l) l (filter says ls) (filter says ms)

all-append : {A : Type 0} (P : A → Type 0) (xs ys : List A) → AllByRecursion P xs → AllByRecursion P ys → AllByRecursion P (xs ++ ys)
all-append P [] ys p q = q
all-append P (x ∷ xs) ys p q = (p.0, all-append P xs ys p.1 q)

-- Lines that were read can go on

one_step_line : (functions : List Symbol) → IsLine (line_of functions (false_at 0))
one_step_line functions = decimal_is_line 0 (lit< tt)

closing_lines : (functions : List Symbol) (k : ℕ) → AllByRecursion IsLine (map (line_of functions) (closing k))
closing_lines functions zero = tt
closing_lines functions (suc k) = (one_step_line functions, closing_lines functions k)

closing_spellable : (functions : List Symbol) (k : ℕ) → AllByRecursion (IsSpellable functions) (closing k)
closing_spellable functions zero = tt
closing_spellable functions (suc k) = ((lit< tt, tt), closing_spellable functions k)

-- the lines, and behind them the lines of the steps
goes_on : (functions : List Symbol) (lines more : List (List ℕ)) (steps : List Rule) → AllByRecursion IsLine lines → AllByRecursion IsLine more → filter says (lines ++ more) ≡ proof_lines functions steps → AllByRecursion (IsSpellable functions) steps → IsWhole steps → CanGoOn functions lines
goes_on functions lines more steps p q said spellable whole = (
  more,
  whole.0,
  record {
    whole = lines-append lines more p q;
    said = said ∙ ap (proof_lines functions) (sym whole.2);
    shaped = whole.1;
    spellable = subst (AllByRecursion (IsSpellable functions)) (sym whole.2) spellable;
  },
)

go_on_case : (functions : List Symbol) (lines : List (List ℕ)) (t : Scan) → AllByRecursion IsLine lines → Front functions 1 lines t → CanGoOn functions lines
go_on_case functions lines t whole (nothing said owes) =
    goes_on functions lines (heading ∷ line_of functions (false_at 0) ∷ []) (false_at 0 ∷ []) whole (refl, (one_step_line functions, tt))
    (filter-append lines (heading ∷ line_of functions (false_at 0) ∷ []) ∙ ap (λ ls. ls ++ heading ∷ line_of functions (false_at 0) ∷ []) said) ((lit< tt, tt), tt) (whole_from (false_at 0 ∷ []) refl)
go_on_case functions lines t whole (begun steps left said spellable counted owes rules numbers) =
    let more = map (line_of functions) (closing left) in
    goes_on functions lines more (steps ++ closing left) whole (closing_lines functions left)
    (filter-append lines more ∙ (λ i. said i ++ all_said functions (closing left) i) ∙ ap (λ ls. heading ∷ ls) (sym (map-append (line_of functions) steps (closing left))))
    (all-append (IsSpellable functions) steps (closing left) spellable (closing_spellable functions left))
    (whole_from (steps ++ closing left) (owed-append steps (closing left) 1 left counted ∙ closing_owes left))

pub can_go_on : (functions : List Symbol) (lines : List (List ℕ)) (t : Scan) → AllByRecursion IsLine lines → scan functions 1 start lines ≡ Some t → CanGoOn functions lines
can_go_on functions lines t whole e = go_on_case functions lines t whole (scan_front_says functions lines 1 t e)

-- Lines that can go on are read.
pub goes_on_read : (functions : List Symbol) → AreSymbols functions → (lines : List (List ℕ)) → CanGoOn functions lines → (t : Scan) × (scan functions 1 start lines ≡ Some t)
goes_on_read functions symbols lines h =
    let whole = tree_comes functions symbols (lines ++ h.0) h.1 h.2 in scan_front functions lines h.0 1 start whole.0 whole.1

-- In the middle of a text

-- The bytes were read up to the rest, and the next line has that number.
pub record IsReadTo (functions : List Symbol) (bytes rest : List ℕ) (number : ℕ) (s : Scan) : Type 0 where
  pub before : List (List ℕ)
  pub whole : AllByRecursion IsLine before
  pub text : bytes ≡ text_of before ++ rest
  pub number_is : number ≡ suc (length before)
  pub scanned : scan functions 1 start before ≡ Some s

pub read_start : (functions : List Symbol) (bytes : List ℕ) → IsReadTo functions bytes bytes 1 start
read_start functions bytes = record { before = []; whole = tt; text = refl; number_is = refl; scanned = refl }

scan_last : (functions : List Symbol) (before : List (List ℕ)) (line : List ℕ) (number : ℕ) (s : Scan) → number ≡ suc (length before) → scan functions 1 start before ≡ Some s → scan functions 1 start (before ++ line ∷ []) ≡ (next_scan functions number line s >>= λ t. Some t)
scan_last functions before line number s is e =
    let k : 1 + length before ≡ number = omega (arith, is) in scan-append functions before (line ∷ []) 1 start s e ∙ ap (λ n. next_scan functions n line s >>= λ t. Some t) k

pub read_next : (functions : List Symbol) (bytes rest line after : List ℕ) (number : ℕ) (s t : Scan) → IsReadTo functions bytes rest number s → rest ≡ line ++ 10 ∷ after → IsLine line → next_scan functions number line s ≡ Some t → IsReadTo functions bytes after (number + 1) t
read_next functions bytes rest line after number s t p text is_line e = record {
  before = p.before ++ line ∷ [];
  whole = lines-append p.before (line ∷ []) p.whole (is_line, tt);
  text = p.text ∙ ap (λ bs. text_of p.before ++ bs) (text ∙ sym (text_cons line [] after)) ∙ sym (append_assoc (text_of p.before) (text_of (line ∷ [])) after) ∙ ap (λ bs. bs ++ after) (sym (text-append p.before (line ∷ [])));
  number_is = omega (arith, p.number_is, length-append p.before (line ∷ []));
  scanned = scan_last functions p.before line number s p.number_is p.scanned ∙ ap (λ o. o >>= λ t. Some t) e;
}

-- no proof's text goes on with the line
stuck : (functions : List Symbol) → AreSymbols functions → (before : List (List ℕ)) (line : List ℕ) (number : ℕ) (s : Scan) → number ≡ suc (length before) → scan functions 1 start before ≡ Some s → next_scan functions number line s ≡ None → CanGoOn functions (before ++ line ∷ []) → ⊥
stuck functions symbols before line number s is e none h =
    let read = goes_on_read functions symbols (before ++ line ∷ []) h in
    none-some read.0 (sym (scan_last functions before line number s is e ∙ ap (λ o. o >>= λ t. Some t) none) ∙ read.1)

pub malformed_line : (functions : List Symbol) → AreSymbols functions → (bytes rest line after : List ℕ) (number : ℕ) (s : Scan) → IsReadTo functions bytes rest number s → rest ≡ line ++ 10 ∷ after → IsLine line → next_scan functions number line s ≡ None → IsMalformedAt functions bytes number
malformed_line functions symbols bytes rest line after number s p text is_line none =
    let more = cut after in
    let lines = p.before ++ line ∷ more.lines in
    let front : take (suc (length p.before)) lines ≡ p.before ++ line ∷ [] = ap (take (suc (length p.before))) (sym (append_assoc p.before (line ∷ []) more.lines)) ∙ take_at (p.before ++ line ∷ []) more.lines (suc (length p.before)) (omega (arith, length-append p.before (line ∷ []))) in record {
      lines = lines;
      rest = more.rest;
      text = p.text ∙ ap (λ bs. text_of p.before ++ bs) (text ∙ ap (λ bs. line ++ 10 ∷ bs) more.text ∙ sym (text_cons line more.lines more.rest)) ∙ sym (append_assoc (text_of p.before) (text_of (line ∷ more.lines)) more.rest) ∙ ap (λ bs. bs ++ more.rest) (sym (text-append p.before (line ∷ more.lines)));
      whole = lines-append p.before (line ∷ more.lines) p.whole (is_line, more.whole);
      rest_is_line = more.rest_is_line;
      good = length p.before;
      at = p.number_is;
      within = omega (arith, length-append p.before (line ∷ more.lines));
      goes_on = subst (CanGoOn functions) (sym (take_at p.before (line ∷ more.lines) (length p.before) refl)) (can_go_on functions p.before s p.whole p.scanned);
      stops = λ _ h. stuck functions symbols p.before line number s p.number_is p.scanned none (subst (CanGoOn functions) front h);
      ends = λ e. absurd (omega (arith, e, length-append p.before (line ∷ more.lines)));
    }

not_whole : (functions : List Symbol) → AreSymbols functions → (lines : List (List ℕ)) (s : Scan) → scan functions 1 start lines ≡ Some s → (s.owed ≡ Some 0 → ⊥) → (tree : ProofTree) → AreLinesOf functions lines tree → ⊥
not_whole functions symbols lines s e owes tree are =
    let whole = tree_comes functions symbols lines tree are in owes (ap (λ (t : Scan). t.owed) (same_Some s whole.0 (sym e ∙ whole.1)) ∙ whole.2)

pub malformed_end : (functions : List Symbol) → AreSymbols functions → (bytes rest : List ℕ) (number : ℕ) (s : Scan) → IsReadTo functions bytes rest number s → IsLine rest → (0 < length rest) ⊎ (s.owed ≡ Some 0 → ⊥) → IsMalformedAt functions bytes number
malformed_end functions symbols bytes rest number s p is_line bad = record {
  lines = p.before;
  rest = rest;
  text = p.text;
  whole = p.whole;
  rest_is_line = is_line;
  good = length p.before;
  at = p.number_is;
  within = omega arith;
  goes_on = subst (CanGoOn functions) (sym (take_all (length p.before) p.before (omega arith))) (can_go_on functions p.before s p.whole p.scanned);
  stops = λ lt. absurd (omega (arith, lt));
  ends = λ _. elim bad [ inl some ↦ inl some | inr owes ↦ inr (not_whole functions symbols p.before s p.scanned owes) ];
}

same_steps : (functions : List Symbol) → AreSymbols functions → (rs qs : List Rule) → AllByRecursion (IsSpellable functions) rs → AllByRecursion (IsSpellable functions) qs → map (line_of functions) rs ≡ map (line_of functions) qs → rs ≡ qs
same_steps functions symbols [] [] a b e = refl
same_steps functions symbols [] (q ∷ qs) a b e = cc
same_steps functions symbols (r ∷ rs) [] a b e = cc
same_steps functions symbols (r ∷ rs) (q ∷ qs) a b e =
    let first = same_Some r q (sym (step_again functions symbols r a.0) ∙ ap (step_of functions) (heads (line_of functions r) (line_of functions q) (map (line_of functions) rs) (map (line_of functions) qs) e) ∙ step_again functions symbols q b.0) in
    let more = same_steps functions symbols rs qs a.1 b.1 (tails (line_of functions r) (line_of functions q) (map (line_of functions) rs) (map (line_of functions) qs) e) in
    λ i. first i ∷ more i

-- No text is the text of two trees.
pub one_tree : (functions : List Symbol) → AreSymbols functions → (bytes : List ℕ) (s t : ProofTree) → ProofText functions bytes s → ProofText functions bytes t → s ≡ t
one_tree functions symbols bytes s t p q =
    let same = one_cut p.lines q.lines [] [] p.of_tree.whole q.of_tree.whole refl refl (append-nil (text_of p.lines) ∙ sym p.text ∙ q.text ∙ sym (append-nil (text_of q.lines))) in
    let lines = sym p.of_tree.said ∙ ap (filter says) same.0 ∙ q.of_tree.said in
    one_tree_of s t p.of_tree.shaped q.of_tree.shaped
    (same_steps functions symbols (preorder s) (preorder t) p.of_tree.spellable q.of_tree.spellable (tails heading heading (map (line_of functions) (preorder s)) (map (line_of functions) (preorder t)) lines))

read_case : (functions : List Symbol) → AreSymbols functions → (bytes : List ℕ) (lines : List (List ℕ)) (s : Scan) → bytes ≡ text_of lines → AllByRecursion IsLine lines → s.owed ≡ Some 0 → Front functions 1 lines s → IsReading functions bytes s.rules s.numbers
read_case functions symbols bytes lines s text whole owes (nothing said none) = absurd (none-some 0 (sym none ∙ owes))
read_case functions symbols bytes lines s text whole owes (begun steps left said spellable counted left_is rules numbers) =
    let proof = whole_from steps (counted ∙ sym left_is ∙ owes) in
    let its_text : ProofText functions bytes proof.0 = record {
      lines = lines;
      text = text;
      of_tree = record { whole = whole; said = said ∙ ap (proof_lines functions) (sym proof.2); shaped = proof.1; spellable = subst (AllByRecursion (IsSpellable functions)) (sym proof.2) spellable };
    } in record {
      tree = proof.0;
      text = its_text;
      only = λ other other_text. one_tree functions symbols bytes other proof.0 other_text its_text;
      are = proof.2 ∙ sym rules;
      stand = numbers;
    }

pub read_all : (functions : List Symbol) → AreSymbols functions → (bytes rest : List ℕ) (number : ℕ) (s : Scan) → IsReadTo functions bytes rest number s → rest ≡ [] → s.owed ≡ Some 0 → IsReading functions bytes s.rules s.numbers
read_all functions symbols bytes rest number s p none owes =
    read_case functions symbols bytes p.before s (p.text ∙ ap (λ bs. text_of p.before ++ bs) none ∙ append-nil (text_of p.before)) p.whole owes (scan_front_says functions p.before 1 s p.scanned)

-- Laws of texts

-- A text with a line that cannot go on is no text of any tree.
pub malformed_no_text : (functions : List Symbol) (bytes : List ℕ) (line : ℕ) → IsMalformedAt functions bytes line → (tree : ProofTree) → ProofText functions bytes tree → ⊥
malformed_no_text functions bytes line m tree p =
    let same = one_cut m.lines p.lines m.rest [] m.whole p.of_tree.whole m.rest_is_line refl (sym m.text ∙ p.text ∙ sym (append-nil (text_of p.lines))) in
    let are = subst (λ ls. AreLinesOf functions ls tree) (sym same.0) p.of_tree in
    elim (cases_order m.good (length m.lines)) [
      | inl e ↦ elim (m.ends e) [ inl some ↦ omega (arith, some, ap length same.1) | inr none ↦ none tree are ]
      | inr other ↦ elim other [
        | inl lt ↦ m.stops lt (drop (suc m.good) m.lines, tree, subst (λ ls. AreLinesOf functions ls tree) (sym (take-append-drop (suc m.good) m.lines)) are)
        | inr gt ↦ omega (arith, gt, m.within)
      ]
    ]

terms_spellable : (functions : List Symbol) (rules : List Rule) → AllByRecursion (IsSpellable functions) rules → AllByRecursion (IsSpellableTerm functions) rules
terms_spellable functions [] p = tt
terms_spellable functions (rule ∷ rules) p = (p.0.1, terms_spellable functions rules p.1)

-- What was read can be written.
pub reading_spellable : (functions : List Symbol) (bytes : List ℕ) (steps : List Rule) (numbers : List ℕ) → IsReading functions bytes steps numbers → AllByRecursion (IsSpellableTerm functions) steps
reading_spellable functions bytes steps numbers p =
    subst (AllByRecursion (IsSpellableTerm functions)) p.are (terms_spellable functions (preorder p.tree) p.text.of_tree.spellable)
