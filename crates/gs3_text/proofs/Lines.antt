-- Reading a step's line, and reading it again.
use Rattle.std.proofs.Common.{◌≡◌, ℕ, ◌^◌, ◌<◌, ◌≤◌, List, [], ◌∷◌, ◌++◌, take, drop, length, codes, Option, Some, None, option_map, ◌⊎◌, inl, inr, refl, ap, sym, ◌∙◌, subst, arith, append_assoc, take-append-drop}
use Rattle.std.specs.Fmt.{decimal}
use Rattle.std.specs.Str.{bytes_eq}
use Rattle.std.proofs.lemmas.List.{append-nil}
use Rattle.std.proofs.lemmas.Option.{none-some, same_Some, cond_some}
use Rattle.std.proofs.lemmas.Slice.Eq.{bytes_eq-Decides}
use Rattle.fol_core.specs.Symbol.{Symbol, AreSymbols}
use Rattle.fol_core.specs.Spelling.{spelled}
use Rattle.gs3_rules.specs.Rules.{Rule, close, false_at, not_true, alpha, beta, delta, gamma}
use Rattle.gs3_text.specs.ProofText.{line_of, IsPlace, IsSpellable}
use Rattle.gs3_text.specs.Reading.{Read, strip, whole, number_at, place_at, term_at, close_of, delta_of, gamma_of, behind, step_of, ◌>>=◌}
use Rattle.gs3_text.proofs.Options.{option_map_some, bind_some}
use Rattle.gs3_text.proofs.Numbers.{number_takes, number_again}
use Rattle.gs3_text.proofs.Terms.{reads_term}

pub strip_takes : (word bytes rest : List ℕ) → strip word bytes ≡ Some rest → bytes ≡ word ++ rest
unfolding strip
strip_takes word bytes rest e =
    let found = cond_some (bytes_eq (take (length word) bytes) word) (drop (length word) bytes) rest e in
    let front = (bytes_eq-Decides (take (length word) bytes) word).0 found.0 in
    sym (take-append-drop (length word) bytes) ∙ (λ i. front i ++ found.1 i)

whole_some : {A : Type 0} (o : Read A) (x : A) → whole o ≡ Some x → o ≡ Some (x, [])
unfolding whole
whole_some None x e = absurd (none-some x e)
whole_some (Some (y, [])) x e = ap (λ z. Some (z, [])) (same_Some y x e)
whole_some (Some (y, c ∷ cs)) x e = absurd (none-some x e)

-- a number behind which nothing stands
only_takes : (limit : ℕ) (bytes : List ℕ) (n : ℕ) → limit ≤ 2 ^ 64 → whole (number_at limit bytes) ≡ Some n → (bytes ≡ decimal n) × (n < limit)
only_takes limit bytes n small e =
    let taken = number_takes limit bytes n [] small (whole_some (number_at limit bytes) n e) in (taken.0 ∙ append-nil (decimal n), taken.1)

-- A place, the word, and what is left.
record IsPlaced (word bytes : List ℕ) (i : ℕ) (rest : List ℕ) : Type 0 where
  text : bytes ≡ (decimal i ++ word) ++ rest
  small : i < 2 ^ 32

placed : (word bytes : List ℕ) (i : ℕ) (after rest : List ℕ) → place_at bytes ≡ Some (i, after) → strip word after ≡ Some rest → IsPlaced word bytes i rest
placed word bytes i after rest e f =
    let taken = number_takes (2 ^ 32) bytes i after (omega arith) e in record {
      text = taken.0 ∙ ap (λ bs. decimal i ++ bs) (strip_takes word after rest f) ∙ sym (append_assoc (decimal i) word rest);
      small = taken.1;
    }

-- what it says that a line was read as a step
abbrev pub IsLineOf : List Symbol → List ℕ → Rule → Type 0
IsLineOf functions line rule = (line ≡ line_of functions rule) × IsSpellable functions rule

close_takes : (functions : List Symbol) (bytes : List ℕ) (rule : Rule) → close_of bytes ≡ Some rule → IsLineOf functions (codes "close " ++ bytes) rule
unfolding close_of
close_takes functions bytes rule e =
    let first = bind_some (place_at bytes) _ rule e in
    let i = (first.0).0 in
    let second = bind_some (strip (codes " ") (first.0).1) _ rule first.2 in
    let third = bind_some (whole (place_at second.0)) _ rule second.2 in
    let p = placed (codes " ") bytes i (first.0).1 second.0 first.1 second.1 in
    let q = only_takes (2 ^ 32) second.0 third.0 (omega arith) third.1 in
    let is = same_Some (close i third.0) rule third.2 in
    subst (IsLineOf functions (codes "close " ++ bytes)) is
    (ap (λ bs. codes "close " ++ bs) (p.text ∙ ap (λ bs. (decimal i ++ codes " ") ++ bs) q.0), ((p.small, q.1), tt))

delta_takes : (functions : List Symbol) (bytes : List ℕ) (rule : Rule) → delta_of bytes ≡ Some rule → IsLineOf functions (codes "delta " ++ bytes) rule
unfolding delta_of
delta_takes functions bytes rule e =
    let first = bind_some (place_at bytes) _ rule e in
    let i = (first.0).0 in
    let second = bind_some (strip (codes " #") (first.0).1) _ rule first.2 in
    let third = bind_some (whole (number_at (2 ^ 64) second.0)) _ rule second.2 in
    let p = placed (codes " #") bytes i (first.0).1 second.0 first.1 second.1 in
    let q = only_takes (2 ^ 64) second.0 third.0 (omega arith) third.1 in
    let is = same_Some (delta i third.0) rule third.2 in
    subst (IsLineOf functions (codes "delta " ++ bytes)) is
    (ap (λ bs. codes "delta " ++ bs) (p.text ∙ ap (λ bs. (decimal i ++ codes " #") ++ bs) q.0 ∙ append_assoc (decimal i) (codes " #") (decimal third.0) ∙ sym (append_assoc (decimal i) (codes " ") (codes "#" ++ decimal third.0))), ((p.small, q.1), tt))

gamma_takes : (functions : List Symbol) (bytes : List ℕ) (rule : Rule) → gamma_of functions bytes ≡ Some rule → IsLineOf functions (codes "gamma " ++ bytes) rule
unfolding gamma_of
gamma_takes functions bytes rule e =
    let first = bind_some (place_at bytes) _ rule e in
    let i = (first.0).0 in
    let second = bind_some (strip (codes " ") (first.0).1) _ rule first.2 in
    let third = bind_some (whole (term_at functions 4096 second.0)) _ rule second.2 in
    let p = placed (codes " ") bytes i (first.0).1 second.0 first.1 second.1 in
    let q = (reads_term functions 4096).takes second.0 third.0 [] (whole_some (term_at functions 4096 second.0) third.0 third.1) in
    let is = same_Some (gamma i third.0) rule third.2 in
    subst (IsLineOf functions (codes "gamma " ++ bytes)) is
    (ap (λ bs. codes "gamma " ++ bs) (p.text ∙ ap (λ bs. (decimal i ++ codes " ") ++ bs) (q.0 ∙ append-nil (spelled functions third.0))), (p.small, (q.1, q.2)))

place_takes : (bytes : List ℕ) (make : ℕ → Rule) (rule : Rule) → option_map make (whole (place_at bytes)) ≡ Some rule → (i : ℕ) × (bytes ≡ decimal i) × IsPlace i × (make i ≡ rule)
place_takes bytes make rule e =
    let found = option_map_some make (whole (place_at bytes)) rule e in
    let taken = only_takes (2 ^ 32) bytes found.0 (omega arith) found.1 in
    (found.0, taken.0, taken.1, found.2)

behind_cases : {A : Type 0} (o : Option (List ℕ)) (f : List ℕ → Option A) (other : Option A) (y : A) → behind o f other ≡ Some y → ((rest : List ℕ) × (o ≡ Some rest) × (f rest ≡ Some y)) ⊎ (other ≡ Some y)
behind_cases None f other y e = inr e
behind_cases (Some rest) f other y e = inl (rest, refl, e)

-- the line begins with the word, and what is behind it is read
by_word : (functions : List Symbol) (word line : List ℕ) (f : List ℕ → Option Rule) (other : Option Rule) (rule : Rule) → ((bytes : List ℕ) → f bytes ≡ Some rule → IsLineOf functions (word ++ bytes) rule) → (other ≡ Some rule → IsLineOf functions line rule)
    → behind (strip word line) f other ≡ Some rule → IsLineOf functions line rule
by_word functions word line f other rule here there e =
    elim (behind_cases (strip word line) f other rule e) [
      | inl found ↦ subst (λ line. IsLineOf functions line rule) (sym (strip_takes word line found.0 found.1)) (here found.0 found.2)
      | inr more ↦ there more
    ]

-- A step that was read is spelled so.
pub step_takes : (functions : List Symbol) (line : List ℕ) (rule : Rule) → step_of functions line ≡ Some rule → IsLineOf functions line rule
unfolding step_of
step_takes functions line rule e =
    by_word functions (codes "close ") line close_of _ rule (λ bytes f. close_takes functions bytes rule f)
    (by_word functions (codes "false ") line _ _ rule (λ bytes f. let p = place_takes bytes false_at rule f in subst (IsLineOf functions (codes "false " ++ bytes)) p.3 (ap (λ bs. codes "false " ++ bs) p.1, (p.2, tt)))
    (by_word functions (codes "nottrue ") line _ _ rule (λ bytes f. let p = place_takes bytes not_true rule f in subst (IsLineOf functions (codes "nottrue " ++ bytes)) p.3 (ap (λ bs. codes "nottrue " ++ bs) p.1, (p.2, tt)))
    (by_word functions (codes "alpha ") line _ _ rule (λ bytes f. let p = place_takes bytes alpha rule f in subst (IsLineOf functions (codes "alpha " ++ bytes)) p.3 (ap (λ bs. codes "alpha " ++ bs) p.1, (p.2, tt)))
    (by_word functions (codes "beta ") line _ _ rule (λ bytes f. let p = place_takes bytes beta rule f in subst (IsLineOf functions (codes "beta " ++ bytes)) p.3 (ap (λ bs. codes "beta " ++ bs) p.1, (p.2, tt)))
    (by_word functions (codes "delta ") line delta_of _ rule (λ bytes f. delta_takes functions bytes rule f)
    (by_word functions (codes "gamma ") line (gamma_of functions) None rule (λ bytes f. gamma_takes functions bytes rule f)
    (λ f. absurd (none-some rule f)))))))) e

only_again : (limit n : ℕ) → limit ≤ 2 ^ 64 → n < limit → whole (number_at limit (decimal n)) ≡ Some n
unfolding whole
only_again limit n small within = ap (λ bs. whole (number_at limit bs)) (sym (append-nil (decimal n))) ∙ ap whole (number_again limit n [] small within refl)

-- A step that is spelled so is read.
pub step_again : (functions : List Symbol) → AreSymbols functions → (rule : Rule) → IsSpellable functions rule → step_of functions (line_of functions rule) ≡ Some rule
unfolding step_of strip close_of delta_of gamma_of whole
step_again functions symbols (close i j) h =
    ap close_of (append_assoc (decimal i) (codes " ") (decimal j))
    ∙ ap (λ o. o >>= λ i. strip (codes " ") i.1 >>= λ rest. whole (place_at rest) >>= λ j. Some (close i.0 j)) (number_again (2 ^ 32) i (codes " " ++ decimal j) (omega arith) h.0.0 refl)
    ∙ ap (λ o. o >>= λ j. Some (close i j)) (only_again (2 ^ 32) j (omega arith) h.0.1)
step_again functions symbols (false_at i) h = ap (option_map false_at) (only_again (2 ^ 32) i (omega arith) h.0)
step_again functions symbols (not_true i) h = ap (option_map not_true) (only_again (2 ^ 32) i (omega arith) h.0)
step_again functions symbols (alpha i) h = ap (option_map alpha) (only_again (2 ^ 32) i (omega arith) h.0)
step_again functions symbols (beta i) h = ap (option_map beta) (only_again (2 ^ 32) i (omega arith) h.0)
step_again functions symbols (delta i n) h =
    ap delta_of (append_assoc (decimal i) (codes " ") (codes "#" ++ decimal n))
    ∙ ap (λ o. o >>= λ i. strip (codes " #") i.1 >>= λ rest. whole (number_at (2 ^ 64) rest) >>= λ n. Some (delta i.0 n)) (number_again (2 ^ 32) i (codes " #" ++ decimal n) (omega arith) h.0.0 refl)
    ∙ ap (λ o. o >>= λ n. Some (delta i n)) (only_again (2 ^ 64) n (omega arith) h.0.1)
step_again functions symbols (gamma i t) h =
    ap (gamma_of functions) (append_assoc (decimal i) (codes " ") (spelled functions t))
    ∙ ap (λ o. o >>= λ i. strip (codes " ") i.1 >>= λ rest. whole (term_at functions 4096 rest) >>= λ t. Some (gamma i.0 t)) (number_again (2 ^ 32) i (codes " " ++ spelled functions t) (omega arith) h.0 refl)
    ∙ ap (λ bs. whole (term_at functions 4096 bs) >>= λ t. Some (gamma i t)) (sym (append-nil (spelled functions t)))
    ∙ ap (λ o. whole o >>= λ t. Some (gamma i t)) ((reads_term functions 4096).again symbols t [] h.1.0 h.1.1 tt)
