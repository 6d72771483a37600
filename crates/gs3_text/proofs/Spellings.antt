-- Reading a symbol, and reading it again.
use Rattle.std.proofs.Common.{◌≡◌, ℕ, ◌+◌, Bool, true, false, cond, eqb, List, [], ◌∷◌, ◌++◌, take, drop, length, Option, Some, None, option_map, refl, ap, sym, ◌∙◌, subst, append_assoc, take-append-drop}
use Rattle.std.specs.List.{prefix_len, list_all, flat_map}
use Rattle.std.proofs.lemmas.Bool.{and_parts, and_from, or_left, eqb-true, false≢true}
use Rattle.std.proofs.lemmas.Option.{none-some, same_Some, some_pair_parts}
use Rattle.std.proofs.lemmas.List.{take_at, drop_at}
use Rattle.fol_core.specs.Spelling.{is_between, is_word_byte, is_lower_word, escaped, spelled_symbol}
use Rattle.gs3_text.specs.Reading.{Read, Spelling, quoted_at, unescaped, spelling_at, quoted_name, name_of_spelling}
use Rattle.gs3_text.proofs.Options.{option_map_some}
use Rattle.gs3_text.proofs.Numbers.{one_more, front_all, front_len}
use Rattle.gs3_text.proofs.Quotes.{quoted_takes, quoted_again, unescaped_takes, unescaped_again}

small_letter : (c : ℕ) → is_between 97 122 c ≡ true → is_word_byte c ≡ true
small_letter c e = or_left _ (eqb c 95) (or_left _ (is_between 48 57 c) (or_left (is_between 97 122 c) (is_between 65 90 c) e))

lower_front : (c : ℕ) (cs : List ℕ) → is_between 97 122 c ≡ true → is_lower_word (take (prefix_len is_word_byte (c ∷ cs)) (c ∷ cs)) ≡ true
lower_front c cs e =
    ap (λ b. is_lower_word (take (cond b (1 + prefix_len is_word_byte cs) 0) (c ∷ cs))) (small_letter c e)
    ∙ ap (λ n. is_lower_word (take n (c ∷ cs))) (one_more (prefix_len is_word_byte cs))
    ∙ and_from (is_between 97 122 c) _ e (front_all is_word_byte cs)

name_case : (b : Bool) (w name : List ℕ) → is_lower_word w ≡ b → cond b None (Some w) ≡ Some name → (w ≡ name) × (is_lower_word name ≡ false)
name_case true w name is e = absurd (none-some name e)
name_case false w name is e = let same = same_Some w name e in (same, subst (λ v. is_lower_word v ≡ false) same is)

quoted_name_some : (o : Option (List ℕ)) (name : List ℕ) → quoted_name o ≡ Some name → (o ≡ Some name) × (is_lower_word name ≡ false)
unfolding quoted_name
quoted_name_some None name e = absurd (none-some name e)
quoted_name_some (Some w) name e = let found = name_case (is_lower_word w) w name refl e in (ap Some found.0, found.1)

in_quotes : (w rest : List ℕ) → is_lower_word w ≡ false → spelled_symbol w ++ rest ≡ 39 ∷ (flat_map escaped w ++ 39 ∷ rest)
in_quotes w rest e =
    ap (λ b. cond b w (39 ∷ (flat_map escaped w ++ 39 ∷ [])) ++ rest) e ∙ ap (λ bs. 39 ∷ bs) (append_assoc (flat_map escaped w) (39 ∷ []) rest)

as_word : (w rest : List ℕ) → is_lower_word w ≡ true → spelled_symbol w ++ rest ≡ w ++ rest
as_word w rest e = ap (λ b. cond b w (39 ∷ (flat_map escaped w ++ 39 ∷ [])) ++ rest) e

spelling_case : (c : ℕ) (cs : List ℕ) (s : Spelling) (rest name : List ℕ) (b1 b2 : Bool) → is_between 97 122 c ≡ b1 → (b2 ≡ true → c ≡ 39) → let n = prefix_len is_word_byte (c ∷ cs) in
    cond {A = Read Spelling} b1 (Some ((false, take n (c ∷ cs)), drop n (c ∷ cs))) (cond {A = Read Spelling} b2 (option_map (λ q. ((true, q.0), q.1)) (quoted_at false cs)) None) ≡ Some (s, rest)
    → name_of_spelling s ≡ Some name → c ∷ cs ≡ spelled_symbol name ++ rest
spelling_case c cs s rest name true b2 is quote e h =
    let n = prefix_len is_word_byte (c ∷ cs) in
    let parts = some_pair_parts {A = Spelling} (false, take n (c ∷ cs)) s (drop n (c ∷ cs)) rest e in
    let same = same_Some (take n (c ∷ cs)) name (subst (λ t. name_of_spelling t ≡ Some name) (sym parts.0) h) in
    let lower = subst (λ w. is_lower_word w ≡ true) same (lower_front c cs is) in
    sym (take-append-drop n (c ∷ cs)) ∙ (λ i. same i ++ parts.1 i) ∙ sym (as_word name rest lower)
spelling_case c cs s rest name false true is quote e h =
    let found = option_map_some (λ (q : List ℕ × List ℕ). let t : Spelling = (true, q.0) in (t, q.1)) (quoted_at false cs) (s, rest) e in
    let parts = some_pair_parts {A = Spelling} (true, (found.0).0) s (found.0).1 rest (ap Some found.2) in
    let named = quoted_name_some (unescaped false (found.0).0) name (subst (λ t. name_of_spelling t ≡ Some name) (sym parts.0) h) in
    let inner = unescaped_takes false (found.0).0 name named.0 in
    let text = quoted_takes false cs (found.0).0 (found.0).1 found.1 in
    (λ i. quote refl i ∷ text i) ∙ (λ i. 39 ∷ (inner i ++ 39 ∷ parts.1 i)) ∙ sym (in_quotes name rest named.1)
spelling_case c cs s rest name false false is quote e h = absurd (none-some (s, rest) e)

-- A symbol that was read is spelled so.
pub symbol_takes : (bytes : List ℕ) (s : Spelling) (rest name : List ℕ) → spelling_at bytes ≡ Some (s, rest) → name_of_spelling s ≡ Some name → bytes ≡ spelled_symbol name ++ rest
unfolding spelling_at
symbol_takes [] s rest name e h = absurd (none-some (s, rest) e)
symbol_takes (c ∷ cs) s rest name e h = spelling_case c cs s rest name (is_between 97 122 c) (eqb c 39) refl (eqb-true c 39) e h

abbrev pub IsReadAs : List ℕ → List ℕ → List ℕ → Type 0
IsReadAs bytes name rest = (s : Spelling) × (spelling_at bytes ≡ Some (s, rest)) × (name_of_spelling s ≡ Some name)

word_again : (w rest : List ℕ) → is_lower_word w ≡ true → prefix_len is_word_byte rest ≡ 0 → IsReadAs (w ++ rest) w rest
unfolding spelling_at
word_again [] rest e stop = absurd (false≢true e)
word_again (c ∷ cs) rest e stop =
    let both = and_parts (is_between 97 122 c) (list_all is_word_byte cs) e in
    let all = and_from (is_word_byte c) _ (small_letter c both.0) both.1 in
    let len = front_len is_word_byte (c ∷ cs) rest all stop in
    let s : Spelling = (false, c ∷ cs) in (
      s,
      ap (λ b. cond b (Some ((false, take (prefix_len is_word_byte (c ∷ cs ++ rest)) (c ∷ cs ++ rest)), drop (prefix_len is_word_byte (c ∷ cs ++ rest)) (c ∷ cs ++ rest)))
          (cond (eqb c 39) (option_map (λ q. ((true, q.0), q.1)) (quoted_at false (cs ++ rest))) None)) both.0
          ∙ ap (λ n. Some ((false, take n (c ∷ cs ++ rest)), drop n (c ∷ cs ++ rest))) len
          ∙ (λ i. Some ((false, take_at (c ∷ cs) rest (length (c ∷ cs)) refl i), drop_at (c ∷ cs) rest (length (c ∷ cs)) refl i)),
      refl,
    )

quotes_again : (w rest : List ℕ) → is_lower_word w ≡ false → IsReadAs (39 ∷ (flat_map escaped w ++ 39 ∷ rest)) w rest
unfolding spelling_at quoted_name
quotes_again w rest e =
    let s : Spelling = (true, flat_map escaped w) in
    (s, ap (option_map (λ q. ((true, q.0), q.1))) (quoted_again w rest), ap quoted_name (unescaped_again w) ∙ ap (λ b. cond b None (Some w)) e)

again_case : (w rest : List ℕ) (b : Bool) → is_lower_word w ≡ b → prefix_len is_word_byte rest ≡ 0 → IsReadAs (spelled_symbol w ++ rest) w rest
again_case w rest true e stop = subst (λ bytes. IsReadAs bytes w rest) (sym (as_word w rest e)) (word_again w rest e stop)
again_case w rest false e stop = subst (λ bytes. IsReadAs bytes w rest) (sym (in_quotes w rest e)) (quotes_again w rest e)

-- A symbol that is spelled so is read, where no letter, digit or underscore follows.
pub symbol_again : (w rest : List ℕ) → prefix_len is_word_byte rest ≡ 0 → IsReadAs (spelled_symbol w ++ rest) w rest
symbol_again w rest stop = again_case w rest (is_lower_word w) refl stop
