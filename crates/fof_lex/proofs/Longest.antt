-- What is read in front of a text is the gap that stands there, or the longest token.
use Rattle.std.proofs.Common.{◌≡◌, ◌≢◌, ℕ, ◌<◌, ◌≤◌, Bool, true, false, ◌&&◌, ◌||◌, cond, eqb, List, [], ◌∷◌, ◌++◌, length, Some, refl, ap, sym, ◌∙◌, subst, append_assoc, length-append, ◌⊎◌, inl, inr, arith}
use Rattle.std.specs.List.{list_all}
use Rattle.std.proofs.lemmas.Bool.{false≢true, eqb-true, cond_both, cond-true, cond-false, and_from, and_parts, false_from_ne_true}
use Rattle.std.proofs.lemmas.Bool.Decides.{nat_tests}
use Rattle.fof_lex.specs.Bytes.{is_blank, is_lower, is_upper, is_digit, is_word_byte, is_in_line, is_plain}
use Rattle.fof_lex.specs.Tokens.{IsLowerWord, lower_word, IsUpperWord, upper_word, IsDollarWord, one_dollar, two_dollars, IsBody, no_more, itself, escape, IsQuoted, quoted, IsDistinctObject, distinct_object, AreDigits, digits, no_sign, plus, minus, IsNumberTail, IsNumber, number, connective_text, mark_text, Begins, IsLongest, IsGap, blank, line_comment, block_comment, BeginsNothing}
use Rattle.fof_lex.specs.declared.token.Connective.{Connective}
use Rattle.fof_lex.specs.declared.token.Connective.TheVariants.{Equivalent, NotEquivalent, Implies, ImpliedBy, NotAnd, NotOr, NotEqual}
use Rattle.fof_lex.specs.declared.token.Mark.{Mark}
use Rattle.fof_lex.specs.declared.token.Mark.TheVariants.{OpenParenthesis, CloseParenthesis, OpenBracket, CloseBracket, OpenBrace, CloseBrace, Comma, Stop, Colon, Semicolon, Exclamation, Question, Tilde, Ampersand, Bar, Equals, Less, Greater, At, Caret, Plus, Minus, Star, Slash, Backslash, Hash}
use Rattle.fof_lex.specs.declared.token.Kind.{Kind}
use Rattle.fof_lex.specs.declared.token.Kind.TheVariants.{LowerWord, UpperWord, Quoted, DistinctObject, DollarWord, Number, Connective as of_connective, Mark as of_mark}
use Rattle.fof_lex.specs.Reading.{Piece, gap, token, nothing, begins_with, without_first, after, after_close, gap_before, slash_piece, after_quote, token_before, quoted_piece, distinct_piece, dollar_word, dollar_piece, after_number, sign_piece, less_piece, tilde_piece, equals_piece, exclamation_piece, symbol_piece, piece_at}
use Rattle.fof_lex.proofs.Fronts.{Reaches, after_all, run_reaches, first_is}
use Rattle.fof_lex.proofs.Numbers.{number_stands, number_reaches, number_begins}
use Rattle.fof_lex.proofs.Quotes.{plain_parts, closes_body}
use Rattle.fof_lex.proofs.Comments.{ends_body, after_line_end}
use Rattle.fof_lex.proofs.Found.{HasGap, HasToken, IsFound, found}

-- The piece is a token that ends behind the place where `rest` begins, or there and is of the kind.
abbrev Covers : Kind → List ℕ → Piece → Type 0
Covers kind rest (gap r) = ⊥
Covers kind rest nothing = ⊥
Covers kind rest (token other r) = (length r < length rest) ⊎ ((other ≡ kind) × (r ≡ rest))

reaches_covers : (kind : Kind) (r rest : List ℕ) → Reaches r rest → Covers kind rest (token kind r)
reaches_covers kind r rest (inl h) = inl h
reaches_covers kind r rest (inr h) = inr (refl, h)

read_covers : (kind : Kind) (rest r : List ℕ) (piece : Piece) → piece ≡ token kind r → Reaches r rest → Covers kind rest piece
read_covers kind rest r piece e h = subst (Covers kind rest) (sym e) (reaches_covers kind r rest h)

shorter : (p : ℕ → Bool) (text : List ℕ) → begins_with p text ≡ true → length (without_first text) < length text
shorter p [] h = absurd (false≢true h)
shorter p (c ∷ cs) h = omega arith

-- Words

lower_no_blank : (c : ℕ) → is_lower c ≡ true → is_blank c ≡ false
lower_no_blank c h = grind (arith, nat_tests)

upper_no_blank : (c : ℕ) → is_upper c ≡ true → is_blank c ≡ false
upper_no_blank c h = grind (arith, nat_tests)

upper_no_lower : (c : ℕ) → is_upper c ≡ true → is_lower c ≡ false
upper_no_lower c h = grind (arith, nat_tests)

digit_no_blank : (c : ℕ) → is_digit c ≡ true → is_blank c ≡ false
digit_no_blank c h = grind (arith, nat_tests)

digit_no_lower : (c : ℕ) → is_digit c ≡ true → is_lower c ≡ false
digit_no_lower c h = grind (arith, nat_tests)

digit_no_upper : (c : ℕ) → is_digit c ≡ true → is_upper c ≡ false
digit_no_upper c h = grind (arith, nat_tests)

lower_no_dollar : (c : ℕ) → is_lower c ≡ true → eqb 36 c ≡ false
lower_no_dollar c h = grind (arith, nat_tests)

lower_in_word : (c : ℕ) → is_lower c ≡ true → is_word_byte c ≡ true
lower_in_word c h = ap (λ b. ((b || is_upper c) || is_digit c) || eqb c 95) h

blank_first : (c : ℕ) (cs : List ℕ) → is_blank c ≡ true → piece_at (c ∷ cs) ≡ gap cs
unfolding piece_at
blank_first c cs h = cond-true (is_blank c) (gap cs) _ h

lower_first : (c : ℕ) (cs : List ℕ) → is_lower c ≡ true → piece_at (c ∷ cs) ≡ token LowerWord (after is_word_byte cs)
unfolding piece_at
lower_first c cs h = cond-false (is_blank c) (gap cs) _ (lower_no_blank c h) ∙ cond-true (is_lower c) (token LowerWord (after is_word_byte cs)) _ h

upper_first : (c : ℕ) (cs : List ℕ) → is_upper c ≡ true → piece_at (c ∷ cs) ≡ token UpperWord (after is_word_byte cs)
unfolding piece_at
upper_first c cs h =
    cond-false (is_blank c) (gap cs) _ (upper_no_blank c h) ∙ cond-false (is_lower c) (token LowerWord (after is_word_byte cs)) _ (upper_no_lower c h)
    ∙ cond-true (is_upper c) (token UpperWord (after is_word_byte cs)) _ h

digit_first : (c : ℕ) (cs : List ℕ) → is_digit c ≡ true → piece_at (c ∷ cs) ≡ token Number (after_number (c ∷ cs))
unfolding piece_at
digit_first c cs h =
    cond-false (is_blank c) (gap cs) _ (digit_no_blank c h) ∙ cond-false (is_lower c) (token LowerWord (after is_word_byte cs)) _ (digit_no_lower c h)
    ∙ cond-false (is_upper c) (token UpperWord (after is_word_byte cs)) _ (digit_no_upper c h) ∙ cond-true (is_digit c) (token Number (after_number (c ∷ cs))) _ h

lower_covers : (front rest : List ℕ) → IsLowerWord front → Covers LowerWord rest (piece_at (front ++ rest))
lower_covers front rest (lower_word c cs w) =
    let p = and_parts (is_lower c) (list_all is_word_byte cs) w in
    read_covers LowerWord rest _ _ (lower_first c (cs ++ rest) p.0) (run_reaches is_word_byte cs rest p.1)

upper_covers : (front rest : List ℕ) → IsUpperWord front → Covers UpperWord rest (piece_at (front ++ rest))
upper_covers front rest (upper_word c cs h k) = read_covers UpperWord rest _ _ (upper_first c (cs ++ rest) h) (run_reaches is_word_byte cs rest k)

-- Dollar words

dollar_word_covers : (w rest : List ℕ) → IsLowerWord w → Covers DollarWord rest (dollar_word (w ++ rest))
dollar_word_covers w rest (lower_word c cs v) =
    let p = and_parts (is_lower c) (list_all is_word_byte cs) v in
    read_covers DollarWord rest _ _ (cond-true (is_lower c) (token DollarWord (after is_word_byte (c ∷ cs ++ rest))) nothing p.0)
    (run_reaches is_word_byte (c ∷ cs) rest (and_from (is_word_byte c) (list_all is_word_byte cs) (lower_in_word c p.0) p.1))

one_dollar_is : (w rest : List ℕ) → IsLowerWord w → dollar_piece (w ++ rest) ≡ dollar_word (w ++ rest)
unfolding dollar_piece
one_dollar_is w rest (lower_word c cs v) =
    let p = and_parts (is_lower c) (list_all is_word_byte cs) v in cond-false (eqb 36 c) (dollar_word (cs ++ rest)) (dollar_word (c ∷ cs ++ rest)) (lower_no_dollar c p.0)

dollar_covers : (front rest : List ℕ) → IsDollarWord front → Covers DollarWord rest (piece_at (front ++ rest))
unfolding piece_at symbol_piece dollar_piece
dollar_covers front rest (one_dollar w h) = subst (Covers DollarWord rest) (sym (one_dollar_is w rest h)) (dollar_word_covers w rest h)
dollar_covers front rest (two_dollars w h) = dollar_word_covers w rest h

-- Quotes

plain_no_quote : (c : ℕ) → is_plain 39 c ≡ true → eqb 39 c ≡ false
plain_no_quote c h = false_from_ne_true (eqb 39 c) (λ t. false≢true (sym (plain_parts 39 c h).0 ∙ ap (λ x. eqb x 39) (sym (eqb-true 39 c t))))

no_quote_first : (body rest : List ℕ) → body ≢ [] → IsBody 39 body → begins_with (eqb 39) ((body ++ 39 ∷ []) ++ rest) ≡ false
no_quote_first body rest ne no_more = absurd (ne refl)
no_quote_first body rest ne (itself c more h b) = plain_no_quote c h
no_quote_first body rest ne (escape c more h b) = refl

quote_behind : (quote : ℕ) (body rest : List ℕ) → eqb quote quote ≡ true → eqb 92 quote ≡ false → IsBody quote body → after_quote quote false ((body ++ quote ∷ []) ++ rest) ≡ Some rest
quote_behind quote body rest same other b = ap (after_quote quote false) (append_assoc body (quote ∷ []) rest) ∙ closes_body quote body rest same other b

quoted_covers : (front rest : List ℕ) → IsQuoted front → Covers Quoted rest (piece_at (front ++ rest))
unfolding piece_at symbol_piece quoted_piece
quoted_covers front rest (quoted body ne b) =
    read_covers Quoted rest rest _ (cond-false (begins_with (eqb 39) ((body ++ 39 ∷ []) ++ rest)) nothing _ (no_quote_first body rest ne b) ∙ ap (token_before Quoted) (quote_behind 39 body rest refl refl b))
    (inr refl)

distinct_covers : (front rest : List ℕ) → IsDistinctObject front → Covers DistinctObject rest (piece_at (front ++ rest))
unfolding piece_at symbol_piece distinct_piece
distinct_covers front rest (distinct_object body b) = read_covers DistinctObject rest rest _ (ap (token_before DistinctObject) (quote_behind 34 body rest refl refl b)) (inr refl)

-- Numbers

unsigned_covers : (ds tail rest : List ℕ) → AreDigits ds → IsNumberTail tail → Covers Number rest (piece_at ((ds ++ tail) ++ rest))
unsigned_covers ds tail rest (digits d more h k) t =
    read_covers Number rest _ _ (digit_first d ((more ++ tail) ++ rest) h) (number_reaches (d ∷ more) tail rest (digits d more h k) t)

signed_covers : (mark : Mark) (ds tail rest : List ℕ) → AreDigits ds → IsNumberTail tail → Covers Number rest (sign_piece mark ((ds ++ tail) ++ rest))
unfolding sign_piece
signed_covers mark ds tail rest d t =
    read_covers Number rest _ _ (cond-true (begins_with is_digit ((ds ++ tail) ++ rest)) (token Number (after_number ((ds ++ tail) ++ rest))) _ (number_begins ds tail rest d))
    (number_reaches ds tail rest d t)

number_covers : (front rest : List ℕ) → IsNumber front → Covers Number rest (piece_at (front ++ rest))
unfolding piece_at symbol_piece
number_covers front rest (number sign ds tail no_sign d t) = unsigned_covers ds tail rest d t
number_covers front rest (number sign ds tail plus d t) = signed_covers Plus ds tail rest d t
number_covers front rest (number sign ds tail minus d t) = signed_covers Minus ds tail rest d t

number_shorter : (text : List ℕ) → begins_with is_digit text ≡ true → length (after_number text) < length text
number_shorter text h = let n = number_stands text h in some_digits n.is.first n.is.digits n.is.tail n.front n.is.is n.cut where
  some_digits : (ds : List ℕ) → AreDigits ds → (tail front : List ℕ) → front ≡ ds ++ tail → text ≡ front ++ after_number text → length (after_number text) < length text
  some_digits ds (digits d more p q) tail front e cut = omega (arith, ap length cut, length-append front (after_number text), ap length e, length-append (d ∷ more) tail)

-- Connectives and marks

connective_covers : (k : Connective) (rest : List ℕ) → Covers (of_connective k) rest (piece_at (connective_text k ++ rest))
unfolding piece_at symbol_piece less_piece tilde_piece equals_piece exclamation_piece
connective_covers Equivalent rest = inr (refl, refl)
connective_covers NotEquivalent rest = inr (refl, refl)
connective_covers Implies rest = inr (refl, refl)
connective_covers ImpliedBy rest =
    cond_both (begins_with (eqb 62) rest) (token (of_connective Equivalent) (without_first rest)) (token (of_connective ImpliedBy) rest) (Covers (of_connective ImpliedBy) rest)
    (λ h. inl (shorter (eqb 62) rest h)) (λ h. inr (refl, refl))
connective_covers NotAnd rest = inr (refl, refl)
connective_covers NotOr rest = inr (refl, refl)
connective_covers NotEqual rest = inr (refl, refl)

sign_covers : (mark : Mark) (rest : List ℕ) → Covers (of_mark mark) rest (sign_piece mark rest)
unfolding sign_piece
sign_covers mark rest =
    cond_both (begins_with is_digit rest) (token Number (after_number rest)) (token (of_mark mark) rest) (Covers (of_mark mark) rest) (λ h. inl (number_shorter rest h))
    (λ h. inr (refl, refl))

-- the mark alone, or a longer token
longer_covers : (mark : Mark) (n : ℕ) (kind : Kind) (rest : List ℕ) (other : Piece) → Covers (of_mark mark) rest other → Covers (of_mark mark) rest (cond (begins_with (eqb n) rest) (token kind (without_first rest)) other)
longer_covers mark n kind rest other more =
    cond_both (begins_with (eqb n) rest) (token kind (without_first rest)) other (Covers (of_mark mark) rest) (λ h. inl (shorter (eqb n) rest h)) (λ h. more)

two_shorter : (text : List ℕ) (n m : ℕ) → begins_with (eqb n) text ≡ true → begins_with (eqb m) (without_first text) ≡ true → length (without_first (without_first text)) < length text
two_shorter text n m h k = let a = shorter (eqb n) text h in let b = shorter (eqb m) (without_first text) k in omega arith

less_covers : (rest : List ℕ) → Covers (of_mark Less) rest (less_piece rest)
unfolding less_piece
less_covers rest =
    let P : Piece → Type 0 = Covers (of_mark Less) rest in
    cond_both (begins_with (eqb 61) rest) _ _ P
    (λ h. cond_both (begins_with (eqb 62) (without_first rest)) (token (of_connective Equivalent) (without_first (without_first rest))) (token (of_connective ImpliedBy) (without_first rest)) P
    (λ k. inl (two_shorter rest 61 62 h k)) (λ k. inl (shorter (eqb 61) rest h)))
    (λ h. cond_both (begins_with (eqb 126) rest && begins_with (eqb 62) (without_first rest)) (token (of_connective NotEquivalent) (without_first (without_first rest))) (token (of_mark Less) rest) P
    (λ k. let p = and_parts (begins_with (eqb 126) rest) (begins_with (eqb 62) (without_first rest)) k in inl (two_shorter rest 126 62 p.0 p.1)) (λ k. inr (refl, refl)))

slash_covers : (rest : List ℕ) → ((more : List ℕ) → 47 ∷ rest ≡ 47 ∷ 42 ∷ more → ⊥) → Covers (of_mark Slash) rest (slash_piece rest)
unfolding slash_piece
slash_covers rest not_open =
    cond_both (begins_with (eqb 42) rest) (gap_before (after_close (without_first rest))) (token (of_mark Slash) rest) (Covers (of_mark Slash) rest)
    (λ h. let f = first_is 42 rest h in absurd (not_open f.0 (ap (λ bs. 47 ∷ bs) f.1))) (λ h. inr (refl, refl))

mark_covers : (m : Mark) (rest : List ℕ) → ((more : List ℕ) → mark_text m ++ rest ≡ 47 ∷ 42 ∷ more → ⊥) → Covers (of_mark m) rest (piece_at (mark_text m ++ rest))
unfolding piece_at symbol_piece tilde_piece equals_piece exclamation_piece
mark_covers OpenParenthesis rest not_open = inr (refl, refl)
mark_covers CloseParenthesis rest not_open = inr (refl, refl)
mark_covers OpenBracket rest not_open = inr (refl, refl)
mark_covers CloseBracket rest not_open = inr (refl, refl)
mark_covers OpenBrace rest not_open = inr (refl, refl)
mark_covers CloseBrace rest not_open = inr (refl, refl)
mark_covers Comma rest not_open = inr (refl, refl)
mark_covers Stop rest not_open = inr (refl, refl)
mark_covers Colon rest not_open = inr (refl, refl)
mark_covers Semicolon rest not_open = inr (refl, refl)
mark_covers Exclamation rest not_open = longer_covers Exclamation 61 (of_connective NotEqual) rest (token (of_mark Exclamation) rest) (inr (refl, refl))
mark_covers Question rest not_open = inr (refl, refl)
mark_covers Tilde rest not_open =
    longer_covers Tilde 38 (of_connective NotAnd) rest _ (longer_covers Tilde 124 (of_connective NotOr) rest (token (of_mark Tilde) rest) (inr (refl, refl)))
mark_covers Ampersand rest not_open = inr (refl, refl)
mark_covers Bar rest not_open = inr (refl, refl)
mark_covers Equals rest not_open = longer_covers Equals 62 (of_connective Implies) rest (token (of_mark Equals) rest) (inr (refl, refl))
mark_covers Less rest not_open = less_covers rest
mark_covers Greater rest not_open = inr (refl, refl)
mark_covers At rest not_open = inr (refl, refl)
mark_covers Caret rest not_open = inr (refl, refl)
mark_covers Plus rest not_open = sign_covers Plus rest
mark_covers Minus rest not_open = sign_covers Minus rest
mark_covers Star rest not_open = inr (refl, refl)
mark_covers Slash rest not_open = slash_covers rest not_open
mark_covers Backslash rest not_open = inr (refl, refl)
mark_covers Hash rest not_open = inr (refl, refl)

-- What is read where a token begins is a token, and no shorter one.
covers : (kind : Kind) (front rest : List ℕ) → Begins kind front rest → Covers kind rest (piece_at (front ++ rest))
covers LowerWord front rest b = lower_covers front rest b.is_text
covers UpperWord front rest b = upper_covers front rest b.is_text
covers Quoted front rest b = quoted_covers front rest b.is_text
covers DistinctObject front rest b = distinct_covers front rest b.is_text
covers DollarWord front rest b = dollar_covers front rest b.is_text
covers Number front rest b = number_covers front rest b.is_text
covers (of_connective k) front rest b = subst (λ f. Covers (of_connective k) rest (piece_at (f ++ rest))) (sym b.is_text) (connective_covers k rest)
covers (of_mark m) front rest b =
    subst (λ f. Covers (of_mark m) rest (piece_at (f ++ rest))) (sym b.is_text) (mark_covers m rest (λ more e. b.no_comment more (ap (λ f. f ++ rest) b.is_text ∙ e)))

covers_text : (kind : Kind) (text front rest : List ℕ) → text ≡ front ++ rest → Begins kind front rest → Covers kind rest (piece_at text)
covers_text kind text front rest e b = subst (λ bs. Covers kind rest (piece_at bs)) (sym e) (covers kind front rest b)

-- A gap that begins the text is what is read.
gap_first : (front rest : List ℕ) → IsGap front rest → piece_at (front ++ rest) ≡ gap rest
unfolding piece_at symbol_piece slash_piece
gap_first front rest (blank c r h) = blank_first c rest h
gap_first front rest (line_comment body r h e) = ap gap (after_all is_in_line body rest h ∙ after_line_end rest e)
gap_first front rest (block_comment body r h) = ap gap_before (ap after_close (append_assoc body (42 ∷ 47 ∷ []) rest) ∙ ends_body body rest h)

pub gap_read : (text front rest : List ℕ) → text ≡ front ++ rest → IsGap front rest → piece_at text ≡ gap rest
gap_read text front rest e h = ap piece_at e ∙ gap_first front rest h

pub begins_here : (kind : Kind) (text rest : List ℕ) (h : HasToken kind text rest) → Begins kind h.front rest
begins_here kind text rest h = record { is_text = h.is; no_comment = λ more e. h.no_comment more (h.cut ∙ e) }

found_token : (text rest : List ℕ) (kind : Kind) → piece_at text ≡ token kind rest → HasToken kind text rest
found_token text rest kind e = subst (IsFound text) e (found text)

-- A token that is read is a longest one.
pub longest_read : (text rest : List ℕ) (kind : Kind) → piece_at text ≡ token kind rest → (front : List ℕ) × (text ≡ front ++ rest) × IsLongest kind front rest
longest_read text rest kind e =
    let h = found_token text rest kind e in
    let longest : (other : Kind) (more left : List ℕ) → h.front ++ rest ≡ more ++ left → Begins other more left → length more ≤ length h.front =
    λ other more left same b. no_longer h.front more left same (subst (Covers other left) e (covers_text other text more left (h.cut ∙ same) b)) in
    (h.front, h.cut, record { begins = begins_here kind text rest h; longest = longest }) where
      no_longer : (front more left : List ℕ) → front ++ rest ≡ more ++ left → {other : Kind} → (length rest < length left) ⊎ ((kind ≡ other) × (rest ≡ left)) → length more ≤ length front
      no_longer front more left same (inl k) = omega (arith, ap length same, length-append front rest, length-append more left)
      no_longer front more left same (inr k) = omega (arith, ap length same, length-append front rest, length-append more left, ap length k.1)

pub gap_found : (text rest : List ℕ) → piece_at text ≡ gap rest → HasGap text rest
gap_found text rest e = subst (IsFound text) e (found text)

-- Where nothing is read, nothing begins.
pub nothing_read : (text : List ℕ) → text ≢ [] → piece_at text ≡ nothing → BeginsNothing text
nothing_read text more e =
    record {
      more = more;
      no_gap = λ front rest cut h. no_gap_there rest (sym e ∙ gap_read text front rest cut h);
      no_token = λ kind front rest cut b. subst (Covers kind rest) e (covers_text kind text front rest cut b);
    } where
      no_gap_there : (rest : List ℕ) → nothing ≡ gap rest → ⊥
      no_gap_there rest e = cc

-- A longest token that begins the text is what is read.
pub longest_is_read : (text front rest : List ℕ) (kind : Kind) → text ≡ front ++ rest → IsLongest kind front rest → piece_at text ≡ token kind rest
longest_is_read text front rest kind cut h = by_piece (piece_at text) refl (covers_text kind text front rest cut h.begins) where
  same_token : (other : Kind) (r : List ℕ) → piece_at text ≡ token other r → (length r < length rest) ⊎ ((other ≡ kind) × (r ≡ rest)) → piece_at text ≡ token kind rest
  same_token other r e (inl k) =
      let t = found_token text r other e in
      let bound = h.longest other t.front r (sym cut ∙ t.cut) (begins_here other text r t) in
      absurd (omega (arith, k, bound, ap length cut, ap length t.cut, length-append front rest, length-append t.front r))
  same_token other r e (inr k) = e ∙ ap (λ j. token j r) k.0 ∙ ap (token kind) k.1

  by_piece : (piece : Piece) → piece_at text ≡ piece → Covers kind rest piece → piece_at text ≡ token kind rest
  by_piece (gap r) e c = absurd c
  by_piece nothing e c = absurd c
  by_piece (token other r) e c = same_token other r e c
