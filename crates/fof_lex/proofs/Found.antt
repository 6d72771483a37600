-- What is read in front of a text stands there.
use Rattle.std.proofs.Common.{◌≡◌, ◌≢◌, ℕ, Bool, true, false, ◌&&◌, ◌||◌, cond, eqb, List, [], ◌∷◌, ◌++◌, Option, Some, None, refl, ap, sym, ◌∙◌, subst, append_assoc}
use Rattle.std.specs.List.{list_all}
use Rattle.std.proofs.lemmas.Bool.{false≢true, eqb-true, cond_both, cond-true, and_from, and_parts}
use Rattle.fof_lex.specs.Bytes.{is_blank, is_lower, is_upper, is_digit, is_word_byte, is_in_line}
use Rattle.fof_lex.specs.Tokens.{IsLowerWord, lower_word, upper_word, IsDollarWord, one_dollar, two_dollars, quoted, distinct_object, IsSign, no_sign, plus, minus, number, mark_text, IsTextOf, IsGap, blank, line_comment, block_comment}
use Rattle.fof_lex.specs.declared.token.Connective.TheVariants.{Equivalent, NotEquivalent, Implies, ImpliedBy, NotAnd, NotOr, NotEqual}
use Rattle.fof_lex.specs.declared.token.Mark.{Mark}
use Rattle.fof_lex.specs.declared.token.Mark.TheVariants.{OpenParenthesis, CloseParenthesis, OpenBracket, CloseBracket, OpenBrace, CloseBrace, Comma, Stop, Colon, Semicolon, Exclamation, Question, Tilde, Ampersand, Bar, Equals, Less, Greater, At, Caret, Plus, Minus, Star, Slash, Backslash, Hash}
use Rattle.fof_lex.specs.declared.token.Kind.{Kind}
use Rattle.fof_lex.specs.declared.token.Kind.TheVariants.{LowerWord, UpperWord, Quoted, DistinctObject, DollarWord, Number, Connective as of_connective, Mark as of_mark}
use Rattle.fof_lex.specs.Reading.{Piece, gap, token, nothing, begins_with, without_first, after, after_close, gap_before, slash_piece, after_quote, token_before, quoted_piece, distinct_piece, dollar_word, dollar_piece, after_number, sign_piece, less_piece, tilde_piece, equals_piece, exclamation_piece, single_mark, mark_before, symbol_piece, piece_at}
use Rattle.fof_lex.proofs.Fronts.{Stands, after_stands, first_is, not_first}
use Rattle.fof_lex.proofs.Numbers.{number_stands}
use Rattle.fof_lex.proofs.Quotes.{MayClose, may_close}
use Rattle.fof_lex.proofs.Comments.{MayEnd, may_end, line_ends}

-- A gap with `rest` behind it begins the text.
pub record HasGap (text rest : List ℕ) : Type 0 where
  pub front : List ℕ
  pub cut : text ≡ front ++ rest
  pub is : IsGap front rest

-- A token with `rest` behind it begins the text.
pub record HasToken (kind : Kind) (text rest : List ℕ) : Type 0 where
  pub front : List ℕ
  pub cut : text ≡ front ++ rest
  pub is : IsTextOf kind front
  pub no_comment : (more : List ℕ) → text ≡ 47 ∷ 42 ∷ more → ⊥

-- the piece begins the text
abbrev pub IsFound : List ℕ → Piece → Type 0
IsFound text (gap rest) = HasGap text rest
IsFound text (token kind rest) = HasToken kind text rest
IsFound text nothing = Unit {0}

other_first : (c d : ℕ) (cs ds : List ℕ) → (c ≢ d) → c ∷ cs ≡ d ∷ ds → ⊥
other_first c d cs ds h e = h cc

not_slash : (c : ℕ) (cs : List ℕ) → eqb c 47 ≡ false → (more : List ℕ) → c ∷ cs ≡ 47 ∷ 42 ∷ more → ⊥
not_slash c cs h more e = other_first c 47 cs (42 ∷ more) (λ same. false≢true (sym h ∙ ap (λ x. eqb x 47) same)) e

passes_not_slash : (p : ℕ → Bool) (c : ℕ) (cs : List ℕ) → p 47 ≡ false → p c ≡ true → (more : List ℕ) → c ∷ cs ≡ 47 ∷ 42 ∷ more → ⊥
passes_not_slash p c cs h k more e = other_first c 47 cs (42 ∷ more) (λ same. false≢true (sym h ∙ ap p (sym same) ∙ k)) e

-- Words

lower_found : (c : ℕ) (cs : List ℕ) → is_lower c ≡ true → IsFound (c ∷ cs) (token LowerWord (after is_word_byte cs))
lower_found c cs h =
    let s = after_stands is_word_byte cs in
    record { front = c ∷ s.front; cut = ap (λ bs. c ∷ bs) s.cut; is = lower_word c s.front (and_from (is_lower c) (list_all is_word_byte s.front) h s.is); no_comment = passes_not_slash is_lower c cs refl h }

upper_found : (c : ℕ) (cs : List ℕ) → is_upper c ≡ true → IsFound (c ∷ cs) (token UpperWord (after is_word_byte cs))
upper_found c cs h =
    let s = after_stands is_word_byte cs in
    record { front = c ∷ s.front; cut = ap (λ bs. c ∷ bs) s.cut; is = upper_word c s.front h s.is; no_comment = passes_not_slash is_upper c cs refl h }

-- Dollar words

word_stands : (text : List ℕ) → begins_with is_lower text ≡ true → Stands IsLowerWord text (after is_word_byte text)
word_stands [] h = absurd (false≢true h)
word_stands (c ∷ cs) h =
    let s = after_stands is_word_byte cs in
    let here : Stands IsLowerWord (c ∷ cs) (after is_word_byte cs) = record { front = c ∷ s.front; cut = ap (λ bs. c ∷ bs) s.cut; is = lower_word c s.front (and_from (is_lower c) (list_all is_word_byte s.front) h s.is) } in
    subst (Stands IsLowerWord (c ∷ cs)) (sym (cond-true (is_word_byte c) (after is_word_byte cs) (c ∷ cs) (lower_in_word c h))) here where
      lower_in_word : (c : ℕ) → is_lower c ≡ true → is_word_byte c ≡ true
      lower_in_word c h = ap (λ b. ((b || is_upper c) || is_digit c) || eqb c 95) h

dollar_word_found : (dollars cs : List ℕ) → ((w : List ℕ) → IsLowerWord w → IsDollarWord (dollars ++ w)) → ((more : List ℕ) → dollars ++ cs ≡ 47 ∷ 42 ∷ more → ⊥) → IsFound (dollars ++ cs) (dollar_word cs)
dollar_word_found dollars cs makes no_comment =
    cond_both (begins_with is_lower cs) (token DollarWord (after is_word_byte cs)) nothing (IsFound (dollars ++ cs))
    (λ h. let s = word_stands cs h in
    record { front = dollars ++ s.front; cut = ap (λ bs. dollars ++ bs) s.cut ∙ sym (append_assoc dollars s.front (after is_word_byte cs)); is = makes s.front s.is; no_comment = no_comment })
    (λ h. tt)

dollar_found : (cs : List ℕ) → IsFound (36 ∷ cs) (dollar_piece cs)
unfolding dollar_piece
dollar_found cs =
    cond_both (begins_with (eqb 36) cs) (dollar_word (without_first cs)) (dollar_word cs) (IsFound (36 ∷ cs))
    (λ h. let f = first_is 36 cs h in
    subst (λ bs. IsFound (36 ∷ bs) (dollar_word (without_first bs))) (sym f.1) (dollar_word_found (36 ∷ 36 ∷ []) f.0 two_dollars (not_slash 36 (36 ∷ f.0) refl)))
    (λ h. dollar_word_found (36 ∷ []) cs one_dollar (not_slash 36 cs refl))

-- Quotes

quoted_kind : (cs : List ℕ) → begins_with (eqb 39) cs ≡ false → (o : Option (List ℕ)) → MayClose 39 false cs o → IsFound (39 ∷ cs) (token_before Quoted o)
quoted_kind cs h None m = tt
quoted_kind cs h (Some rest) m =
    record {
      front = 39 ∷ m.body ++ 39 ∷ [];
      cut = ap (λ bs. 39 ∷ bs) (m.cut ∙ sym (append_assoc m.body (39 ∷ []) rest));
      is = quoted m.body (λ e. not_first 39 cs rest h refl (m.cut ∙ ap (λ bs. bs ++ 39 ∷ rest) e)) m.is;
      no_comment = not_slash 39 cs refl;
    }

quoted_found : (cs : List ℕ) → IsFound (39 ∷ cs) (quoted_piece cs)
unfolding quoted_piece
quoted_found cs =
    cond_both (begins_with (eqb 39) cs) nothing (token_before Quoted (after_quote 39 false cs)) (IsFound (39 ∷ cs)) (λ h. tt)
    (λ h. quoted_kind cs h (after_quote 39 false cs) (may_close 39 false cs))

distinct_kind : (cs : List ℕ) (o : Option (List ℕ)) → MayClose 34 false cs o → IsFound (34 ∷ cs) (token_before DistinctObject o)
distinct_kind cs None m = tt
distinct_kind cs (Some rest) m =
    record { front = 34 ∷ m.body ++ 34 ∷ []; cut = ap (λ bs. 34 ∷ bs) (m.cut ∙ sym (append_assoc m.body (34 ∷ []) rest)); is = distinct_object m.body m.is; no_comment = not_slash 34 cs refl }

distinct_found : (cs : List ℕ) → IsFound (34 ∷ cs) (distinct_piece cs)
unfolding distinct_piece
distinct_found cs = distinct_kind cs (after_quote 34 false cs) (may_close 34 false cs)

-- Numbers

signed_found : (sign cs : List ℕ) → IsSign sign → begins_with is_digit cs ≡ true → ((more : List ℕ) → sign ++ cs ≡ 47 ∷ 42 ∷ more → ⊥) → IsFound (sign ++ cs) (token Number (after_number cs))
signed_found sign cs s h no_comment =
    let n = number_stands cs h in
    let u = n.is in
    record {
      front = (sign ++ u.first) ++ u.tail;
      cut = ap (λ bs. sign ++ bs) (n.cut ∙ ap (λ bs. bs ++ after_number cs) u.is) ∙ sym (append_assoc sign (u.first ++ u.tail) (after_number cs))
          ∙ ap (λ bs. bs ++ after_number cs) (sym (append_assoc sign u.first u.tail));
      is = number sign u.first u.tail s u.digits u.is_tail;
      no_comment = no_comment;
    }

sign_found : (c : ℕ) (mark : Mark) (cs : List ℕ) → IsSign (c ∷ []) → c ∷ [] ≡ mark_text mark → eqb c 47 ≡ false → IsFound (c ∷ cs) (sign_piece mark cs)
unfolding sign_piece
sign_found c mark cs s m h =
    cond_both (begins_with is_digit cs) (token Number (after_number cs)) (token (of_mark mark) cs) (IsFound (c ∷ cs))
    (λ k. signed_found (c ∷ []) cs s k (not_slash c cs h)) (λ k. record { front = c ∷ []; cut = refl; is = m; no_comment = not_slash c cs h })

-- Comments

comment_found : (cs : List ℕ) (o : Option (List ℕ)) → MayEnd cs o → IsFound (47 ∷ 42 ∷ cs) (gap_before o)
comment_found cs None m = tt
comment_found cs (Some rest) m =
    record { front = 47 ∷ 42 ∷ m.body ++ 42 ∷ 47 ∷ []; cut = ap (λ bs. 47 ∷ 42 ∷ bs) (m.cut ∙ sym (append_assoc m.body (42 ∷ 47 ∷ []) rest)); is = block_comment m.body rest m.is }

slash_found : (cs : List ℕ) → IsFound (47 ∷ cs) (slash_piece cs)
unfolding slash_piece
slash_found cs =
    cond_both (begins_with (eqb 42) cs) (gap_before (after_close (without_first cs))) (token (of_mark Slash) cs) (IsFound (47 ∷ cs))
    (λ h. let f = first_is 42 cs h in
    subst (λ bs. IsFound (47 ∷ bs) (gap_before (after_close (without_first bs)))) (sym f.1) (comment_found f.0 (after_close f.0) (may_end f.0)))
    (λ h. record { front = 47 ∷ []; cut = refl; is = refl; no_comment = λ more e. not_first 42 cs more h refl (ap without_first e) })

line_found : (cs : List ℕ) → IsFound (37 ∷ cs) (gap (after is_in_line cs))
line_found cs =
    let s = after_stands is_in_line cs in
    record { front = 37 ∷ s.front; cut = ap (λ bs. 37 ∷ bs) s.cut; is = line_comment s.front (after is_in_line cs) s.is (line_ends cs) }

-- Connectives and marks

one_more : (c d : ℕ) (kind : Kind) (cs : List ℕ) → begins_with (eqb d) cs ≡ true → IsTextOf kind (c ∷ d ∷ []) → eqb c 47 ≡ false → IsFound (c ∷ cs) (token kind (without_first cs))
one_more c d kind cs h is n =
    let f = first_is d cs h in
    subst (λ bs. IsFound (c ∷ bs) (token kind (without_first bs))) (sym f.1) (record { front = c ∷ d ∷ []; cut = refl; is = is; no_comment = not_slash c (d ∷ f.0) n })

two_more : (c d e : ℕ) (kind : Kind) (cs : List ℕ) → begins_with (eqb d) cs ≡ true → begins_with (eqb e) (without_first cs) ≡ true → IsTextOf kind (c ∷ d ∷ e ∷ []) → eqb c 47 ≡ false → IsFound (c ∷ cs) (token kind (without_first (without_first cs)))
two_more c d e kind cs h k is n =
    let f = first_is d cs h in
    let g = first_is e (without_first cs) k in
    let all : cs ≡ d ∷ e ∷ g.0 = f.1 ∙ ap (λ bs. d ∷ bs) (ap without_first (sym f.1) ∙ g.1) in
    subst (λ bs. IsFound (c ∷ bs) (token kind (without_first (without_first bs)))) (sym all) (record { front = c ∷ d ∷ e ∷ []; cut = refl; is = is; no_comment = not_slash c (d ∷ e ∷ g.0) n })

alone : (c : ℕ) (mark : Mark) (cs : List ℕ) → c ∷ [] ≡ mark_text mark → eqb c 47 ≡ false → IsFound (c ∷ cs) (token (of_mark mark) cs)
alone c mark cs is n = record { front = c ∷ []; cut = refl; is = is; no_comment = not_slash c cs n }

less_found : (cs : List ℕ) → IsFound (60 ∷ cs) (less_piece cs)
unfolding less_piece
less_found cs =
    cond_both (begins_with (eqb 61) cs) _ _ (IsFound (60 ∷ cs))
    (λ h. cond_both (begins_with (eqb 62) (without_first cs)) _ _ (IsFound (60 ∷ cs)) (λ k. two_more 60 61 62 (of_connective Equivalent) cs h k refl refl)
    (λ k. one_more 60 61 (of_connective ImpliedBy) cs h refl refl))
    (λ h. cond_both (begins_with (eqb 126) cs && begins_with (eqb 62) (without_first cs)) _ _ (IsFound (60 ∷ cs))
    (λ k. let p = and_parts (begins_with (eqb 126) cs) (begins_with (eqb 62) (without_first cs)) k in two_more 60 126 62 (of_connective NotEquivalent) cs p.0 p.1 refl refl)
    (λ k. alone 60 Less cs refl refl))

tilde_found : (cs : List ℕ) → IsFound (126 ∷ cs) (tilde_piece cs)
unfolding tilde_piece
tilde_found cs =
    cond_both (begins_with (eqb 38) cs) _ _ (IsFound (126 ∷ cs)) (λ h. one_more 126 38 (of_connective NotAnd) cs h refl refl)
    (λ h. cond_both (begins_with (eqb 124) cs) _ _ (IsFound (126 ∷ cs)) (λ k. one_more 126 124 (of_connective NotOr) cs k refl refl) (λ k. alone 126 Tilde cs refl refl))

equals_found : (cs : List ℕ) → IsFound (61 ∷ cs) (equals_piece cs)
unfolding equals_piece
equals_found cs =
    cond_both (begins_with (eqb 62) cs) _ _ (IsFound (61 ∷ cs)) (λ h. one_more 61 62 (of_connective Implies) cs h refl refl) (λ h. alone 61 Equals cs refl refl)

exclamation_found : (cs : List ℕ) → IsFound (33 ∷ cs) (exclamation_piece cs)
unfolding exclamation_piece
exclamation_found cs =
    cond_both (begins_with (eqb 61) cs) _ _ (IsFound (33 ∷ cs)) (λ h. one_more 33 61 (of_connective NotEqual) cs h refl refl) (λ h. alone 33 Exclamation cs refl refl)

-- the mark, if there is one, is that of the byte
record IsMarkOf (c : ℕ) (o : Option Mark) : Type 0 where
  is : (mark : Mark) → o ≡ Some mark → c ∷ [] ≡ mark_text mark

no_mark : (c : ℕ) → IsMarkOf c None
no_mark c = record { is = λ mark e. cc }

this_mark : (c n : ℕ) (mark : Mark) (o : Option Mark) → n ∷ [] ≡ mark_text mark → IsMarkOf c o → IsMarkOf c (cond (eqb c n) (Some mark) o)
this_mark c n mark o is more =
    cond_both (eqb c n) (Some mark) o (IsMarkOf c)
    (λ h. record { is = λ other e. ap (λ x. x ∷ []) (eqb-true c n h) ∙ is ∙ ap mark_text (same mark other e) }) (λ h. more) where
      same : (a b : Mark) → Some a ≡ Some b → a ≡ b
      same a b e = cc

single_is : (c : ℕ) → IsMarkOf c (single_mark c)
single_is c =
    this_mark c 40 OpenParenthesis _ refl (this_mark c 41 CloseParenthesis _ refl (this_mark c 91 OpenBracket _ refl (this_mark c 93 CloseBracket _ refl
    (this_mark c 123 OpenBrace _ refl (this_mark c 125 CloseBrace _ refl (this_mark c 44 Comma _ refl (this_mark c 46 Stop _ refl
    (this_mark c 58 Colon _ refl (this_mark c 59 Semicolon _ refl (this_mark c 63 Question _ refl (this_mark c 38 Ampersand _ refl
    (this_mark c 124 Bar _ refl (this_mark c 62 Greater _ refl (this_mark c 64 At _ refl (this_mark c 94 Caret _ refl
    (this_mark c 42 Star _ refl (this_mark c 92 Backslash _ refl (this_mark c 35 Hash _ refl (no_mark c)))))))))))))))))))

mark_found : (c : ℕ) (cs : List ℕ) → eqb c 47 ≡ false → (o : Option Mark) → IsMarkOf c o → IsFound (c ∷ cs) (mark_before o cs)
mark_found c cs h None m = tt
mark_found c cs h (Some mark) m = alone c mark cs (m.is mark refl) h

-- The first byte decides.

at_byte : (n : ℕ) (piece : Piece) (cs : List ℕ) → IsFound (n ∷ cs) piece → (c : ℕ) → eqb c n ≡ true → IsFound (c ∷ cs) piece
at_byte n piece cs found c h = subst (λ x. IsFound (x ∷ cs) piece) (sym (eqb-true c n h)) found

symbol_found : (c : ℕ) (cs : List ℕ) → IsFound (c ∷ cs) (symbol_piece c cs)
unfolding symbol_piece
symbol_found c cs =
    let P : Piece → Type 0 = IsFound (c ∷ cs) in
    cond_both (eqb c 37) _ _ P (at_byte 37 (gap (after is_in_line cs)) cs (line_found cs) c)
    (λ h. cond_both (eqb c 47) _ _ P (at_byte 47 (slash_piece cs) cs (slash_found cs) c)
    (λ no_slash. cond_both (eqb c 43) _ _ P (at_byte 43 (sign_piece Plus cs) cs (sign_found 43 Plus cs plus refl refl) c)
    (λ h. cond_both (eqb c 45) _ _ P (at_byte 45 (sign_piece Minus cs) cs (sign_found 45 Minus cs minus refl refl) c)
    (λ h. cond_both (eqb c 39) _ _ P (at_byte 39 (quoted_piece cs) cs (quoted_found cs) c)
    (λ h. cond_both (eqb c 34) _ _ P (at_byte 34 (distinct_piece cs) cs (distinct_found cs) c)
    (λ h. cond_both (eqb c 36) _ _ P (at_byte 36 (dollar_piece cs) cs (dollar_found cs) c)
    (λ h. cond_both (eqb c 60) _ _ P (at_byte 60 (less_piece cs) cs (less_found cs) c)
    (λ h. cond_both (eqb c 126) _ _ P (at_byte 126 (tilde_piece cs) cs (tilde_found cs) c)
    (λ h. cond_both (eqb c 61) _ _ P (at_byte 61 (equals_piece cs) cs (equals_found cs) c)
    (λ h. cond_both (eqb c 33) _ _ P (at_byte 33 (exclamation_piece cs) cs (exclamation_found cs) c)
    (λ h. mark_found c cs no_slash (single_mark c) (single_is c))))))))))))

-- What is read begins the text.
pub found : (text : List ℕ) → IsFound text (piece_at text)
unfolding piece_at
found [] = tt
found (c ∷ cs) =
    let P : Piece → Type 0 = IsFound (c ∷ cs) in
    cond_both (is_blank c) _ _ P (λ h. record { front = c ∷ []; cut = refl; is = blank c cs h })
    (λ h. cond_both (is_lower c) _ _ P (lower_found c cs)
    (λ h. cond_both (is_upper c) _ _ P (upper_found c cs)
    (λ h. cond_both (is_digit c) _ _ P (λ k. signed_found [] (c ∷ cs) no_sign k (passes_not_slash is_digit c cs refl k)) (λ h. symbol_found c cs))))
