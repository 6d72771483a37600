-- A text is read in one way, a piece at a time.
use Rattle.std.proofs.Common.{◌≡◌, ◌≢◌, ℕ, zero, suc, Bool, true, false, eqb, ◌+◌, ◌<◌, List, [], ◌∷◌, ◌++◌, length, refl, ap, sym, ◌∙◌, subst, length-append, ◌⊎◌, inl, inr, arith, lit<}
use Rattle.std.proofs.lemmas.Bool.{false≢true, eqb-true}
use Rattle.fof_lex.specs.Tokens.{IsTextOf, lower_word, upper_word, one_dollar, two_dollars, quoted, distinct_object, AreDigits, digits, number, connective_text, mark_text, IsLongest, IsGap, blank, line_comment, block_comment, Lexes, ends, skips, takes, BeginsNothing, LexFails, fails, after_gap, after_token}
use Rattle.fof_lex.specs.declared.token.Connective.{Connective}
use Rattle.fof_lex.specs.declared.token.Connective.TheVariants.{Equivalent, NotEquivalent, Implies, ImpliedBy, NotAnd, NotOr, NotEqual}
use Rattle.fof_lex.specs.declared.token.Mark.{Mark}
use Rattle.fof_lex.specs.declared.token.Mark.TheVariants.{OpenParenthesis, CloseParenthesis, OpenBracket, CloseBracket, OpenBrace, CloseBrace, Comma, Stop, Colon, Semicolon, Exclamation, Question, Tilde, Ampersand, Bar, Equals, Less, Greater, At, Caret, Plus, Minus, Star, Slash, Backslash, Hash}
use Rattle.fof_lex.specs.declared.token.Kind.{Kind}
use Rattle.fof_lex.specs.declared.token.Kind.TheVariants.{LowerWord, UpperWord, Quoted, DistinctObject, DollarWord, Number, Connective as of_connective, Mark as of_mark}
use Rattle.fof_lex.specs.declared.token.Token.{Token}
use Rattle.fof_lex.specs.Reading.{Piece, gap, token, nothing, piece_at}
use Rattle.fof_lex.proofs.Found.{IsFound, found}
use Rattle.fof_lex.proofs.Longest.{gap_read, gap_found, longest_read, longest_is_read, nothing_read, begins_here}

pub cut_length : (text front rest : List ℕ) → text ≡ front ++ rest → length text ≡ length front + length rest
cut_length text front rest e = ap length e ∙ length-append front rest

-- the token of that kind that goes from one offset to the other
abbrev pub token_from : Kind → ℕ → ℕ → Token
token_from kind start end = record { kind = kind; start = start; end = end }

-- What a text that is read as tokens is, by the piece in front of it.
abbrev Goes : ℕ → List ℕ → List Token → Piece → Type 0
Goes at text tokens (gap rest) = (n : ℕ) → length text ≡ n + length rest → Lexes (at + n) rest tokens
Goes at text tokens (token kind rest) = (n : ℕ) → length text ≡ n + length rest → (more : List Token) × (tokens ≡ token_from kind at (at + n) ∷ more) × Lexes (at + n) rest more
Goes at text tokens nothing = (text ≡ []) × (tokens ≡ [])

same_number : (n m r : ℕ) → n + r ≡ m + r → n ≡ m
same_number n m r e = omega arith

goes : (at : ℕ) (text : List ℕ) (tokens : List Token) → Lexes at text tokens → Goes at text tokens (piece_at text)
unfolding piece_at
goes at text tokens (ends _) = (refl, refl)
goes at text tokens (skips _ _ front rest _ e h more) =
    subst (Goes at text tokens) (sym (gap_read text front rest e h))
    (λ n same. subst (λ m. Lexes (at + m) rest tokens) (same_number (length front) n (length rest) (sym (cut_length text front rest e) ∙ same)) more)
goes at text tokens (takes _ _ front rest kind ts e h more) =
    subst (Goes at text tokens) (sym (longest_is_read text front rest kind e h))
    (λ n same. let m : length front ≡ n = same_number (length front) n (length rest) (sym (cut_length text front rest e) ∙ same) in
    (ts, ap (λ k. token_from kind at (at + k) ∷ ts) m, subst (λ k. Lexes (at + k) rest ts) m more))

nothing_first : (text : List ℕ) → BeginsNothing text → piece_at text ≡ nothing
nothing_first text h = by_piece (piece_at text) refl (found text) where
  by_piece : (piece : Piece) → piece_at text ≡ piece → IsFound text piece → piece_at text ≡ nothing
  by_piece (gap rest) e f = absurd (h.no_gap f.front rest f.cut f.is)
  by_piece (token kind rest) e f = absurd (h.no_token kind f.front rest f.cut (begins_here kind text rest f))
  by_piece nothing e f = e

-- What a text that is refused at an offset is, by the piece in front of it.
abbrev Stops : ℕ → List ℕ → ℕ → Piece → Type 0
Stops at text bad (gap rest) = (n : ℕ) → length text ≡ n + length rest → LexFails (at + n) rest bad
Stops at text bad (token kind rest) = (n : ℕ) → length text ≡ n + length rest → LexFails (at + n) rest bad
Stops at text bad nothing = (text ≢ []) × (bad ≡ at)

stops : (at : ℕ) (text : List ℕ) (bad : ℕ) → LexFails at text bad → Stops at text bad (piece_at text)
stops at text bad (fails _ _ h) = subst (Stops at text bad) (sym (nothing_first text h)) (h.more, refl)
stops at text bad (after_gap _ _ front rest _ e h more) =
    subst (Stops at text bad) (sym (gap_read text front rest e h))
    (λ n same. subst (λ m. LexFails (at + m) rest bad) (same_number (length front) n (length rest) (sym (cut_length text front rest e) ∙ same)) more)
stops at text bad (after_token _ _ front rest kind _ e h more) =
    subst (Stops at text bad) (sym (longest_is_read text front rest kind e h))
    (λ n same. subst (λ m. LexFails (at + m) rest bad) (same_number (length front) n (length rest) (sym (cut_length text front rest e) ∙ same)) more)

-- A text is read as one list of tokens at most.
pub one_list : (at : ℕ) (text : List ℕ) (ts us : List Token) → Lexes at text ts → Lexes at text us → ts ≡ us
unfolding piece_at
one_list at text ts us (ends _) k = sym (goes at [] us k).1
one_list at text ts us (skips _ _ front rest _ e h more) k =
    let r = subst (Goes at text us) (gap_read text front rest e h) (goes at text us k) in
    one_list (at + length front) rest ts us more (r (length front) (cut_length text front rest e))
one_list at text ts us (takes _ _ front rest kind vs e h more) k =
    let r = subst (Goes at text us) (longest_is_read text front rest kind e h) (goes at text us k) in
    let found = r (length front) (cut_length text front rest e) in
    ap (λ ws. token_from kind at (at + length front) ∷ ws) (one_list (at + length front) rest vs found.0 more found.2) ∙ sym found.1

-- A text that is read as tokens is not refused.
pub not_both : (at : ℕ) (text : List ℕ) (ts : List Token) (bad : ℕ) → Lexes at text ts → LexFails at text bad → ⊥
unfolding piece_at
not_both at text ts bad (ends _) k = (stops at [] bad k).0 refl
not_both at text ts bad (skips _ _ front rest _ e h more) k =
    let r = subst (Stops at text bad) (gap_read text front rest e h) (stops at text bad k) in
    not_both (at + length front) rest ts bad more (r (length front) (cut_length text front rest e))
not_both at text ts bad (takes _ _ front rest kind vs e h more) k =
    let r = subst (Stops at text bad) (longest_is_read text front rest kind e h) (stops at text bad k) in
    not_both (at + length front) rest vs bad more (r (length front) (cut_length text front rest e))

-- A text is refused at one offset at most.
pub one_offset : (at : ℕ) (text : List ℕ) (o p : ℕ) → LexFails at text o → LexFails at text p → o ≡ p
one_offset at text o p (fails _ _ h) k = let r = subst (Stops at text p) (nothing_first text h) (stops at text p k) in sym r.1
one_offset at text o p (after_gap _ _ front rest _ e h more) k =
    let r = subst (Stops at text p) (gap_read text front rest e h) (stops at text p k) in
    one_offset (at + length front) rest o p more (r (length front) (cut_length text front rest e))
one_offset at text o p (after_token _ _ front rest kind _ e h more) k =
    let r = subst (Stops at text p) (longest_is_read text front rest kind e h) (stops at text p k) in
    one_offset (at + length front) rest o p more (r (length front) (cut_length text front rest e))

-- Pieces are not empty

connective_length : (k : Connective) → 0 < length (connective_text k)
connective_length Equivalent = lit< tt
connective_length NotEquivalent = lit< tt
connective_length Implies = lit< tt
connective_length ImpliedBy = lit< tt
connective_length NotAnd = lit< tt
connective_length NotOr = lit< tt
connective_length NotEqual = lit< tt

mark_length : (m : Mark) → 0 < length (mark_text m)
mark_length OpenParenthesis = lit< tt
mark_length CloseParenthesis = lit< tt
mark_length OpenBracket = lit< tt
mark_length CloseBracket = lit< tt
mark_length OpenBrace = lit< tt
mark_length CloseBrace = lit< tt
mark_length Comma = lit< tt
mark_length Stop = lit< tt
mark_length Colon = lit< tt
mark_length Semicolon = lit< tt
mark_length Exclamation = lit< tt
mark_length Question = lit< tt
mark_length Tilde = lit< tt
mark_length Ampersand = lit< tt
mark_length Bar = lit< tt
mark_length Equals = lit< tt
mark_length Less = lit< tt
mark_length Greater = lit< tt
mark_length At = lit< tt
mark_length Caret = lit< tt
mark_length Plus = lit< tt
mark_length Minus = lit< tt
mark_length Star = lit< tt
mark_length Slash = lit< tt
mark_length Backslash = lit< tt
mark_length Hash = lit< tt

pub text_length : (kind : Kind) (cs : List ℕ) → IsTextOf kind cs → 0 < length cs
text_length LowerWord cs (lower_word c more h) = omega arith
text_length UpperWord cs (upper_word c more h k) = omega arith
text_length Quoted cs (quoted body h b) = omega arith
text_length DistinctObject cs (distinct_object body b) = omega arith
text_length DollarWord cs (one_dollar w h) = omega arith
text_length DollarWord cs (two_dollars w h) = omega arith
text_length Number cs (number sign ds tail s d t) = number_length sign ds tail d where
  number_length : (sign ds tail : List ℕ) → AreDigits ds → 0 < length (sign ++ ds ++ tail)
  number_length sign ds tail (digits d more h k) = omega (arith, length-append (sign ++ d ∷ more) tail, length-append sign (d ∷ more))
text_length (of_connective k) cs e = rw e (connective_length k)
text_length (of_mark m) cs e = rw e (mark_length m)

gap_length : (front rest : List ℕ) → IsGap front rest → 0 < length front
gap_length front rest (blank c r h) = omega arith
gap_length front rest (line_comment body r h e) = omega arith
gap_length front rest (block_comment body r h) = omega arith

-- Reading on

pub gap_shorter : (text rest : List ℕ) → piece_at text ≡ gap rest → length rest < length text
gap_shorter text rest e = let g = gap_found text rest e in omega (arith, cut_length text g.front rest g.cut, gap_length g.front rest g.is)

pub token_shorter : (text rest : List ℕ) (kind : Kind) → piece_at text ≡ token kind rest → length rest < length text
token_shorter text rest kind e = let h = longest_read text rest kind e in omega (arith, cut_length text h.0 rest h.1, text_length kind h.0 h.2.begins.is_text)

-- the test whether anything is left
pub is_some : (b : Bool) (text : List ℕ) → b ≡ eqb (length text) 0 → b ≡ false → text ≢ []
is_some b text is h e = false≢true (sym h ∙ is ∙ ap (λ bs. eqb (length bs) 0) e)

pub is_none : (b : Bool) (text : List ℕ) → b ≡ eqb (length text) 0 → b ≡ true → text ≡ []
is_none b [] is h = refl
is_none b (c ∷ cs) is h = absurd (let e = eqb-true (length (c ∷ cs)) 0 (sym is ∙ h) in omega (arith, e))

-- each text is read or refused: by pieces, as long as the text is shorter than n
abbrev IsRead : ℕ → List ℕ → Type 0
IsRead at text = ((tokens : List Token) × Lexes at text tokens) ⊎ ((bad : ℕ) × LexFails at text bad)

after_a_gap : (at : ℕ) (text front rest : List ℕ) → text ≡ front ++ rest → IsGap front rest → IsRead (at + length front) rest → IsRead at text
after_a_gap at text front rest e g (inl r) = inl (r.0, skips at text front rest r.0 e g r.1)
after_a_gap at text front rest e g (inr r) = inr (r.0, after_gap at text front rest r.0 e g r.1)

after_a_token : (at : ℕ) (text front rest : List ℕ) (kind : Kind) → text ≡ front ++ rest → IsLongest kind front rest → IsRead (at + length front) rest → IsRead at text
after_a_token at text front rest kind e g (inl r) = inl (token_from kind at (at + length front) ∷ r.0, takes at text front rest kind r.0 e g r.1)
after_a_token at text front rest kind e g (inr r) = inr (r.0, after_token at text front rest kind r.0 e g r.1)

read_piece : (at : ℕ) (text : List ℕ) → text ≢ [] → ((low : ℕ) (rest : List ℕ) → length rest < length text → IsRead low rest) → (piece : Piece) → piece_at text ≡ piece → IsRead at text
read_piece at text some on (gap rest) e =
    let g = gap_found text rest e in after_a_gap at text g.front rest g.cut g.is (on (at + length g.front) rest (gap_shorter text rest e))
read_piece at text some on (token kind rest) e =
    let t = longest_read text rest kind e in after_a_token at text t.0 rest kind t.1 t.2 (on (at + length t.0) rest (token_shorter text rest kind e))
read_piece at text some on nothing e = inr (at, fails at text (nothing_read text some e))

not_empty : (c : ℕ) (cs : List ℕ) → (c ∷ cs) ≢ []
not_empty c cs e = cc

read_on : (n at : ℕ) (text : List ℕ) → length text < n → IsRead at text
read_on zero at text h = absurd (omega (arith, h))
read_on (suc n) at [] h = inl ([], ends at)
read_on (suc n) at (c ∷ cs) h = read_piece at (c ∷ cs) (not_empty c cs) (λ low rest k. read_on n low rest (omega (arith, h, k))) (piece_at (c ∷ cs)) refl

pub some_reading : (bytes : List ℕ) → IsRead 0 bytes
some_reading bytes = read_on (suc (length bytes)) 0 bytes (omega arith)
