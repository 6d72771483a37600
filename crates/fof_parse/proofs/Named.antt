-- The names of a text's statements are printable.
use Rattle.std.proofs.Common.{◌≡◌, ℕ, ◌-◌, ◌≤◌, ◌<◌, Bool, true, false, cond, ◌||◌, eqb, List, [], ◌∷◌, length, drop, length-take, length-drop, map, Option, Some, None, refl, sym, subst, arith}
use Rattle.std.specs.List.{All, AllByRecursion, list_all, slice_range}
use Rattle.std.proofs.lemmas.Bool.{and_parts}
use Rattle.std.proofs.lemmas.Bool.Decides.{nat_tests}
use Rattle.std.proofs.lemmas.List.Elements.{All-nil, All-cons}
use Rattle.fol_core.specs.Symbol.{IsSymbolName}
use Rattle.fof_lex.specs.Bytes.{is_digit}
use Rattle.fof_lex.specs.declared.token.Token.{Token as LexToken}
use Rattle.fof_lex.specs.declared.token.Kind.{Kind}
use Rattle.fof_lex.specs.declared.token.Kind.TheVariants.{LowerWord, UpperWord, Quoted, DistinctObject, DollarWord, Number, Connective as of_connective, Mark as of_mark}
use Rattle.fof_lex.specs.Tokens.{IsTextOf}
use Rattle.fof_parse.specs.declared.token.Mark.{Mark}
use Rattle.fof_parse.specs.Token.{Token, Placed, placed, mark_of, token_of}
use Rattle.fof_parse.specs.Token.{of_mark as token_of_mark}
use Rattle.fof_parse.specs.Grammar.{Statement, is_stop, is_integer, name_of, IsStatement}
use Rattle.fof_parse.specs.Problem.{Label, is_conjecture, AreLabels}
use Rattle.fof_parse.specs.Refusal.{first_of, behind_first, AreGood}
use Rattle.fof_parse.specs.Reader.Text.{IsIn, AreAllIn}
use Rattle.fof_parse.proofs.Texts.{proper_of}

-- Numbers

digit_byte : (c : ℕ) → is_digit c ≡ true → (32 ≤ c) × (c ≤ 126)
digit_byte c h = (grind (arith, nat_tests), grind (arith, nat_tests))

sign_byte : (c : ℕ) → (eqb c 43 || eqb c 45) ≡ true → (32 ≤ c) × (c ≤ 126)
sign_byte c h = (grind (arith, nat_tests), grind (arith, nat_tests))

digit_bytes : (cs : List ℕ) → list_all is_digit cs ≡ true → All (λ c. (32 ≤ c) × (c ≤ 126)) cs
digit_bytes [] h = All-nil (λ c. (32 ≤ c) × (c ≤ 126))
digit_bytes (c ∷ cs) h =
    let b = and_parts (is_digit c) (list_all is_digit cs) h in All-cons (λ c. (32 ≤ c) × (c ≤ 126)) c cs (digit_byte c b.0) (digit_bytes cs b.1)

integer_bytes : (w : List ℕ) → is_integer w ≡ true → All (λ c. (32 ≤ c) × (c ≤ 126)) w
integer_bytes [] h = All-nil (λ c. (32 ≤ c) × (c ≤ 126))
integer_bytes (c ∷ cs) h = by_sign (eqb c 43 || eqb c 45) refl h where
  by_sign : (b : Bool) → (eqb c 43 || eqb c 45) ≡ b → list_all is_digit (cond b cs (c ∷ cs)) ≡ true → All (λ c. (32 ≤ c) × (c ≤ 126)) (c ∷ cs)
  by_sign true e h = All-cons (λ c. (32 ≤ c) × (c ≤ 126)) c cs (sign_byte c e) (digit_bytes cs h)
  by_sign false e h = digit_bytes (c ∷ cs) h

-- Tokens

-- A name that the token may be is printable.
abbrev IsNamed : Token → Type 0
IsNamed t = (w : List ℕ) → name_of t ≡ Some w → IsSymbolName w

some_same : (v w : List ℕ) → Some v ≡ Some w → v ≡ w
some_same v w e = cc (e)

named_of : (k : Kind) (text : List ℕ) → 0 < length text → IsTextOf k text → IsNamed (token_of k text)
named_of LowerWord text some h w e = subst IsSymbolName (some_same text w e) (proper_of LowerWord text h)
named_of UpperWord text some h w e = cc (e)
named_of Quoted text some h w e = subst IsSymbolName (some_same _ w e) (proper_of Quoted text h)
named_of DistinctObject text some h w e = cc (e)
named_of DollarWord text some h w e = cc (e)
named_of Number text some h w e = of_integer (is_integer text) refl e where
  of_integer : (b : Bool) → is_integer text ≡ b → cond b (Some text) None ≡ Some w → IsSymbolName w
  of_integer true i e = subst IsSymbolName (some_same text w e) (some, integer_bytes text i)
  of_integer false i e = cc (e)
named_of (of_connective c) text some h w e = cc (e)
named_of (of_mark m) text some h w e = of_some (mark_of m) e where
  of_some : (o : Option Mark) → name_of (token_of_mark o) ≡ Some w → IsSymbolName w
  of_some None e = cc (e)
  of_some (Some m) e = cc (e)

range_some : (bytes : List ℕ) (t : LexToken) → IsIn bytes t → 0 < length (slice_range bytes t.start t.end)
range_some bytes t h = omega (arith, h.some, h.within, length-take (t.end - t.start) (drop t.start bytes), length-drop t.start bytes)

abbrev AllNamed : List Placed → Type 0
AllNamed ts = AllByRecursion (λ t. IsNamed t.token) ts

pub all_named : (bytes : List ℕ) (ts : List LexToken) → AreAllIn bytes ts → AllNamed (map (placed bytes) ts)
all_named bytes [] h = tt
all_named bytes (t ∷ ts) h = (named_of t.kind _ (range_some bytes t h.0) h.0.is_text, all_named bytes ts h.1)

first_named : (ts : List Placed) → AllNamed ts → AllByRecursion IsNamed (first_of ts)
first_named [] h = tt
first_named (t ∷ ts) h = split (is_stop t.token) (first_named ts h.1) where
  split : (b : Bool) → AllByRecursion IsNamed (first_of ts) → AllByRecursion IsNamed (cond b (t.token ∷ []) (t.token ∷ first_of ts))
  split true k = (h.0, tt)
  split false k = (h.0, k)

rest_named : (ts : List Placed) → AllNamed ts → AllNamed (behind_first ts)
rest_named [] h = tt
rest_named (t ∷ ts) h = split (is_stop t.token) (rest_named ts h.1) where
  split : (b : Bool) → AllNamed (behind_first ts) → AllNamed (cond b ts (behind_first ts))
  split true k = h.1
  split false k = k

statement_named : (ts : List Token) (st : Statement) → AllByRecursion IsNamed ts → IsStatement ts st → IsSymbolName st.name
statement_named ts st h s =
    let third = subst (AllByRecursion IsNamed) s.written h in third.1.1.0 st.name s.named

pub labels_named : (had : Bool) (ts : List Placed) (sts : List Statement) (ls : List Label) → AllNamed ts → AreGood had ts sts → AreLabels sts ls
    → All (λ l. IsSymbolName l.name) ls
labels_named had ts [] [] h g k = All-nil (λ (l : Label). IsSymbolName l.name)
labels_named had ts [] (l ∷ ls) h g k = absurd k
labels_named had ts (st ∷ sts) [] h g k = absurd k
labels_named had [] (st ∷ sts) (l ∷ ls) h g k = absurd g
labels_named had (t ∷ ts) (st ∷ sts) (l ∷ ls) h g k =
    All-cons (λ (l : Label). IsSymbolName l.name) l ls (subst IsSymbolName (sym k.0) (statement_named (first_of (t ∷ ts)) st (first_named (t ∷ ts) h) g.0.statement))
    (labels_named (had || is_conjecture st) (behind_first (t ∷ ts)) sts ls (rest_named (t ∷ ts) h) g.1 k.2)
