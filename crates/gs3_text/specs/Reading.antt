-- Reading from left to right: what stands at the front of the bytes, and the bytes behind it, or nothing.
use Rattle.std.specs.Prelude.{◌≡◌, ℕ, zero, suc, ◌+◌, ◌-◌, ◌*◌, ◌^◌, Bool, true, false, not, ◌&&◌, ◌||◌, eqb, nat_le}
use Rattle.std.specs.Prelude.{if◌then◌else◌, List, [], ◌∷◌, ◌++◌, length, take, drop, codes}
use Rattle.std.specs.Prelude.{Option, Some, None, option_map, Result, Ok, Err}
use Rattle.std.specs.List.{prefix_len}
use Rattle.std.specs.Bool.{beq}
use Rattle.std.specs.Str.{bytes_eq}
use Rattle.fol_core.specs.Symbol.{Symbol}
use Rattle.fol_core.specs.Syntax.{PlainTerm, param, app}
use Rattle.fol_core.specs.View.{terms_of_list}
use Rattle.fol_core.specs.Spelling.{is_between, is_word_byte, is_lower_word}
use Rattle.gs3_rules.specs.Rules.{Rule, close, false_at, not_true, alpha, beta, delta, gamma}
use Rattle.gs3_text.specs.declared.fault.Fault.{Fault}
use Rattle.gs3_text.specs.declared.fault.Fault.TheVariants.{Malformed, OutOfMemory}

-- What a function returned, seen by view, is what reading gives, unless memory ran out.
abbrev pub Fails : {Y : Type 0} → Fault → Option Y → Type 0
Fails OutOfMemory read = Unit {0}
Fails Malformed read = read ≡ None

abbrev pub Gives : {X Y : Type 0} → (X → Y) → Result X Fault → Option Y → Type 0
Gives view (Ok x) read = read ≡ Some (view x)
Gives view (Err e) read = Fails e read

infixl 10 ◌>>=◌
abbrev pub ◌>>=◌ : {A B : Type 0} → Option A → (A → Option B) → Option B
None >>= f = None
(Some x) >>= f = f x

-- a value, and the bytes behind it
abbrev pub Read : Type 0 → Type 0
Read A = Option (A × List ℕ)

-- the bytes behind the word
unfoldable pub strip : List ℕ → List ℕ → Option (List ℕ)
strip word bytes = if bytes_eq (take (length word) bytes) word then Some (drop (length word) bytes) else None

-- a value behind which nothing stands
unfoldable pub whole : {A : Type 0} → Read A → Option A
whole None = None
whole (Some (x, [])) = Some x
whole (Some (x, c ∷ cs)) = None

-- Numbers

abbrev pub is_digit : ℕ → Bool
is_digit c = is_between 48 57 c

-- the number that the digits write behind those of n
abbrev pub value_after : ℕ → List ℕ → ℕ
value_after n [] = n
value_after n (c ∷ cs) = value_after (n * 10 + (c - 48)) cs

-- the digits write a number below the limit, without a leading zero
unfoldable pub number_of : ℕ → List ℕ → Option ℕ
number_of limit [] = None
number_of limit (c ∷ cs) =
    let n = value_after 0 (c ∷ cs) in
    if (eqb c 48 && nat_le 1 (length cs)) || nat_le limit n then None else Some n

unfoldable pub number_at : ℕ → List ℕ → Read ℕ
number_at limit bytes =
    let n = prefix_len is_digit bytes in option_map (λ x. (x, drop n bytes)) (number_of limit (take n bytes))

-- Symbols

-- how a symbol is spelled: as a word, or as what stands in quotes
abbrev pub Spelling : Type 0
Spelling = Bool × List ℕ

abbrev pub onto : {X A : Type 0} → List X → Option (List X × A) → Option (List X × A)
onto front o = option_map (λ r. (front ++ r.0, r.1)) o

-- a backslash that says that the next byte is meant as it is, where the flag says that one stands before it
abbrev pub is_escape : Bool → ℕ → Bool
is_escape escape c = not escape && eqb c 92

-- What stands before the closing quote, where the flag says that a backslash stands before the bytes.
unfoldable pub quoted_at : Bool → List ℕ → Read (List ℕ)
quoted_at escape [] = None
quoted_at escape (c ∷ cs) =
    if not escape && eqb c 39 then Some ([], cs) else onto (c ∷ []) (quoted_at (is_escape escape c) cs)

unfoldable pub spelling_at : List ℕ → Read Spelling
spelling_at [] = None
spelling_at (c ∷ cs) =
    let n = prefix_len is_word_byte (c ∷ cs) in
    if is_between 97 122 c then Some ((false, take n (c ∷ cs)), drop n (c ∷ cs))
    else if eqb c 39 then option_map (λ q. ((true, q.0), q.1)) (quoted_at false cs) else None

-- quotes and backslashes, and no other bytes, stand behind a backslash
abbrev pub is_escaped : ℕ → Bool
is_escaped c = eqb c 39 || eqb c 92

-- the text without the backslashes
unfoldable pub unescaped : Bool → List ℕ → Option (List ℕ)
unescaped escape [] = if escape then None else Some []
unescaped escape (c ∷ cs) =
    let more = unescaped (is_escape escape c) cs in
    if is_escape escape c then more else if beq escape (is_escaped c) then option_map (λ w. c ∷ w) more else None

-- a lower word stands in no quotes
unfoldable pub quoted_name : Option (List ℕ) → Option (List ℕ)
quoted_name None = None
quoted_name (Some w) = if is_lower_word w then None else Some w

abbrev pub name_of_spelling : Spelling → Option (List ℕ)
name_of_spelling s = if s.0 then quoted_name (unescaped false s.1) else Some s.1

-- the place of the symbol in the list
abbrev pub place_in : List Symbol → List ℕ → ℕ → Option ℕ
place_in [] name arity = None
place_in (s ∷ symbols) name arity =
    if bytes_eq s.0 name && eqb s.1 arity then Some 0 else option_map (λ f. suc f) (place_in symbols name arity)

unfoldable pub function_of : List Symbol → Spelling → ℕ → Option ℕ
function_of functions s arity = name_of_spelling s >>= λ name. place_in functions name arity

-- Terms

-- What follows the argument t: a comma and further arguments, or the closing parenthesis.
abbrev pub after_argument : PlainTerm → List ℕ → Read (List PlainTerm) → Read (List PlainTerm)
after_argument t [] more = None
after_argument t (c ∷ cs) more =
    if eqb c 44 then option_map (λ m. (t ∷ m.0, m.1)) more else if eqb c 41 then Some (t ∷ [], cs) else None

-- at most k arguments, up to the closing parenthesis, where r reads one
unfoldable pub arguments_from : (List ℕ → Read PlainTerm) → ℕ → List ℕ → Read (List PlainTerm)
arguments_from r zero bytes = None
arguments_from r (suc k) bytes = r bytes >>= λ t. after_argument t.0 t.1 (arguments_from r k (drop 1 t.1))

-- the arguments in parentheses, or none
unfoldable pub arguments_at : (List ℕ → Read PlainTerm) → List ℕ → Read (List PlainTerm)
arguments_at r [] = Some ([], [])
arguments_at r (c ∷ cs) = if eqb c 40 then arguments_from r (length cs) cs else Some ([], c ∷ cs)

unfoldable pub application_at : List Symbol → (List ℕ → Read PlainTerm) → List ℕ → Read PlainTerm
application_at functions r bytes = do
  s ← spelling_at bytes
  us ← arguments_at r s.1
  f ← function_of functions s.0 (length us.0)
  Some (app f (terms_of_list us.0), us.1)

-- a term that nests at most that deep
unfoldable pub term_at : List Symbol → ℕ → List ℕ → Read PlainTerm
term_at functions zero bytes = None
term_at functions (suc depth) [] = None
term_at functions (suc depth) (c ∷ cs) =
    if eqb c 35 then option_map (λ n. (param n.0, n.1)) (number_at (2 ^ 64) cs)
    else application_at functions (term_at functions depth) (c ∷ cs)

-- Lines

abbrev pub place_at : List ℕ → Read ℕ
place_at bytes = number_at (2 ^ 32) bytes

unfoldable pub close_of : List ℕ → Option Rule
close_of bytes = do
  i ← place_at bytes
  rest ← strip (codes " ") i.1
  j ← whole (place_at rest)
  Some (close i.0 j)

unfoldable pub delta_of : List ℕ → Option Rule
delta_of bytes = do
  i ← place_at bytes
  rest ← strip (codes " #") i.1
  n ← whole (number_at (2 ^ 64) rest)
  Some (delta i.0 n)

unfoldable pub gamma_of : List Symbol → List ℕ → Option Rule
gamma_of functions bytes = do
  i ← place_at bytes
  rest ← strip (codes " ") i.1
  t ← whole (term_at functions 4096 rest)
  Some (gamma i.0 t)

-- reading goes on behind the word, where the bytes begin with it
abbrev pub behind : {A : Type 0} → Option (List ℕ) → (List ℕ → Option A) → Option A → Option A
behind None f other = other
behind (Some rest) f other = f rest

-- the step whose line this is
unfoldable pub step_of : List Symbol → List ℕ → Option Rule
step_of functions line =
    behind (strip (codes "close ") line) close_of (
    behind (strip (codes "false ") line) (λ rest. option_map false_at (whole (place_at rest))) (
    behind (strip (codes "nottrue ") line) (λ rest. option_map not_true (whole (place_at rest))) (
    behind (strip (codes "alpha ") line) (λ rest. option_map alpha (whole (place_at rest))) (
    behind (strip (codes "beta ") line) (λ rest. option_map beta (whole (place_at rest))) (
    behind (strip (codes "delta ") line) delta_of (
    behind (strip (codes "gamma ") line) (gamma_of functions) None))))))
