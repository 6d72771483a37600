-- Reading a term, and reading it again.
use Rattle.std.proofs.Common.{◌≡◌, ℕ, zero, suc, ◌+◌, ◌^◌, ◌<◌, ◌≤◌, Bool, true, false, cond, eqb, List, [], ◌∷◌, ◌++◌, drop, length, slice_get, Option, Some, None, option_map, ◌⊎◌, inl, inr, refl, ap, sym, ◌∙◌, subst, arith, eq-eqb, append_assoc, length-append}
use Rattle.std.specs.List.{prefix_len}
use Rattle.std.proofs.lemmas.Bool.{eqb-true, false_from_ne_true}
use Rattle.std.proofs.lemmas.Option.{none-some, some_pair_parts}
use Rattle.fol_core.specs.Symbol.{Symbol, IsAt, AreSymbols}
use Rattle.fol_core.specs.Syntax.{PlainTerm, PlainTerms, bound, param, app, no_terms, terms}
use Rattle.fol_core.specs.View.{terms_of_list}
use Rattle.fol_core.specs.Spelling.{is_word_byte, is_lower_word, spelled_symbol, name_in, name_of, spelled, spelled_arguments, spelled_rest, IsOver, AreOver, HasArity, count, depth, depth_of_all}
use Rattle.gs3_text.specs.Reading.{Read, Spelling, is_digit, number_at, spelling_at, name_of_spelling, place_in, function_of, after_argument, arguments_from, arguments_at, application_at, term_at, ◌>>=◌}
use Rattle.gs3_text.proofs.Options.{option_map_some, bind_some}
use Rattle.gs3_text.proofs.Numbers.{number_takes, number_again}
use Rattle.gs3_text.proofs.Names.{place_takes, place_again}
use Rattle.gs3_text.proofs.Spellings.{symbol_takes, symbol_again}

-- what may stand behind a term: nothing, a comma or a closing parenthesis
abbrev pub IsStop : List ℕ → Type 0
IsStop [] = Unit {0}
IsStop (c ∷ cs) = (c ≡ 44) ⊎ (c ≡ 41)

-- r reads the terms over these symbols that nest at most d deep
pub record Reads (functions : List Symbol) (d : ℕ) (r : List ℕ → Read PlainTerm) : Type 0 where
  pub takes : (bytes : List ℕ) (t : PlainTerm) (rest : List ℕ) → r bytes ≡ Some (t, rest) → (bytes ≡ spelled functions t ++ rest) × IsOver functions t × (depth t ≤ d)
  pub again : AreSymbols functions → (t : PlainTerm) (rest : List ℕ) → IsOver functions t → depth t ≤ d → IsStop rest → r (spelled functions t ++ rest) ≡ Some (t, rest)

no_word : (rest : List ℕ) → IsStop rest → prefix_len is_word_byte rest ≡ 0
no_word [] stop = refl
no_word (c ∷ cs) (inl e) = ap (λ b. cond (is_word_byte b) (1 + prefix_len is_word_byte cs) 0) e
no_word (c ∷ cs) (inr e) = ap (λ b. cond (is_word_byte b) (1 + prefix_len is_word_byte cs) 0) e

no_digit : (rest : List ℕ) → IsStop rest → prefix_len is_digit rest ≡ 0
no_digit [] stop = refl
no_digit (c ∷ cs) (inl e) = ap (λ b. cond (is_digit b) (1 + prefix_len is_digit cs) 0) e
no_digit (c ∷ cs) (inr e) = ap (λ b. cond (is_digit b) (1 + prefix_len is_digit cs) 0) e

-- Arguments

-- The arguments t and ts stand in the bytes, up to the closing parenthesis.
pub record AreRead (functions : List Symbol) (d : ℕ) (bytes : List ℕ) (us : List PlainTerm) (rest : List ℕ) : Type 0 where
  pub first : PlainTerm
  pub others : List PlainTerm
  pub are : us ≡ first ∷ others
  pub text : bytes ≡ spelled functions first ++ (spelled_rest functions (terms_of_list others) ++ rest)
  pub over : IsOver functions first × AreOver functions (terms_of_list others)
  pub deep : (depth first ≤ d) × (depth_of_all (terms_of_list others) ≤ d)

-- one argument before those that were read
add_argument : (functions : List Symbol) (d : ℕ) (bytes cs : List ℕ) (t : PlainTerm) (us : List PlainTerm) (rest : List ℕ) → bytes ≡ spelled functions t ++ 44 ∷ cs → IsOver functions t → depth t ≤ d → AreRead functions d cs us rest → AreRead functions d bytes (t ∷ us) rest
add_argument functions d bytes cs t us rest is over deep more =
    let u = more.first in let vs = terms_of_list more.others in record {
      first = t;
      others = us;
      are = refl;
      text = is ∙ ap (λ bs. spelled functions t ++ 44 ∷ bs) (more.text ∙ sym (append_assoc (spelled functions u) (spelled_rest functions vs) rest))
          ∙ ap (λ us. spelled functions t ++ (spelled_rest functions (terms_of_list us) ++ rest)) (sym more.are);
      over = (over, subst (λ us. AreOver functions (terms_of_list us)) (sym more.are) more.over);
      deep = (deep, subst (λ us. depth_of_all (terms_of_list us) ≤ d) (sym more.are) (omega (arith, more.deep.0, more.deep.1)));
    }

argument_case : (functions : List Symbol) (d : ℕ) (bytes : List ℕ) (t : PlainTerm) (c : ℕ) (cs : List ℕ) (more : Read (List PlainTerm)) (us : List PlainTerm) (rest : List ℕ) (b1 b2 : Bool) → (b1 ≡ true → c ≡ 44) → (b2 ≡ true → c ≡ 41)
    → bytes ≡ spelled functions t ++ c ∷ cs → IsOver functions t → depth t ≤ d
    → ((us : List PlainTerm) (rest : List ℕ) → more ≡ Some (us, rest) → AreRead functions d cs us rest)
    → cond {A = Read (List PlainTerm)} b1 (option_map (λ m. (t ∷ m.0, m.1)) more) (cond {A = Read (List PlainTerm)} b2 (Some (t ∷ [], cs)) None) ≡ Some (us, rest) → AreRead functions d bytes us rest
argument_case functions d bytes t c cs more us rest true b2 comma close is over deep others e =
    let found = option_map_some (λ (m : List PlainTerm × List ℕ). (t ∷ m.0, m.1)) more (us, rest) e in
    let parts = some_pair_parts (t ∷ (found.0).0) us (found.0).1 rest (ap Some found.2) in
    let text = is ∙ ap (λ b. spelled functions t ++ b ∷ cs) (comma refl) in
    let read = add_argument functions d bytes cs t (found.0).0 (found.0).1 text over deep (others (found.0).0 (found.0).1 found.1) in
    subst (λ (p : List PlainTerm × List ℕ). AreRead functions d bytes p.0 p.1) (λ i. (parts.0 i, parts.1 i)) read
argument_case functions d bytes t c cs more us rest false true comma close is over deep others e =
    let parts = some_pair_parts (t ∷ []) us cs rest e in record {
      first = t;
      others = [];
      are = sym parts.0;
      text = is ∙ (λ i. spelled functions t ++ close refl i ∷ parts.1 i);
      over = (over, tt);
      deep = (deep, omega arith);
    }
argument_case functions d bytes t c cs more us rest false false comma close is over deep others e = absurd (none-some (us, rest) e)

after_takes : (functions : List Symbol) (d : ℕ) (bytes : List ℕ) (t : PlainTerm) (after : List ℕ) (more : Read (List PlainTerm)) (us : List PlainTerm) (rest : List ℕ) → bytes ≡ spelled functions t ++ after → IsOver functions t → depth t ≤ d
    → ((us : List PlainTerm) (rest : List ℕ) → more ≡ Some (us, rest) → AreRead functions d (drop 1 after) us rest) → after_argument t after more ≡ Some (us, rest) → AreRead functions d bytes us rest
after_takes functions d bytes t [] more us rest is over deep others e = absurd (none-some (us, rest) e)
after_takes functions d bytes t (c ∷ cs) more us rest is over deep others e =
    argument_case functions d bytes t c cs more us rest (eqb c 44) (eqb c 41) (eqb-true c 44) (eqb-true c 41) is over deep others e

pub from_takes : (functions : List Symbol) (d : ℕ) (r : List ℕ → Read PlainTerm) → Reads functions d r → (k : ℕ) (bytes : List ℕ) (us : List PlainTerm) (rest : List ℕ) → arguments_from r k bytes ≡ Some (us, rest) → AreRead functions d bytes us rest
unfolding arguments_from
from_takes functions d r reads zero bytes us rest e = absurd (none-some (us, rest) e)
from_takes functions d r reads (suc k) bytes us rest e =
    let found = bind_some (r bytes) (λ t. after_argument t.0 t.1 (arguments_from r k (drop 1 t.1))) (us, rest) e in
    let first = reads.takes bytes (found.0).0 (found.0).1 found.1 in
    after_takes functions d bytes (found.0).0 (found.0).1 (arguments_from r k (drop 1 (found.0).1)) us rest first.0 first.1 first.2
    (λ us rest is. from_takes functions d r reads k (drop 1 (found.0).1) us rest is) found.2

-- What was read as arguments is spelled so.
pub record AreArguments (functions : List Symbol) (d : ℕ) (bytes : List ℕ) (us : List PlainTerm) (rest : List ℕ) : Type 0 where
  pub text : bytes ≡ spelled_arguments functions (terms_of_list us) ++ rest
  pub over : AreOver functions (terms_of_list us)
  pub deep : depth_of_all (terms_of_list us) ≤ d

from_read : (functions : List Symbol) (d : ℕ) (cs : List ℕ) (us : List PlainTerm) (rest : List ℕ) → AreRead functions d cs us rest → AreArguments functions d (40 ∷ cs) us rest
from_read functions d cs us rest p =
    let u = p.first in let vs = terms_of_list p.others in
    subst (λ us. AreArguments functions d (40 ∷ cs) us rest) (sym p.are) (record {
      text = ap (λ bs. 40 ∷ bs) (p.text ∙ sym (append_assoc (spelled functions u) (spelled_rest functions vs) rest));
      over = p.over;
      deep = omega (arith, p.deep.0, p.deep.1);
    })

arguments_case : (functions : List Symbol) (d : ℕ) (r : List ℕ → Read PlainTerm) → Reads functions d r → (c : ℕ) (cs : List ℕ) (us : List PlainTerm) (rest : List ℕ) (b : Bool) → (b ≡ true → c ≡ 40)
    → cond {A = Read (List PlainTerm)} b (arguments_from r (length cs) cs) (Some ([], c ∷ cs)) ≡ Some (us, rest) → AreArguments functions d (c ∷ cs) us rest
arguments_case functions d r reads c cs us rest true opens e =
    subst (λ b. AreArguments functions d (b ∷ cs) us rest) (sym (opens refl)) (from_read functions d cs us rest (from_takes functions d r reads (length cs) cs us rest e))
arguments_case functions d r reads c cs us rest false opens e =
    let parts = some_pair_parts [] us (c ∷ cs) rest e in
    subst (λ us. AreArguments functions d (c ∷ cs) us rest) parts.0 (record { text = parts.1; over = tt; deep = omega arith })

pub arguments_take : (functions : List Symbol) (d : ℕ) (r : List ℕ → Read PlainTerm) → Reads functions d r → (bytes : List ℕ) (us : List PlainTerm) (rest : List ℕ) → arguments_at r bytes ≡ Some (us, rest) → AreArguments functions d bytes us rest
unfolding arguments_at
arguments_take functions d r reads [] us rest e =
    let parts = some_pair_parts [] us [] rest e in
    subst (λ us. AreArguments functions d [] us rest) parts.0 (record { text = parts.1; over = tt; deep = omega arith })
arguments_take functions d r reads (c ∷ cs) us rest e = arguments_case functions d r reads c cs us rest (eqb c 40) (eqb-true c 40) e

some_word : (b : Bool) (c : ℕ) (cs quoted : List ℕ) → 0 < length (cond b (c ∷ cs) (39 ∷ quoted))
some_word true c cs quoted = omega arith
some_word false c cs quoted = omega arith

symbol_some : (w : List ℕ) → 0 < length (spelled_symbol w)
symbol_some [] = omega arith
symbol_some (c ∷ cs) = some_word (is_lower_word (c ∷ cs)) c cs _

-- a term takes some bytes
spelled_some : (functions : List Symbol) (t : PlainTerm) → IsOver functions t → 0 < length (spelled functions t)
spelled_some functions (bound n) over = absurd over
spelled_some functions (param n) over = omega arith
spelled_some functions (app f us) over = omega (arith, length-append (spelled_symbol (name_in functions f)) (spelled_arguments functions us), symbol_some (name_in functions f))

pub read_shorter : (functions : List Symbol) (d : ℕ) (r : List ℕ → Read PlainTerm) → Reads functions d r → (bytes : List ℕ) (t : PlainTerm) (rest : List ℕ) → r bytes ≡ Some (t, rest) → length rest < length bytes
read_shorter functions d r reads bytes t rest e =
    let taken = reads.takes bytes t rest e in
    omega (arith, ap length taken.0, length-append (spelled functions t) rest, spelled_some functions t taken.1)

-- Arguments that are spelled are read.

abbrev pub list_of : PlainTerms → List PlainTerm
list_of no_terms = []
list_of (terms u us) = u ∷ list_of us

pub terms-list_of : (us : PlainTerms) → terms_of_list (list_of us) ≡ us
terms-list_of no_terms = refl
terms-list_of (terms u us) = ap (terms u) (terms-list_of us)

pub length-list_of : (us : PlainTerms) → length (list_of us) ≡ count us
length-list_of no_terms = refl
length-list_of (terms u us) = ap (λ n. suc n) (length-list_of us)

pub count-list : (us : List PlainTerm) → count (terms_of_list us) ≡ length us
count-list [] = refl
count-list (u ∷ us) = ap (λ n. suc n) (count-list us)

rest_stops : (functions : List Symbol) (us : PlainTerms) (rest : List ℕ) → IsStop (spelled_rest functions us ++ rest)
rest_stops functions no_terms rest = inr refl
rest_stops functions (terms u us) rest = inl refl

pub from_again : (functions : List Symbol) → AreSymbols functions → (d : ℕ) (r : List ℕ → Read PlainTerm) → Reads functions d r → (us : PlainTerms) (k : ℕ) (u : PlainTerm) (rest : List ℕ) → count us < k → IsOver functions u → AreOver functions us → depth u ≤ d → depth_of_all us ≤ d
    → arguments_from r k (spelled functions u ++ (spelled_rest functions us ++ rest)) ≡ Some (u ∷ list_of us, rest)
unfolding arguments_from
from_again functions symbols d r reads us zero u rest few over all deep all_deep = absurd (omega arith)
from_again functions symbols d r reads no_terms (suc k) u rest few over all deep all_deep =
    ap (λ o. o >>= λ t. after_argument t.0 t.1 (arguments_from r k (drop 1 t.1))) (reads.again symbols u (41 ∷ rest) over deep (inr refl))
from_again functions symbols d r reads (terms v vs) (suc k) u rest few over all deep all_deep =
    let tail = (spelled functions v ++ spelled_rest functions vs) ++ rest in
    ap (λ o. o >>= λ t. after_argument t.0 t.1 (arguments_from r k (drop 1 t.1))) (reads.again symbols u (44 ∷ tail) over deep (inl refl))
    ∙ ap (λ bs. option_map (λ (m : List PlainTerm × List ℕ). (u ∷ m.0, m.1)) (arguments_from r k bs)) (append_assoc (spelled functions v) (spelled_rest functions vs) rest)
    ∙ ap (option_map (λ (m : List PlainTerm × List ℕ). (u ∷ m.0, m.1))) (from_again functions symbols d r reads vs k v rest (omega arith) all.0 all.1 (omega (arith, all_deep)) (omega (arith, all_deep)))

rest_long : (functions : List Symbol) (us : PlainTerms) → count us < length (spelled_rest functions us)
rest_long functions no_terms = omega arith
rest_long functions (terms u us) = omega (arith, length-append (spelled functions u) (spelled_rest functions us), rest_long functions us)

pub arguments_again : (functions : List Symbol) → AreSymbols functions → (d : ℕ) (r : List ℕ → Read PlainTerm) → Reads functions d r → (us : PlainTerms) (rest : List ℕ) → AreOver functions us → depth_of_all us ≤ d → IsStop rest → arguments_at r (spelled_arguments functions us ++ rest) ≡ Some (list_of us, rest)
unfolding arguments_at
arguments_again functions symbols d r reads no_terms [] over deep stop = refl
arguments_again functions symbols d r reads no_terms (c ∷ cs) over deep (inl e) = ap (λ b. cond {A = Read (List PlainTerm)} (eqb b 40) (arguments_from r (length cs) cs) (Some ([], c ∷ cs))) e
arguments_again functions symbols d r reads no_terms (c ∷ cs) over deep (inr e) = ap (λ b. cond {A = Read (List PlainTerm)} (eqb b 40) (arguments_from r (length cs) cs) (Some ([], c ∷ cs))) e
arguments_again functions symbols d r reads (terms u us) rest over deep stop =
    let bytes = (spelled functions u ++ spelled_rest functions us) ++ rest in
    let few : count us < length bytes = omega (arith, length-append (spelled functions u ++ spelled_rest functions us) rest, length-append (spelled functions u) (spelled_rest functions us), rest_long functions us) in
    ap (arguments_from r (length bytes)) (append_assoc (spelled functions u) (spelled_rest functions us) rest)
    ∙ from_again functions symbols d r reads us (length bytes) u rest few over.0 over.1 (omega (arith, deep)) (omega (arith, deep))

-- Applications

has_arity : (o : Option Symbol) (name : List ℕ) (arity n : ℕ) → o ≡ Some (name, arity) → n ≡ arity → HasArity o n × (name_of o ≡ name)
has_arity o name arity n e same =
    subst (λ o. HasArity o n × (name_of o ≡ name)) (sym e) (sym same, refl)

found_symbol : (o : Option Symbol) (n : ℕ) → HasArity o n → o ≡ Some (name_of o, n)
found_symbol None n h = absurd h
found_symbol (Some s) n h = λ i. Some (s.0, h i)

function_takes : (functions : List Symbol) (s : Spelling) (arity f : ℕ) → function_of functions s arity ≡ Some f → (name : List ℕ) × (name_of_spelling s ≡ Some name) × IsAt functions (name, arity) f
unfolding function_of
function_takes functions s arity f e =
    let found = bind_some (name_of_spelling s) (λ name. place_in functions name arity) f e in
    (found.0, found.1, place_takes functions found.0 arity f found.2)

pub application_takes : (functions : List Symbol) (d : ℕ) (r : List ℕ → Read PlainTerm) → Reads functions d r → (bytes : List ℕ) (t : PlainTerm) (rest : List ℕ) → application_at functions r bytes ≡ Some (t, rest)
    → (bytes ≡ spelled functions t ++ rest) × IsOver functions t × (depth t ≤ suc d)
unfolding application_at
application_takes functions d r reads bytes t rest e =
    let first = bind_some (spelling_at bytes) _ (t, rest) e in
    let second = bind_some (arguments_at r (first.0).1) _ (t, rest) first.2 in
    let us = (second.0).0 in
    let third = bind_some (function_of functions (first.0).0 (length us)) _ (t, rest) second.2 in
    let f = third.0 in
    let parts = some_pair_parts (app f (terms_of_list us)) t (second.0).1 rest third.2 in
    let function = function_takes functions (first.0).0 (length us) f third.1 in
    let arguments = arguments_take functions d r reads (first.0).1 us (second.0).1 second.1 in
    let symbol = symbol_takes bytes (first.0).0 (first.0).1 function.0 first.1 function.1 in
    let arity = has_arity (slice_get functions f) function.0 (length us) (count (terms_of_list us)) function.2 (count-list us) in
    let text = symbol ∙ ap (λ bs. spelled_symbol function.0 ++ bs) arguments.text
    ∙ sym (append_assoc (spelled_symbol function.0) (spelled_arguments functions (terms_of_list us)) (second.0).1)
    ∙ ap (λ name. (spelled_symbol name ++ spelled_arguments functions (terms_of_list us)) ++ (second.0).1) (sym arity.1) in
    (text ∙ (λ i. spelled functions (parts.0 i) ++ parts.1 i), subst (IsOver functions) parts.0 (arity.0, arguments.over), subst (λ t. depth t ≤ suc d) parts.0 (omega (arith, arguments.deep)))

arguments_no_word : (functions : List Symbol) (us : PlainTerms) (rest : List ℕ) → IsStop rest → prefix_len is_word_byte (spelled_arguments functions us ++ rest) ≡ 0
arguments_no_word functions no_terms rest stop = no_word rest stop
arguments_no_word functions (terms u us) rest stop = refl

function_again : (functions : List Symbol) → AreSymbols functions → (s : Spelling) (f : ℕ) (us : PlainTerms) → HasArity (slice_get functions f) (count us) → name_of_spelling s ≡ Some (name_in functions f) → function_of functions s (length (list_of us)) ≡ Some f
unfolding function_of
function_again functions symbols s f us arity named =
    ap (λ o. o >>= λ name. place_in functions name (length (list_of us))) named ∙ ap (place_in functions (name_in functions f)) (length-list_of us)
    ∙ place_again functions symbols (name_in functions f) (count us) f (found_symbol (slice_get functions f) (count us) arity)

pub application_again : (functions : List Symbol) → AreSymbols functions → (d : ℕ) (r : List ℕ → Read PlainTerm) → Reads functions d r → (f : ℕ) (us : PlainTerms) (rest : List ℕ) → IsOver functions (app f us) → depth_of_all us ≤ d → IsStop rest
    → application_at functions r (spelled functions (app f us) ++ rest) ≡ Some (app f us, rest)
unfolding application_at
application_again functions symbols d r reads f us rest over deep stop =
    let name = name_in functions f in
    let tail = spelled_arguments functions us ++ rest in
    let read = symbol_again name tail (arguments_no_word functions us rest stop) in
    let s = read.0 in
    ap (application_at functions r) (append_assoc (spelled_symbol name) (spelled_arguments functions us) rest)
    ∙ ap (λ o. o >>= λ s. arguments_at r s.1 >>= λ us. function_of functions s.0 (length us.0) >>= λ f. Some (app f (terms_of_list us.0), us.1)) read.1
    ∙ ap (λ o. o >>= λ (us : List PlainTerm × List ℕ). function_of functions s (length us.0) >>= λ f. Some (app f (terms_of_list us.0), us.1)) (arguments_again functions symbols d r reads us rest over.1 deep stop)
    ∙ ap (λ o. o >>= λ f. Some (app f (terms_of_list (list_of us)), rest)) (function_again functions symbols s f us over.0 read.2)
    ∙ ap (λ us. Some (app f us, rest)) (terms-list_of us)

-- Terms

no_application : (functions : List Symbol) (r : List ℕ → Read PlainTerm) (cs : List ℕ) (x : PlainTerm × List ℕ) → application_at functions r (35 ∷ cs) ≡ Some x → ⊥
unfolding application_at spelling_at
no_application functions r cs x e = none-some x e

term_case : (functions : List Symbol) (d c : ℕ) (cs : List ℕ) (x : PlainTerm × List ℕ) (b : Bool) → (b ≡ true → c ≡ 35) → application_at functions (term_at functions d) (c ∷ cs) ≡ Some x
    → cond {A = Read PlainTerm} b (option_map (λ n. (param n.0, n.1)) (number_at (2 ^ 64) cs)) (application_at functions (term_at functions d) (c ∷ cs)) ≡ Some x
term_case functions d c cs x true is e = absurd (no_application functions (term_at functions d) cs x (subst (λ b. application_at functions (term_at functions d) (b ∷ cs) ≡ Some x) (is refl) e))
term_case functions d c cs x false is e = e

term_from_application : (functions : List Symbol) (d : ℕ) (bytes : List ℕ) (x : PlainTerm × List ℕ) → application_at functions (term_at functions d) bytes ≡ Some x → term_at functions (suc d) bytes ≡ Some x
unfolding term_at application_at spelling_at
term_from_application functions d [] x e = absurd (none-some x e)
term_from_application functions d (c ∷ cs) x e = term_case functions d c cs x (eqb c 35) (eqb-true c 35) e

taken_case : (functions : List Symbol) (d : ℕ) → Reads functions d (term_at functions d) → (c : ℕ) (cs : List ℕ) (t : PlainTerm) (rest : List ℕ) (b : Bool) → (b ≡ true → c ≡ 35)
    → cond {A = Read PlainTerm} b (option_map (λ n. (param n.0, n.1)) (number_at (2 ^ 64) cs)) (application_at functions (term_at functions d) (c ∷ cs)) ≡ Some (t, rest)
    → (c ∷ cs ≡ spelled functions t ++ rest) × IsOver functions t × (depth t ≤ suc d)
taken_case functions d reads c cs t rest true is e =
    let found = option_map_some (λ (n : ℕ × List ℕ). (param n.0, n.1)) (number_at (2 ^ 64) cs) (t, rest) e in
    let n = (found.0).0 in
    let parts = some_pair_parts (param n) t (found.0).1 rest (ap Some found.2) in
    let number = number_takes (2 ^ 64) cs n (found.0).1 (omega arith) found.1 in
    ((λ i. is refl i ∷ number.0 i) ∙ (λ i. spelled functions (parts.0 i) ++ parts.1 i), subst (IsOver functions) parts.0 number.1, subst (λ t. depth t ≤ suc d) parts.0 (omega arith))
taken_case functions d reads c cs t rest false is e = application_takes functions d (term_at functions d) reads (c ∷ cs) t rest e

term_takes : (functions : List Symbol) (d : ℕ) → Reads functions d (term_at functions d) → (bytes : List ℕ) (t : PlainTerm) (rest : List ℕ) → term_at functions (suc d) bytes ≡ Some (t, rest)
    → (bytes ≡ spelled functions t ++ rest) × IsOver functions t × (depth t ≤ suc d)
unfolding term_at
term_takes functions d reads [] t rest e = absurd (none-some (t, rest) e)
term_takes functions d reads (c ∷ cs) t rest e = taken_case functions d reads c cs t rest (eqb c 35) (eqb-true c 35) e

term_again : (functions : List Symbol) (d : ℕ) → Reads functions d (term_at functions d) → AreSymbols functions → (t : PlainTerm) (rest : List ℕ) → IsOver functions t → depth t ≤ suc d → IsStop rest → term_at functions (suc d) (spelled functions t ++ rest) ≡ Some (t, rest)
unfolding term_at
term_again functions d reads symbols (bound n) rest over deep stop = absurd over
term_again functions d reads symbols (param n) rest over deep stop =
    ap (option_map (λ (n : ℕ × List ℕ). (param n.0, n.1))) (number_again (2 ^ 64) n rest (omega arith) over (no_digit rest stop))
term_again functions d reads symbols (app f us) rest over deep stop =
    term_from_application functions d _ (app f us, rest) (application_again functions symbols d (term_at functions d) reads f us rest over (omega (arith, deep)) stop)

depth_positive : (t : PlainTerm) → 0 < depth t
depth_positive (bound n) = omega arith
depth_positive (param n) = omega arith
depth_positive (app f us) = omega arith

-- A term that was read is spelled so, and one that is spelled so is read.
pub reads_term : (functions : List Symbol) (d : ℕ) → Reads functions d (term_at functions d)
unfolding term_at
reads_term functions zero = record {
  takes = λ bytes t rest e. absurd (none-some (t, rest) e);
  again = λ symbols t rest over deep stop. absurd (omega (arith, depth_positive t));
}
reads_term functions (suc d) = record {
  takes = term_takes functions d (reads_term functions d);
  again = term_again functions d (reads_term functions d);
}

pub term_shorter : (functions : List Symbol) (d : ℕ) (bytes : List ℕ) (t : PlainTerm) (rest : List ℕ) → term_at functions d bytes ≡ Some (t, rest) → length rest < length bytes
term_shorter functions d bytes t rest e = read_shorter functions d (term_at functions d) (reads_term functions d) bytes t rest e

-- Reading a term by its first byte

by_first : (functions : List Symbol) (d inside : ℕ) (bytes : List ℕ) (c : ℕ) (cs : List ℕ) (b : Bool) → d ≡ suc inside → bytes ≡ c ∷ cs → eqb c 35 ≡ b
    → term_at functions d bytes ≡ cond {A = Read PlainTerm} b (option_map (λ n. (param n.0, n.1)) (number_at (2 ^ 64) cs)) (application_at functions (term_at functions inside) (c ∷ cs))
unfolding term_at
by_first functions d inside bytes c cs b e text is =
    (λ i. term_at functions (e i) (text i))
    ∙ ap (λ b. cond {A = Read PlainTerm} b (option_map (λ n. (param n.0, n.1)) (number_at (2 ^ 64) cs)) (application_at functions (term_at functions inside) (c ∷ cs))) is

pub term_too_deep : (functions : List Symbol) (d : ℕ) (bytes : List ℕ) → d ≡ 0 → term_at functions d bytes ≡ None
unfolding term_at
term_too_deep functions d bytes e = ap (λ d. term_at functions d bytes) e

pub term_empty : (functions : List Symbol) (d inside : ℕ) (bytes : List ℕ) → d ≡ suc inside → bytes ≡ [] → term_at functions d bytes ≡ None
unfolding term_at
term_empty functions d inside bytes e text = λ i. term_at functions (e i) (text i)

pub term_param : (functions : List Symbol) (d inside : ℕ) (bytes : List ℕ) (c : ℕ) (cs : List ℕ) → d ≡ suc inside → bytes ≡ c ∷ cs → c ≡ 35 → term_at functions d bytes ≡ option_map (λ n. (param n.0, n.1)) (number_at (2 ^ 64) cs)
term_param functions d inside bytes c cs e text is = by_first functions d inside bytes c cs true e text (eq-eqb c 35 is)

pub term_other : (functions : List Symbol) (d inside : ℕ) (bytes : List ℕ) (c : ℕ) (cs : List ℕ) → d ≡ suc inside → bytes ≡ c ∷ cs → (c ≡ 35 → ⊥) → term_at functions d bytes ≡ application_at functions (term_at functions inside) bytes
term_other functions d inside bytes c cs e text isnt =
    by_first functions d inside bytes c cs false e text (false_from_ne_true _ (λ t. isnt (eqb-true c 35 t))) ∙ ap (application_at functions (term_at functions inside)) (sym text)
