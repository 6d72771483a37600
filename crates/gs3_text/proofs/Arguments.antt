-- Reading arguments one by one.
use Rattle.std.proofs.Common.{◌≡◌, ℕ, zero, suc, ◌<◌, ◌≤◌, cond, eqb, List, [], ◌∷◌, ◌++◌, drop, length, Option, Some, None, option_map, refl, ap, sym, ◌∙◌, arith, length-drop}
use Rattle.fol_core.specs.Syntax.{PlainTerm}
use Rattle.gs3_text.specs.declared.fault.Fault.{Fault}
use Rattle.gs3_text.specs.declared.fault.Fault.TheVariants.{Malformed, OutOfMemory}
use Rattle.gs3_text.specs.Reading.{Read, Fails, onto, after_argument, arguments_from, ◌>>=◌}
use Rattle.std.proofs.lemmas.Bool.{eqb-true, false_from_ne_true}
use Rattle.gs3_text.proofs.Quotes.{onto-onto}

-- what is read takes some bytes
abbrev pub Consumes : (List ℕ → Read PlainTerm) → Type 0
Consumes r = (bytes : List ℕ) (t : PlainTerm) (rest : List ℕ) → r bytes ≡ Some (t, rest) → length rest < length bytes

abbrev go_on : (List ℕ → Read PlainTerm) → ℕ → PlainTerm × List ℕ → Read (List PlainTerm)
go_on r k t = after_argument t.0 t.1 (arguments_from r k (drop 1 t.1))

no_fuel : (o : Read PlainTerm) (f : PlainTerm × List ℕ → Read (List PlainTerm)) → ((t : PlainTerm × List ℕ) → o ≡ Some t → ⊥) → (o >>= f) ≡ None
no_fuel None f none = refl
no_fuel (Some t) f none = absurd (none t refl)

same_fuel : (o : Read PlainTerm) (f g : PlainTerm × List ℕ → Read (List PlainTerm)) → ((t : PlainTerm × List ℕ) → o ≡ Some t → f t ≡ g t) → (o >>= f) ≡ (o >>= g)
same_fuel None f g same = refl
same_fuel (Some t) f g same = same t refl

-- Any number of arguments that is not less than the number of bytes reads the same.
from_fuel : (r : List ℕ → Read PlainTerm) → Consumes r → (k m : ℕ) (bytes : List ℕ) → length bytes ≤ k → length bytes ≤ m → arguments_from r k bytes ≡ arguments_from r m bytes
unfolding arguments_from
from_fuel r consumes zero zero bytes a b = refl
from_fuel r consumes zero (suc m) bytes a b = sym (no_fuel (r bytes) (go_on r m) (λ t e. omega (arith, consumes bytes t.0 t.1 e)))
from_fuel r consumes (suc k) zero bytes a b = no_fuel (r bytes) (go_on r k) (λ t e. omega (arith, consumes bytes t.0 t.1 e))
from_fuel r consumes (suc k) (suc m) bytes a b = same_fuel (r bytes) (go_on r k) (go_on r m) (λ t e.
    let short : length (drop 1 t.1) < length bytes = omega (arith, consumes bytes t.0 t.1 e, length-drop 1 t.1) in
    ap (after_argument t.0 t.1) (from_fuel r consumes k m (drop 1 t.1) (omega arith) (omega arith)))

from_bytes : (r : List ℕ → Read PlainTerm) → Consumes r → (bytes : List ℕ) (t : PlainTerm) (after : List ℕ) → r bytes ≡ Some (t, after)
    → arguments_from r (length bytes) bytes ≡ after_argument t after (arguments_from r (length (drop 1 after)) (drop 1 after))
unfolding arguments_from
from_bytes r consumes [] t after e = absurd (omega (arith, consumes [] t after e))
from_bytes r consumes (c ∷ cs) t after e =
    let short = consumes (c ∷ cs) t after e in
    ap (λ o. o >>= go_on r (length cs)) e
    ∙ ap (after_argument t after) (from_fuel r consumes (length cs) (length (drop 1 after)) (drop 1 after) (omega (arith, length-drop 1 after)) (omega arith))

from_none : (r : List ℕ → Read PlainTerm) (k : ℕ) (bytes : List ℕ) → r bytes ≡ None → arguments_from r k bytes ≡ None
unfolding arguments_from
from_none r zero bytes e = refl
from_none r (suc k) bytes e = ap (λ o. o >>= go_on r k) e

-- where an argument is not read, the whole is not
pub fails_on : (r : List ℕ → Read PlainTerm) (e : Fault) (rest : List ℕ) (front : List PlainTerm) (whole : Read (List PlainTerm)) → onto front (arguments_from r (length rest) rest) ≡ whole → Fails e (r rest) → Fails e whole
fails_on r OutOfMemory rest front whole is fails = tt
fails_on r Malformed rest front whole is fails = sym is ∙ ap (onto front) (from_none r (length rest) rest fails)

-- one argument more, behind which a comma stands
pub more_on : (r : List ℕ → Read PlainTerm) → Consumes r → (rest more : List ℕ) (front : List PlainTerm) (t : PlainTerm) (whole : Read (List PlainTerm)) → onto front (arguments_from r (length rest) rest) ≡ whole → r rest ≡ Some (t, 44 ∷ more)
    → onto (front ++ t ∷ []) (arguments_from r (length more) more) ≡ whole
more_on r consumes rest more front t whole is e =
    sym (onto-onto front (t ∷ []) (arguments_from r (length more) more)) ∙ ap (onto front) (sym (from_bytes r consumes rest t (44 ∷ more) e)) ∙ is

-- the last argument, behind which the parenthesis closes
pub last_on : (r : List ℕ → Read PlainTerm) → Consumes r → (rest more : List ℕ) (front : List PlainTerm) (t : PlainTerm) (whole : Read (List PlainTerm)) → onto front (arguments_from r (length rest) rest) ≡ whole → r rest ≡ Some (t, 41 ∷ more)
    → whole ≡ Some (front ++ t ∷ [], more)
last_on r consumes rest more front t whole is e = sym is ∙ ap (onto front) (from_bytes r consumes rest t (41 ∷ more) e)

-- an argument behind which something else stands
pub none_on : (r : List ℕ → Read PlainTerm) → Consumes r → (rest after : List ℕ) (front : List PlainTerm) (t : PlainTerm) (whole : Read (List PlainTerm)) → onto front (arguments_from r (length rest) rest) ≡ whole → r rest ≡ Some (t, after)
    → ((more : Read (List PlainTerm)) → after_argument t after more ≡ None) → whole ≡ None
none_on r consumes rest after front t whole is e none = sym is ∙ ap (onto front) (from_bytes r consumes rest t after e ∙ none _)

pub fails_map : {A B : Type 0} (e : Fault) (f : A → B) (o : Option A) (whole : Option B) → whole ≡ option_map f o → Fails e o → Fails e whole
fails_map OutOfMemory f o whole is fails = tt
fails_map Malformed f o whole is fails = is ∙ ap (option_map f) fails

pub behind_other : (t : PlainTerm) (after : List ℕ) (c : ℕ) (cs : List ℕ) → after ≡ c ∷ cs → (c ≡ 44 → ⊥) → (c ≡ 41 → ⊥) → (more : Read (List PlainTerm)) → after_argument t after more ≡ None
behind_other t after c cs is not_comma not_close more =
    ap (λ after. after_argument t after more) is
    ∙ ap (λ b. cond {A = Read (List PlainTerm)} b (option_map (λ m. (t ∷ m.0, m.1)) more) (cond {A = Read (List PlainTerm)} (eqb c 41) (Some (t ∷ [], cs)) None)) (false_from_ne_true (eqb c 44) (λ e. not_comma (eqb-true c 44 e)))
    ∙ ap (λ b. cond {A = Read (List PlainTerm)} b (Some (t ∷ [], cs)) None) (false_from_ne_true (eqb c 41) (λ e. not_close (eqb-true c 41 e)))
