-- What a symbol list gives.
use Rattle.std.proofs.Common.{◌≡◌, ℕ, zero, suc, ◌≤◌, Bool, true, false, ◌&&◌, cond, List, [], ◌∷◌, slice_get, eqb, Option, Some, None, option_map, refl, ap, sym, ◌∙◌, eq-eqb, arith}
use Rattle.std.specs.List.{All}
use Rattle.std.specs.Str.{bytes_eq}
use Rattle.std.proofs.lemmas.Bool.{or_from, false_from_ne_true, eqb-true, and_parts, and_from}
use Rattle.std.proofs.lemmas.List.Elements.{All-head, All-tail}
use Rattle.std.proofs.lemmas.Option.{same_Some, none-some}
use Rattle.std.proofs.lemmas.Slice.Eq.{bytes_eq-Decides}
use Rattle.fol_core.specs.Symbol.{Symbol, IsSymbolName, IsAt, IsNumberOf, AreSymbols}
use Rattle.fol_core.specs.Spelling.{name_of}
use Rattle.gs3_text.specs.ProofText.{IsLine}
use Rattle.gs3_text.specs.Reading.{place_in}
use Rattle.gs3_text.proofs.Feeds.{NamesAreLines}

name_is_line : (w : List ℕ) → All (λ c. (32 ≤ c) × (c ≤ 126)) w → IsLine w
name_is_line [] p = refl
name_is_line (c ∷ w) p =
    let here = All-head (λ c. (32 ≤ c) × (c ≤ 126)) c w p in
    or_from (eqb c 10) _ (false_from_ne_true _ (λ e. let same = eqb-true c 10 e in omega (arith, here.0))) (name_is_line w (All-tail (λ c. (32 ≤ c) × (c ≤ 126)) c w p))

some_name : (o : Option Symbol) → ((s : Symbol) → o ≡ Some s → IsSymbolName s.0) → IsLine (name_of o)
some_name None p = refl
some_name (Some s) p = name_is_line s.0 (p s refl).1

pub names_are_lines : (functions : List Symbol) → AreSymbols functions → NamesAreLines functions
names_are_lines functions p f = some_name (slice_get functions f) (λ s. p.named f s)

-- the test of two symbols
same_symbol : (s : Symbol) (name : List ℕ) (arity : ℕ) → (bytes_eq s.0 name && eqb s.1 arity) ≡ true → s ≡ (name, arity)
same_symbol s name arity e =
    let parts = and_parts (bytes_eq s.0 name) (eqb s.1 arity) e in
    let a = (bytes_eq-Decides s.0 name).0 parts.0 in let b = eqb-true s.1 arity parts.1 in
    λ i. (a i, b i)

place_step : (b : Bool) (s : Symbol) (functions : List Symbol) (wanted : Symbol) (o : Option ℕ) (f : ℕ) → (b ≡ true → s ≡ wanted) → ((g : ℕ) → o ≡ Some g → IsAt functions wanted g) → cond b (Some 0) (option_map (λ g. suc g) o) ≡ Some f → IsAt (s ∷ functions) wanted f
place_step true s functions wanted o zero here there e = ap Some (here refl)
place_step true s functions wanted o (suc f) here there e = cc
place_step false s functions wanted None f here there e = cc
place_step false s functions wanted (Some g) zero here there e = cc
place_step false s functions wanted (Some g) (suc f) here there e = there f cc

-- the place holds the symbol
pub place_takes : (functions : List Symbol) (name : List ℕ) (arity f : ℕ) → place_in functions name arity ≡ Some f → IsAt functions (name, arity) f
place_takes [] name arity f e = cc
place_takes (s ∷ functions) name arity f e =
    place_step (bytes_eq s.0 name && eqb s.1 arity) s functions (name, arity) (place_in functions name arity) f (same_symbol s name arity) (place_takes functions name arity) e

symbol_same : (s : Symbol) (name : List ℕ) (arity : ℕ) → s ≡ (name, arity) → (bytes_eq s.0 name && eqb s.1 arity) ≡ true
symbol_same s name arity e =
    and_from (bytes_eq s.0 name) (eqb s.1 arity) ((bytes_eq-Decides s.0 name).1 (ap (λ (t : Symbol). t.0) e)) (eq-eqb s.1 arity (ap (λ (t : Symbol). t.1) e))

some_step : (b : Bool) (o : Option ℕ) → ((g : ℕ) × (o ≡ Some g)) → (g : ℕ) × (cond b (Some 0) (option_map (λ g. suc g) o) ≡ Some g)
some_step true o found = (0, refl)
some_step false o found = (suc found.0, ap (option_map (λ g. suc g)) found.1)

-- a symbol of the list has a place
place_some : (functions : List Symbol) (name : List ℕ) (arity f : ℕ) → IsAt functions (name, arity) f → (g : ℕ) × (place_in functions name arity ≡ Some g)
place_some [] name arity f h = cc
place_some (s ∷ functions) name arity zero h =
    (0, ap (λ b. cond b (Some 0) (option_map (λ g. suc g) (place_in functions name arity))) (symbol_same s name arity (same_Some s (name, arity) h)))
place_some (s ∷ functions) name arity (suc f) h =
    some_step (bytes_eq s.0 name && eqb s.1 arity) (place_in functions name arity) (place_some functions name arity f h)

none_of : (o : Option ℕ) → ((g : ℕ) × (o ≡ Some g)) → o ≡ None → ⊥
none_of o found e = none-some found.0 (sym e ∙ found.1)

by_place : (o number : Option ℕ) → ((g : ℕ) → o ≡ Some g → number ≡ Some g) → (o ≡ None → (f : ℕ) → number ≡ Some f → ⊥) → o ≡ number
by_place (Some g) number some none = sym (some g refl)
by_place None None some none = refl
by_place None (Some f) some none = absurd (none refl f refl)

-- the place is the symbol's number
pub place_is : (functions : List Symbol) (name : List ℕ) (arity : ℕ) (number : Option ℕ) → IsNumberOf functions (name, arity) number → place_in functions name arity ≡ number
place_is functions name arity number h = by_place (place_in functions name arity) number
    (λ g e. (h.found g).1 (place_takes functions name arity g e))
    (λ e f is. none_of _ (place_some functions name arity f ((h.found f).0 is)) e)

pub place_again : (functions : List Symbol) → AreSymbols functions → (name : List ℕ) (arity f : ℕ) → IsAt functions (name, arity) f → place_in functions name arity ≡ Some f
place_again functions p name arity f h =
    let found = place_some functions name arity f h in
    found.1 ∙ ap Some (p.once found.0 f (name, arity) (place_takes functions name arity found.0 found.1) h)
