-- No step's line holds a line feed, where no name of a function symbol does.
use Rattle.std.proofs.Common.{◌≡◌, ℕ, ◌<◌, ◌^◌, ◌+◌, ◌%◌, Bool, true, false, ◌||◌, eqb, cond, List, [], ◌∷◌, ◌++◌, codes, refl, arith}
use Rattle.std.specs.Fmt.{decimal}
use Rattle.std.specs.List.{flat_map}
use Rattle.std.proofs.lemmas.Bool.{or_from, or_parts, false_from_ne_true, eqb-true}
use Rattle.std.proofs.lemmas.Fmt.{decimal_by_steps}
use Rattle.fol_core.specs.Symbol.{Symbol}
use Rattle.fol_core.specs.Syntax.{PlainTerm, PlainTerms, bound, param, app, no_terms, terms}
use Rattle.fol_core.specs.Spelling.{is_lower_word, escaped, spelled_symbol, name_in, spelled, spelled_arguments, spelled_rest, IsOver, AreOver}
use Rattle.gs3_rules.specs.Rules.{Rule, close, false_at, not_true, alpha, beta, delta, gamma}
use Rattle.gs3_text.specs.ProofText.{has_feed, line_of, IsLine, IsSpellable}

pub IsLine-append : (xs ys : List ℕ) → IsLine xs → IsLine ys → IsLine (xs ++ ys)
IsLine-append [] ys p q = q
IsLine-append (x ∷ xs) ys p q = let parts = or_parts (eqb x 10) (has_feed xs) p in or_from _ _ parts.0 (IsLine-append xs ys parts.1 q)

digit_is_line : (d : ℕ) → IsLine ((48 + d) ∷ [])
digit_is_line d = or_from (eqb (48 + d) 10) false (false_from_ne_true _ (λ e. let same = eqb-true (48 + d) 10 e in omega arith)) refl

pub decimal_is_line : (n : ℕ) → n < 2 ^ 64 → IsLine (decimal n)
decimal_is_line n small = decimal_by_steps (λ _ ds. IsLine ds) (λ n h. digit_is_line n) (λ n ds h p. IsLine-append ds _ p (digit_is_line (n % 10))) n small

number_is_line : (i : ℕ) → i < 2 ^ 32 → IsLine (decimal i)
number_is_line i small = decimal_is_line i (omega (arith, small))

abbrev pub NamesAreLines : List Symbol → Type 0
NamesAreLines functions = (f : ℕ) → IsLine (name_in functions f)

either_is_line : (b : Bool) (c : ℕ) → eqb c 10 ≡ false → IsLine (cond b (92 ∷ c ∷ []) (c ∷ []))
either_is_line true c p = or_from (eqb c 10) false p refl
either_is_line false c p = or_from (eqb c 10) false p refl

escaped_is_line : (c : ℕ) → eqb c 10 ≡ false → IsLine (escaped c)
escaped_is_line c p = either_is_line (eqb c 39 || eqb c 92) c p

escapes_are_line : (w : List ℕ) → IsLine w → IsLine (flat_map escaped w)
escapes_are_line [] p = refl
escapes_are_line (c ∷ w) p =
    let parts = or_parts (eqb c 10) (has_feed w) p in IsLine-append (escaped c) _ (escaped_is_line c parts.0) (escapes_are_line w parts.1)

word_is_line : (b : Bool) (w : List ℕ) → IsLine w → IsLine (cond b w (codes "'" ++ flat_map escaped w ++ codes "'"))
word_is_line true w p = p
word_is_line false w p = IsLine-append (flat_map escaped w) _ (escapes_are_line w p) refl

symbol_is_line : (w : List ℕ) → IsLine w → IsLine (spelled_symbol w)
symbol_is_line w p = word_is_line (is_lower_word w) w p

mutual
  pub spelled_is_line : (functions : List Symbol) → NamesAreLines functions → (t : PlainTerm) → IsOver functions t → IsLine (spelled functions t)
  spelled_is_line functions names (bound n) over = refl
  spelled_is_line functions names (param n) over = decimal_is_line n over
  spelled_is_line functions names (app f us) over =
      IsLine-append (spelled_symbol (name_in functions f)) _ (symbol_is_line (name_in functions f) (names f)) (arguments_are_line functions names us over.1)

  arguments_are_line : (functions : List Symbol) → NamesAreLines functions → (us : PlainTerms) → AreOver functions us → IsLine (spelled_arguments functions us)
  arguments_are_line functions names no_terms over = refl
  arguments_are_line functions names (terms u us) over =
      IsLine-append (spelled functions u) _ (spelled_is_line functions names u over.0) (rest_is_line functions names us over.1)

  rest_is_line : (functions : List Symbol) → NamesAreLines functions → (us : PlainTerms) → AreOver functions us → IsLine (spelled_rest functions us)
  rest_is_line functions names no_terms over = refl
  rest_is_line functions names (terms u us) over =
      IsLine-append (spelled functions u) _ (spelled_is_line functions names u over.0) (rest_is_line functions names us over.1)

then_blank : (i : ℕ) (rest : List ℕ) → i < 2 ^ 32 → IsLine rest → IsLine ((decimal i ++ codes " ") ++ rest)
then_blank i rest small p = IsLine-append (decimal i ++ codes " ") rest (IsLine-append (decimal i) _ (number_is_line i small) refl) p

pub line_is_line : (functions : List Symbol) → NamesAreLines functions → (rule : Rule) → IsSpellable functions rule → IsLine (line_of functions rule)
line_is_line functions names (close i j) h = then_blank i (decimal j) h.0.0 (number_is_line j h.0.1)
line_is_line functions names (false_at i) h = number_is_line i h.0
line_is_line functions names (not_true i) h = number_is_line i h.0
line_is_line functions names (alpha i) h = number_is_line i h.0
line_is_line functions names (beta i) h = number_is_line i h.0
line_is_line functions names (delta i n) h = then_blank i (codes "#" ++ decimal n) h.0.0 (decimal_is_line n h.0.1)
line_is_line functions names (gamma i t) h = then_blank i (spelled functions t) h.0 (spelled_is_line functions names t h.1.0)
