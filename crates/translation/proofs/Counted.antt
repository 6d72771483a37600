-- The counted length is that of the text.
use Rattle.std.proofs.Common.{◌≡◌, ℕ, suc, ◌+◌, ◌*◌, ◌≤◌, List, [], ◌∷◌, ◌++◌, length, map, codes, decimal, refl, ap, ◌∙◌, arith, length-append}
use Rattle.fol_core.specs.Symbol.{Symbol}
use Rattle.fol_core.specs.Spelling.{spelled, spelled_arguments, spelled_rest, spelled_symbol, name_in}
use Rattle.fol_core.specs.Syntax.{PlainTerm, PlainTerms, bound, param, app, no_terms, terms}
use Rattle.gs3_rules.specs.Rules.{Rule, close, false_at, not_true, alpha, beta, delta, gamma}
use Rattle.gs3_text.specs.ProofText.{line_of, text_of}
use Rattle.translation.specs.Measures.{text_length}
use Rattle.translation.specs.Counting.{term_bytes, arguments_bytes, rest_bytes, symbol_bytes, line_bytes, lines_bytes}

module _ (fs : List Symbol) where
  mutual
    pub term_counted : (t : PlainTerm) → length (spelled fs t) ≡ term_bytes (symbol_bytes fs) t
    term_counted (bound n) = refl
    term_counted (param n) = refl
    term_counted (app f us) =
        length-append (spelled_symbol (name_in fs f)) (spelled_arguments fs us) ∙ ap (λ n. length (spelled_symbol (name_in fs f)) + n) (arguments_counted us)

    arguments_counted : (us : PlainTerms) → length (spelled_arguments fs us) ≡ arguments_bytes (symbol_bytes fs) us
    arguments_counted no_terms = refl
    arguments_counted (terms u us) = omega (arith, length-append (spelled fs u) (spelled_rest fs us), term_counted u, rest_counted us)

    rest_counted : (us : PlainTerms) → length (spelled_rest fs us) ≡ suc (rest_bytes (symbol_bytes fs) us)
    rest_counted no_terms = refl
    rest_counted (terms u us) = omega (arith, length-append (spelled fs u) (spelled_rest fs us), term_counted u, rest_counted us)

  two_parts : (xs ys : List ℕ) → length (xs ++ codes " " ++ ys) ≡ suc (length xs + length ys)
  two_parts xs ys = length-append (xs ++ codes " ") ys ∙ omega (arith, length-append xs (codes " "))

  three_parts : (word xs ys : List ℕ) → length (((word ++ xs) ++ codes " ") ++ ys) ≡ suc (length word + length xs + length ys)
  three_parts word xs ys =
      length-append ((word ++ xs) ++ codes " ") ys ∙ omega (arith, length-append (word ++ xs) (codes " "), length-append word xs)

  line_counted : (rule : Rule) → suc (length (line_of fs rule)) ≡ line_bytes fs rule
  line_counted (close i j) = omega (arith, three_parts (codes "close ") (decimal i) (decimal j))
  line_counted (false_at i) = omega arith
  line_counted (not_true i) = omega arith
  line_counted (alpha i) = omega arith
  line_counted (beta i) = omega arith
  line_counted (delta i n) = omega (arith, three_parts (codes "delta ") (decimal i) (codes "#" ++ decimal n))
  line_counted (gamma i t) = omega (arith, three_parts (codes "gamma ") (decimal i) (spelled fs t), term_counted t)

  lines_counted : (rules : List Rule) → length (text_of (map (line_of fs) rules)) ≡ lines_bytes fs rules
  lines_counted [] = refl
  lines_counted (rule ∷ rules) =
      length-append (line_of fs rule ++ 10 ∷ []) (text_of (map (line_of fs) rules))
      ∙ omega (arith, length-append (line_of fs rule) (10 ∷ []), line_counted rule, lines_counted rules)

  pub text_counted : (rules : List Rule) → text_length fs rules ≡ 6 + lines_bytes fs rules
  text_counted rules = omega (arith, lines_counted rules)

  line_has : (rule : Rule) → 6 ≤ line_bytes fs rule
  line_has (close i j) = omega arith
  line_has (false_at i) = omega arith
  line_has (not_true i) = omega arith
  line_has (alpha i) = omega arith
  line_has (beta i) = omega arith
  line_has (delta i n) = omega arith
  line_has (gamma i t) = omega arith

  lines_have : (rules : List Rule) → 6 * length rules ≤ lines_bytes fs rules
  lines_have [] = omega arith
  lines_have (rule ∷ rules) = omega (arith, line_has rule, lines_have rules)

  -- a short text has few steps
  pub few_steps : (rules : List Rule) → 6 * length rules + 6 ≤ text_length fs rules
  few_steps rules = omega (arith, text_counted rules, lines_have rules)
