-- The two tables, and what a parse of their commands gives.
use Rattle.std.proofs.Common.{◌≡◌, ◌≢◌, ◌∙◌, ap, refl, subst, List, [], ◌∷◌, true, IfOk, Result, Ok, Err, Option, Some, None, codes, IfSome, IsNone}
use Rattle.std.specs.declared.alloc.AllocError.{AllocError}
use Rattle.std.specs.Prelude.{String, string_bytes}
use Rattle.std.proofs.lemmas.Str.{IsUtf8-string_bytes}
use Rattle.gl_outside.specs.Outside.{texts_of}
use Rattle.clap.proofs.WalkLemmas.{first_value-rows}
use Rattle.clap.specs.Words.{App, Rule, with_rule, fault_of, is_simple_and_free, HasMatchesOf, Row, is_simple, first_of, matches_of, found_of, first_value}
use Rattle.clap.specs.declared.parser.matches.ArgMatches.{ArgMatches}
use Rattle.goeland_words.specs.Table.{Text, Table, prove_table, bench_table}
use Rattle.goeland_words.specs.Line.{Line, Writes}
use Rattle.goeland_words.specs.Command.{app_of_table}
use Rattle.goeland_words.specs.Parsed.{HoldsLine}
use Rattle.goeland_words.proofs.Runs.{IsSound}
use Rattle.goeland_words.proofs.Steps.{AllText}
use Rattle.goeland_words.proofs.Spelled.{text_word}
use Rattle.goeland_words.proofs.Lines.{line_rows, line_of, value_given, switch_given}

-- one argument more
pub more : (r : Rule) (a b c : App) → c ≡ with_rule a r → a ≡ b → c ≡ with_rule b r
more r a b c is same = is ∙ ap (λ (x : App). with_rule x r) same

-- ---- the two tables

pub prove_sound : IsSound prove_table
unfolding prove_table
prove_sound = record { values = refl; switches = refl; apart = refl; no_value = refl; no_switch = refl }

pub bench_sound : IsSound bench_table
unfolding bench_table
bench_sound = record { values = refl; switches = refl; apart = refl; no_value = refl; no_switch = refl }

pub prove_plain : is_simple_and_free (app_of_table (codes "prove") prove_table) ≡ true
unfolding prove_table
prove_plain = refl

pub prove_simple : is_simple (app_of_table (codes "prove") prove_table) ≡ true
unfolding prove_table
prove_simple = refl

pub bench_plain : is_simple_and_free (app_of_table (codes "bench") bench_table) ≡ true
unfolding bench_table
bench_plain = refl

pub bench_simple : is_simple (app_of_table (codes "bench") bench_table) ≡ true
unfolding bench_table
bench_simple = refl

-- each `String` is text
pub all_text : {Z : Type 0} (words : List (String Z)) → AllText (texts_of words)
all_text [] = tt
all_text (w ∷ ws) = (text_word (string_bytes w) (IsUtf8-string_bytes w), all_text ws)

-- ---- what a parse answers

module _ (name : Text) (t : Table) (sound : IsSound t) (plain : is_simple_and_free (app_of_table name t) ≡ true) (simple : is_simple (app_of_table name t) ≡ true) where
  found_first : (m : ArgMatches) (ws : List Text) (n : Text) → HasMatchesOf (app_of_table name t) ws m → first_value (found_of m) n ≡ first_of n (matches_of (app_of_table name t) ws)
  found_first m ws n has = first_value-rows (found_of m) n ∙ ap (λ (rows : List Row). first_of n rows) (has simple).0

  holds : (m : ArgMatches) (ws : List Text) → AllText ws → fault_of (app_of_table name t) ws ≡ [] → HasMatchesOf (app_of_table name t) ws m → HoldsLine t ws m
  holds m ws texts none has =
      let l = line_of name t sound ws texts none in record {
        line = l.0;
        writes = l.1;
        values = λ n lacks. found_first m ws n has ∙ value_given name t sound l.0 ws n l.1 lacks;
        switches = λ n there. found_first m ws n has ∙ switch_given name t sound l.0 ws n l.1 there;
      }

  -- what a parse answers, at the command itself
  pub some_at : (a : App) (ws : List Text) (m : ArgMatches) → a ≡ app_of_table name t → AllText ws → (is_simple_and_free a ≡ true → (fault_of a ws ≡ []) × HasMatchesOf a ws m) → HoldsLine t ws m
  some_at a ws m is texts says =
      let h = subst (λ (x : App). is_simple_and_free x ≡ true → (fault_of x ws ≡ []) × HasMatchesOf x ws m) is says in
      holds m ws texts (h plain).0 (h plain).1

  pub none_at : (a : App) (ws : List Text) → a ≡ app_of_table name t → (is_simple_and_free a ≡ true → fault_of a ws ≢ []) → (l : Line) → Writes t l ws → ⊥
  none_at a ws is says l w =
      let h = subst (λ (x : App). is_simple_and_free x ≡ true → fault_of x ws ≢ []) is says in
      h plain (line_rows name t sound l ws w).0

-- the same, of a result
pub some_of : (name : Text) (t : Table) (sound : IsSound t) (plain : is_simple_and_free (app_of_table name t) ≡ true) (simple : is_simple (app_of_table name t) ≡ true)
    (a : App) (ws : List Text) (r : Result (Option ArgMatches) AllocError) → a ≡ app_of_table name t → AllText ws
    → IfOk r (λ o. IfSome o (λ m. is_simple_and_free a ≡ true → (fault_of a ws ≡ []) × HasMatchesOf a ws m)) → IfOk r (λ o. IfSome o (HoldsLine t ws))
some_of name t sound plain simple a ws (Ok (Some m)) is texts says = some_at name t sound plain simple a ws m is texts says
some_of name t sound plain simple a ws (Ok None) is texts says = tt
some_of name t sound plain simple a ws (Err e) is texts says = tt

pub none_of : (name : Text) (t : Table) (sound : IsSound t) (plain : is_simple_and_free (app_of_table name t) ≡ true) (simple : is_simple (app_of_table name t) ≡ true)
    (a : App) (ws : List Text) (r : Result (Option ArgMatches) AllocError) → a ≡ app_of_table name t
    → IfOk r (λ o. IsNone o → is_simple_and_free a ≡ true → fault_of a ws ≢ []) → IfOk r (λ o. IsNone o → (l : Line) → Writes t l ws → ⊥)
none_of name t sound plain simple a ws (Ok o) is says = λ none. none_at name t sound plain simple a ws is (says none)
none_of name t sound plain simple a ws (Err e) is says = tt
