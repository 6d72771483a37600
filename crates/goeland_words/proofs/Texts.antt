-- What the words give the options, whatever line they are read as.
use Rattle.std.proofs.Common.{◌≡◌, ℕ, Bool, true, false, true≢false, List, [], ◌∷◌, refl, ap, sym, ◌∙◌, Option, Some, None, codes, ◌≤◌, ◌-◌, length, get_or, take, drop, arith}
use Rattle.std.specs.Prelude.{String, string_bytes}
use Rattle.std.proofs.lemmas.List.{take_all}
use Rattle.std.specs.Prelude.{if◌then◌else◌, is_some}
use Rattle.std.specs.Option.{option_map_or}
use Rattle.std.specs.Str.{bytes_eq}
use Rattle.std.specs.Borrow.{Bor}
use Rattle.clap.specs.Words.{found_of, first_value}
use Rattle.clap.specs.declared.parser.matches.ArgMatches.{ArgMatches}
use Rattle.goeland_words.specs.Table.{Text, place, text_in, prove_table, bench_table}
use Rattle.goeland_words.specs.Line.{Line, Writes, Setting, settings_of, setting_value}
use Rattle.goeland_words.specs.Parsed.{HoldsLine, HasProveTexts, HasBenchTexts, IsProveLine, IsBenchLine}
use Rattle.goeland_words.specs.Values.{IsProve, IsBench}
use Rattle.goeland_words.specs.Words.{IsCommand}
use Rattle.gl_outside.specs.Outside.{texts_of}
use Rattle.goeland_words.specs.declared.command.ProveTexts.{ProveTexts}
use Rattle.goeland_words.specs.declared.command.BenchTexts.{BenchTexts}
use Rattle.goeland_words.specs.declared.prove.ProveWords.{ProveWords}
use Rattle.goeland_words.specs.declared.words.Command.{Command}
use Rattle.goeland_words.specs.declared.words.Command.TheVariants.{Prove, Bench}
use Rattle.goeland_words.proofs.Rules.{same_text}
use Rattle.goeland_words.proofs.Lines.{same_given}
use Rattle.goeland_words.proofs.Commands.{prove_sound, bench_sound}

true_is : (r : Option (Bor Text)) (b : Bool) → text_in r ≡ Some (if b then codes "true" else codes "false") → option_map_or (λ s. bytes_eq s.now (codes "true")) r false ≡ b
true_is None b is = cc
true_is (Some x) true is = let e : x.now ≡ codes "true" = cc in rw e refl
true_is (Some x) false is = let e : x.now ≡ codes "false" = cc in rw e refl

pub prove_texts : (ws : List Text) (m : ArgMatches) (t : ProveTexts) (history : Option (Bor Text)) → HoldsLine prove_table ws m → text_in t.file ≡ first_value (found_of m) place → text_in t.depth ≡ first_value (found_of m) (codes "depth")
    → text_in t.workers ≡ first_value (found_of m) (codes "workers") → text_in t.tries ≡ first_value (found_of m) (codes "tries") → text_in t.proof_bytes ≡ first_value (found_of m) (codes "proof-bytes")
    → text_in t.rewrite ≡ first_value (found_of m) (codes "rewrite") → text_in t.schedule ≡ first_value (found_of m) (codes "schedule") → text_in history ≡ first_value (found_of m) (codes "history")
    → t.history ≡ option_map_or (λ s. bytes_eq s.now (codes "true")) history false → IsProveLine ws t
unfolding prove_table
prove_texts ws m t history h file depth workers tries bytes rewrite schedule switch is = record {
  line = h.line;
  writes = h.writes;
  texts = record {
    file = file ∙ h.values place refl;
    depth = depth ∙ h.values (codes "depth") refl;
    workers = workers ∙ h.values (codes "workers") refl;
    tries = tries ∙ h.values (codes "tries") refl;
    proof_bytes = bytes ∙ h.values (codes "proof-bytes") refl;
    rewrite = rewrite ∙ h.values (codes "rewrite") refl;
    schedule = schedule ∙ h.values (codes "schedule") refl;
    history = is ∙ true_is history _ (switch ∙ h.switches (codes "history") refl);
  };
}

pub bench_texts : (ws : List Text) (m : ArgMatches) (t : BenchTexts) → HoldsLine bench_table ws m → text_in t.problem ≡ first_value (found_of m) place → text_in t.workers ≡ first_value (found_of m) (codes "workers") → IsBenchLine ws t
unfolding bench_table
bench_texts ws m t h problem workers = record {
  line = h.line;
  writes = h.writes;
  texts = record { problem = problem ∙ h.values place refl; workers = workers ∙ h.values (codes "workers") refl };
}

-- ---- another line of the same words says the same

prove_same : (ws : List Text) (t : ProveTexts) (m : Line) → IsProveLine ws t → Writes prove_table m ws → HasProveTexts (settings_of m) t
prove_same ws t m p w =
    let g : (n : Text) → setting_value n (settings_of p.line) ≡ setting_value n (settings_of m) = λ n. same_given (codes "prove") prove_table prove_sound p.line m ws n p.writes w in record {
      file = p.texts.file ∙ g place;
      depth = p.texts.depth ∙ g (codes "depth");
      workers = p.texts.workers ∙ g (codes "workers");
      tries = p.texts.tries ∙ g (codes "tries");
      proof_bytes = p.texts.proof_bytes ∙ g (codes "proof-bytes");
      rewrite = p.texts.rewrite ∙ g (codes "rewrite");
      schedule = p.texts.schedule ∙ g (codes "schedule");
      history = p.texts.history ∙ ap (λ (o : Option Text). is_some o) (g (codes "history"));
    }

bench_same : (ws : List Text) (t : BenchTexts) (m : Line) → IsBenchLine ws t → Writes bench_table m ws → HasBenchTexts (settings_of m) t
bench_same ws t m p w =
    let g : (n : Text) → setting_value n (settings_of p.line) ≡ setting_value n (settings_of m) = λ n. same_given (codes "bench") bench_table bench_sound p.line m ws n p.writes w in record {
      problem = p.texts.problem ∙ g place;
      workers = p.texts.workers ∙ g (codes "workers");
    }

pub tail_of : (a b : Text) (xs ys : List Text) → a ∷ xs ≡ b ∷ ys → xs ≡ ys
tail_of a b xs ys e = cc

head_of : (a b : Text) (xs ys : List Text) → a ∷ xs ≡ b ∷ ys → a ≡ b
head_of a b xs ys e = cc

pub verbs_apart : (xs ys : List Text) → codes "prove" ∷ xs ≡ codes "bench" ∷ ys → ⊥
verbs_apart xs ys e =
    let h : codes "prove" ≡ codes "bench" = head_of _ _ xs ys e in
    let k : false ≡ true = ap (λ (t : Text). bytes_eq t (codes "bench")) h in
    true≢false (sym k)

pub prove_none : (ws : List Text) (t : ProveTexts) → IsProveLine ws t → ((s : List Setting) → HasProveTexts s t → (p : ProveWords) → IsProve s p → ⊥) → (c : Command) → IsCommand (codes "prove" ∷ ws) c → ⊥
prove_none ws t line none (Prove p) is =
    let e : ws ≡ is.more = tail_of _ _ _ _ is.whole in
    none (settings_of is.line) (prove_same ws t is.line line (rw e is.writes)) p is.says
prove_none ws t line none (Bench n workers) is = verbs_apart ws is.more is.whole

pub bench_none : (ws : List Text) (t : BenchTexts) → IsBenchLine ws t → ((s : List Setting) → HasBenchTexts s t → (n workers : ℕ) → IsBench s n workers → ⊥) → (c : Command) → IsCommand (codes "bench" ∷ ws) c → ⊥
bench_none ws t line none (Bench n workers) is =
    let e : ws ≡ is.more = tail_of _ _ _ _ is.whole in
    none (settings_of is.line) (bench_same ws t is.line line (rw e is.writes)) n workers is.says
bench_none ws t line none (Prove p) is = verbs_apart is.more ws (sym is.whole)

-- ---- the first word

pub starts : {Z : Type 0} (words : List (String Z)) (v : String Z) (t verb : Text) → 1 ≤ length words → v ≡ get_or words 0 v → t ≡ string_bytes v → bytes_eq t verb ≡ true
    → texts_of words ≡ verb ∷ texts_of (take (length words - 1) (drop 1 words))
starts [] v t verb least first value same = absurd (omega (arith, least))
starts (w ∷ ws) v t verb least first value same =
    let e : length (w ∷ ws) - 1 ≡ length ws = omega arith in
    let b : string_bytes w ≡ verb = ap string_bytes (sym first) ∙ (sym value ∙ same_text t verb same) in
    ap (λ (x : Text). x ∷ texts_of ws) b ∙ sym (ap (λ (n : ℕ). verb ∷ texts_of (take n ws)) e ∙ ap (λ l. verb ∷ texts_of l) (take_all (length ws) ws (omega arith)))
