-- Words ask for one command at most.
use Rattle.std.proofs.Common.{◌≡◌, ℕ, Bool, true, false, List, refl, ap, sym, ◌∙◌, subst, Option, Some, None, codes, IfOk, Result, Ok, Err, arith}
use Rattle.std.specs.Prelude.{is_some}
use Rattle.goeland_words.specs.Table.{Text, place, prove_table, bench_table}
use Rattle.goeland_words.specs.Line.{Writes, Setting, settings_of, setting_value}
use Rattle.goeland_words.specs.Numbers.{IsNumberIn, IsNumberOr}
use Rattle.goeland_words.specs.Values.{IsFile, IsTries, IsRewrite, IsSchedule, IsProblem, IsProve, switch_word}
use Rattle.goeland_words.specs.Words.{IsCommand}
use Rattle.goeland_words.specs.declared.limits.TheConstants.{MAX_DEPTH, DEFAULT_DEPTH, MAX_WORKERS, DEFAULT_WORKERS, MAX_TRIES, DEFAULT_PROOF_BYTES}
use Rattle.gs3_text.specs.declared.limit.TheConstants.{MAX_PROOF_BYTES}
use Rattle.goeland_words.specs.declared.prove.Schedule.{Schedule}
use Rattle.goeland_words.specs.declared.prove.ProveWords.{ProveWords}
use Rattle.goeland_words.specs.declared.words.Command.{Command}
use Rattle.goeland_words.specs.declared.words.Command.TheVariants.{Prove, Bench}
use Rattle.goeland_words.specs.declared.words.WordsError.{WordsError}
use Rattle.goeland_words.proofs.Lines.{same_given}
use Rattle.goeland_words.proofs.Commands.{prove_sound, bench_sound}
use Rattle.goeland_words.proofs.Texts.{tail_of, verbs_apart}
use Rattle.goeland_words.proofs.Schedules.{same_pair}

one_number : (d l m : ℕ) (o : Option Text) (a b : ℕ) → IsNumberOr d l m o a → IsNumberOr d l m o b → a ≡ b
one_number d l m None a b p q = p ∙ sym q
one_number d l m (Some text) a b p q = p.0.2 ∙ sym q.0.2

one_file : (o : Option Text) (a b : Text) → IsFile o a → IsFile o b → a ≡ b
one_file None a b p q = p ∙ sym q
one_file (Some text) a b p q = p.1 ∙ sym q.1

none_is_no_number : (n : ℕ) → IsNumberIn 1 MAX_TRIES (codes "none") n → ⊥
none_is_no_number n is = absurd (omega (arith, is.0.0.1.0))

one_tries : (o : Option Text) (a b : Option ℕ) → IsTries o a → IsTries o b → a ≡ b
one_tries None a b p q = p ∙ sym q
one_tries (Some text) None None p q = refl
one_tries (Some text) (Some n) (Some m) p q = ap (λ (x : ℕ). Some x) (p.0.2 ∙ sym q.0.2)
one_tries (Some text) None (Some m) p q = absurd (none_is_no_number m (subst (λ (x : Text). IsNumberIn 1 MAX_TRIES x m) p q))
one_tries (Some text) (Some n) None p q = absurd (none_is_no_number n (subst (λ (x : Text). IsNumberIn 1 MAX_TRIES x n) q p))

apart : codes "on" ≡ codes "off" → ⊥
apart e = cc

one_word : (a b : Bool) → switch_word a ≡ switch_word b → a ≡ b
one_word true true e = refl
one_word false false e = refl
one_word true false e = absurd (apart e)
one_word false true e = absurd (apart (sym e))

one_rewrite : (o : Option Text) (a b : Bool) → IsRewrite o a → IsRewrite o b → a ≡ b
one_rewrite None a b p q = p ∙ sym q
one_rewrite (Some text) a b p q = one_word a b (sym p ∙ q)

one_schedule : (o : Option Text) (a b : Option Schedule) → IsSchedule o a → IsSchedule o b → a ≡ b
one_schedule None a b p q = p ∙ sym q
one_schedule (Some text) None b p q = absurd p
one_schedule (Some text) (Some s) None p q = absurd q
one_schedule (Some text) (Some s) (Some t) p q = ap (λ (x : Schedule). Some x) (same_pair text s t p q)

one_problem : (o : Option Text) (a b : ℕ) → IsProblem o a → IsProblem o b → a ≡ b
one_problem None a b p q = absurd p
one_problem (Some text) a b p q = p.0.2 ∙ sym q.0.2

abbrev asked : Text → ℕ → ℕ → Option ℕ → ℕ → Bool → Bool → Option Schedule → ProveWords
asked file depth workers tries bytes rewrite history schedule = record {
  file = file;
  depth = depth;
  workers = workers;
  tries = tries;
  proof_bytes = bytes;
  rewrite = rewrite;
  history = history;
  schedule = schedule;
}

same_asked : (a a' : Text) (b b' c c' : ℕ) (d d' : Option ℕ) (e e' : ℕ) (f f' g g' : Bool) (h h' : Option Schedule) → a ≡ a' → b ≡ b' → c ≡ c' → d ≡ d' → e ≡ e' → f ≡ f' → g ≡ g' → h ≡ h'
    → asked a b c d e f g h ≡ asked a' b' c' d' e' f' g' h'
same_asked a a' b b' c c' d d' e e' f f' g g' h h' p q r s t u v w = rw (p, q, r, s, t, u, v, w) refl

one_prove : (s s' : List Setting) (p q : ProveWords) → ((n : Text) → setting_value n s ≡ setting_value n s') → IsProve s p → IsProve s' q → p ≡ q
one_prove s s' p q g is is' =
    same_asked _ _ _ _ _ _ _ _ _ _ _ _ _ _ _ _
    (one_file (setting_value place s') p.file q.file (subst (λ (o : Option Text). IsFile o p.file) (g place) is.file) is'.file)
    (one_number DEFAULT_DEPTH 1 MAX_DEPTH (setting_value (codes "depth") s') p.depth q.depth (subst (λ (o : Option Text). IsNumberOr DEFAULT_DEPTH 1 MAX_DEPTH o p.depth) (g (codes "depth")) is.depth) is'.depth)
    (one_number DEFAULT_WORKERS 1 MAX_WORKERS (setting_value (codes "workers") s') p.workers q.workers (subst (λ (o : Option Text). IsNumberOr DEFAULT_WORKERS 1 MAX_WORKERS o p.workers) (g (codes "workers")) is.workers) is'.workers)
    (one_tries (setting_value (codes "tries") s') p.tries q.tries (subst (λ (o : Option Text). IsTries o p.tries) (g (codes "tries")) is.tries) is'.tries)
    (one_number DEFAULT_PROOF_BYTES 1 MAX_PROOF_BYTES (setting_value (codes "proof-bytes") s') p.proof_bytes q.proof_bytes
    (subst (λ (o : Option Text). IsNumberOr DEFAULT_PROOF_BYTES 1 MAX_PROOF_BYTES o p.proof_bytes) (g (codes "proof-bytes")) is.proof_bytes) is'.proof_bytes)
    (one_rewrite (setting_value (codes "rewrite") s') p.rewrite q.rewrite (subst (λ (o : Option Text). IsRewrite o p.rewrite) (g (codes "rewrite")) is.rewrite) is'.rewrite)
    (is.history ∙ (ap (λ (o : Option Text). is_some o) (g (codes "history")) ∙ sym is'.history))
    (one_schedule (setting_value (codes "schedule") s') p.schedule q.schedule (subst (λ (o : Option Text). IsSchedule o p.schedule) (g (codes "schedule")) is.schedule) is'.schedule)

pub one_command : (ws : List Text) (c d : Command) → IsCommand ws c → IsCommand ws d → c ≡ d
one_command ws (Prove p) (Prove q) is is' =
    let e : is.more ≡ is'.more = tail_of _ _ _ _ (sym is.whole ∙ is'.whole) in
    let w : Writes prove_table is'.line is.more = subst (λ (x : List Text). Writes prove_table is'.line x) (sym e) is'.writes in
    ap (λ (x : ProveWords). Prove x) (one_prove (settings_of is.line) (settings_of is'.line) p q (λ n. same_given (codes "prove") prove_table prove_sound is.line is'.line is.more n is.writes w) is.says is'.says)
one_command ws (Bench n u) (Bench m v) is is' =
    let e : is.more ≡ is'.more = tail_of _ _ _ _ (sym is.whole ∙ is'.whole) in
    let w : Writes bench_table is'.line is.more = subst (λ (x : List Text). Writes bench_table is'.line x) (sym e) is'.writes in
    let g : (k : Text) → setting_value k (settings_of is.line) ≡ setting_value k (settings_of is'.line) = λ k. same_given (codes "bench") bench_table bench_sound is.line is'.line is.more k is.writes w in
    let one : n ≡ m = one_problem (setting_value place (settings_of is'.line)) n m (subst (λ (o : Option Text). IsProblem o n) (g place) is.says.problem) is'.says.problem in
    let two : u ≡ v = one_number DEFAULT_WORKERS 1 MAX_WORKERS (setting_value (codes "workers") (settings_of is'.line)) u v (subst (λ (o : Option Text). IsNumberOr DEFAULT_WORKERS 1 MAX_WORKERS o u) (g (codes "workers")) is.says.number) is'.says.number in
    rw (one, two) refl
one_command ws (Prove p) (Bench n u) is is' = absurd (verbs_apart _ _ (sym is.whole ∙ is'.whole))
one_command ws (Bench n u) (Prove p) is is' = absurd (verbs_apart _ _ (sym is'.whole ∙ is.whole))

-- so the command that is answered is the only one
pub only_of : (ws : List Text) (r : Result Command WordsError) → IfOk r (IsCommand ws) → IfOk r (λ c. (other : Command) → IsCommand ws other → other ≡ c)
only_of ws (Ok c) is = λ other asks. one_command ws other c asks is
only_of ws (Err e) is = tt
