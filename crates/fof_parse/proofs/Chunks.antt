-- A text is read a statement at a time.
use Rattle.std.proofs.Common.{◌≡◌, ℕ, suc, ◌+◌, ◌≤◌, Bool, true, false, cond, List, [], ◌∷◌, ◌++◌, append_assoc, append-nil, map, length, length-append, Some, None, refl, sym, ap, subst, ◌∙◌, arith}
use Rattle.std.specs.Prelude.{slice_get}
use Rattle.std.proofs.Math.Seq.{take-append_seam, drop-append_seam}
use Rattle.fof_lex.specs.Tokens.{Lexes, LexesUpTo, AreIn as Found}
use Rattle.fof_lex.specs.Lexer.{Unread, place}
use Rattle.fof_lex.specs.Refusal.{IsRefusalAt}
use Rattle.fof_lex.specs.declared.text.LexError.{LexError}
use Rattle.fof_lex.specs.declared.text.LexError.TheVariants as lex_errors
use Rattle.fof_lex.specs.declared.token.Token.{Token as LexToken}
use Rattle.fof_lex.proofs.Steps.{one_list}
use Rattle.fof_lex.proofs.UpTo.{at_start, upto-append, upto-lexes, upto-ends, refused_behind}
use Rattle.fof_parse.specs.declared.refusal.BadKind.{BadKind}
use Rattle.fof_parse.specs.Token.{placed}
use Rattle.fof_parse.specs.Problem.{PlainProblem, empty_problem}
use Rattle.fof_parse.specs.Refusal.{IsBad, FirstBad}
use Rattle.fof_parse.specs.TheProblem.{most_bytes, IsProblemText, IsBadText}
use Rattle.fof_parse.specs.Refused.{Refuses, refusal_of}
use Rattle.fof_parse.specs.Reader.Text.{AreAllIn, tokens_in}
use Rattle.fof_parse.specs.Reader.Chunks.{is_stop_kind, statement_len, has_conjecture, Takes, ReadSoFar, IsNext, ReadUpTo}
use Rattle.fof_parse.proofs.Pieces.{bad_at, one_more, nothing_left}
use Rattle.fof_parse.proofs.Taking.{nothing_so_far, whole_text}

-- The tokens of a statement

-- No full stop is among the tokens: with others behind them, the first statement has all of them.
abbrev pub IsOpen : List LexToken → Type 0
IsOpen tokens = (more : List LexToken) → statement_len (tokens ++ more) ≡ length tokens + statement_len more

pub none_open : IsOpen []
none_open more = omega arith

stop_len : (b : Bool) (n : ℕ) → b ≡ true → cond b 1 (suc n) ≡ 1
stop_len b n e = rw e refl

other_len : (b : Bool) (n : ℕ) → b ≡ false → cond b 1 (suc n) ≡ suc n
other_len b n e = rw e refl

pub one_open : (tokens : List LexToken) (t : LexToken) → IsOpen tokens → is_stop_kind t.kind ≡ false → IsOpen (tokens ++ t ∷ [])
one_open tokens t h e more =
    ap statement_len (append_assoc tokens (t ∷ []) more)
    ∙ omega (arith, h (t ∷ more), other_len (is_stop_kind t.kind) (statement_len more) e, length-append tokens (t ∷ []))

pub closed_by : (tokens : List LexToken) (t : LexToken) → IsOpen tokens → is_stop_kind t.kind ≡ true → (more : List LexToken) → statement_len ((tokens ++ t ∷ []) ++ more) ≡ length (tokens ++ t ∷ [])
closed_by tokens t h e more =
    ap statement_len (append_assoc tokens (t ∷ []) more)
    ∙ omega (arith, h (t ∷ more), stop_len (is_stop_kind t.kind) (statement_len more) e, length-append tokens (t ∷ []))

pub all_in-append : (bytes : List ℕ) (ts us : List LexToken) → AreAllIn bytes ts → AreAllIn bytes us → AreAllIn bytes (ts ++ us)
all_in-append bytes [] us h k = k
all_in-append bytes (t ∷ ts) us h k = (h.0, all_in-append bytes ts us h.1 k)

-- the tokens that were found stand in the bytes
pub found_in : (bytes : List ℕ) (from : ℕ) (ts : List LexToken) → Found bytes from ts → AreAllIn bytes ts
found_in bytes from [] h = tt
found_in bytes from (t ∷ ts) h = (record { some = h.1; within = h.2; is_text = h.3 }, found_in bytes t.end ts h.4)

-- the statement ends with a full stop
pub stopped : (before behind : Unread) (tokens : List LexToken) (t : LexToken) → LexesUpTo (place before) before.rest (tokens ++ t ∷ []) (place behind) behind.rest → IsOpen tokens → is_stop_kind t.kind ≡ true
    → IsNext before (tokens ++ t ∷ []) behind
stopped before behind tokens t up h e = record { reads = up; first = λ more k. closed_by tokens t h e more; at_end = λ none. absurd (omega (arith, ap length none, length-append tokens (t ∷ []))) }

-- the text ends first
pub ended : (before behind : Unread) (tokens : List LexToken) → LexesUpTo (place before) before.rest tokens (place behind) behind.rest → IsOpen tokens → Lexes (place behind) behind.rest []
    → IsNext before tokens behind
ended before behind tokens up h e =
    record {
      reads = up;
      first = λ more k.
          let none : more ≡ [] = one_list (place behind) behind.rest more [] k e in
          h more ∙ ap (λ us. length tokens + statement_len us) none ∙ omega arith;
      at_end = λ _. e;
    }

-- Statement by statement

pub read_none : (bytes : List ℕ) (unread : Unread) (problem : PlainProblem) → unread.text ≡ bytes → unread.rest ≡ bytes → problem ≡ empty_problem → ReadUpTo bytes unread problem
read_none bytes unread problem text rest e = record {
  text = text;
  done = [];
  reads = rw text (rw rest (at_start bytes));
  so_far = λ more k. nothing_so_far (map (placed bytes) more) problem e;
}

module _ (bytes : List ℕ) (before behind : Unread) (tokens : List LexToken) (old : PlainProblem) (up : ReadUpTo bytes before old) (next : IsNext before tokens behind) where
  -- all tokens up to the end of the statement
  abbrev done_more : List LexToken
  done_more = up.done ++ tokens

  pub reads_more : LexesUpTo 0 bytes done_more (place behind) behind.rest
  reads_more = upto-append 0 bytes up.done (place before) before.rest tokens (place behind) behind.rest up.reads next.reads

  -- what is known at the statement's start, where `more` follows it
  module _ (more : List LexToken) (k : Lexes (place behind) behind.rest more) where
    before_it : ReadSoFar (map (placed bytes) (up.done ++ (tokens ++ more))) (map (placed bytes) (tokens ++ more)) old
    before_it = up.so_far (tokens ++ more) (upto-lexes (place before) before.rest tokens (place behind) behind.rest more next.reads k)

    begins : (first : LexToken) → slice_get tokens 0 ≡ Some first → slice_get (tokens ++ more) 0 ≡ Some first
    begins first h = by_token tokens h where
      by_token : (ts : List LexToken) → slice_get ts 0 ≡ Some first → slice_get (ts ++ more) 0 ≡ Some first
      by_token [] h = cc
      by_token (t ∷ ts) h = h

    pub bad_here : (first : LexToken) (kind : BadKind) → slice_get tokens 0 ≡ Some first → IsBad (has_conjecture old) (tokens_in bytes tokens) kind → length bytes ≤ most_bytes
        → IsBadText bytes first.start kind
    bad_here first kind h bad within = record {
      within = within;
      tokens = done_more ++ more;
      lexed = upto-lexes 0 bytes done_more (place behind) behind.rest more reads_more k;
      bad = subst (λ us. FirstBad false (map (placed bytes) us) first.start kind) (sym (append_assoc up.done tokens more))
          (bad_at bytes (up.done ++ (tokens ++ more)) (tokens ++ more) tokens (length tokens) first old before_it (begins first h) (sym (next.first more k)) (sym (take-append_seam tokens more)) kind bad);
    }

    one_more_here : (first : LexToken) (new : PlainProblem) → slice_get tokens 0 ≡ Some first → Takes old (tokens_in bytes tokens) new
        → ReadSoFar (map (placed bytes) (done_more ++ more)) (map (placed bytes) more) new
    one_more_here first new h takes =
        subst (λ us. ReadSoFar (map (placed bytes) us) (map (placed bytes) more) new) (sym (append_assoc up.done tokens more))
        (one_more bytes (up.done ++ (tokens ++ more)) (tokens ++ more) tokens (length tokens) first old before_it (begins first h) (sym (next.first more k)) (sym (take-append_seam tokens more)) more new
        (sym (drop-append_seam tokens more)) takes)

  pub read_one : behind.text ≡ before.text → (first : LexToken) (new : PlainProblem) → slice_get tokens 0 ≡ Some first → Takes old (tokens_in bytes tokens) new → ReadUpTo bytes behind new
  read_one text first new h takes = record { text = text ∙ up.text; done = done_more; reads = reads_more; so_far = λ more k. one_more_here more k first new h takes }

  pub read_all : slice_get tokens 0 ≡ None → length bytes ≤ most_bytes → IsProblemText bytes old
  read_all h within =
      let none = nothing_left tokens h in
      let ends = next.at_end none in
      let all = upto-ends 0 bytes done_more (place behind) behind.rest reads_more ends in
      let same : up.done ++ (tokens ++ []) ≡ done_more = ap (λ us. up.done ++ us) (append-nil tokens) in
      let rest : tokens ++ [] ≡ [] = append-nil tokens ∙ none in
      let r = whole_text (map (placed bytes) done_more) old
      (subst (λ us. ReadSoFar (map (placed bytes) us) [] old) same (subst (λ us. ReadSoFar (map (placed bytes) (up.done ++ (tokens ++ []))) (map (placed bytes) us) old) rest (before_it [] ends))) in
      record { within = within; tokens = done_more; lexed = all; statements = r.0; good = r.1; meaning = r.2 }

refused_whole : (bytes : List ℕ) (e : LexError) → length bytes ≤ most_bytes → IsRefusalAt 0 bytes e → Refuses bytes (refusal_of e)
refused_whole bytes (lex_errors.Bad offset) within k = record { within = within; fails = k }
refused_whole bytes lex_errors.OutOfMemory within k = tt

-- what is refused later is refused of the whole text
pub refused_later : (bytes : List ℕ) (unread : Unread) (tokens : List LexToken) (e : LexError) → LexesUpTo 0 bytes tokens (place unread) unread.rest → length bytes ≤ most_bytes
    → IsRefusalAt (place unread) unread.rest e → Refuses bytes (refusal_of e)
refused_later bytes unread tokens e up within k =
    refused_whole bytes e within (refused_behind 0 bytes tokens (place unread) unread.rest e up k)
