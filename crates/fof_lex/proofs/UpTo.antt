-- What is read of a text up to a place.
use Rattle.std.proofs.Common.{◌≡◌, ◌≢◌, ℕ, ◌+◌, ◌-◌, ◌<◌, ◌≤◌, List, [], ◌∷◌, ◌++◌, length, refl, ap, sym, ◌∙◌, subst, append_assoc, append-nil, take, drop, length-append, arith}
use Rattle.std.specs.List.{slice_range}
use Rattle.std.proofs.Math.Seq.{take-append_seam, drop-append_seam}
use Rattle.fof_lex.specs.Tokens.{IsTextOf, Lexes, ends, skips, takes, LexFails, fails, after_gap, after_token, LexesUpTo, here, behind_gap, behind_token, AreIn}
use Rattle.fof_lex.specs.Lexer.{Unread, IsEnd}
use Rattle.fof_lex.specs.Refusal.{IsRefusalAt}
use Rattle.fof_lex.specs.declared.text.LexError.{LexError}
use Rattle.fof_lex.specs.declared.text.LexError.TheVariants.{Bad, OutOfMemory}
use Rattle.fof_lex.specs.declared.token.Kind.{Kind}
use Rattle.fof_lex.specs.declared.token.Token.{Token}
use Rattle.fof_lex.specs.Reading.{gap, token, nothing, piece_at}
use Rattle.fof_lex.proofs.Longest.{gap_found, longest_read, nothing_read}
use Rattle.fof_lex.proofs.Steps.{cut_length, text_length, token_from, token_shorter}

-- What follows what is read

pub upto-append : (at : ℕ) (text : List ℕ) (ts : List Token) (mid : ℕ) (left : List ℕ) (us : List Token) (low : ℕ) (rest : List ℕ) → LexesUpTo at text ts mid left → LexesUpTo mid left us low rest
    → LexesUpTo at text (ts ++ us) low rest
upto-append at text ts mid left us low rest (here _ _) k = k
upto-append at text ts mid left us low rest (behind_gap _ _ front more _ _ _ e h up) k =
    behind_gap at text front more (ts ++ us) low rest e h (upto-append (at + length front) more ts mid left us low rest up k)
upto-append at text ts mid left us low rest (behind_token _ _ front more kind vs _ _ e h up) k =
    behind_token at text front more kind (vs ++ us) low rest e h (upto-append (at + length front) more vs mid left us low rest up k)

pub upto-lexes : (at : ℕ) (text : List ℕ) (ts : List Token) (low : ℕ) (rest : List ℕ) (us : List Token) → LexesUpTo at text ts low rest → Lexes low rest us → Lexes at text (ts ++ us)
upto-lexes at text ts low rest us (here _ _) k = k
upto-lexes at text ts low rest us (behind_gap _ _ front more _ _ _ e h up) k = skips at text front more (ts ++ us) e h (upto-lexes (at + length front) more ts low rest us up k)
upto-lexes at text ts low rest us (behind_token _ _ front more kind vs _ _ e h up) k =
    takes at text front more kind (vs ++ us) e h (upto-lexes (at + length front) more vs low rest us up k)

pub upto-fails : (at : ℕ) (text : List ℕ) (ts : List Token) (low : ℕ) (rest : List ℕ) (bad : ℕ) → LexesUpTo at text ts low rest → LexFails low rest bad → LexFails at text bad
upto-fails at text ts low rest bad (here _ _) k = k
upto-fails at text ts low rest bad (behind_gap _ _ front more _ _ _ e h up) k = after_gap at text front more bad e h (upto-fails (at + length front) more ts low rest bad up k)
upto-fails at text ts low rest bad (behind_token _ _ front more kind vs _ _ e h up) k =
    after_token at text front more kind bad e h (upto-fails (at + length front) more vs low rest bad up k)

-- nothing but blanks and comments are left, or one token more is read
pub upto-ends : (at : ℕ) (text : List ℕ) (ts : List Token) (low : ℕ) (rest : List ℕ) → LexesUpTo at text ts low rest → Lexes low rest [] → Lexes at text ts
upto-ends at text ts low rest up k = subst (Lexes at text) (append-nil ts) (upto-lexes at text ts low rest [] up k)

-- what is refused behind them is refused before them
pub refused_behind : (at : ℕ) (text : List ℕ) (ts : List Token) (low : ℕ) (rest : List ℕ) (e : LexError) → LexesUpTo at text ts low rest → IsRefusalAt low rest e → IsRefusalAt at text e
refused_behind at text ts low rest (Bad offset) up k = upto-fails at text ts low rest offset up k
refused_behind at text ts low rest OutOfMemory up k = tt

pub at_start : (bytes : List ℕ) → LexesUpTo 0 bytes [] (length bytes - length bytes) bytes
at_start bytes = let none : 0 ≡ length bytes - length bytes = omega arith in subst (λ n. LexesUpTo 0 bytes [] n bytes) none (here 0 bytes)

upto_le : (at : ℕ) (text : List ℕ) (ts : List Token) (low : ℕ) (rest : List ℕ) → LexesUpTo at text ts low rest → length rest ≤ length text
upto_le at text ts low rest (here _ _) = omega arith
upto_le at text ts low rest (behind_gap _ _ front more _ _ _ e h up) = omega (arith, cut_length text front more e, upto_le (at + length front) more ts low rest up)
upto_le at text ts low rest (behind_token _ _ front more kind vs _ _ e h up) = omega (arith, cut_length text front more e, upto_le (at + length front) more vs low rest up)

-- a text that is read whole is read up to its end
upto_end : (at : ℕ) (text : List ℕ) (ts : List Token) → Lexes at text ts → (low : ℕ) × LexesUpTo at text ts low []
upto_end at text ts (ends _) = (at, here at [])
upto_end at text ts (skips _ _ front more _ e h k) = let r = upto_end (at + length front) more ts k in (r.0, behind_gap at text front more ts r.0 [] e h r.1)
upto_end at text ts (takes _ _ front more kind us e h k) = let r = upto_end (at + length front) more us k in (r.0, behind_token at text front more kind us r.0 [] e h r.1)

-- Where the tokens stand

in_later : (bytes : List ℕ) (from low : ℕ) (tokens : List Token) → from ≤ low → AreIn bytes low tokens → AreIn bytes from tokens
in_later bytes from low [] h are = tt
in_later bytes from low (t ∷ tokens) h are = (omega (arith, h, are.0), are.1, are.2, are.3, are.4)

-- what stands between what is before and what follows
middle : (done front rest : List ℕ) → slice_range (done ++ (front ++ rest)) (length done) (length done + length front) ≡ front
middle done front rest =
    let n : (length done + length front) - length done ≡ length front = omega arith in
    ap (λ k. take k (drop (length done) (done ++ (front ++ rest)))) n ∙ ap (take (length front)) (drop-append_seam done (front ++ rest)) ∙ take-append_seam front rest

upto_in : (bytes done text : List ℕ) (at : ℕ) (tokens : List Token) (low : ℕ) (rest : List ℕ) → bytes ≡ done ++ text → at ≡ length done → LexesUpTo at text tokens low rest → AreIn bytes at tokens
upto_in bytes done text at tokens low rest b a (here _ _) = tt
upto_in bytes done text at tokens low rest b a (behind_gap _ _ front left _ _ _ e h more) =
    in_later bytes at (at + length front) tokens (omega arith)
    (upto_in bytes (done ++ front) left (at + length front) tokens low rest (b ∙ ap (λ bs. done ++ bs) e ∙ sym (append_assoc done front left)) (omega (arith, a, length-append done front)) more)
upto_in bytes done text at tokens low rest b a (behind_token _ _ front left kind ts _ _ e h more) =
    let whole : bytes ≡ done ++ (front ++ left) = b ∙ ap (λ bs. done ++ bs) e in
    let cut : slice_range bytes at (at + length front) ≡ front = ap (λ bs. slice_range bs at (at + length front)) whole
    ∙ ap (λ n. slice_range (done ++ (front ++ left)) n (n + length front)) a ∙ middle done front left in
    let some = text_length kind front h.begins.is_text in (
      omega arith,
      omega (arith, some),
      omega (arith, a, ap length whole, length-append done (front ++ left), length-append front left),
      subst (IsTextOf kind) (sym cut) h.begins.is_text,
      upto_in bytes (done ++ front) left (at + length front) ts low rest (whole ∙ sym (append_assoc done front left)) (omega (arith, a, length-append done front)) more,
    )

pub tokens_in : (bytes : List ℕ) (tokens : List Token) → Lexes 0 bytes tokens → AreIn bytes 0 tokens
tokens_in bytes tokens h = let r = upto_end 0 bytes tokens h in upto_in bytes [] bytes 0 tokens r.0 [] refl refl r.1

-- A piece more

pub same_unread : (u : Unread) (text rest : List ℕ) → text ≡ u.text → rest ≡ u.rest → record { text = text; rest = rest } ≡ u
same_unread u text rest e d = ap (λ bs. record { text = bs; rest = rest }) e ∙ ap (λ bs. record { text = u.text; rest = bs }) d

-- From `start` on, blanks and comments alone stand before `text`, and both are ends of the bytes.
pub record Passed (bytes start text : List ℕ) : Type 0 where
  pub starts : IsEnd start bytes
  pub end : IsEnd text bytes
  pub passed : LexesUpTo (length bytes - length start) start [] (length bytes - length text) text

pub none_passed : (bytes start : List ℕ) → IsEnd start bytes → Passed bytes start start
none_passed bytes start e = record { starts = e; end = e; passed = here (length bytes - length start) start }

pub end_fits : (rest bytes : List ℕ) → IsEnd rest bytes → length rest ≤ length bytes
end_fits rest bytes e = omega (arith, cut_length bytes e.0 rest e.1)

-- behind a further part
end_behind : (bytes text front rest : List ℕ) → text ≡ front ++ rest → IsEnd text bytes → IsEnd rest bytes
end_behind bytes text front rest cut e = (e.0 ++ front, e.1 ∙ ap (λ bs. e.0 ++ bs) cut ∙ sym (append_assoc e.0 front rest))

place_behind : (bytes text front rest : List ℕ) → text ≡ front ++ rest → IsEnd text bytes → (length bytes - length text) + length front ≡ length bytes - length rest
place_behind bytes text front rest cut e = omega (arith, end_fits text bytes e, cut_length text front rest cut)

pub gap_passed : (bytes start text rest : List ℕ) → piece_at text ≡ gap rest → Passed bytes start text → Passed bytes start rest
gap_passed bytes start text rest e p =
    let g = gap_found text rest e in
    let at = length bytes - length text in
    record {
      starts = p.starts;
      end = end_behind bytes text g.front rest g.cut p.end;
      passed = subst (λ n. LexesUpTo (length bytes - length start) start [] n rest) (place_behind bytes text g.front rest g.cut p.end)
          (upto-append (length bytes - length start) start [] at text [] (at + length g.front) rest p.passed
          (behind_gap at text g.front rest [] (at + length g.front) rest g.cut g.is (here (at + length g.front) rest)));
    }

-- a token of that kind, between what is left before it and behind it
module _ (bytes start text rest : List ℕ) (kind : Kind) (e : piece_at text ≡ token kind rest) (p : Passed bytes start text) where
  abbrev at : ℕ
  at = length bytes - length text

  abbrev low : ℕ
  low = length bytes - length rest

  pub token_end : IsEnd rest bytes
  token_end = let h = longest_read text rest kind e in end_behind bytes text h.0 rest h.1 p.end

  token_passed : LexesUpTo (length bytes - length start) start (token_from kind at low ∷ []) low rest
  token_passed =
      let h = longest_read text rest kind e in
      let next = place_behind bytes text h.0 rest h.1 p.end in
      subst (λ n. LexesUpTo (length bytes - length start) start (token_from kind at n ∷ []) n rest) next
      (upto-append (length bytes - length start) start [] at text (token_from kind at (at + length h.0) ∷ []) (at + length h.0) rest p.passed
      (behind_token at text h.0 rest kind [] (at + length h.0) rest h.1 h.2 (here (at + length h.0) rest)))

  token_stands : AreIn bytes (length bytes - length start) (token_from kind at low ∷ [])
  token_stands =
      upto_in bytes p.starts.0 start (length bytes - length start) (token_from kind at low ∷ []) low rest p.starts.1 (omega (arith, cut_length bytes p.starts.0 start p.starts.1)) token_passed

  pub token_nearer : length rest < length start
  token_nearer = omega (arith, token_shorter text rest kind e, upto_le (length bytes - length start) start [] at text p.passed)

  -- as it is read, with the offsets of its start and its end
  module _ (whole : List ℕ) (from to : ℕ) (same : whole ≡ bytes) (first : from ≡ length whole - length text) (last : to ≡ length whole - length rest) where
    token_same : token_from kind at low ≡ token_from kind from to
    token_same = cc (same, first, last)

    pub token_read : LexesUpTo (length bytes - length start) start (token_from kind from to ∷ []) (length whole - length rest) rest
    token_read =
        subst (λ n. LexesUpTo (length bytes - length start) start (token_from kind from to ∷ []) n rest) (ap (λ bs. length bs - length rest) (sym same))
        (subst (λ t. LexesUpTo (length bytes - length start) start (t ∷ []) low rest) token_same token_passed)

    pub token_read_in : AreIn bytes (length bytes - length start) (token_from kind from to ∷ [])
    token_read_in = subst (λ t. AreIn bytes (length bytes - length start) (t ∷ [])) token_same token_stands

pub nothing_passed : (bytes start text : List ℕ) → text ≢ [] → piece_at text ≡ nothing → Passed bytes start text → LexFails (length bytes - length start) start (length bytes - length text)
nothing_passed bytes start text some e p =
    let at = length bytes - length text in
    upto-fails (length bytes - length start) start [] at text at p.passed (fails at text (nothing_read text some e))

pub all_passed : (bytes start text : List ℕ) → text ≡ [] → Passed bytes start text → Lexes (length bytes - length start) start []
all_passed bytes start text e p =
    let at = length bytes - length text in
    upto-lexes (length bytes - length start) start [] at text [] p.passed (subst (λ bs. Lexes at bs []) (sym e) (ends at))
