-- The first statement of a text as a part of its tokens.
use Rattle.std.proofs.Common.{◌≡◌, ℕ, suc, Bool, true, false, cond, List, [], ◌∷◌, map, take, drop, Some, None, refl, sym, ap, ◌∙◌, subst}
use Rattle.fof_lex.specs.declared.token.Connective.TheVariants.{Equivalent, NotEquivalent, Implies, ImpliedBy, NotAnd, NotOr, NotEqual}
use Rattle.fof_lex.specs.declared.token.Mark.TheVariants.{OpenParenthesis, CloseParenthesis, OpenBracket, CloseBracket, OpenBrace, CloseBrace, Comma, Stop, Colon, Semicolon, Exclamation, Question, Tilde, Ampersand, Bar, Equals, Less, Greater, At, Caret, Plus, Minus, Star, Slash, Backslash, Hash}
use Rattle.fof_lex.specs.declared.token.Kind.{Kind}
use Rattle.fof_lex.specs.declared.token.Kind.TheVariants.{LowerWord, UpperWord, Quoted, DistinctObject, DollarWord, Number, Connective as of_connective, Mark as of_mark}
use Rattle.fof_lex.specs.declared.token.Token.{Token as LexToken}
use Rattle.fof_parse.specs.Token.{placed, token_of, token_in}
use Rattle.fof_parse.specs.Grammar.{is_stop}
use Rattle.fof_parse.specs.Refusal.{first_of, behind_first}
use Rattle.fof_parse.specs.Reader.Text.{tokens_in}
use Rattle.fof_parse.specs.Reader.Chunks.{is_stop_kind, statement_len, has_conjecture, Takes, ReadSoFar}
use Rattle.std.specs.Prelude.{slice_get}
use Rattle.fof_parse.specs.declared.refusal.BadKind.{BadKind}
use Rattle.fof_parse.specs.Grammar.{Statement}
use Rattle.fof_parse.specs.Problem.{PlainProblem, IsProblemOf}
use Rattle.fof_parse.specs.Refusal.{IsBad, AreGood, FirstBad}
use Rattle.fof_parse.proofs.Taking.{bad_statement, one_statement_more, whole_text}

stop_of : (k : Kind) (text : List ℕ) → is_stop (token_of k text) ≡ is_stop_kind k
stop_of LowerWord text = refl
stop_of UpperWord text = refl
stop_of Quoted text = refl
stop_of DistinctObject text = refl
stop_of DollarWord text = refl
stop_of Number text = refl
stop_of (of_connective Equivalent) text = refl
stop_of (of_connective NotEquivalent) text = refl
stop_of (of_connective Implies) text = refl
stop_of (of_connective ImpliedBy) text = refl
stop_of (of_connective NotAnd) text = refl
stop_of (of_connective NotOr) text = refl
stop_of (of_connective NotEqual) text = refl
stop_of (of_mark OpenParenthesis) text = refl
stop_of (of_mark CloseParenthesis) text = refl
stop_of (of_mark OpenBracket) text = refl
stop_of (of_mark CloseBracket) text = refl
stop_of (of_mark OpenBrace) text = refl
stop_of (of_mark CloseBrace) text = refl
stop_of (of_mark Comma) text = refl
stop_of (of_mark Stop) text = refl
stop_of (of_mark Colon) text = refl
stop_of (of_mark Semicolon) text = refl
stop_of (of_mark Exclamation) text = refl
stop_of (of_mark Question) text = refl
stop_of (of_mark Tilde) text = refl
stop_of (of_mark Ampersand) text = refl
stop_of (of_mark Bar) text = refl
stop_of (of_mark Equals) text = refl
stop_of (of_mark Less) text = refl
stop_of (of_mark Greater) text = refl
stop_of (of_mark At) text = refl
stop_of (of_mark Caret) text = refl
stop_of (of_mark Plus) text = refl
stop_of (of_mark Minus) text = refl
stop_of (of_mark Star) text = refl
stop_of (of_mark Slash) text = refl
stop_of (of_mark Backslash) text = refl
stop_of (of_mark Hash) text = refl

pub first_part : (bytes : List ℕ) (ts : List LexToken) → first_of (map (placed bytes) ts) ≡ tokens_in bytes (take (statement_len ts) ts)
first_part bytes [] = refl
first_part bytes (t ∷ ts) =
    by_case (is_stop_kind t.kind) refl (first_part bytes ts) where
      by_case : (b : Bool) → is_stop_kind t.kind ≡ b → first_of (map (placed bytes) ts) ≡ tokens_in bytes (take (statement_len ts) ts)
          → first_of (map (placed bytes) (t ∷ ts)) ≡ tokens_in bytes (take (statement_len (t ∷ ts)) (t ∷ ts))
      by_case b e behind =
          ap (λ c. cond c (token_in bytes t ∷ []) (token_in bytes t ∷ first_of (map (placed bytes) ts))) (stop_of t.kind _)
          ∙ split (is_stop_kind t.kind) behind where
            split : (c : Bool) → first_of (map (placed bytes) ts) ≡ tokens_in bytes (take (statement_len ts) ts)
                → cond c (token_in bytes t ∷ []) (token_in bytes t ∷ first_of (map (placed bytes) ts)) ≡ tokens_in bytes (take (cond c 1 (suc (statement_len ts))) (t ∷ ts))
            split true h = refl
            split false h = ap (λ us. token_in bytes t ∷ us) h

pub second_part : (bytes : List ℕ) (ts : List LexToken) → behind_first (map (placed bytes) ts) ≡ map (placed bytes) (drop (statement_len ts) ts)
second_part bytes [] = refl
second_part bytes (t ∷ ts) =
    ap (λ c. cond c (map (placed bytes) ts) (behind_first (map (placed bytes) ts))) (stop_of t.kind _) ∙ split (is_stop_kind t.kind) (second_part bytes ts) where
      split : (c : Bool) → behind_first (map (placed bytes) ts) ≡ map (placed bytes) (drop (statement_len ts) ts)
          → cond c (map (placed bytes) ts) (behind_first (map (placed bytes) ts)) ≡ map (placed bytes) (drop (cond c 1 (suc (statement_len ts))) (t ∷ ts))
      split true h = refl
      split false h = h

pub from_first : (ts : List LexToken) (t : LexToken) → slice_get ts 0 ≡ Some t → ts ≡ t ∷ drop 1 ts
from_first [] t h = cc
from_first (x ∷ ts) t h = let e : x ≡ t = cc (h) in ap (λ y. y ∷ ts) e

pub nothing_left : (ts : List LexToken) → slice_get ts 0 ≡ None → ts ≡ []
nothing_left [] h = refl
nothing_left (t ∷ ts) h = cc

-- one statement further, or its fault
module _ (bytes : List ℕ) (tokens rest front : List LexToken) (n : ℕ) (first : LexToken) (old : PlainProblem) (so_far : ReadSoFar (map (placed bytes) tokens) (map (placed bytes) rest) old)
    (begins : slice_get rest 0 ≡ Some first) (count : n ≡ statement_len rest) (cut : front ≡ take n rest) where
  begins_placed : map (placed bytes) rest ≡ placed bytes first ∷ map (placed bytes) (drop 1 rest)
  begins_placed = ap (map (placed bytes)) (from_first rest first begins)

  front_is : first_of (placed bytes first ∷ map (placed bytes) (drop 1 rest)) ≡ tokens_in bytes front
  front_is = ap first_of (sym begins_placed) ∙ first_part bytes rest ∙ ap (λ m. tokens_in bytes (take m rest)) (sym count) ∙ ap (tokens_in bytes) (sym cut)

  pub bad_at : (k : BadKind) → IsBad (has_conjecture old) (tokens_in bytes front) k → FirstBad false (map (placed bytes) tokens) first.start k
  bad_at k bad =
      bad_statement (map (placed bytes) tokens) (placed bytes first) (map (placed bytes) (drop 1 rest)) (tokens_in bytes front) old k
      (subst (λ us. ReadSoFar (map (placed bytes) tokens) us old) begins_placed so_far) front_is bad

  pub one_more : (back : List LexToken) (new : PlainProblem) → back ≡ drop n rest → Takes old (tokens_in bytes front) new → ReadSoFar (map (placed bytes) tokens) (map (placed bytes) back) new
  one_more back new behind h =
      one_statement_more (map (placed bytes) tokens) (placed bytes first) (map (placed bytes) (drop 1 rest)) (map (placed bytes) back) (tokens_in bytes front) old new
      (subst (λ us. ReadSoFar (map (placed bytes) tokens) us old) begins_placed so_far) front_is
      (ap behind_first (sym begins_placed) ∙ second_part bytes rest ∙ ap (λ m. map (placed bytes) (drop m rest)) (sym count) ∙ ap (map (placed bytes)) (sym behind)) h

pub whole : (bytes : List ℕ) (tokens rest : List LexToken) (problem : PlainProblem) → ReadSoFar (map (placed bytes) tokens) (map (placed bytes) rest) problem → slice_get rest 0 ≡ None
    → (sts : List Statement) × AreGood false (map (placed bytes) tokens) sts × IsProblemOf sts problem
whole bytes tokens rest problem s h =
    whole_text (map (placed bytes) tokens) problem (subst (λ us. ReadSoFar (map (placed bytes) tokens) us problem) (ap (map (placed bytes)) (nothing_left rest h)) s)
