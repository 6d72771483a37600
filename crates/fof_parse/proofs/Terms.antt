-- What is read of a term, from what is read of its parts.
use Rattle.std.proofs.Common.{◌≡◌, ℕ, zero, suc, ◌+◌, ◌<◌, ◌≤◌, List, [], ◌∷◌, ◌++◌, length, map, Option, Some, None, refl, sym, ap, subst, ◌∙◌, length-append, arith}
use Rattle.std.proofs.lemmas.List.{map-append}
use Rattle.fof_parse.specs.declared.term.Raw.{Raw}
use Rattle.fof_parse.specs.declared.token.Bracket.TheVariants.{Round}
use Rattle.fof_parse.specs.declared.token.Mark.{Mark}
use Rattle.fof_parse.specs.declared.token.Mark.TheVariants.{Open, Close, Comma}
use Rattle.fof_parse.specs.Token.{Token}
use Rattle.fof_parse.specs.Grammar.{Symbol, Term, applied, Terms, no_terms, terms}
use Rattle.fof_parse.specs.Reader.Reading.{◌>>=◌, if_some, after_mark, Reader, one_token, Head, symbol_head, head_of, headed_by, term_by, terms_by, term_within, terms_within}
use Rattle.fof_parse.specs.Reader.Views.{raw_of, raws_of, terms_of_list}
use Rattle.fof_parse.specs.Reader.Parsing.{ReadsTerm, ReadsArguments, ReadsTerms, IsProperSymbol, IsProperTerm, AreProperTerms}
use Rattle.fof_parse.proofs.Fronts.{after_mark_is, one_token_is, enough}
use Rattle.fof_parse.proofs.Forwards.{term_step}
use Rattle.fof_parse.proofs.Backwards.{term_sound}

pub marked_less : (m : Mark) (ts rest : List Token) → after_mark m ts ≡ Some rest → length rest < length ts
marked_less m ts rest h = omega (arith, ap length (after_mark_is m ts rest h))

pub one_less : {A : Type 0} (f : Token → Option A) (ts : List Token) (x : A) (rest : List Token) → one_token f ts ≡ Some (x, rest) → length rest < length ts
one_less f ts x rest h = let o = one_token_is f ts x rest h in omega (arith, ap length o.1)

term_less : (ts : List Token) (u : Term) (rest : List Token) → ReadsTerm ts (Some (u, rest)) → length rest ≤ length ts
term_less ts u rest h =
    let s = term_sound (suc (length ts)) ts u rest (h (suc (length ts)) (omega arith)) in omega (arith, ap length s.cut, length-append s.front rest)

term_reads : (ts : List Token) (found : Option (Term × List Token)) → ((s : ℕ) → length ts ≤ s → term_by (terms_within s) ts ≡ found) → ReadsTerm ts found
term_reads ts found h = λ steps lt. enough (λ s. term_within s ts ≡ found) (length ts) (λ s le. term_step s ts ∙ h s le) steps lt

pub no_head : (ts : List Token) → one_token head_of ts ≡ None → ReadsTerm ts None
no_head ts h = term_reads ts None (λ s le. ap (λ o. o >>= λ p. headed_by (terms_within s) p.0 p.1) h)

pub simple_head : (ts : List Token) (p : Head) (us : List Token) (found : Option (Term × List Token)) → one_token head_of ts ≡ Some (p, us)
    → ((arguments : Reader Terms) → headed_by arguments p us ≡ found) → ReadsTerm ts found
simple_head ts p us found h k =
    term_reads ts found (λ s le. ap (λ o. o >>= λ (p : Head × List Token). headed_by (terms_within s) p.0 p.1) h ∙ k (terms_within s))

pub symbol_first : (ts : List Token) (f : Symbol) (us : List Token) (found : Option (Term × List Token)) → one_token head_of ts ≡ Some (symbol_head f, us) → ReadsArguments f us found
    → ReadsTerm ts found
symbol_first ts f us found h k =
    term_reads ts found (λ s le. ap (λ o. o >>= λ (p : Head × List Token). headed_by (terms_within s) p.0 p.1) h
    ∙ k s (omega (arith, le, one_less head_of ts (symbol_head f) us h)))

-- Arguments

pub no_arguments : (f : Symbol) (ts : List Token) → after_mark (Open Round) ts ≡ None → ReadsArguments f ts (Some (applied f no_terms, ts))
no_arguments f ts h =
    λ steps lt. ap (λ o. if_some o (Some (applied f no_terms, ts)) (λ inner. terms_within steps inner >>= λ us. after_mark (Close Round) us.1 >>= λ rest. Some (applied f us.0, rest))) h

some_arguments : (f : Symbol) (ts us : List Token) (found : Option (Terms × List Token)) → after_mark (Open Round) ts ≡ Some us → ReadsTerms us found
    → ReadsArguments f ts (found >>= λ vs. after_mark (Close Round) vs.1 >>= λ rest. Some (applied f vs.0, rest))
some_arguments f ts us found h k =
    λ steps lt.
    let less : length us < steps = omega (arith, lt, marked_less (Open Round) ts us h) in
    ap (λ o. if_some o (Some (applied f no_terms, ts)) (λ inner. terms_within steps inner >>= λ us. after_mark (Close Round) us.1 >>= λ rest. Some (applied f us.0, rest))) h
    ∙ ap (λ o. o >>= λ (us : Terms × List Token). after_mark (Close Round) us.1 >>= λ rest. Some (applied f us.0, rest)) (k steps steps less less)

pub bad_arguments : (f : Symbol) (ts us : List Token) → after_mark (Open Round) ts ≡ Some us → ReadsTerms us None → ReadsArguments f ts None
bad_arguments f ts us h k = some_arguments f ts us None h k

pub unclosed_arguments : (f : Symbol) (ts us : List Token) (vs : Terms) (mid : List Token) → after_mark (Open Round) ts ≡ Some us → ReadsTerms us (Some (vs, mid))
    → after_mark (Close Round) mid ≡ None → ReadsArguments f ts None
unclosed_arguments f ts us vs mid h k e = λ steps lt. some_arguments f ts us (Some (vs, mid)) h k steps lt ∙ ap (λ o. o >>= λ rest. Some (applied f vs, rest)) e

pub with_arguments : (f : Symbol) (ts us : List Token) (vs : Terms) (mid rest : List Token) → after_mark (Open Round) ts ≡ Some us → ReadsTerms us (Some (vs, mid))
    → after_mark (Close Round) mid ≡ Some rest → ReadsArguments f ts (Some (applied f vs, rest))
with_arguments f ts us vs mid rest h k e = λ steps lt. some_arguments f ts us (Some (vs, mid)) h k steps lt ∙ ap (λ o. o >>= λ rest. Some (applied f vs, rest)) e

-- Lists of terms

abbrev pub before : List Term → Terms → Terms
before [] us = us
before (t ∷ ts) us = terms t (before ts us)

before_none : (ts : List Term) → before ts no_terms ≡ terms_of_list ts
before_none [] = refl
before_none (t ∷ ts) = ap (terms t) (before_none ts)

before_more : (ts : List Term) (u : Term) (us : Terms) → before (ts ++ u ∷ []) us ≡ before ts (terms u us)
before_more [] u us = refl
before_more (t ∷ ts) u us = ap (terms t) (before_more ts u us)

proper_more : (ts : List Term) (u : Term) → AreProperTerms (terms_of_list ts) → IsProperTerm u → AreProperTerms (terms_of_list (ts ++ u ∷ []))
proper_more [] u h k = (k, tt)
proper_more (t ∷ ts) u h k = (h.0, proper_more ts u h.1 k)

-- the terms that are read so far, and where the rest of them is read
pub record TermsSoFar (ts : List Token) (out : List Term) (rest : List Token) : Type 0 where
  pub goes_on : (found : Option (Terms × List Token)) → ReadsTerms rest found → ReadsTerms ts (found >>= λ us. Some (before out us.0, us.1))
  pub proper : AreProperTerms (terms_of_list out)

same_found : (o : Option (Terms × List Token)) → o ≡ (o >>= λ us. Some (us.0, us.1))
same_found None = refl
same_found (Some p) = refl

pub no_terms_yet : (ts : List Token) → TermsSoFar ts [] ts
no_terms_yet ts = record { goes_on = λ found h steps c lt lc. h steps c lt lc ∙ same_found found; proper = tt }

reads_next : (ts : List Token) (u : Term) (mid rest : List Token) (found : Option (Terms × List Token)) → ReadsTerm ts (Some (u, mid)) → after_mark Comma mid ≡ Some rest → ReadsTerms rest found
    → ReadsTerms ts (found >>= λ us. Some (terms u us.0, us.1))
reads_next ts u mid rest found h k r steps zero lt lc = absurd (omega (arith, lc))
reads_next ts u mid rest found h k r steps (suc c) lt lc =
    let less = marked_less Comma mid rest k in
    let le = term_less ts u mid h in
    ap (λ o. o >>= λ (t : Term × List Token). if_some (after_mark Comma t.1) (Some (terms t.0 no_terms, t.1)) (λ out. terms_by (term_within steps) c out >>= λ us. Some (terms t.0 us.0, us.1))) (h steps lt)
    ∙ ap (λ o. if_some o (Some (terms u no_terms, mid)) (λ out. terms_by (term_within steps) c out >>= λ us. Some (terms u us.0, us.1))) k
    ∙ ap (λ o. o >>= λ (us : Terms × List Token). Some (terms u us.0, us.1)) (r steps c (omega (arith, lt, less, le)) (omega (arith, lc, less, le)))

reads_last : (ts : List Token) (u : Term) (mid : List Token) → ReadsTerm ts (Some (u, mid)) → after_mark Comma mid ≡ None → ReadsTerms ts (Some (terms u no_terms, mid))
reads_last ts u mid h k steps zero lt lc = absurd (omega (arith, lc))
reads_last ts u mid h k steps (suc c) lt lc =
    ap (λ o. o >>= λ (t : Term × List Token). if_some (after_mark Comma t.1) (Some (terms t.0 no_terms, t.1)) (λ out. terms_by (term_within steps) c out >>= λ us. Some (terms t.0 us.0, us.1))) (h steps lt)
    ∙ ap (λ o. if_some o (Some (terms u no_terms, mid)) (λ out. terms_by (term_within steps) c out >>= λ us. Some (terms u us.0, us.1))) k

reads_nothing : (ts : List Token) → ReadsTerm ts None → ReadsTerms ts None
reads_nothing ts h steps zero lt lc = absurd (omega (arith, lc))
reads_nothing ts h steps (suc c) lt lc =
    ap (λ o. o >>= λ (t : Term × List Token). if_some (after_mark Comma t.1) (Some (terms t.0 no_terms, t.1)) (λ out. terms_by (term_within steps) c out >>= λ us. Some (terms t.0 us.0, us.1))) (h steps lt)

abbrev with_first : Term → Option (Terms × List Token) → Option (Terms × List Token)
with_first u o = o >>= λ us. Some (terms u us.0, us.1)

abbrev with_before : List Term → Option (Terms × List Token) → Option (Terms × List Token)
with_before out o = o >>= λ us. Some (before out us.0, us.1)

same_before : (o : Option (Terms × List Token)) (out : List Term) (u : Term) → with_before out (with_first u o) ≡ with_before (out ++ u ∷ []) o
same_before None out u = refl
same_before (Some p) out u = ap (λ vs. Some (vs, p.1)) (sym (before_more out u p.0))

pub one_term_more : (ts : List Token) (out : List Term) (here : List Token) (u : Term) (mid rest : List Token) → TermsSoFar ts out here → ReadsTerm here (Some (u, mid)) → IsProperTerm u
    → after_mark Comma mid ≡ Some rest → TermsSoFar ts (out ++ u ∷ []) rest
one_term_more ts out here u mid rest s h p k = record {
  goes_on = λ found r steps c lt lc. s.goes_on (found >>= λ us. Some (terms u us.0, us.1)) (λ steps c lt lc. reads_next here u mid rest found h k r steps c lt lc) steps c lt lc ∙ same_before found out u;
  proper = proper_more out u s.proper p;
}

pub last_term : (ts : List Token) (out : List Term) (here : List Token) (u : Term) (mid : List Token) → TermsSoFar ts out here → ReadsTerm here (Some (u, mid)) → IsProperTerm u
    → after_mark Comma mid ≡ None → ReadsTerms ts (Some (terms_of_list (out ++ u ∷ []), mid)) × AreProperTerms (terms_of_list (out ++ u ∷ []))
last_term ts out here u mid s h p k = (
  λ steps c lt lc.
      s.goes_on (Some (terms u no_terms, mid)) (λ steps c lt lc. reads_last here u mid h k steps c lt lc) steps c lt lc
      ∙ ap (λ us. Some (us, mid)) (sym (before_more out u no_terms) ∙ before_none (out ++ u ∷ [])),
  proper_more out u s.proper p,
)

pub no_term : (ts : List Token) (out : List Term) (here : List Token) → TermsSoFar ts out here → ReadsTerm here None → ReadsTerms ts None
no_term ts out here s h = λ steps c lt lc. s.goes_on None (λ steps c lt lc. reads_nothing here h steps c lt lc) steps c lt lc

pub raws_more : (out : List Raw) (u : Raw) → map raw_of (out ++ u ∷ []) ≡ map raw_of out ++ raw_of u ∷ []
raws_more out u = map-append raw_of out (u ∷ [])

-- What the program finds: the term, whose names are proper, up to a place further on.
abbrev pub IsFound : List Token → ℕ → Term → List Token → ℕ → Type 0
IsFound ts at u rest next = ReadsTerm ts (Some (u, rest)) × IsProperTerm u × (at < next)

pub simple_found : (ts us : List Token) (p : Head) (t u : Term) (at : ℕ) → one_token head_of ts ≡ Some (p, us) → ((arguments : Reader Terms) → headed_by arguments p us ≡ Some (t, us)) → IsProperTerm t → u ≡ t
    → IsFound ts at u us (at + 1)
simple_found ts us p t u at h k proper e = subst (λ v. IsFound ts at v us (at + 1)) (sym e) (simple_head ts p us (Some (t, us)) h k, proper, omega arith)

pub alone_found : (ts us : List Token) (f : Symbol) (u : Term) (at : ℕ) → one_token head_of ts ≡ Some (symbol_head f, us) → IsProperSymbol f → after_mark (Open Round) us ≡ None → u ≡ applied f no_terms
    → IsFound ts at u us (at + 1)
alone_found ts us f u at h proper k e =
    subst (λ v. IsFound ts at v us (at + 1)) (sym e) (symbol_first ts f us (Some (applied f no_terms, us)) h (no_arguments f us k), (proper, tt), omega arith)

pub applied_found : (ts us inner mid rest : List Token) (f : Symbol) (vs : Terms) (u : Term) (at next : ℕ) → one_token head_of ts ≡ Some (symbol_head f, us) → IsProperSymbol f
    → after_mark (Open Round) us ≡ Some inner → ReadsTerms inner (Some (vs, mid)) → AreProperTerms vs → after_mark (Close Round) mid ≡ Some rest → at < next → u ≡ applied f vs
    → IsFound ts at u rest next
applied_found ts us inner mid rest f vs u at next h proper k r all e lt same =
    subst (λ v. IsFound ts at v rest next) (sym same) (symbol_first ts f us (Some (applied f vs, rest)) h (with_arguments f us inner vs mid rest k r e), (proper, all), lt)

-- the same for the program's lists of terms
pub last_raw : (ts : List Token) (out new : List Raw) (here : List Token) (u : Raw) (mid : List Token) → TermsSoFar ts (map raw_of out) here → ReadsTerm here (Some (raw_of u, mid)) → IsProperTerm (raw_of u)
    → after_mark Comma mid ≡ None → new ≡ out ++ u ∷ [] → ReadsTerms ts (Some (raws_of new, mid)) × AreProperTerms (raws_of new)
last_raw ts out new here u mid s h p k e =
    subst (λ us. ReadsTerms ts (Some (terms_of_list us, mid)) × AreProperTerms (terms_of_list us)) (sym (ap (map raw_of) e ∙ raws_more out u))
    (last_term ts (map raw_of out) here (raw_of u) mid s h p k)

pub one_raw_more : (ts : List Token) (out new : List Raw) (here : List Token) (u : Raw) (mid rest : List Token) → TermsSoFar ts (map raw_of out) here → ReadsTerm here (Some (raw_of u, mid))
    → IsProperTerm (raw_of u) → after_mark Comma mid ≡ Some rest → new ≡ out ++ u ∷ [] → TermsSoFar ts (map raw_of new) rest
one_raw_more ts out new here u mid rest s h p k e =
    subst (λ us. TermsSoFar ts us rest) (sym (ap (map raw_of) e ∙ raws_more out u)) (one_term_more ts (map raw_of out) here (raw_of u) mid rest s h p k)
