-- A text is not both a problem and refused, and it is refused in one way.
use Rattle.std.proofs.Common.{◌≡◌, ◌≢◌, ℕ, Bool, ◌||◌, List, [], ◌∷◌, map, Option, Some, None, refl, sym, ap, subst, ◌∙◌, ◌⊎◌, inl, inr, ⊎_elim, arith}
use Rattle.fof_lex.proofs.Steps.{one_list, one_offset, not_both}
use Rattle.fof_parse.specs.declared.refusal.BadKind.{BadKind}
use Rattle.fof_parse.specs.declared.read.ReadError.{ReadError}
use Rattle.fof_parse.specs.declared.read.ReadError.TheVariants.{TooLarge, Lex, Bad, OutOfMemory}
use Rattle.fof_parse.specs.Token.{Token, Placed, placed}
use Rattle.fof_parse.specs.Grammar.{Statement}
use Rattle.fof_parse.specs.Problem.{PlainProblem, is_conjecture}
use Rattle.fof_parse.specs.Refusal.{late_fault, IsGood, IsBad, is_early, no_statement, is_late, first_of, behind_first, AreGood, FirstBad, here, later}
use Rattle.fof_parse.specs.TheProblem.{IsProblemText, IsGoodText, IsBadText, IsNoText}
use Rattle.fof_parse.specs.Refused.{Refuses}
use Rattle.fof_parse.proofs.Statements.{one_statement}

some_none : {A : Type 0} (o : Option A) (x : A) → o ≡ Some x → o ≡ None → ⊥
some_none o x h k = cc

some_one : {A : Type 0} (o : Option A) (x y : A) → o ≡ Some x → o ≡ Some y → x ≡ y
some_one o x y h k = cc

good_not_bad : {had : Bool} {ts : List Token} {k : BadKind} → (st : Statement) → IsGood had ts st → IsBad had ts k → ⊥
good_not_bad st g (is_early k e) = some_none _ k e g.early
good_not_bad st g (no_statement e none) = none st g.statement
good_not_bad {had = had} {ts = ts} st g (is_late k s e is late) = some_none (late_fault had st) k (ap (late_fault had) (one_statement ts st s g.statement is) ∙ late) g.late

one_bad : {had : Bool} {ts : List Token} {j k : BadKind} → IsBad had ts j → IsBad had ts k → j ≡ k
one_bad (is_early j e) (is_early k f) = some_one _ j k e f
one_bad (is_early j e) (no_statement f none) = absurd (some_none _ j e f)
one_bad (is_early j e) (is_late k s f is late) = absurd (some_none _ j e f)
one_bad (no_statement e none) (is_early k f) = absurd (some_none _ k f e)
one_bad (no_statement e none) (no_statement f other) = refl
one_bad (no_statement e none) (is_late k s f is late) = absurd (none s is)
one_bad (is_late j s e is late) (is_early k f) = absurd (some_none _ k f e)
one_bad (is_late j s e is late) (no_statement f none) = absurd (none s is)
one_bad {had = had} {ts = ts} (is_late j s e is late) (is_late k r f of by) = some_one (late_fault had s) j k late (ap (late_fault had) (one_statement ts s r is of) ∙ by)

all_not_bad : {had : Bool} {ts : List Placed} {at : ℕ} {k : BadKind} → (sts : List Statement) → FirstBad had ts at k → AreGood had ts sts → ⊥
all_not_bad [] (here had t ts k bad) h = h
all_not_bad [] (later had t ts s at k good bad) h = h
all_not_bad (st ∷ sts) (here had t ts k bad) h = good_not_bad st h.0 bad
all_not_bad (st ∷ sts) (later had t ts s at k good bad) h =
    all_not_bad {had = had || is_conjecture s} {ts = behind_first (t ∷ ts)} {at = at} {k = k} sts bad (subst (λ x. AreGood (had || is_conjecture x) (behind_first (t ∷ ts)) sts) (one_statement (first_of (t ∷ ts)) st s h.0.statement good.statement) h.1)

-- what is bad in tokens that begin with this one
IsBadFrom : Bool → Placed → List Placed → ℕ → BadKind → Type 0
IsBadFrom had t ts at k =
    ((at ≡ t.offset) × IsBad had (first_of (t ∷ ts)) k)
    ⊎ ((s : Statement) × IsGood had (first_of (t ∷ ts)) s × FirstBad (had || is_conjecture s) (behind_first (t ∷ ts)) at k)

bad_from : {had : Bool} {us : List Placed} {at : ℕ} {k : BadKind} → FirstBad had us at k → (t : Placed) × (ts : List Placed) × (us ≡ t ∷ ts) × IsBadFrom had t ts at k
unfolding IsBadFrom
bad_from (here had t ts k bad) = (t, ts, refl, inl (refl, bad))
bad_from (later had t ts s at k good bad) = (t, ts, refl, inr (s, good, bad))

bad_at_first : (had : Bool) (t : Placed) (ts : List Placed) (at : ℕ) (k : BadKind) → FirstBad had (t ∷ ts) at k → IsBadFrom had t ts at k
unfolding IsBadFrom
bad_at_first had t ts at k b =
    let v = bad_from b in
    let e : t ∷ ts ≡ v.0 ∷ v.1 = v.2 in
    let first : t ≡ v.0 = cc (e) in
    let rest : ts ≡ v.1 = cc (e) in
    subst (λ x. IsBadFrom had x ts at k) (sym first) (subst (λ xs. IsBadFrom had v.0 xs at k) (sym rest) v.3)

-- the same offset and the same kind
one_first : {had : Bool} {ts : List Placed} {at by : ℕ} {j k : BadKind} → FirstBad had ts at j → FirstBad had ts by k → (at ≡ by) × (j ≡ k)
unfolding IsBadFrom
one_first {by = by} {k = k} (here had t ts j a) b =
    ⊎_elim (λ same. (sym same.0, one_bad a same.1)) (λ more. absurd (good_not_bad more.0 more.1 a)) (bad_at_first had t ts by k b)
one_first {by = by} {k = k} (later had t ts s at j good a) b =
    ⊎_elim (λ same. absurd (good_not_bad s good same.1))
    (λ more. one_first a (subst (λ x. FirstBad (had || is_conjecture x) (behind_first (t ∷ ts)) by k) (one_statement (first_of (t ∷ ts)) more.0 s more.1.statement good.statement) more.2))
    (bad_at_first had t ts by k b)

pub one_bad_text : (bytes : List ℕ) (at by : ℕ) (j k : BadKind) → IsBadText bytes at j → IsBadText bytes by k → (at ≡ by) × (j ≡ k)
one_bad_text bytes at by j k a b =
    one_first (subst (λ ts. FirstBad _ (map (placed bytes) ts) at j) (one_list 0 bytes a.tokens b.tokens a.lexed b.lexed) a.bad) b.bad

pub bad_not_untokened : (bytes : List ℕ) (at by : ℕ) (k : BadKind) → IsBadText bytes at k → IsNoText bytes by → ⊥
bad_not_untokened bytes at by k b n = not_both 0 bytes b.tokens by b.lexed n.fails

pub one_untokened : (bytes : List ℕ) (at by : ℕ) → IsNoText bytes at → IsNoText bytes by → at ≡ by
one_untokened bytes at by a b = one_offset 0 bytes at by a.fails b.fails

pub good_not_refused : (bytes : List ℕ) → IsGoodText bytes → (e : ReadError) → e ≢ OutOfMemory → Refuses bytes e → ⊥
good_not_refused bytes g TooLarge some r = omega (arith, g.within, r)
good_not_refused bytes g (Lex offset) some r = not_both 0 bytes g.tokens offset g.lexed r.fails
good_not_refused bytes g (Bad offset kind) some r =
    all_not_bad g.statements r.bad (subst (λ ts. AreGood _ (map (placed bytes) ts) g.statements) (one_list 0 bytes g.tokens r.tokens g.lexed r.lexed) g.good)
good_not_refused bytes g OutOfMemory some r = some refl

pub not_both_ways : (bytes : List ℕ) (problem : PlainProblem) (e : ReadError) → e ≢ OutOfMemory → IsProblemText bytes problem → Refuses bytes e → ⊥
not_both_ways bytes problem e some p r =
    good_not_refused bytes (record { within = p.within; tokens = p.tokens; lexed = p.lexed; statements = p.statements; good = p.good }) e some r

pub one_way : (bytes : List ℕ) (e d : ReadError) → e ≢ OutOfMemory → d ≢ OutOfMemory → Refuses bytes e → Refuses bytes d → e ≡ d
one_way bytes OutOfMemory d some other r s = absurd (some refl)
one_way bytes e OutOfMemory some other r s = absurd (other refl)
one_way bytes TooLarge TooLarge some other r s = refl
one_way bytes TooLarge (Lex offset) some other r s = absurd (omega (arith, r, s.within))
one_way bytes TooLarge (Bad offset kind) some other r s = absurd (omega (arith, r, s.within))
one_way bytes (Lex offset) TooLarge some other r s = absurd (omega (arith, s, r.within))
one_way bytes (Lex offset) (Lex place) some other r s = ap Lex (one_untokened bytes offset place r s)
one_way bytes (Lex offset) (Bad place kind) some other r s = absurd (bad_not_untokened bytes place offset kind s r)
one_way bytes (Bad offset kind) TooLarge some other r s = absurd (omega (arith, s, r.within))
one_way bytes (Bad offset kind) (Lex place) some other r s = absurd (bad_not_untokened bytes offset place kind r s)
one_way bytes (Bad offset kind) (Bad place next) some other r s =
    let same = one_bad_text bytes offset place kind next r s in ap (λ n. Bad n kind) same.0 ∙ ap (Bad place) same.1
