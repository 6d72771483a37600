-- What is read of a formula, from what is read of its parts.
use Rattle.std.proofs.Common.{◌≡◌, ℕ, zero, suc, ◌<◌, ◌≤◌, List, length, Option, Some, None, refl, ap, ◌∙◌, length-append, arith}
use Rattle.fof_parse.specs.declared.token.Operator.{Operator}
use Rattle.fof_parse.specs.declared.token.Quantifier.{Quantifier as Quantor}
use Rattle.fof_parse.specs.declared.token.Equality.{Equality as Equation}
use Rattle.fof_parse.specs.declared.token.Bracket.TheVariants.{Round, Square}
use Rattle.fof_parse.specs.declared.token.Mark.TheVariants.{Open, Close, Comma, Colon}
use Rattle.fof_parse.specs.Token.{Token}
use Rattle.fof_parse.specs.Grammar.{Term, Sentence, equality, negation, binary, quantified}
use Rattle.fof_parse.specs.Reader.Reading.{◌>>=◌, if_some, after_mark, one_token, Lead, negation_lead, group_lead, quantifier_lead, lead_of, equality_of, variable_of, term_within, equated_by, atom_of, body_by, bound_by, scope_by, led_by, unit_by, next_operator, chain_by, unit_within, formula_within}
use Rattle.fof_parse.specs.Reader.Parsing.{ReadsTerm, ReadsUnit, ReadsBody, ReadsBound, ReadsScope, ReadsFormula}
use Rattle.fof_parse.proofs.Fronts.{enough}
use Rattle.fof_parse.proofs.Forwards.{unit_step, chain_end, chain_step}
use Rattle.fof_parse.proofs.Backwards.{term_sound, unit_sound}
use Rattle.fof_parse.proofs.Terms.{marked_less, one_less}

unit_less : (ts : List Token) (a : Sentence) (rest : List Token) → ReadsUnit ts (Some (a, rest)) → length rest ≤ length ts
unit_less ts a rest h =
    let s = unit_sound (suc (length ts)) ts a rest (h (suc (length ts)) (omega arith)) in omega (arith, ap length s.cut, length-append s.front rest)

unit_reads : (ts : List Token) (found : Option (Sentence × List Token)) → ((s : ℕ) → length ts ≤ s → unit_by (term_within (suc s)) (unit_within s) (formula_within s) s ts ≡ found) → ReadsUnit ts found
unit_reads ts found h = λ steps lt. enough (λ s. unit_within s ts ≡ found) (length ts) (λ s le. unit_step s ts ∙ h s le) steps lt

-- Units that begin with a term

from_term : (ts : List Token) (o : Option (Term × List Token)) (found : Option (Sentence × List Token)) → one_token lead_of ts ≡ None → ReadsTerm ts o
    → ((s : ℕ) → length ts ≤ s → (o >>= λ t. equated_by (term_within (suc s)) t.0 t.1) ≡ found) → ReadsUnit ts found
from_term ts o found lead h k =
    unit_reads ts found (λ s le.
    ap (λ l. if_some l (term_within (suc s) ts >>= λ t. equated_by (term_within (suc s)) t.0 t.1) (λ p. led_by (unit_within s) (formula_within s) s p.0 p.1)) lead
    ∙ ap (λ o. o >>= λ (t : Term × List Token). equated_by (term_within (suc s)) t.0 t.1) (h (suc s) (omega (arith, le))) ∙ k s le)

pub no_term_no_unit : (ts : List Token) → one_token lead_of ts ≡ None → ReadsTerm ts None → ReadsUnit ts None
no_term_no_unit ts lead h = from_term ts None None lead h (λ s le. refl)

pub reads_atom : (ts : List Token) (t : Term) (mid : List Token) (o : Option Sentence) (found : Option (Sentence × List Token)) → one_token lead_of ts ≡ None → ReadsTerm ts (Some (t, mid)) → one_token equality_of mid ≡ None → atom_of t ≡ o
    → (o >>= λ a. Some (a, mid)) ≡ found → ReadsUnit ts found
reads_atom ts t mid o found lead h none e same =
    from_term ts (Some (t, mid)) found lead h (λ s le.
    ap (λ q. if_some q (atom_of t >>= λ a. Some (a, mid)) (λ p. term_within (suc s) p.1 >>= λ u. Some (equality p.0 t u.0, u.1))) none ∙ ap (λ q. q >>= λ a. Some (a, mid)) e ∙ same)

term_less_mid : (ts : List Token) (t : Term) (mid : List Token) → ReadsTerm ts (Some (t, mid)) → length mid ≤ length ts
term_less_mid ts t mid h =
    let s = term_sound (suc (length ts)) ts t mid (h (suc (length ts)) (omega arith)) in omega (arith, ap length s.cut, length-append s.front mid)

pub reads_equation : (ts : List Token) (t : Term) (mid : List Token) (e : Equation) (us : List Token) (o : Option (Term × List Token)) (found : Option (Sentence × List Token)) → one_token lead_of ts ≡ None → ReadsTerm ts (Some (t, mid))
    → one_token equality_of mid ≡ Some (e, us) → ReadsTerm us o → (o >>= λ u. Some (equality e t u.0, u.1)) ≡ found → ReadsUnit ts found
reads_equation ts t mid e us o found lead h some k same =
    from_term ts (Some (t, mid)) found lead h (λ s le.
    ap (λ q. if_some q (atom_of t >>= λ a. Some (a, mid)) (λ p. term_within (suc s) p.1 >>= λ u. Some (equality p.0 t u.0, u.1))) some
    ∙ ap (λ q. q >>= λ (u : Term × List Token). Some (equality e t u.0, u.1)) (k (suc s) (omega (arith, le, term_less_mid ts t mid h, one_less equality_of mid e us some))) ∙ same)

-- Units that begin with `~`, `(` or a quantifier

led : (ts : List Token) (l : Lead) (us : List Token) (found : Option (Sentence × List Token)) → one_token lead_of ts ≡ Some (l, us)
    → ((s : ℕ) → length us < s → led_by (unit_within s) (formula_within s) s l us ≡ found) → ReadsUnit ts found
led ts l us found h k =
    unit_reads ts found (λ s le.
    ap (λ q. if_some q (term_within (suc s) ts >>= λ t. equated_by (term_within (suc s)) t.0 t.1) (λ p. led_by (unit_within s) (formula_within s) s p.0 p.1)) h
    ∙ k s (omega (arith, le, one_less lead_of ts l us h)))

pub reads_negation : (ts us : List Token) (o found : Option (Sentence × List Token)) → one_token lead_of ts ≡ Some (negation_lead, us) → ReadsUnit us o → (o >>= λ a. Some (negation a.0, a.1)) ≡ found
    → ReadsUnit ts found
reads_negation ts us o found h k same = led ts negation_lead us found h (λ s lt. ap (λ q. q >>= λ (a : Sentence × List Token). Some (negation a.0, a.1)) (k s lt) ∙ same)

pub reads_group : (ts us : List Token) (o found : Option (Sentence × List Token)) → one_token lead_of ts ≡ Some (group_lead, us) → ReadsFormula us o
    → (o >>= λ a. after_mark (Close Round) a.1 >>= λ rest. Some (a.0, rest)) ≡ found → ReadsUnit ts found
reads_group ts us o found h k same =
    led ts group_lead us found h (λ s lt. ap (λ q. q >>= λ (a : Sentence × List Token). after_mark (Close Round) a.1 >>= λ rest. Some (a.0, rest)) (k s lt) ∙ same)

pub no_scope : (ts us : List Token) (q : Quantor) → one_token lead_of ts ≡ Some (quantifier_lead q, us) → after_mark (Open Square) us ≡ None → ReadsUnit ts None
no_scope ts us q h none = led ts (quantifier_lead q) us None h (λ s lt. ap (λ o. o >>= λ vs. scope_by (unit_within s) q s vs) none)

pub reads_quantified : (ts us vs : List Token) (q : Quantor) (found : Option (Sentence × List Token)) → one_token lead_of ts ≡ Some (quantifier_lead q, us) → after_mark (Open Square) us ≡ Some vs → ReadsScope q vs found
    → ReadsUnit ts found
reads_quantified ts us vs q found h some k =
    led ts (quantifier_lead q) us found h (λ s lt.
    let less : length vs < s = omega (arith, lt, marked_less (Open Square) us vs some) in
    ap (λ o. o >>= λ vs. scope_by (unit_within s) q s vs) some ∙ k s s less less)

-- Variables

pub no_variable : (q : Quantor) (ts : List Token) → one_token variable_of ts ≡ None → ReadsScope q ts None
no_variable q ts h steps zero lt lc = absurd (omega (arith, lc))
no_variable q ts h steps (suc c) lt lc = ap (λ o. o >>= λ v. bound_by (unit_within steps) (scope_by (unit_within steps) q c) v.1 >>= λ a. Some (quantified q v.0 a.0, a.1)) h

pub reads_variable : (q : Quantor) (ts : List Token) (w : List ℕ) (us : List Token) (o found : Option (Sentence × List Token)) → one_token variable_of ts ≡ Some (w, us) → ReadsBound q us o
    → (o >>= λ a. Some (quantified q w a.0, a.1)) ≡ found → ReadsScope q ts found
reads_variable q ts w us o found h k same steps zero lt lc = absurd (omega (arith, lc))
reads_variable q ts w us o found h k same steps (suc c) lt lc =
    let less = one_less variable_of ts w us h in
    ap (λ o. o >>= λ (v : List ℕ × List Token). bound_by (unit_within steps) (scope_by (unit_within steps) q c) v.1 >>= λ a. Some (quantified q v.0 a.0, a.1)) h
    ∙ ap (λ o. o >>= λ (a : Sentence × List Token). Some (quantified q w a.0, a.1)) (k steps c (omega (arith, lt, less)) (omega (arith, lc, less))) ∙ same

pub reads_more_variables : (q : Quantor) (ts us : List Token) (found : Option (Sentence × List Token)) → after_mark Comma ts ≡ Some us → ReadsScope q us found → ReadsBound q ts found
reads_more_variables q ts us found h k steps c lt lc =
    let less = marked_less Comma ts us h in
    ap (λ o. if_some o (body_by (unit_within steps) ts) (scope_by (unit_within steps) q c)) h ∙ k steps c (omega (arith, lt, less)) (omega (arith, lc, less))

pub reads_bound_body : (q : Quantor) (ts : List Token) (found : Option (Sentence × List Token)) → after_mark Comma ts ≡ None → ReadsBody ts found → ReadsBound q ts found
reads_bound_body q ts found h k steps c lt lc = ap (λ o. if_some o (body_by (unit_within steps) ts) (scope_by (unit_within steps) q c)) h ∙ k steps lt

pub no_square : (ts : List Token) → after_mark (Close Square) ts ≡ None → ReadsBody ts None
no_square ts h steps lt = ap (λ o. o >>= λ us. after_mark Colon us >>= λ vs. unit_within steps vs) h

pub no_colon : (ts us : List Token) → after_mark (Close Square) ts ≡ Some us → after_mark Colon us ≡ None → ReadsBody ts None
no_colon ts us h k steps lt = ap (λ o. o >>= λ us. after_mark Colon us >>= λ vs. unit_within steps vs) h ∙ ap (λ o. o >>= λ vs. unit_within steps vs) k

pub reads_body : (ts us vs : List Token) (found : Option (Sentence × List Token)) → after_mark (Close Square) ts ≡ Some us → after_mark Colon us ≡ Some vs → ReadsUnit vs found → ReadsBody ts found
reads_body ts us vs found h k r steps lt =
    ap (λ o. o >>= λ us. after_mark Colon us >>= λ vs. unit_within steps vs) h ∙ ap (λ o. o >>= λ vs. unit_within steps vs) k
    ∙ r steps (omega (arith, lt, marked_less (Close Square) ts us h, marked_less Colon us vs k))

-- Chains

-- how a formula is read from some units of it on
abbrev pub ReadsOn : Option Operator → Sentence → List Token → Option (Sentence × List Token) → Type 0
ReadsOn by left ts found = (steps c : ℕ) → length ts < steps → length ts < c → chain_by (unit_within steps) c by left ts ≡ found

pub on_no_unit : (by : Option Operator) (left : Sentence) (ts : List Token) (op : Operator) (us : List Token) → next_operator by ts ≡ Some (op, us) → length us < length ts → ReadsUnit us None → ReadsOn by left ts None
on_no_unit by left ts op us next less h steps zero lt lc = absurd (omega (arith, lc))
on_no_unit by left ts op us next less h steps (suc c) lt lc =
    ap (λ o. if_some o (Some (left, ts)) (λ p. unit_within steps p.1 >>= λ b. chain_by (unit_within steps) c (Some p.0) (binary p.0 left b.0) b.1)) next
    ∙ ap (λ o. o >>= λ (b : Sentence × List Token). chain_by (unit_within steps) c (Some op) (binary op left b.0) b.1) (h steps (omega (arith, lt, less)))

pub on_unit : (by : Option Operator) (left : Sentence) (ts : List Token) (op : Operator) (us : List Token) (b : Sentence) (rest : List Token) (found : Option (Sentence × List Token)) → next_operator by ts ≡ Some (op, us)
    → length us < length ts → ReadsUnit us (Some (b, rest)) → ReadsOn (Some op) (binary op left b) rest found → ReadsOn by left ts found
on_unit by left ts op us b rest found next less h k steps zero lt lc = absurd (omega (arith, lc))
on_unit by left ts op us b rest found next less h k steps (suc c) lt lc =
    let le = unit_less us b rest h in
    chain_step steps c by left ts op us b rest next (h steps (omega (arith, lt, less))) ∙ k steps c (omega (arith, lt, less, le)) (omega (arith, lc, less, le))

pub on_end : (by : Option Operator) (left : Sentence) (ts : List Token) → next_operator by ts ≡ None → ReadsOn by left ts (Some (left, ts))
on_end by left ts h steps c lt lc = chain_end steps c by left ts (omega (arith, lc)) h

pub no_unit : (ts : List Token) → ReadsUnit ts None → ReadsFormula ts None
no_unit ts h steps lt = ap (λ o. o >>= λ (a : Sentence × List Token). chain_by (unit_within steps) steps None a.0 a.1) (h steps lt)

pub first_unit : (ts : List Token) (a : Sentence) (rest : List Token) (found : Option (Sentence × List Token)) → ReadsUnit ts (Some (a, rest)) → ReadsOn None a rest found → ReadsFormula ts found
first_unit ts a rest found h k steps lt =
    let le = unit_less ts a rest h in
    ap (λ o. o >>= λ (a : Sentence × List Token). chain_by (unit_within steps) steps None a.0 a.1) (h steps lt) ∙ k steps steps (omega (arith, lt, le)) (omega (arith, lt, le))
