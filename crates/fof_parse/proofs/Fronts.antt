-- What stands in front of tokens: marks, words and operators.
use Rattle.std.proofs.Common.{◌≡◌, ℕ, zero, suc, ◌<◌, ◌≤◌, Bool, true, false, cond, List, [], ◌∷◌, Option, Some, None, refl, sym, ap, ◌∙◌, arith}
use Rattle.std.proofs.lemmas.Bool.{false≢true, and_parts}
use Rattle.fof_parse.specs.declared.token.Operator.{Operator}
use Rattle.fof_parse.specs.declared.token.Operator.TheVariants.{Implies, ImpliedBy, Equivalent, NotEquivalent, NotAnd, NotOr, And, Or}
use Rattle.fof_parse.specs.declared.token.Equality.{Equality as Equation}
use Rattle.fof_parse.specs.declared.token.Equality.TheVariants.{Equal, Unequal}
use Rattle.fof_parse.specs.declared.token.Quantifier.TheVariants as quantifiers
use Rattle.fof_parse.specs.declared.token.Bracket.{Bracket}
use Rattle.fof_parse.specs.declared.token.Bracket.TheVariants.{Round, Square, Curly}
use Rattle.fof_parse.specs.declared.token.Quantifier.{Quantifier as Quantor}
use Rattle.fof_parse.specs.declared.token.Mark.{Mark}
use Rattle.fof_parse.specs.declared.token.Mark.TheVariants.{Open, Close, Comma, Stop, Colon, Not, Quantifier, Binary, Equality}
use Rattle.fof_parse.specs.Token.{Token, lower, upper, quoted, distinct, dollar, number, marked, other}
use Rattle.fof_parse.specs.Grammar.{Symbol, word, defined, IsSymbol, Repeats, by_and, by_or}
use Rattle.fof_parse.specs.Reader.Reading.{◌>>=◌, same_bracket, same_operator, same_quantifier, same_equality, is_mark, after_mark, one_token, Head, symbol_head, variable_head, numeral_head, object_head, head_of, Lead, negation_lead, group_lead, quantifier_lead, lead_of, equality_of, operator_of, variable_of, repeats, can_join, next_operator}

pub bind_some : {A B : Type 0} (o : Option A) (f : A → Option B) (y : B) → (o >>= f) ≡ Some y → (x : A) × (o ≡ Some x) × (f x ≡ Some y)
bind_some None f y h = cc
bind_some (Some x) f y h = (x, refl, h)

pub chosen : {A : Type 0} (b : Bool) (x y : A) → cond b (Some x) None ≡ Some y → (b ≡ true) × (x ≡ y)
chosen true x y h = (refl, cc)
chosen false x y h = cc

pub same_bracket_is : (b c : Bracket) → same_bracket b c ≡ true → b ≡ c
same_bracket_is Round Round h = refl
same_bracket_is Square Square h = refl
same_bracket_is Curly Curly h = refl
same_bracket_is b c h = absurd (false≢true h)

pub same_bracket_self : (b : Bracket) → same_bracket b b ≡ true
same_bracket_self Round = refl
same_bracket_self Square = refl
same_bracket_self Curly = refl

same_operator_is : (k m : Operator) → same_operator k m ≡ true → k ≡ m
same_operator_is Implies Implies h = refl
same_operator_is ImpliedBy ImpliedBy h = refl
same_operator_is Equivalent Equivalent h = refl
same_operator_is NotEquivalent NotEquivalent h = refl
same_operator_is NotAnd NotAnd h = refl
same_operator_is NotOr NotOr h = refl
same_operator_is And And h = refl
same_operator_is Or Or h = refl
same_operator_is k m h = absurd (false≢true h)

same_quantifier_is : (q r : Quantor) → same_quantifier q r ≡ true → q ≡ r
same_quantifier_is quantifiers.All quantifiers.All h = refl
same_quantifier_is quantifiers.Some quantifiers.Some h = refl
same_quantifier_is q r h = absurd (false≢true h)

same_equality_is : (e d : Equation) → same_equality e d ≡ true → e ≡ d
same_equality_is Equal Equal h = refl
same_equality_is Unequal Unequal h = refl
same_equality_is e d h = absurd (false≢true h)

is_mark_is : (k m : Mark) → is_mark k m ≡ true → k ≡ m
is_mark_is (Open b) (Open c) h = ap Open (same_bracket_is b c h)
is_mark_is (Close b) (Close c) h = ap Close (same_bracket_is b c h)
is_mark_is Comma Comma h = refl
is_mark_is Stop Stop h = refl
is_mark_is Colon Colon h = refl
is_mark_is Not Not h = refl
is_mark_is (Quantifier q) (Quantifier r) h = ap Quantifier (same_quantifier_is q r h)
is_mark_is (Binary op) (Binary by) h = ap Binary (same_operator_is op by h)
is_mark_is (Equality e) (Equality d) h = ap Equality (same_equality_is e d h)
is_mark_is k m h = absurd (false≢true h)

pub after_mark_is : (m : Mark) (ts rest : List Token) → after_mark m ts ≡ Some rest → ts ≡ marked m ∷ rest
after_mark_is m (marked k ∷ ts) rest h =
    let d = chosen (is_mark k m) ts rest h in ap (λ x. marked x ∷ ts) (is_mark_is k m d.0) ∙ ap (λ us. marked m ∷ us) d.1
after_mark_is m [] rest h = cc
after_mark_is m (lower w ∷ ts) rest h = cc
after_mark_is m (upper w ∷ ts) rest h = cc
after_mark_is m (quoted w ∷ ts) rest h = cc
after_mark_is m (distinct w ∷ ts) rest h = cc
after_mark_is m (dollar w ∷ ts) rest h = cc
after_mark_is m (number w ∷ ts) rest h = cc
after_mark_is m (other ∷ ts) rest h = cc

pub one_token_is : {A : Type 0} (f : Token → Option A) (ts : List Token) (x : A) (rest : List Token) → one_token f ts ≡ Some (x, rest)
    → (t : Token) × (ts ≡ t ∷ rest) × (f t ≡ Some x)
one_token_is f [] x rest h = cc
one_token_is {A = A} f (t ∷ ts) x rest h =
    let b = bind_some (f t) _ (x, rest) h in
    let e : ◌≡◌ {A = A × List Token} (b.0, ts) (x, rest) = cc (b.2) in
    (t, ap (λ us. t ∷ us) (ap (λ p. p.1) e), b.1 ∙ ap (λ p. Some p.0) e)

pub one_token_front : {A : Type 0} (f : Token → Option A) (t : Token) (ts : List Token) (x : A) → f t ≡ Some x → one_token f (t ∷ ts) ≡ Some (x, ts)
one_token_front f t ts x h = ap (λ o. o >>= λ y. Some (y, ts)) h

abbrev pub lead_token : Lead → Token
lead_token negation_lead = marked Not
lead_token group_lead = marked (Open Round)
lead_token (quantifier_lead q) = marked (Quantifier q)

pub lead_of_is : (t : Token) (l : Lead) → lead_of t ≡ Some l → t ≡ lead_token l
lead_of_is (marked Not) l h = let e : negation_lead ≡ l = cc in ap lead_token e
lead_of_is (marked (Open Round)) l h = let e : group_lead ≡ l = cc in ap lead_token e
lead_of_is (marked (Quantifier q)) l h = let e : quantifier_lead q ≡ l = cc in ap lead_token e
lead_of_is (marked (Open Square)) l h = cc
lead_of_is (marked (Open Curly)) l h = cc
lead_of_is (marked (Close b)) l h = cc
lead_of_is (marked Comma) l h = cc
lead_of_is (marked Stop) l h = cc
lead_of_is (marked Colon) l h = cc
lead_of_is (marked (Binary op)) l h = cc
lead_of_is (marked (Equality e)) l h = cc
lead_of_is (lower w) l h = cc
lead_of_is (upper w) l h = cc
lead_of_is (quoted w) l h = cc
lead_of_is (distinct w) l h = cc
lead_of_is (dollar w) l h = cc
lead_of_is (number w) l h = cc
lead_of_is other l h = cc

pub equality_of_is : (t : Token) (e : Equation) → equality_of t ≡ Some e → t ≡ marked (Equality e)
equality_of_is (marked (Equality d)) e h = let k : d ≡ e = cc in ap (λ x. marked (Equality x)) k
equality_of_is (marked Not) l h = cc
equality_of_is (marked (Quantifier q)) l h = cc
equality_of_is (marked (Open b)) l h = cc
equality_of_is (marked (Close b)) l h = cc
equality_of_is (marked Comma) l h = cc
equality_of_is (marked Stop) l h = cc
equality_of_is (marked Colon) l h = cc
equality_of_is (marked (Binary op)) l h = cc
equality_of_is (lower w) l h = cc
equality_of_is (upper w) l h = cc
equality_of_is (quoted w) l h = cc
equality_of_is (distinct w) l h = cc
equality_of_is (dollar w) l h = cc
equality_of_is (number w) l h = cc
equality_of_is other l h = cc

pub operator_of_is : (t : Token) (op : Operator) → operator_of t ≡ Some op → t ≡ marked (Binary op)
operator_of_is (marked (Binary d)) e h = let k : d ≡ e = cc in ap (λ x. marked (Binary x)) k
operator_of_is (marked Not) l h = cc
operator_of_is (marked (Quantifier q)) l h = cc
operator_of_is (marked (Open b)) l h = cc
operator_of_is (marked (Close b)) l h = cc
operator_of_is (marked Comma) l h = cc
operator_of_is (marked Stop) l h = cc
operator_of_is (marked Colon) l h = cc
operator_of_is (marked (Equality op)) l h = cc
operator_of_is (lower w) l h = cc
operator_of_is (upper w) l h = cc
operator_of_is (quoted w) l h = cc
operator_of_is (distinct w) l h = cc
operator_of_is (dollar w) l h = cc
operator_of_is (number w) l h = cc
operator_of_is other l h = cc

pub variable_of_is : (t : Token) (w : List ℕ) → variable_of t ≡ Some w → t ≡ upper w
variable_of_is (upper v) w h = let k : v ≡ w = cc in ap upper k
variable_of_is (lower v) w h = cc
variable_of_is (quoted v) w h = cc
variable_of_is (distinct v) w h = cc
variable_of_is (dollar v) w h = cc
variable_of_is (number v) w h = cc
variable_of_is (marked m) w h = cc
variable_of_is other w h = cc

-- the token of a head
abbrev pub IsHead : Token → Head → Type 0
IsHead t (symbol_head f) = IsSymbol t f
IsHead t (variable_head w) = t ≡ upper w
IsHead t (numeral_head w) = t ≡ number w
IsHead t (object_head w) = t ≡ distinct w

pub head_of_is : (t : Token) (h : Head) → head_of t ≡ Some h → IsHead t h
head_of_is (lower w) (symbol_head f) e = let k : word w ≡ f = cc in ap Some k
head_of_is (quoted w) (symbol_head f) e = let k : word w ≡ f = cc in ap Some k
head_of_is (dollar w) (symbol_head f) e = let k : defined w ≡ f = cc in ap Some k
head_of_is (upper w) (variable_head v) e = let k : w ≡ v = cc in ap upper k
head_of_is (number w) (numeral_head v) e = let k : w ≡ v = cc in ap number k
head_of_is (distinct w) (object_head v) e = let k : w ≡ v = cc in ap distinct k
head_of_is (lower w) (variable_head v) e = cc
head_of_is (lower w) (numeral_head v) e = cc
head_of_is (lower w) (object_head v) e = cc
head_of_is (quoted w) (variable_head v) e = cc
head_of_is (quoted w) (numeral_head v) e = cc
head_of_is (quoted w) (object_head v) e = cc
head_of_is (dollar w) (variable_head v) e = cc
head_of_is (dollar w) (numeral_head v) e = cc
head_of_is (dollar w) (object_head v) e = cc
head_of_is (upper w) (symbol_head v) e = cc
head_of_is (upper w) (numeral_head v) e = cc
head_of_is (upper w) (object_head v) e = cc
head_of_is (number w) (symbol_head v) e = cc
head_of_is (number w) (variable_head v) e = cc
head_of_is (number w) (object_head v) e = cc
head_of_is (distinct w) (symbol_head v) e = cc
head_of_is (distinct w) (variable_head v) e = cc
head_of_is (distinct w) (numeral_head v) e = cc
head_of_is (marked m) h e = cc
head_of_is other h e = cc

-- a symbol begins a term, and no other unit
pub symbol_is_head : (t : Token) (f : Symbol) → IsSymbol t f → head_of t ≡ Some (symbol_head f)
symbol_is_head (lower w) f h = let k : word w ≡ f = cc in ap (λ x. Some (symbol_head x)) k
symbol_is_head (quoted w) f h = let k : word w ≡ f = cc in ap (λ x. Some (symbol_head x)) k
symbol_is_head (dollar w) f h = let k : defined w ≡ f = cc in ap (λ x. Some (symbol_head x)) k
symbol_is_head (upper w) f h = cc
symbol_is_head (distinct w) f h = cc
symbol_is_head (number w) f h = cc
symbol_is_head (marked m) f h = cc
symbol_is_head other f h = cc

pub symbol_no_lead : (t : Token) (f : Symbol) → IsSymbol t f → lead_of t ≡ None
symbol_no_lead (lower w) f h = refl
symbol_no_lead (quoted w) f h = refl
symbol_no_lead (dollar w) f h = refl
symbol_no_lead (upper w) f h = refl
symbol_no_lead (distinct w) f h = refl
symbol_no_lead (number w) f h = refl
symbol_no_lead (marked m) f h = cc
symbol_no_lead other f h = refl

pub next_operator_is : (by : Option Operator) (ts : List Token) (op : Operator) (rest : List Token) → next_operator by ts ≡ Some (op, rest)
    → (ts ≡ marked (Binary op) ∷ rest) × (can_join by op ≡ true)
next_operator_is by ts op rest h =
    let b = bind_some (one_token operator_of ts) _ (op, rest) h in
    let d = chosen (can_join by b.0.0) b.0 (op, rest) b.2 in
    let o = one_token_is operator_of ts op rest (b.1 ∙ ap Some d.1) in
    (o.1 ∙ ap (λ t. t ∷ rest) (operator_of_is o.0 op o.2), sym (ap (λ (q : Operator × List Token). can_join by q.0) d.1) ∙ d.0)

repeats_is : (op : Operator) → repeats op ≡ true → Repeats op
repeats_is And h = by_and
repeats_is Or h = by_or
repeats_is op h = absurd (false≢true h)

pub can_repeat : (by op : Operator) → can_join (Some by) op ≡ true → (by ≡ op) × Repeats op
can_repeat by op h = let b = and_parts (same_operator by op) (repeats op) h in (same_operator_is by op b.0, repeats_is op b.1)

pub repeats_again : {op : Operator} → Repeats op → can_join (Some op) op ≡ true
repeats_again by_and = refl
repeats_again by_or = refl

-- what holds of each number of steps above the bound
pub enough : (P : ℕ → Type 0) (bound : ℕ) → ((s : ℕ) → bound ≤ s → P (suc s)) → (steps : ℕ) → bound < steps → P steps
enough P bound f zero lt = absurd (omega (arith, lt))
enough P bound f (suc s) lt = f s (omega (arith, lt))
