-- A list of symbols and the table of its names: what a look-up finds, and what a new symbol changes.
use Rattle.std.proofs.Common.{◌≡◌, ◌↔◌, ◌<◌, ◌≤◌, ◌+◌, ◌-◌, ◌^◌, ◌⊎◌, inl, inr, ℕ, suc, zero, Bool, true, false, not, cond, List, [], ◌∷◌, ◌++◌, length, get_or, Option, None, Some, slice_get, option_map, nat_eq, eqb, refl, ap, sym, ◌∙◌, subst, arith, Vec, take, drop, ltb, ltb-true, ltb-false, ⊎_elim, true≢false, length-append}
use Rattle.std.proofs.lemmas.Option.{slice_get-map, get_or_from_slice_get}
use Rattle.std.proofs.lemmas.List.{map-append, length-map, take-append-drop}
use Rattle.std.proofs.lemmas.Bool.{eqb-true, eqb-false}
use Rattle.std.proofs.lemmas.Bool.Decides.{nat_tests}
use Rattle.std.specs.Cmp.Lexicographic.{pointwise, bytes_decides}
use Rattle.std.specs.Global.{Global}
use Rattle.std.specs.Map.{lookup, keys_of}
use Rattle.std.specs.List.{position_or_len}
use Rattle.indexmap.specs.IndexMap.{insert_entry}
use Rattle.fol_core.specs.Symbol.{Symbol, IsSymbolName, IsNumberOf, IsAt, IsNowhere}
use Rattle.fol_core.specs.SymbolList.{Name, Entries, names_of, symbol_of, symbols_in, number_in, numbers_or_none, numbers_at, number_at, AreNames, AreWithin, AreRising, IsRising, IsPlaceOf, HasAdded, AreNumbered}
use Rattle.fol_core.specs.declared.numbering.Numbered.{Numbered}
use Rattle.fol_core.specs.declared.numbering.Listed.{Listed}

none_some : {A : Type 0} (r : Option A) (n : A) → r ≡ None → r ≡ Some n → ⊥
none_some r n e f = cc

some_same : {A : Type 0} (r : Option A) (m n : A) → r ≡ Some m → r ≡ Some n → m ≡ n
some_same r m n e f = cc

pub number_of : (list : List Symbol) (s : Symbol) (r : Option ℕ) → ((n : ℕ) → (r ≡ Some n) ↔ IsAt list s n) → IsNumberOf list s r
number_of list s None found = record { found = found; absent = (λ e n at. none_some None n refl ((found n).1 at), λ _. refl) }
number_of list s (Some m) found = record { found = found; absent = (λ e. absurd (none_some (Some m) m e refl), λ nowhere. absurd (nowhere m ((found m).0 refl))) }

-- what stands in a list with one more at its end
push_at : (list : List Symbol) (s q : Symbol) (n : ℕ) → slice_get (list ++ s ∷ []) n ≡ Some q → (slice_get list n ≡ Some q) ⊎ ((n ≡ length list) × (s ≡ q))
push_at [] s q zero e = inr (refl, some_same (Some s) s q refl e)
push_at [] s q (suc n) e = absurd (none_some None q refl e)
push_at (x ∷ list) s q zero e = inl e
push_at (x ∷ list) s q (suc n) e = elim (push_at list s q n e) [ inl f ↦ inl f | inr f ↦ inr (omega (arith, f.0), f.1) ]

kept_at : (list : List Symbol) (s q : Symbol) (n : ℕ) → slice_get list n ≡ Some q → slice_get (list ++ s ∷ []) n ≡ Some q
kept_at [] s q n e = absurd (none_some None q refl e)
kept_at (x ∷ list) s q zero e = e
kept_at (x ∷ list) s q (suc n) e = kept_at list s q n e

end_at : (list : List Symbol) (s : Symbol) → slice_get (list ++ s ∷ []) (length list) ≡ Some s
end_at [] s = refl
end_at (x ∷ list) s = end_at list s

-- the numbers after the symbol s is put at the end
pushed_same : (list : List Symbol) (s : Symbol) (r : Option ℕ) → IsNowhere list s → r ≡ Some (length list) → (n : ℕ) → (r ≡ Some n) ↔ (slice_get (list ++ s ∷ []) n ≡ Some s)
pushed_same list s r nowhere e n = (
  λ f. subst (λ m. slice_get (list ++ s ∷ []) m ≡ Some s) (some_same r (length list) n e f) (end_at list s),
  λ f. elim (push_at list s s n f) [ inl g ↦ absurd (nowhere n g) | inr g ↦ e ∙ ap (λ m. Some m) (sym g.0) ],
)

pushed_other : (list : List Symbol) (s q : Symbol) (r : Option ℕ) → (s ≡ q → ⊥) → ((n : ℕ) → (r ≡ Some n) ↔ (slice_get list n ≡ Some q)) → (n : ℕ) → (r ≡ Some n) ↔ (slice_get (list ++ s ∷ []) n ≡ Some q)
pushed_other list s q r other old n = (
  λ f. kept_at list s q n ((old n).0 f),
  λ f. elim (push_at list s q n f) [ inl g ↦ (old n).1 g | inr g ↦ absurd (other g.1) ],
)

below_or_above : (k place : ℕ) → (k < place) ⊎ (place ≤ k)
below_or_above k place = by (ltb k place) refl
  where
    by : (b : Bool) → ltb k place ≡ b → (k < place) ⊎ (place ≤ k)
    by true e = inl (ltb-true k place e)
    by false e = inr (ltb-false k place e)

pub entry_at : (ns : List Numbered) (k : ℕ) (n : Numbered) → true ≡ ltb k (length ns) → n ≡ get_or ns k n → slice_get ns k ≡ Some n
entry_at ns k n within e = by ns k n (ltb-true k (length ns) (sym within)) e
  where
    by : (ns : List Numbered) (k : ℕ) (n : Numbered) → k < length ns → n ≡ get_or ns k n → slice_get ns k ≡ Some n
    by [] k n lt e = absurd (omega (arith, lt))
    by (m ∷ ns) zero n lt e = ap (λ x. Some x) (sym e)
    by (m ∷ ns) (suc k) n lt e = by ns k n (omega (arith, lt)) e

eqb_same : (n : ℕ) → eqb n n ≡ true
eqb_same n = grind (arith, nat_tests)

eqb_other : (m n : ℕ) → (m ≡ n → ⊥) → eqb m n ≡ false
eqb_other m n other = grind (arith, nat_tests)

last_step : (b : Bool) (x y : ℕ) (r next : Option ℕ) → cond b (Some x) r ≡ None → (r ≡ None → next ≡ Some y) → cond b (Some x) next ≡ Some y
last_step true x y r next e rest = absurd (none_some (Some x) x e refl)
last_step false x y r next e rest = rest e

-- an entry put between two lists
number_in_new : (front back : List Numbered) (m : Numbered) → number_in (front ++ back) m.arity ≡ None → number_in (front ++ m ∷ back) m.arity ≡ Some m.number
number_in_new [] back m e = ap (λ b. cond b (Some m.number) (number_in back m.arity)) (eqb_same m.arity)
number_in_new (n ∷ front) back m e =
    last_step (eqb n.arity m.arity) n.number m.number (number_in (front ++ back) m.arity) (number_in (front ++ m ∷ back) m.arity) e (number_in_new front back m)

number_in_other : (front back : List Numbered) (m : Numbered) (b : ℕ) → (m.arity ≡ b → ⊥) → number_in (front ++ m ∷ back) b ≡ number_in (front ++ back) b
number_in_other [] back m b other = ap (λ t. cond t (Some m.number) (number_in back b)) (eqb_other m.arity b other)
number_in_other (n ∷ front) back m b other =
    ap (λ r. cond (eqb n.arity b) (Some n.number) r) (number_in_other front back m b other)

added_new : (old new : List Numbered) (m : Numbered) → HasAdded old m new → number_in old m.arity ≡ None → number_in new m.arity ≡ Some m.number
added_new old new m (p, within, e) none =
    ap (λ ns. number_in ns m.arity) e ∙ number_in_new (take p old) (drop p old) m (ap (λ ns. number_in ns m.arity) (take-append-drop p old) ∙ none)

added_other : (old new : List Numbered) (m : Numbered) (b : ℕ) → HasAdded old m new → (m.arity ≡ b → ⊥) → number_in new b ≡ number_in old b
added_other old new m b (p, within, e) other =
    ap (λ ns. number_in ns b) e ∙ number_in_other (take p old) (drop p old) m b other ∙ ap (λ ns. number_in ns b) (take-append-drop p old)

-- what stands at the place of a number of arguments
number_in_none : (ns : List Numbered) (arity : ℕ) → ((k : ℕ) (d : Numbered) → k < length ns → (get_or ns k d).arity ≡ arity → ⊥) → number_in ns arity ≡ None
number_in_none [] arity apart = refl
number_in_none (n ∷ ns) arity apart =
    ap (λ b. cond b (Some n.number) (number_in ns arity)) (eqb_other n.arity arity (apart 0 n (omega arith))) ∙ number_in_none ns arity (λ k d lt. apart (suc k) d (omega (arith, lt)))

pub number_found : (ns : List Numbered) (arity place : ℕ) (n : Numbered) → ((k : ℕ) (d : Numbered) → k < place → (get_or ns k d).arity ≡ arity → ⊥) → slice_get ns place ≡ Some n → n.arity ≡ arity
    → number_in ns arity ≡ Some n.number
number_found [] arity place n apart at e = absurd (none_some None n refl at)
number_found (m ∷ ns) arity zero n apart at e =
    let same : m ≡ n = some_same (Some m) m n refl at in
    ap (λ b. cond b (Some m.number) (number_in ns arity)) (ap (λ x. eqb x arity) (ap (λ x. x.arity) same ∙ e) ∙ eqb_same arity) ∙ ap (λ x. Some x.number) same
number_found (m ∷ ns) arity (suc place) n apart at e =
    ap (λ b. cond b (Some m.number) (number_in ns arity)) (eqb_other m.arity arity (apart 0 m (omega arith))) ∙ number_found ns arity place n (λ k d lt. apart (suc k) d (omega (arith, lt))) at e

get_or_at : (ns : List Numbered) (k : ℕ) (n d : Numbered) → slice_get ns k ≡ Some n → get_or ns k d ≡ n
get_or_at ns k n d at = get_or_from_slice_get ns k n d at

pub number_absent : (ns : List Numbered) (arity place : ℕ) (n : Numbered) → IsRising ns → IsPlaceOf ns arity place → slice_get ns place ≡ Some n → (n.arity ≡ arity → ⊥) → number_in ns arity ≡ None
number_absent ns arity place n rising at is other = number_in_none ns arity apart
  where
    apart : (k : ℕ) (d : Numbered) → k < length ns → (get_or ns k d).arity ≡ arity → ⊥
    apart k d lt e = ⊎_elim
        (λ below. let least = at.0 k d (omega arith) below in omega (arith, e))
        (λ above. let most = rising place k d above lt in let first = ap (λ x. x.arity) (get_or_at ns place n d is) in let reached = at.1 place d (omega arith) (omega (arith, above, lt)) in
        other (omega (arith, e, first)))
        (below_or_above k place)

pub number_beyond : (ns : List Numbered) (arity place : ℕ) → IsPlaceOf ns arity place → length ns ≤ place → number_in ns arity ≡ None
number_beyond ns arity place at beyond =
    number_in_none ns arity (λ k d lt e. let less = at.0 k d (omega arith) (omega (arith, lt, beyond)) in omega (arith, e))

rising_step_at : (b : Bool) (e : Name × Vec Numbered Global) (es : Entries) (w : List ℕ) → IsRising e.1.items → IsRising (numbers_at es w)
    → IsRising (numbers_or_none (cond b (Some e.1) (lookup (λ k. pointwise nat_eq w k.items) es)))
rising_step_at true e es w here there = here
rising_step_at false e es w here there = there

-- the numbers of arguments of each name rise
pub rising_at : (es : Entries) (w : List ℕ) → AreRising es → IsRising (numbers_at es w)
rising_at [] w rising = λ i j d le lt. absurd (omega arith)
rising_at (e ∷ es) w rising = rising_step_at (pointwise nat_eq w e.0.items) e es w rising.0 (rising_at es w rising.1)

abbrev eq : Name → Name → Bool
eq k x = pointwise nat_eq k.items x.items

-- the place that the key has, or will have
abbrev place : Entries → Name → ℕ
place es k = position_or_len (eq k) (keys_of es)

kept_head : (b : Bool) (e : Name × Vec Numbered Global) (es rest : Entries) (v : Vec Numbered Global) → get_or (names_of (cond b ((e.0, v) ∷ es) (e ∷ rest))) 0 [] ≡ e.0.items
kept_head true e es rest v = refl
kept_head false e es rest v = refl

kept_tail : (b : Bool) (e : Name × Vec Numbered Global) (es rest : Entries) (v : Vec Numbered Global) (j : ℕ)
    → get_or (names_of rest) j [] ≡ get_or (names_of es) j [] → get_or (names_of (cond b ((e.0, v) ∷ es) (e ∷ rest))) (suc j) [] ≡ get_or (names_of es) j []
kept_tail true e es rest v j h = refl
kept_tail false e es rest v j h = h

-- a name keeps its place
kept_name : (es : Entries) (k : Name) (v : Vec Numbered Global) (j : ℕ) → j < length es → get_or (names_of (insert_entry eq es k v)) j [] ≡ get_or (names_of es) j []
kept_name [] k v j h = absurd (omega arith)
kept_name (e ∷ es) k v zero h = kept_head (eq k e.0) e es (insert_entry eq es k v) v
kept_name (e ∷ es) k v (suc j) h =
    kept_tail (eq k e.0) e es (insert_entry eq es k v) v j (kept_name es k v j (omega arith))

one_more : (n : ℕ) → 1 + n ≡ suc n
one_more n = omega arith

placed_step : (b : Bool) (e : Name × Vec Numbered Global) (es rest : Entries) (v : Vec Numbered Global) (n : ℕ) (w : List ℕ) → (b ≡ true → w ≡ e.0.items)
    → get_or (names_of rest) n [] ≡ w → get_or (names_of (cond b ((e.0, v) ∷ es) (e ∷ rest))) (cond (not b) (1 + n) 0) [] ≡ w
placed_step true e es rest v n w same h = sym (same refl)
placed_step false e es rest v n w same h = ap (λ m. get_or (names_of (e ∷ rest)) m []) (one_more n) ∙ h

-- the key's name stands at its place
placed_name : (es : Entries) (k : Name) (v : Vec Numbered Global) → get_or (names_of (insert_entry eq es k v)) (place es k) [] ≡ k.items
placed_name [] k v = refl
placed_name (e ∷ es) k v =
    placed_step (eq k e.0) e es (insert_entry eq es k v) v (place es k) k.items (bytes_decides k.items e.0.items).0 (placed_name es k v)

text_false : (w k : List ℕ) → (w ≡ k → ⊥) → pointwise nat_eq w k ≡ false
text_false w k other = by (pointwise nat_eq w k) refl
  where
    by : (b : Bool) → pointwise nat_eq w k ≡ b → pointwise nat_eq w k ≡ false
    by true e = absurd (other ((bytes_decides w k).0 e))
    by false e = e

-- what a look-up finds once the key has the value v
found_other : (es : Entries) (k : Name) (v : Vec Numbered Global) (w : List ℕ) → (w ≡ k.items → ⊥)
    → lookup (λ x. pointwise nat_eq w x.items) (insert_entry eq es k v) ≡ lookup (λ x. pointwise nat_eq w x.items) es
found_other [] k v w other = ap (λ b. cond b (Some v) None) (text_false w k.items other)
found_other (e ∷ es) k v w other =
    other_step (eq k e.0) (pointwise nat_eq w e.0.items) e es (insert_entry eq es k v) v w refl
    (λ t. text_false w e.0.items (λ f. other (f ∙ sym ((bytes_decides k.items e.0.items).0 t)))) (found_other es k v w other)
  where
    other_step : (b c : Bool) (e : Name × Vec Numbered Global) (es rest : Entries) (v : Vec Numbered Global) (w : List ℕ) → c ≡ pointwise nat_eq w e.0.items → (b ≡ true → pointwise nat_eq w e.0.items ≡ false)
        → lookup (λ x. pointwise nat_eq w x.items) rest ≡ lookup (λ x. pointwise nat_eq w x.items) es
        → lookup (λ x. pointwise nat_eq w x.items) (cond b ((e.0, v) ∷ es) (e ∷ rest)) ≡ lookup (λ x. pointwise nat_eq w x.items) (e ∷ es)
    other_step true c e es rest v w ce apart h = ap (λ t. cond t (Some v) (lookup (λ x. pointwise nat_eq w x.items) es)) (apart refl) ∙ sym (ap (λ t. cond t (Some e.1) (lookup (λ x. pointwise nat_eq w x.items) es)) (apart refl))
    other_step false c e es rest v w ce apart h = ap (λ r. cond (pointwise nat_eq w e.0.items) (Some e.1) r) h

found_same : (es : Entries) (k : Name) (v : Vec Numbered Global) → lookup (eq k) (insert_entry eq es k v) ≡ Some v
found_same [] k v = ap (λ b. cond b (Some v) None) ((bytes_decides k.items k.items).1 refl)
found_same (e ∷ es) k v =
    same_step (eq k e.0) e es (insert_entry eq es k v) k v refl (found_same es k v)
  where
    same_step : (b : Bool) (e : Name × Vec Numbered Global) (es rest : Entries) (k : Name) (v : Vec Numbered Global) → b ≡ eq k e.0
        → lookup (eq k) rest ≡ Some v → lookup (eq k) (cond b ((e.0, v) ∷ es) (e ∷ rest)) ≡ Some v
    same_step true e es rest k v be h = ap (λ t. cond t (Some v) (lookup (eq k) es)) (sym be)
    same_step false e es rest k v be h = ap (λ t. cond t (Some e.1) (lookup (eq k) rest)) (sym be) ∙ h

-- each name is still one
named_step : (b : Bool) (e : Name × Vec Numbered Global) (es rest : Entries) (v : Vec Numbered Global) → IsSymbolName e.0.items → AreNames (names_of es) → AreNames (names_of rest)
    → AreNames (names_of (cond b ((e.0, v) ∷ es) (e ∷ rest)))
named_step true e es rest v n h g = (n, h)
named_step false e es rest v n h g = (n, g)

named_more : (es : Entries) (k : Name) (v : Vec Numbered Global) → IsSymbolName k.items → AreNames (names_of es) → AreNames (names_of (insert_entry eq es k v))
named_more [] k v n h = (n, tt)
named_more (e ∷ es) k v n h =
    named_step (eq k e.0) e es (insert_entry eq es k v) v h.0 h.1 (named_more es k v n h.1)

rising_step : (b : Bool) (e : Name × Vec Numbered Global) (es rest : Entries) (v : Vec Numbered Global) → IsRising v.items → AreRising (e ∷ es) → AreRising rest → AreRising (cond b ((e.0, v) ∷ es) (e ∷ rest))
rising_step true e es rest v rises h g = (rises, h.1)
rising_step false e es rest v rises h g = (h.0, g)

rising_more : (es : Entries) (k : Name) (v : Vec Numbered Global) → IsRising v.items → AreRising es → AreRising (insert_entry eq es k v)
rising_more [] k v rises h = (rises, tt)
rising_more (e ∷ es) k v rises h =
    rising_step (eq k e.0) e es (insert_entry eq es k v) v rises h (rising_more es k v rises h.1)

longer_step : (b : Bool) (e : Name × Vec Numbered Global) (es rest : Entries) (v : Vec Numbered Global) → length es ≤ length rest → length (e ∷ es) ≤ length (cond b ((e.0, v) ∷ es) (e ∷ rest))
longer_step true e es rest v h = omega arith
longer_step false e es rest v h = omega arith

longer : (es : Entries) (k : Name) (v : Vec Numbered Global) → length es ≤ length (insert_entry eq es k v)
longer [] k v = omega arith
longer (e ∷ es) k v =
    longer_step (eq k e.0) e es (insert_entry eq es k v) v (longer es k v)

within_more : (m n : ℕ) (listed : List Listed) → m ≤ n → AreWithin m listed → AreWithin n listed
within_more m n [] h within = tt
within_more m n (s ∷ listed) h within = (omega (arith, within.0), within_more m n listed h within.1)

within_last : (n : ℕ) (listed : List Listed) (s : Listed) → AreWithin n listed → s.name < n → AreWithin n (listed ++ s ∷ [])
within_last n [] s within h = (h, tt)
within_last n (t ∷ listed) s within h = (within.0, within_last n listed s within.1 h)

-- the symbols listed so far keep their names
kept_symbols : (es : Entries) (k : Name) (v : Vec Numbered Global) (listed : List Listed) → AreWithin (length es) listed
    → symbols_in (names_of (insert_entry eq es k v)) listed ≡ symbols_in (names_of es) listed
kept_symbols es k v [] within = refl
kept_symbols es k v (s ∷ listed) within = λ i. (kept_name es k v s.name within.0 i, s.arity) ∷ kept_symbols es k v listed within.1 i

pub pushed_symbols : (es : Entries) (k : Name) (v : Vec Numbered Global) (listed : List Listed) (s : Listed) → AreWithin (length es) listed → s.name ≡ place es k
    → symbols_in (names_of (insert_entry eq es k v)) (listed ++ s ∷ []) ≡ symbols_in (names_of es) listed ++ (k.items, s.arity) ∷ []
pushed_symbols es k v listed s within at =
    map-append (symbol_of (names_of (insert_entry eq es k v))) listed (s ∷ [])
    ∙ ap (λ front. front ++ symbol_of (names_of (insert_entry eq es k v)) s ∷ []) (kept_symbols es k v listed within)
    ∙ ap (λ w. symbols_in (names_of es) listed ++ (w, s.arity) ∷ []) (ap (λ p. get_or (names_of (insert_entry eq es k v)) p []) at ∙ placed_name es k v)

-- what the entries know of a symbol, once the key has the numbers v
known_same : (es : Entries) (k : Name) (v : Vec Numbered Global) (m : Numbered) → HasAdded (numbers_at es k.items) m v.items → number_at es (k.items, m.arity) ≡ None
    → number_at (insert_entry eq es k v) (k.items, m.arity) ≡ Some m.number
known_same es k v m ve none =
    ap (λ o. number_in (numbers_or_none o) m.arity) (found_same es k v) ∙ added_new (numbers_at es k.items) v.items m ve none

known_other : (es : Entries) (k : Name) (v : Vec Numbered Global) (m : Numbered) (q : Symbol) → HasAdded (numbers_at es k.items) m v.items → ((k.items, m.arity) ≡ q → ⊥)
    → number_at (insert_entry eq es k v) q ≡ number_at es q
known_other es k v m q ve other = by (pointwise nat_eq q.0 k.items) refl
  where
    by : (b : Bool) → pointwise nat_eq q.0 k.items ≡ b → number_at (insert_entry eq es k v) q ≡ number_at es q
    by false e = ap (λ o. number_in (numbers_or_none o) q.1) (found_other es k v q.0 (λ f. true≢false (sym ((bytes_decides q.0 k.items).1 f) ∙ e)))
    by true e =
        let name : q.0 ≡ k.items = (bytes_decides q.0 k.items).0 e in
        ap (λ w. number_at (insert_entry eq es k v) (w, q.1)) name
        ∙ ap (λ o. number_in (numbers_or_none o) q.1) (found_same es k v)
        ∙ added_other (numbers_at es k.items) v.items m q.1 ve (λ f. other (λ i. (sym name i, f i)))
        ∙ ap (λ w. number_at es (w, q.1)) (sym name)

is_it : (s q : Symbol) → (s ≡ q) ⊎ (s ≡ q → ⊥)
is_it s q = by (pointwise nat_eq s.0 q.0) (eqb s.1 q.1) refl refl
  where
    by : (b d : Bool) → pointwise nat_eq s.0 q.0 ≡ b → eqb s.1 q.1 ≡ d → (s ≡ q) ⊎ (s ≡ q → ⊥)
    by true true be de = inl (λ i. ((bytes_decides s.0 q.0).0 be i, eqb-true s.1 q.1 de i))
    by true false be de = inr (λ f. eqb-false s.1 q.1 de (ap (λ p. p.1) f))
    by false d be de = inr (λ f. true≢false (sym ((bytes_decides s.0 q.0).1 (ap (λ p. p.0) f)) ∙ be))

-- a new symbol of the key's name is put at the end
pub pushed : (es : Entries) (k : Name) (v : Vec Numbered Global) (listed : List Listed) (s : Listed) → AreNumbered es listed → IsSymbolName k.items → length listed < 2 ^ 32 - 1
    → IsNowhere (symbols_in (names_of es) listed) (k.items, s.arity) → HasAdded (numbers_at es k.items) (record { arity = s.arity; number = length listed }) v.items → IsRising v.items
    → s.name ≡ place es k → s.name < length (insert_entry eq es k v) → AreNumbered (insert_entry eq es k v) (listed ++ s ∷ [])
pushed es k v listed s old named few nowhere ve rises at within = record {
  named = named_more es k v named old.named;
  rising = rising_more es k v rises old.rising;
  within = within_last _ listed s (within_more _ _ listed (longer es k v) old.within) within;
  numbered = λ q. subst (λ list. (n : ℕ) → (number_at (insert_entry eq es k v) q ≡ Some n) ↔ (slice_get list n ≡ Some q)) (sym (pushed_symbols es k v listed s old.within at)) (by q (is_it (k.items, s.arity) q));
  few = omega (arith, length-append listed (s ∷ []));
}
  where
    by : (q : Symbol) → ((k.items, s.arity) ≡ q) ⊎ ((k.items, s.arity) ≡ q → ⊥)
        → (n : ℕ) → (number_at (insert_entry eq es k v) q ≡ Some n) ↔ (slice_get (symbols_in (names_of es) listed ++ (k.items, s.arity) ∷ []) n ≡ Some q)
    by q (inl e) = subst (λ q. (n : ℕ) → (number_at (insert_entry eq es k v) q ≡ Some n) ↔ (slice_get (symbols_in (names_of es) listed ++ (k.items, s.arity) ∷ []) n ≡ Some q)) e
        (pushed_same (symbols_in (names_of es) listed) (k.items, s.arity) _ nowhere
        (known_same es k v (record { arity = s.arity; number = length listed }) ve ((number_of _ _ _ (old.numbered (k.items, s.arity))).absent.1 nowhere) ∙ ap (λ n. Some n) (sym (length-map listed (symbol_of (names_of es))))))
    by q (inr other) = pushed_other (symbols_in (names_of es) listed) (k.items, s.arity) q _ other
        (λ n. subst (λ r. (r ≡ Some n) ↔ (slice_get (symbols_in (names_of es) listed) n ≡ Some q)) (sym (known_other es k v (record { arity = s.arity; number = length listed }) q ve other)) (old.numbered q n))

-- reading the list
pub within_at : (n : ℕ) (listed : List Listed) (k : ℕ) (s : Listed) → AreWithin n listed → slice_get listed k ≡ Some s → s.name < n
within_at n [] k s within e = absurd (none_some None s refl e)
within_at n (t ∷ listed) zero s within e = subst (λ u. u.name < n) (some_same (Some t) t s refl e) within.0
within_at n (t ∷ listed) (suc k) s within e = within_at n listed k s within.1 e

names_at : (ws : List (List ℕ)) (i : ℕ) (w : List ℕ) → AreNames ws → slice_get ws i ≡ Some w → IsSymbolName w
names_at [] i w named e = absurd (none_some None w refl e)
names_at (v ∷ ws) zero w named e = subst IsSymbolName (some_same (Some v) v w refl e) named.0
names_at (v ∷ ws) (suc i) w named e = names_at ws i w named.1 e

name_of_entry : (es : Entries) (i : ℕ) (e : Name × Vec Numbered Global) → slice_get es i ≡ Some e → slice_get (names_of es) i ≡ Some e.0.items
name_of_entry es i e at = slice_get-map (λ x. x.0.items) es i ∙ ap (option_map (λ x. x.0.items)) at

pub read_printable : (es : Entries) (i : ℕ) (e : Name × Vec Numbered Global) → AreNames (names_of es) → slice_get es i ≡ Some e → IsSymbolName e.0.items
read_printable es i e named at = names_at (names_of es) i e.0.items named (name_of_entry es i e at)

pub read_name : (es : Entries) (listed : List Listed) (k : ℕ) (s : Listed) (e : Name × Vec Numbered Global) → slice_get listed k ≡ Some s → slice_get es s.name ≡ Some e
    → option_map (λ q. q.0) (slice_get (symbols_in (names_of es) listed) k) ≡ Some e.0.items
read_name es listed k s e at entry =
    ap (option_map (λ q. q.0)) (slice_get-map (symbol_of (names_of es)) listed k ∙ ap (option_map (symbol_of (names_of es))) at)
    ∙ ap (λ w. Some w) (get_or_from_slice_get (names_of es) s.name e.0.items [] (name_of_entry es s.name e entry))

pub not_missing : (es : Entries) (i : ℕ) → i < length es → slice_get es i ≡ None → ⊥
not_missing [] i h e = omega arith
not_missing (x ∷ es) zero h e = none_some (Some x) x e refl
not_missing (x ∷ es) (suc i) h e = not_missing es i (omega arith) e
