-- Reading what stands in quotes, and reading it again.
use Rattle.std.proofs.Common.{◌≡◌, ℕ, ◌+◌, ◌<◌, Bool, true, false, not, ◌&&◌, cond, eqb, List, [], ◌∷◌, ◌++◌, take, drop, length, get_or, Option, Some, None, option_map, refl, ap, sym, ◌∙◌, append_assoc}
use Rattle.std.specs.List.{flat_map}
use Rattle.std.specs.Bool.{beq}
use Rattle.std.specs.Cmp.{booleans_Decides}
use Rattle.std.proofs.lemmas.Bool.{and_parts, or_parts, eqb-true, false≢true}
use Rattle.std.proofs.lemmas.Option.{none-some, same_Some, some_pair_parts}
use Rattle.gs3_text.proofs.Options.{option_map_some}
use Rattle.std.proofs.lemmas.List.{drop_more, take_more}
use Rattle.fol_core.specs.Spelling.{escaped}
use Rattle.gs3_text.specs.Reading.{onto, is_escape, quoted_at, unescaped, is_escaped}

pub onto-onto : {X A : Type 0} (xs ys : List X) (o : Option (List X × A)) → onto xs (onto ys o) ≡ onto (xs ++ ys) o
onto-onto xs ys None = refl
onto-onto xs ys (Some r) = ap (λ zs. Some (zs, r.1)) (sym (append_assoc xs ys r.0))

quoted_cons : (escape : Bool) (c : ℕ) (cs : List ℕ) → (not escape && eqb c 39) ≡ false → quoted_at escape (c ∷ cs) ≡ onto (c ∷ []) (quoted_at (is_escape escape c) cs)
unfolding quoted_at
quoted_cons escape c cs e = ap (λ b. cond b (Some ([], cs)) (onto (c ∷ []) (quoted_at (is_escape escape c) cs))) e

-- one byte more
pub quoted_step : (escape : Bool) (bs : List ℕ) (i : ℕ) → i < length bs → (not escape && eqb (get_or bs i 0) 39) ≡ false → onto (take i bs) (quoted_at escape (drop i bs)) ≡ onto (take (i + 1) bs) (quoted_at (is_escape escape (get_or bs i 0)) (drop (i + 1) bs))
quoted_step escape bs i within e =
    rw (drop_more bs i 0 within, take_more bs i 0 within)
    (ap (onto (take i bs)) (quoted_cons escape (get_or bs i 0) (drop (i + 1) bs) e) ∙ onto-onto (take i bs) (get_or bs i 0 ∷ []) _)

quoted_case : (c : ℕ) (cs inner rest : List ℕ) (b : Bool) (o : Option (List ℕ × List ℕ)) → (b ≡ true → c ≡ 39) → ((found : List ℕ × List ℕ) → o ≡ Some found → cs ≡ found.0 ++ 39 ∷ found.1) → cond b (Some ([], cs)) (onto (c ∷ []) o) ≡ Some (inner, rest) → c ∷ cs ≡ inner ++ 39 ∷ rest
quoted_case c cs inner rest true o quote more e =
    let parts = some_pair_parts [] inner cs rest e in
    (λ i. quote refl i ∷ parts.1 i) ∙ ap (λ front. front ++ 39 ∷ rest) parts.0
quoted_case c cs inner rest false o quote more e =
    let found = option_map_some (λ (r : List ℕ × List ℕ). (c ∷ r.0, r.1)) o (inner, rest) e in
    let parts = some_pair_parts (c ∷ (found.0).0) inner (found.0).1 rest (ap Some found.2) in
    ap (λ bs. c ∷ bs) (more found.0 found.1) ∙ (λ i. parts.0 i ++ 39 ∷ parts.1 i)

-- What was read in quotes stands before a quote.
pub quoted_takes : (escape : Bool) (bytes inner rest : List ℕ) → quoted_at escape bytes ≡ Some (inner, rest) → bytes ≡ inner ++ 39 ∷ rest
unfolding quoted_at
quoted_takes escape [] inner rest e = absurd (none-some (inner, rest) e)
quoted_takes escape (c ∷ cs) inner rest e =
    quoted_case c cs inner rest (not escape && eqb c 39) (quoted_at (is_escape escape c) cs) (λ t. eqb-true c 39 (and_parts (not escape) (eqb c 39) t).1)
    (λ found is. quoted_takes (is_escape escape c) cs found.0 found.1 is) e

-- reading in quotes goes on behind a byte of a name as it is spelled
quoted_on : (c : ℕ) (bs : List ℕ) (b : Bool) → is_escaped c ≡ b → quoted_at false (cond b (92 ∷ c ∷ []) (c ∷ []) ++ bs) ≡ onto (cond b (92 ∷ c ∷ []) (c ∷ [])) (quoted_at false bs)
unfolding quoted_at
quoted_on c bs true e = onto-onto (92 ∷ []) (c ∷ []) (quoted_at false bs)
quoted_on c bs false e =
    let both = or_parts (eqb c 39) (eqb c 92) e in
    quoted_cons false c bs both.0 ∙ ap (λ escape. onto (c ∷ []) (quoted_at escape bs)) both.1

-- A name that is spelled in quotes is read.
pub quoted_again : (w rest : List ℕ) → quoted_at false (flat_map escaped w ++ 39 ∷ rest) ≡ Some (flat_map escaped w, rest)
unfolding quoted_at
quoted_again [] rest = refl
quoted_again (c ∷ w) rest =
    ap (quoted_at false) (append_assoc (escaped c) (flat_map escaped w) (39 ∷ rest))
    ∙ quoted_on c (flat_map escaped w ++ 39 ∷ rest) (is_escaped c) refl ∙ ap (onto (escaped c)) (quoted_again w rest)

unescaped_on : (c : ℕ) (bs : List ℕ) (b : Bool) → is_escaped c ≡ b → unescaped false (cond b (92 ∷ c ∷ []) (c ∷ []) ++ bs) ≡ option_map (λ w. c ∷ w) (unescaped false bs)
unfolding unescaped
unescaped_on c bs true e = ap (λ t. cond (beq true t) (option_map (λ w. c ∷ w) (unescaped false bs)) None) e
unescaped_on c bs false e =
    let both = or_parts (eqb c 39) (eqb c 92) e in
    ap (λ t. cond t (unescaped t bs) (cond (beq false (is_escaped c)) (option_map (λ w. c ∷ w) (unescaped t bs)) None)) both.1
    ∙ ap (λ t. cond (beq false t) (option_map (λ w. c ∷ w) (unescaped false bs)) None) e

-- The name comes back from its spelling.
pub unescaped_again : (w : List ℕ) → unescaped false (flat_map escaped w) ≡ Some w
unfolding unescaped
unescaped_again [] = refl
unescaped_again (c ∷ w) = unescaped_on c (flat_map escaped w) (is_escaped c) refl ∙ ap (option_map (λ v. c ∷ v)) (unescaped_again w)

-- the text with the backslash that stands before it
abbrev behind_escape : Bool → List ℕ → List ℕ
behind_escape escape text = cond escape (92 ∷ text) text

written : (escape : Bool) (c : ℕ) (cs : List ℕ) → behind_escape escape (c ∷ cs) ≡ cond escape (92 ∷ c ∷ []) (c ∷ []) ++ cs
written true c cs = refl
written false c cs = refl

cond_some_of : {A : Type 0} (b : Bool) (o : Option A) (y : A) → cond b o None ≡ Some y → (b ≡ true) × (o ≡ Some y)
cond_some_of true o y e = (refl, e)
cond_some_of false o y e = absurd (none-some y e)

unescaped_case : (escape : Bool) (c : ℕ) (cs w : List ℕ) (b : Bool) (o : Option (List ℕ)) → is_escape escape c ≡ b → ((v : List ℕ) → o ≡ Some v → behind_escape b cs ≡ flat_map escaped v) → cond b o (cond (beq escape (is_escaped c)) (option_map (λ v. c ∷ v) o) None) ≡ Some w → behind_escape escape (c ∷ cs) ≡ flat_map escaped w
unescaped_case true c cs w true o is more e = absurd (false≢true is)
unescaped_case false c cs w true o is more e = ap (λ d. d ∷ cs) (eqb-true c 92 is) ∙ more w e
unescaped_case escape c cs w false o is more e =
    let chosen = cond_some_of (beq escape (is_escaped c)) (option_map (λ v. c ∷ v) o) w e in
    let found = option_map_some (λ v. c ∷ v) o w chosen.1 in
    let same = (booleans_Decides escape (is_escaped c)).0 chosen.0 in
    written escape c cs ∙ ap (λ t. cond t (92 ∷ c ∷ []) (c ∷ []) ++ cs) same ∙ ap (λ bs. escaped c ++ bs) (more found.0 found.1) ∙ ap (flat_map escaped) found.2

-- A text without its backslashes was spelled so.
pub unescaped_takes : (escape : Bool) (text w : List ℕ) → unescaped escape text ≡ Some w → behind_escape escape text ≡ flat_map escaped w
unfolding unescaped
unescaped_takes true [] w e = absurd (none-some w e)
unescaped_takes false [] w e = ap (flat_map escaped) (same_Some [] w e)
unescaped_takes escape (c ∷ cs) w e =
    unescaped_case escape c cs w (is_escape escape c) (unescaped (is_escape escape c) cs) refl (λ v is. unescaped_takes (is_escape escape c) cs v is) e
