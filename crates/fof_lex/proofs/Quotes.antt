-- Reading what stands in quotes reads the one text in quotes that there is.
use Rattle.std.proofs.Common.{◌≡◌, ℕ, Bool, true, false, not, cond, eqb, List, [], ◌∷◌, ◌++◌, Option, Some, None, refl, ap, sym, ◌∙◌, subst}
use Rattle.std.proofs.lemmas.Bool.{and_parts, or_parts, eqb-true, cond_both, cond-true, cond-false}
use Rattle.fof_lex.specs.Bytes.{is_between, is_escaped, is_plain}
use Rattle.fof_lex.specs.Tokens.{IsBody, no_more, itself, escape}
use Rattle.fof_lex.specs.Reading.{after_quote}

-- A text that begins with the inside of quotes and the closing quote, where the flag says that a backslash stands before it.
pub record Closes (quote : ℕ) (escaped : Bool) (text rest : List ℕ) : Type 0 where
  pub body : List ℕ
  pub is : IsBody quote (cond escaped (92 ∷ body) body)
  pub cut : text ≡ body ++ quote ∷ rest

abbrev pub MayClose : ℕ → Bool → List ℕ → Option (List ℕ) → Type 0
MayClose quote escaped text None = Unit {0}
MayClose quote escaped text (Some rest) = Closes quote escaped text rest

behind_itself : (quote c : ℕ) (cs : List ℕ) (o : Option (List ℕ)) → is_plain quote c ≡ true → MayClose quote false cs o → MayClose quote false (c ∷ cs) o
behind_itself quote c cs None h m = tt
behind_itself quote c cs (Some rest) h m = record { body = c ∷ m.body; is = itself c m.body h m.is; cut = ap (λ bs. c ∷ bs) m.cut }

behind_backslash : (quote c : ℕ) (cs : List ℕ) (o : Option (List ℕ)) → c ≡ 92 → MayClose quote true cs o → MayClose quote false (c ∷ cs) o
behind_backslash quote c cs None h m = tt
behind_backslash quote c cs (Some rest) h m = record { body = c ∷ m.body; is = subst (λ x. IsBody quote (x ∷ m.body)) (sym h) m.is; cut = ap (λ bs. c ∷ bs) m.cut }

behind_escaped : (quote c : ℕ) (cs : List ℕ) (o : Option (List ℕ)) → is_escaped quote c ≡ true → MayClose quote false cs o → MayClose quote true (c ∷ cs) o
behind_escaped quote c cs None h m = tt
behind_escaped quote c cs (Some rest) h m = record { body = c ∷ m.body; is = escape c m.body h m.is; cut = ap (λ bs. c ∷ bs) m.cut }

pub may_close : (quote : ℕ) (escaped : Bool) (text : List ℕ) → MayClose quote escaped text (after_quote quote escaped text)
may_close quote true [] = tt
may_close quote false [] = tt
may_close quote true (c ∷ cs) =
    cond_both (is_escaped quote c) (after_quote quote false cs) None (MayClose quote true (c ∷ cs))
    (λ h. behind_escaped quote c cs (after_quote quote false cs) h (may_close quote false cs)) (λ h. tt)
may_close quote false (c ∷ cs) =
    cond_both (eqb c quote) (Some cs) _ (MayClose quote false (c ∷ cs))
    (λ h. record { body = []; is = no_more; cut = ap (λ x. x ∷ cs) (eqb-true c quote h) })
    (λ h. cond_both (eqb c 92) (after_quote quote true cs) _ (MayClose quote false (c ∷ cs))
    (λ h. behind_backslash quote c cs (after_quote quote true cs) (eqb-true c 92 h) (may_close quote true cs))
    (λ h. cond_both (is_plain quote c) (after_quote quote false cs) None (MayClose quote false (c ∷ cs))
    (λ h. behind_itself quote c cs (after_quote quote false cs) h (may_close quote false cs)) (λ h. tt)))

-- a byte for itself is neither the quote nor the backslash
not_true : (b : Bool) → not b ≡ true → b ≡ false
not_true true h = sym h
not_true false h = refl

pub plain_parts : (quote c : ℕ) → is_plain quote c ≡ true → (eqb c quote ≡ false) × (eqb c 92 ≡ false)
plain_parts quote c h = or_parts (eqb c quote) (eqb c 92) (not_true (is_escaped quote c) (and_parts (is_between 32 126 c) (not (is_escaped quote c)) h).1)

-- what follows the quote behind a body
pub closes_body : (quote : ℕ) (body rest : List ℕ) → eqb quote quote ≡ true → eqb 92 quote ≡ false → IsBody quote body → after_quote quote false (body ++ quote ∷ rest) ≡ Some rest
closes_body quote body rest same other no_more = cond-true (eqb quote quote) (Some rest) _ same
closes_body quote body rest same other (itself c more h b) =
    let p = plain_parts quote c h in
    cond-false (eqb c quote) _ _ p.0 ∙ cond-false (eqb c 92) _ _ p.1 ∙ cond-true (is_plain quote c) (after_quote quote false (more ++ quote ∷ rest)) None h ∙ closes_body quote more rest same other b
closes_body quote body rest same other (escape c more h b) =
    cond-false (eqb 92 quote) _ _ other ∙ cond-true (is_escaped quote c) (after_quote quote false (more ++ quote ∷ rest)) None h ∙ closes_body quote more rest same other b
