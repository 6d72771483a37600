-- What a literal is rewritten to.
use Rattle.std.specs.Prelude.{◌≡◌, ℕ, Bool, List, [], ◌∷◌, Option, Some, None, ◌⊎◌}
use Rattle.fol_core.specs.Syntax.{atom, not}
use Rattle.free_terms.specs.Free.{FreeTerm, FreeFormula, fill_all}
use Rattle.free_terms.specs.Matching.{IsMatch}
use Rattle.rewrite_rules.specs.Rules.{RewriteRule}

-- the rule's axiom, which side its head is, what stands for its variables, and the result
pub record Rewriting : Type 0 where
  pub axiom_place : ℕ
  pub head_left : Bool
  pub fills : List (Option FreeTerm)
  pub result : FreeFormula

abbrev pub rewriting_by : RewriteRule → List (Option FreeTerm) → FreeFormula → Rewriting
rewriting_by rule fills result =
    record { axiom_place = rule.axiom_place; head_left = rule.head_left; fills = fills; result = result }

-- What a rule makes of a literal that its head matches: of an atom the body's instance, and of a negated atom the
-- negation of that instance. The literal's metavariables count as constants.
abbrev pub Fires : RewriteRule → FreeFormula → Rewriting → Type 0
Fires rule (atom p us) r =
    (p ≡ rule.predicate) × (fills : List (Option FreeTerm)) × IsMatch rule.arguments rule.count us fills
    × (r ≡ rewriting_by rule fills (fill_all fills rule.body))
Fires rule (not (atom p us)) r =
    (p ≡ rule.predicate) × (fills : List (Option FreeTerm)) × IsMatch rule.arguments rule.count us fills
    × (r ≡ rewriting_by rule fills (not (fill_all fills rule.body)))
Fires rule _ r = ⊥

-- What the first rule that matches makes of the literal, or None exactly where no rule does.
abbrev pub Rewrites : List RewriteRule → FreeFormula → Option Rewriting → Type 0
Rewrites [] literal result = result ≡ None
Rewrites (rule ∷ rules) literal result =
    ((r : Rewriting) × (result ≡ Some r) × Fires rule literal r)
    ⊎ (((r : Rewriting) → Fires rule literal r → ⊥) × Rewrites rules literal result)
