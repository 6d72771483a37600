-- What one rule makes of a literal.
use Rattle.std.specs.Prelude.{ℕ, Bool, true, false, Option, Some, None}
use Rattle.fol_core.specs.Syntax.{atom, not}
use Rattle.free_terms.specs.Free.{FreeTerms, FreeFormula}
use Rattle.rewrite_rules.specs.Rules.{RewriteRule}
use Rattle.rewrite_rules.specs.Rewriting.{Rewriting, Fires}

-- what the rule makes of the literal, or None where its head does not match it
abbrev pub Answers : RewriteRule → FreeFormula → Option Rewriting → Type 0
Answers rule a None = (r : Rewriting) → Fires rule a r → ⊥
Answers rule a (Some r) = Fires rule a r

-- an atom, or its negation
abbrev pub literal_of : Bool → ℕ → FreeTerms → FreeFormula
literal_of false p us = atom p us
literal_of true p us = not (atom p us)

abbrev pub IsLiteral : FreeFormula → Type 0
IsLiteral (atom p us) = Unit {0}
IsLiteral (not (atom p us)) = Unit {0}
IsLiteral _ = ⊥
