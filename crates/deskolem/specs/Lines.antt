-- The steps that a line of the walk stands for, under an offer.
use Rattle.std.specs.Prelude.{◌+◌, ◌≤◌, ⊤, if◌then◌else◌, List, [], ◌∷◌, ◌++◌, map, length, reverse}
use Rattle.gs3_rules.specs.Rules as gs3
use Rattle.gs3_rules.specs.Rules.{Rule}
use Rattle.rewrite_expand.specs.Expansion.{Expansion, expansion}
use Rattle.free_terms.specs.Free.{Name, metavar}
use Rattle.free_terms.specs.View.{name_of}
use Rattle.unify.specs.Offers.{Offer}
use Rattle.rewrite_rules.specs.RuleView.{rewriting_of}
use Rattle.translation.specs.Translation.{parameter_of, term_under, fill_under}
use Rattle.deskolem.specs.declared.line.Line.{Line}
use Rattle.deskolem.specs.declared.line.Line.TheVariants.{Close, FalseAt, NotTrue, Alpha, Beta, Delta, Gamma, Rewrite}
use Rattle.deskolem.specs.declared.line.Rewriting.{Rewriting}

abbrev pub expansion_by : Offer → List Name → Rewriting → Expansion
expansion_by s ys w =
    let r = rewriting_of w.rewritten in
    expansion w.len w.axiom w.literal w.positive r.head_left (reverse (map (fill_under s ys) r.fills))

-- the steps of a rewriting before those that the proof goes on with
abbrev pub opening : Expansion → List Rule
opening x = x.before ++ (if x.close_first then x.closing ∷ [] else [])

abbrev pub rules_of_line : Offer → List Name → Line → List Rule
rules_of_line s ys (Close i j) = gs3.close i j ∷ []
rules_of_line s ys (FalseAt i) = gs3.false_at i ∷ []
rules_of_line s ys (NotTrue i) = gs3.not_true i ∷ []
rules_of_line s ys (Alpha i) = gs3.alpha i ∷ []
rules_of_line s ys (Beta i) = gs3.beta i ∷ []
rules_of_line s ys (Delta i x) = gs3.delta i (parameter_of 0 ys (name_of x)) ∷ []
rules_of_line s ys (Gamma i x) = gs3.gamma i (term_under s ys (metavar (name_of x))) ∷ []
rules_of_line s ys (Rewrite w) = opening (expansion_by s ys w)

abbrev pub rules_of_lines : Offer → List Name → List Line → List Rule
rules_of_lines s ys [] = []
rules_of_lines s ys (line ∷ lines) = rules_of_line s ys line ++ rules_of_lines s ys lines

-- the Skolem symbols of the lines, in order
abbrev pub symbol_of : Line → List Name
symbol_of (Close i j) = []
symbol_of (FalseAt i) = []
symbol_of (NotTrue i) = []
symbol_of (Alpha i) = []
symbol_of (Beta i) = []
symbol_of (Delta i x) = name_of x ∷ []
symbol_of (Gamma i x) = []
symbol_of (Rewrite w) = []

abbrev pub symbols_of : List Line → List Name
symbols_of [] = []
symbols_of (line ∷ lines) = symbol_of line ++ symbols_of lines

-- the formulas that the rewriting appends have places
abbrev pub IsWithin : Rewriting → Type 0
IsWithin w = w.len + length w.rewritten.fills ≤ 4294967294

abbrev pub HasRoom : Line → Type 0
HasRoom (Close i j) = ⊤
HasRoom (FalseAt i) = ⊤
HasRoom (NotTrue i) = ⊤
HasRoom (Alpha i) = ⊤
HasRoom (Beta i) = ⊤
HasRoom (Delta i x) = ⊤
HasRoom (Gamma i x) = ⊤
HasRoom (Rewrite w) = IsWithin w
