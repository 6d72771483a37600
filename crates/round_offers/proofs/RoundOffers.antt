-- What is found for an item of a round's tableau is of the round.
use Rattle.std.proofs.Common.{◌≡◌, ℕ, Bool, List, [], ◌∷◌, map, Option, Some, None, suc, arith, refl}
use Rattle.std.specs.Prelude.{option_to_list, IfSome}
use Rattle.std.specs.List.{All}
use Rattle.std.proofs.lemmas.List.Elements.{All-cons, All-append}
use Rattle.fol_core.specs.Symbol.{SymbolTable}
use Rattle.fol_core.specs.Syntax.{PlainFormula, atom, not}
use Rattle.fof_parse.specs.WellFormed.{IsClosedOver}
use Rattle.fof_parse.specs.Problem.{Start}
use Rattle.fof_parse.specs.ProblemView.{plain_problem}
use Rattle.fof_parse.specs.declared.problem.Problem.{Problem}
use Rattle.free_terms.specs.Free.{FreeTerm, FreeTerms, lift}
use Rattle.unify.specs.Offers.{Offer, IsMostGeneral}
use Rattle.branch_rules.specs.Branch.{Entry, entry, entries}
use Rattle.tab_tree.specs.RoundValue.{RoundValue, root_of, HasRulesOfProblem}
use Rattle.tab_tree.proofs.Exists.{tableau_below}
use Rattle.tab_tree.specs.Items.{Item, pair, false_at, not_true}
use Rattle.tab_tree.specs.Segments.{Segments, top}
use Rattle.round_offers.specs.Places.{segments_at}
use Rattle.tab_tree.specs.Round.{Introduces}
use Rattle.round_offers.specs.RoundTableau.{tableau_of, segments_of, IsOfferOf}
use Rattle.tab_tree.specs.Arguments.{HasArguments}
use Rattle.round_offers.specs.ItemTerms.{HasTermsOf}
use Rattle.rewrite_rules.specs.Rules.{RulesOf}
use Rattle.rewrite_rules.specs.RuleView.{rules_in}
use Rattle.round_offers.proofs.RuleTerms.{problem_rules_keep}
use Rattle.round_offers.proofs.Everywhere.{Everywhere, of_named}
use Rattle.round_offers.proofs.OverTerms.{start_over}
use Rattle.round_offers.proofs.RoundTerms.{EntriesOver, RulesKeep, introduced_on, segments_over, over_at, over_are_terms, unified_of_round}
use Rattle.round_offers.proofs.Somes.{some_is_none}

all_tail : (P : PlainFormula → Type 0) (a : PlainFormula) (as_ : List PlainFormula) → All P (a ∷ as_) → P a × All P as_
all_tail P a as_ h = (h 0 a (omega arith), λ k d lt. h (suc k) d (omega (arith, lt)))

listed_over : (table : SymbolTable) (S : FreeTerm → Type 0) (as_ : List PlainFormula) → All (IsClosedOver table) as_ → EntriesOver table.functions S (map (entry 0) (map lift as_))
listed_over table S [] h = tt
listed_over table S (a ∷ as_) h =
    let p = all_tail (IsClosedOver table) a as_ h in
    (start_over table.functions S table refl a p.0, listed_over table S as_ p.1)

All-nil : (P : PlainFormula → Type 0) → All P []
All-nil P k d lt = let none : ⊥ = omega (arith, lt) in absurd none

negated : (table : SymbolTable) (o : Option PlainFormula) → IfSome o (IsClosedOver table) → All (IsClosedOver table) (map not (option_to_list o))
negated table None h = All-nil (IsClosedOver table)
negated table (Some a) h = All-cons (IsClosedOver table) (not a) [] h (All-nil (IsClosedOver table))

start_closed : (p : Problem) → All (IsClosedOver p.symbols) (Start (plain_problem p))
start_closed p =
    All-append (IsClosedOver p.symbols) (plain_problem p).axioms (map not (option_to_list (plain_problem p).conjecture)) p.kept.axioms
    (negated p.symbols (plain_problem p).conjecture p.kept.conjecture)

-- The rules of the round keep the terms of the round.
abbrev pub RoundRulesKeep : RoundValue → Type 0
RoundRulesKeep r = RulesKeep r.problem.symbols.functions (Introduces (root_of r) (tableau_of r)) (root_of r).rules

pub round_over : (r : RoundValue) → RoundRulesKeep r → Everywhere (λ _ gs. EntriesOver r.problem.symbols.functions (Introduces (root_of r) (tableau_of r)) (entries (top gs).branch)) 1 (segments_of r)
unfolding segments_of
round_over r keep =
    segments_over r.problem.symbols.functions (Introduces (root_of r) (tableau_of r)) (introduced_on (root_of r) (tableau_of r))
    r.depth 1 0 [] (root_of r) (tableau_of r) keep (tableau_below r.depth (root_of r)).1 (λ u m. m)
    (listed_over r.problem.symbols (Introduces (root_of r) (tableau_of r)) (Start (plain_problem r.problem)) (start_closed r.problem))

-- The rules of a round keep its terms.
pub round_rules_keep : (r : RoundValue) → HasRulesOfProblem r → RoundRulesKeep r
round_rules_keep r on =
    problem_rules_keep r.problem.symbols (Introduces (root_of r) (tableau_of r)) on.0 (plain_problem r.problem).axioms (rules_in r.rules) on.1 r.problem.kept.axioms

all_over : (r : RoundValue) → HasRulesOfProblem r → (n : ℕ) (hs : Segments) → segments_at (segments_of r) n ≡ Some hs
    → EntriesOver r.problem.symbols.functions (Introduces (root_of r) (tableau_of r)) (entries (top hs).branch)
all_over r on n hs at =
    of_named (λ _ gs. EntriesOver r.problem.symbols.functions (Introduces (root_of r) (tableau_of r)) (entries (top gs).branch)) (segments_of r)
    (round_over r (round_rules_keep r on)) n hs at

-- The arguments of an item are terms of the round.
pub item_terms : (r : RoundValue) → HasRulesOfProblem r → (n : ℕ) (hs : Segments) → segments_at (segments_of r) n ≡ Some hs
    → HasTermsOf r (entries (top hs).branch)
item_terms r on n hs at (pair i j) two h = (
  over_are_terms r.problem.symbols.functions (root_of r) (tableau_of r) two.0
      (over_at r.problem.symbols.functions (Introduces (root_of r) (tableau_of r)) (entries (top hs).branch) i (entry h.1.0 (atom h.0 two.0)) (all_over r on n hs at) h.1.1),
  over_are_terms r.problem.symbols.functions (root_of r) (tableau_of r) two.1
      (over_at r.problem.symbols.functions (Introduces (root_of r) (tableau_of r)) (entries (top hs).branch) j (entry h.2.0 (not (atom h.0 two.1))) (all_over r on n hs at) h.2.1),
)
item_terms r on n hs at (false_at i) two h = absurd (some_is_none two h)
item_terms r on n hs at (not_true i) two h = absurd (some_is_none two h)

-- What makes the arguments one is of the round.
pub found_of_round : (r : RoundValue) (es : List Entry) → HasTermsOf r es → (item : Item) (two : FreeTerms × FreeTerms) → HasArguments es item (Some two)
    → (given found : Offer) → IsOfferOf r given → IsMostGeneral given two.0 two.1 found → IsOfferOf r found
found_of_round r es terms item two h given found of m =
    unified_of_round r.problem.symbols.functions (root_of r) (tableau_of r) given two.0 two.1 found of (terms item two h).0 (terms item two h).1 m
