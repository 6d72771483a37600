-- An offer that closes a tableau has one translation there.
use Rattle.std.proofs.Common.{◌≡◌, List, refl, ap, sym, ◌∙◌}
use Rattle.fol_core.specs.Symbol.{Symbol}
use Rattle.unify.specs.Offers.{Offer}
use Rattle.branch_rules.specs.Branch.{Branch}
use Rattle.tab_tree.specs.Tableau.{Tableau}
use Rattle.tab_tree.specs.Segments.{all_segments}
use Rattle.tab_tree.proofs.Solving.{solves_where_closed}
use Rattle.tab_tree.proofs.Closing.{tree_where_solved, one_closed_tree}
use Rattle.translation.specs.Translation.{proof_of}
use Rattle.translation.specs.Measures.{MeasuredProof, measured_proof, Translates}
use Rattle.translation.specs.Laws.{beginning, HaveTranslations}

pub one_translation : (functions : List Symbol) (s : Offer) (b : Branch) (t : Tableau) (x y : MeasuredProof) → Translates functions s b t x → Translates functions s b t y → x ≡ y
one_translation functions s b t x y p q =
    p.2 ∙ ap (λ c. measured_proof functions (proof_of s b c)) (one_closed_tree s (all_segments b t) p.0 q.0 p.1 q.1) ∙ sym q.2

pub have_translations : HaveTranslations
have_translations problem rules depth t s tableau closed =
    let b = beginning problem rules in
    let has = (tree_where_solved s (all_segments b t)).1 ((solves_where_closed s b t).1 closed) in
    let functions = problem.symbols.functions in
    let found = measured_proof functions (proof_of s b has.0) in
    let is : Translates functions s b t found = (has.0, has.1, refl) in
    (found, is, λ other p. one_translation functions s b t other found p is)
