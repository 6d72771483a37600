use Rattle.std.proofs.Common.{◌++◌, ◌∷◌, [], ap, sym, ◌∙◌, subst, ◌<◌}
use Rattle.std.specs.Prelude.{All}
use Rattle.free_terms.specs.View.{formula_of, terms_of}
use Rattle.lit_index.specs.Occurrences.{occurrence}
use Rattle.branch_rules.specs.Branch.{entries}
use Rattle.branch_rules.specs.BranchValue.{branch_of}
use Rattle.tab_tree.specs.SiteValue.{items_in}
use Rattle.tab_tree.proofs.OwnItems.{places_below, next_literal, next_other, items_with_literal}
use Rattle.tab_tree.proofs.finding.push_items_at.Goals as goal

pub push_literal_items-requires : goal.push_literal_items-requires
push_literal_items-requires c =
    subst (λ z. All (λ o. o.place < c.args.place) z) (sym c.requires.index)
    (places_below (entries (branch_of c.args.branch.now)) c.args.place c.requires.within)

pub returns-in_ok-push_literal_items-in-Some-clause-items : goal.returns-in_ok-push_literal_items-in-Some-clause-items
returns-in_ok-push_literal_items-in-Some-clause-items c =
    items_with_literal (entries (branch_of c.args.branch.now)) c.args.place c.in-Some.literal.negated c.in-Some.literal.predicate
    (terms_of c.in-Some.literal.arguments.now) (formula_of c.formula_at-f.result.now) c.args.index.now (items_in c.args.out.now)
    (items_in c.push_literal_items.new.out) c.formula_at-f.ensures c.in-Some.ensures c.requires.index
    c.in_ok-push_literal_items-in-Some.ensures.items

pub returns-in_ok-push_literal_items-in-Some-clause-index : goal.returns-in_ok-push_literal_items-in-Some-clause-index
returns-in_ok-push_literal_items-in-Some-clause-index c =
    c.in_ok-push_literal_items-in-Some.ensures.index
    ∙ ap (λ z. z ++ occurrence c.args.place c.in-Some.literal.negated c.in-Some.literal.predicate ∷ []) c.requires.index
    ∙ sym (next_literal (entries (branch_of c.args.branch.now)) c.args.place c.in-Some.literal.negated c.in-Some.literal.predicate
    (terms_of c.in-Some.literal.arguments.now) (formula_of c.formula_at-f.result.now) c.formula_at-f.ensures c.in-Some.ensures)

pub returns-in_ok-push_single-in-None-clause-index : goal.returns-in_ok-push_single-in-None-clause-index
returns-in_ok-push_single-in-None-clause-index c =
    c.requires.index
    ∙ sym (next_other (entries (branch_of c.args.branch.now)) c.args.place (formula_of c.formula_at-f.result.now) c.formula_at-f.ensures
    c.in-None.ensures)
