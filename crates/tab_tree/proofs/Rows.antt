-- Worked examples, computed.
use Rattle.std.proofs.Common.{◌≡◌, ℕ, List, [], ◌∷◌, length, refl, Some, None, true}
use Rattle.std.specs.Prelude.{map}
use Rattle.fol_core.specs.Syntax as plain
use Rattle.fol_core.specs.Syntax.{PlainTerm, PlainTerms, PlainFormula, atom, verum, falsum, not, and, or, imp, iff, all, ex}
use Rattle.free_terms.specs.Free.{Name, FreeFormula, metavar, skolem, app, no_terms, terms, fill_all, lift}
use Rattle.unify.specs.Offers.{Offer}
use Rattle.rewrite_rules.specs.Rewriting.{Rewriting}
use Rattle.branch_rules.specs.Branch.{Branch, expand, rewrite, skolemize, instantiate, go_left, go_right, entries, after, joined_at, root, next_metavar, next_skolem, metavars, segment, splits_done, times_taken}
use Rattle.tab_tree.specs.Tableau.{Tableau, leaf, step, split}
use Rattle.tab_tree.specs.Items.{pair, items_of}
use Rattle.tab_tree.specs.Segments.{Segment, Segments, tip, node, items, all_segments, top}

abbrev x1 : Name
x1 = record { segment = 1; count = 1 }

abbrev var : PlainTerms
var = plain.terms (plain.bound 0) plain.no_terms

abbrev const : ℕ → PlainTerms
const n = plain.terms (plain.app n plain.no_terms) plain.no_terms

abbrev begin : List PlainFormula → Branch
begin fs = root (map lift fs) []

-- ![X]:(~p(X)|~q(X)), p(a), p(b), q(b), at depth 1
abbrev one_offer : Branch
one_offer = begin (all (or (not (atom 0 var)) (not (atom 1 var))) ∷ atom 0 (const 0) ∷ atom 0 (const 1) ∷ atom 1 (const 1) ∷ [])

abbrev one_offer_tree : Tableau
one_offer_tree = step (instantiate 0 x1) (split 4 leaf leaf)

abbrev instance_branch : Branch
instance_branch = after one_offer (instantiate 0 x1)

-- segment 1 has the entries 0 to 4 and no item, and splits at place 4
one_offer_entries : length (entries instance_branch) ≡ 5
one_offer_entries = refl

one_offer_root : items (top (all_segments one_offer one_offer_tree)) ≡ []
one_offer_root = refl

one_offer_splits : (top (all_segments one_offer one_offer_tree)).splits_at ≡ Some 4
one_offer_splits = refl

one_offer_name : next_metavar one_offer ≡ x1
one_offer_name = refl

-- segments 2 and 3 are leaves with these items
one_offer_left : items_of 5 (entries (after instance_branch (go_left 4))) ≡ pair 1 5 ∷ pair 2 5 ∷ []
one_offer_left = refl

one_offer_right : items_of 5 (entries (after instance_branch (go_right 4))) ≡ pair 3 5 ∷ []
one_offer_right = refl

one_offer_names : segment (after instance_branch (go_right 4)) ≡ 3
one_offer_names = refl

-- ~?[X]:(d(X)=>![Y]:d(Y)), at depth 1
abbrev drinker : Branch
drinker = begin (not (ex (imp (atom 0 var) (all (atom 0 var)))) ∷ [])

abbrev drinker_end : Branch
drinker_end = after (after (after drinker (instantiate 0 x1)) (expand 1)) (skolemize 3 x1)

drinker_items : items_of 0 (entries drinker_end) ≡ pair 2 4 ∷ []
drinker_items = refl

drinker_length : length (entries drinker_end) ≡ 5
drinker_length = refl

drinker_name : next_skolem (after (after drinker (instantiate 0 x1)) (expand 1)) ≡ x1
drinker_name = refl

drinker_uses : times_taken drinker_end 0 ≡ 1
drinker_uses = refl

-- after `![X]` was used once, it stands in the queue behind the start entries and before its instance
queue : joined_at instance_branch 0 ≡ 1
queue = refl

queue_instance : joined_at instance_branch 4 ≡ 1
queue_instance = refl

queue_start : joined_at instance_branch 2 ≡ 0
queue_start = refl

-- a literal's rewriting is one level above it, and the components of the result are at that level
abbrev unfolded : Rewriting
unfolded = record {
  axiom_place = 0;
  head_left = true;
  fills = Some (app 0 no_terms) ∷ [];
  result = not (fill_all (Some (app 0 no_terms) ∷ []) (lift (and (atom 1 var) (atom 2 var))));
}

abbrev defined : Branch
defined = begin (all (iff (atom 0 var) (and (atom 1 var) (atom 2 var))) ∷ atom 1 (const 0) ∷ atom 2 (const 0) ∷ not (atom 0 (const 0)) ∷ [])

defined_left : entries (after (after defined (rewrite 3 unfolded)) (go_left 4))
    ≡ record { formula = lift (all (iff (atom 0 var) (and (atom 1 var) (atom 2 var)))); level = 0 }
    ∷ record { formula = atom 1 (terms (app 0 no_terms) no_terms); level = 0 }
    ∷ record { formula = atom 2 (terms (app 0 no_terms) no_terms); level = 0 }
    ∷ record { formula = not (atom 0 (terms (app 0 no_terms) no_terms)); level = 0 }
    ∷ record { formula = not (and (atom 1 (terms (app 0 no_terms) no_terms)) (atom 2 (terms (app 0 no_terms) no_terms))); level = 1 }
    ∷ record { formula = not (atom 1 (terms (app 0 no_terms) no_terms)); level = 1 }
    ∷ []
defined_left = refl

defined_items : items_of 5 (entries (after (after defined (rewrite 3 unfolded)) (go_left 4))) ≡ pair 1 5 ∷ []
defined_items = refl
