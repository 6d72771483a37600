-- The formulas of a problem hold no parameter.
use Rattle.std.proofs.Common.{ℕ, suc, List, [], ◌∷◌}
use Rattle.std.specs.List.{All}
use Rattle.std.proofs.lemmas.List.Elements.{All-head, All-tail}
use Rattle.fol_core.specs.Syntax.{PlainTerm, PlainTerms, PlainFormula, bound, param, app, no_terms, terms, atom, verum, falsum, not, and, or, imp, iff, all, ex}
use Rattle.fol_core.specs.Symbol.{SymbolTable}
use Rattle.fol_core.specs.Symbol.{Symbol as Known}
use Rattle.free_terms.specs.NoParam.{NoParamIn, NoParamInTerm, NoParamInTerms}
use Rattle.fof_parse.specs.WellFormed.{IsWellFormedTerm, AreWellFormedTerms, IsWellFormed, IsClosedOver}
use Rattle.rewrite_rules.specs.Fitting.{HoldNoParams}

mutual
  well_formed_term : (fs : List Known) (n : ℕ) (t : PlainTerm) → IsWellFormedTerm fs n t → NoParamInTerm t
  well_formed_term fs n (bound k) h = tt
  well_formed_term fs n (param k) h = h
  well_formed_term fs n (app f us) h = well_formed_terms fs n us h.1

  well_formed_terms : (fs : List Known) (n : ℕ) (us : PlainTerms) → AreWellFormedTerms fs n us → NoParamInTerms us
  well_formed_terms fs n no_terms h = tt
  well_formed_terms fs n (terms u us) h = (well_formed_term fs n u h.0, well_formed_terms fs n us h.1)

pub well_formed_no_param : (table : SymbolTable) (n : ℕ) (a : PlainFormula) → IsWellFormed table n a → NoParamIn a
well_formed_no_param table n (atom p us) h = well_formed_terms table.functions n us h.1
well_formed_no_param table n verum h = tt
well_formed_no_param table n falsum h = tt
well_formed_no_param table n (not a) h = well_formed_no_param table n a h
well_formed_no_param table n (and a b) h = (well_formed_no_param table n a h.0, well_formed_no_param table n b h.1)
well_formed_no_param table n (or a b) h = (well_formed_no_param table n a h.0, well_formed_no_param table n b h.1)
well_formed_no_param table n (imp a b) h = (well_formed_no_param table n a h.0, well_formed_no_param table n b h.1)
well_formed_no_param table n (iff a b) h = (well_formed_no_param table n a h.0, well_formed_no_param table n b h.1)
well_formed_no_param table n (all a) h = well_formed_no_param table (suc n) a h
well_formed_no_param table n (ex a) h = well_formed_no_param table (suc n) a h

pub none_hold_params : (table : SymbolTable) (fs : List PlainFormula) → All (IsClosedOver table) fs → HoldNoParams fs
none_hold_params table [] h = tt
none_hold_params table (a ∷ fs) h =
    (well_formed_no_param table 0 a (All-head (IsClosedOver table) a fs h), none_hold_params table fs (All-tail (IsClosedOver table) a fs h))
