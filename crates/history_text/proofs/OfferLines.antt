-- The text of an offer is one line, where the name of each function symbol is.
use Rattle.std.proofs.Common.{ℕ, zero, suc, List, [], ◌∷◌, ◌++◌, refl, subst, append-nil}
use Rattle.std.specs.Prelude.{codes, decimal}
use Rattle.std.specs.List.{join_by}
use Rattle.fol_core.specs.Symbol.{Symbol}
use Rattle.fol_core.specs.Syntax as plain
use Rattle.fol_core.specs.Spelling.{spelled_symbol, name_in}
use Rattle.free_terms.specs.Free.{Name, FreeTerm, FreeTerms, bound, metavar, skolem, app, no_terms, terms}
use Rattle.unify.specs.Offers.{Binding, Offer}
use Rattle.gs3_text.specs.ProofText.{IsLine}
use Rattle.gs3_text.proofs.Feeds.{IsLine-append, NamesAreLines, spelled_is_line}
use Rattle.offer_text.specs.Text.{name_text, term_text, arguments_text, rest_text, binding_text, offer_text}
use Rattle.history_text.proofs.Comments.{decimal_is_line, list_is_line}

only_name : (w : List ℕ) → IsLine w → NamesAreLines ((w, 0) ∷ [])
only_name w p zero = p
only_name w p (suc f) = refl

-- a symbol is spelled as the constant of that name is
symbol_is_line : (w : List ℕ) → IsLine w → IsLine (spelled_symbol w)
symbol_is_line w p =
    subst IsLine (append-nil (spelled_symbol w)) (spelled_is_line ((w, 0) ∷ []) (only_name w p) (plain.app 0 plain.no_terms) (refl, tt))

marked_is_line : (mark : List ℕ) (x : Name) → IsLine mark → IsLine (mark ++ name_text x)
marked_is_line mark x p =
    IsLine-append mark (name_text x) p
    (IsLine-append (decimal x.segment ++ codes ".") (decimal x.count) (IsLine-append (decimal x.segment) (codes ".") (decimal_is_line x.segment) refl) (decimal_is_line x.count))

module _ (fs : List Symbol) (names : NamesAreLines fs) where
  mutual
    pub term_is_line : (t : FreeTerm) → IsLine (term_text fs t)
    term_is_line (bound n) = refl
    term_is_line (metavar x) = marked_is_line (codes "?") x refl
    term_is_line (skolem x us) =
        IsLine-append (codes "!" ++ name_text x) (arguments_text fs us) (marked_is_line (codes "!") x refl) (arguments_are_line us)
    term_is_line (app f us) =
        IsLine-append (spelled_symbol (name_in fs f)) (arguments_text fs us) (symbol_is_line (name_in fs f) (names f)) (arguments_are_line us)

    arguments_are_line : (us : FreeTerms) → IsLine (arguments_text fs us)
    arguments_are_line no_terms = refl
    arguments_are_line (terms u us) =
        IsLine-append (codes "(" ++ term_text fs u) (rest_text fs us) (IsLine-append (codes "(") (term_text fs u) refl (term_is_line u)) (rest_is_line us)

    rest_is_line : (us : FreeTerms) → IsLine (rest_text fs us)
    rest_is_line no_terms = refl
    rest_is_line (terms u us) =
        IsLine-append (codes "," ++ term_text fs u) (rest_text fs us) (IsLine-append (codes ",") (term_text fs u) refl (term_is_line u)) (rest_is_line us)

  binding_is_line : (b : Binding) → IsLine (binding_text fs b)
  binding_is_line b =
      IsLine-append ((codes "?" ++ name_text b.name) ++ codes "=") (term_text fs b.term)
      (IsLine-append (codes "?" ++ name_text b.name) (codes "=") (marked_is_line (codes "?") b.name refl) refl) (term_is_line b.term)

  pub offer_is_line : (s : Offer) → IsLine (offer_text fs s)
  offer_is_line s =
      IsLine-append (codes "{" ++ join_by (binding_text fs) (codes ",") s) (codes "}")
      (IsLine-append (codes "{") (join_by (binding_text fs) (codes ",") s) refl (list_is_line (binding_text fs) binding_is_line s)) refl
