-- Worked rows: the piece in front of a text.
use Rattle.std.proofs.Common.{◌≡◌, ℕ, List, [], ◌∷◌, codes, map, refl}
use Rattle.fof_lex.specs.declared.token.Connective.TheVariants.{Equivalent, NotEquivalent, ImpliedBy, NotEqual}
use Rattle.fof_lex.specs.declared.token.Mark.TheVariants.{Less, Minus, Plus, Slash}
use Rattle.fof_lex.specs.declared.token.Kind.TheVariants.{LowerWord, UpperWord, Quoted, DistinctObject, DollarWord, Number, Connective as of_connective, Mark as of_mark}
use Rattle.fof_lex.specs.Reading.{Piece, gap, token, nothing, slash_piece, quoted_piece, distinct_piece, dollar_piece, after_number, sign_piece, less_piece, exclamation_piece, symbol_piece, piece_at}

-- a text, and the piece in front of it
abbrev Row : Type 0
Row = List ℕ × Piece

abbrev Hold : List Row → Type 0
Hold rows = map (λ row. piece_at row.0) rows ≡ map (λ row. row.1) rows

numbers : Hold (
    (codes "1.", token Number (codes ".")) ∷ (codes "1.5", token Number []) ∷ (codes "1.5E-3", token Number []) ∷ (codes "1e5", token Number [])
    ∷ (codes "1e", token Number (codes "e")) ∷ (codes "1e+x", token Number (codes "e+x")) ∷ (codes "3/4", token Number []) ∷ (codes "3/x", token Number (codes "/x"))
    ∷ (codes "-12", token Number []) ∷ (codes "-x", token (of_mark Minus) (codes "x")) ∷ (codes "+ 1", token (of_mark Plus) (codes " 1")) ∷ []
    )
unfolding piece_at symbol_piece sign_piece after_number
numbers = refl

words : Hold (
    (codes "p_2Q'", token LowerWord (codes "'")) ∷ (codes "X1 ", token UpperWord (codes " ")) ∷ (codes "$true", token DollarWord []) ∷ (codes "$$x,", token DollarWord (codes ","))
    ∷ (codes "$X", nothing) ∷ (codes "$$$x", nothing) ∷ (codes "$", nothing) ∷ (codes "_x", nothing) ∷ (codes "`", nothing) ∷ (233 ∷ [], nothing) ∷ []
    )
unfolding piece_at symbol_piece dollar_piece
words = refl

quotes : Hold (
    (codes "'a b'.", token Quoted (codes ".")) ∷ (39 ∷ 92 ∷ 92 ∷ 39 ∷ [], token Quoted []) ∷ (39 ∷ 92 ∷ 39 ∷ 39 ∷ [], token Quoted []) ∷ (39 ∷ 92 ∷ 97 ∷ 39 ∷ [], nothing)
    ∷ (codes "''", nothing) ∷ (codes "'a", nothing) ∷ (39 ∷ 233 ∷ 39 ∷ [], nothing) ∷ (34 ∷ 34 ∷ [], token DistinctObject []) ∷ (34 ∷ 39 ∷ 34 ∷ [], token DistinctObject [])
    ∷ (34 ∷ 92 ∷ 34 ∷ [], nothing) ∷ []
    )
unfolding piece_at symbol_piece quoted_piece distinct_piece
quotes = refl

symbols : Hold (
    (codes "<=>", token (of_connective Equivalent) []) ∷ (codes "<~>", token (of_connective NotEquivalent) []) ∷ (codes "<=p", token (of_connective ImpliedBy) (codes "p"))
    ∷ (codes "<~p", token (of_mark Less) (codes "~p")) ∷ (codes "!=", token (of_connective NotEqual) []) ∷ []
    )
unfolding piece_at symbol_piece less_piece exclamation_piece
symbols = refl

gaps : Hold (
    (codes " x", gap (codes "x")) ∷ (codes "% x", gap []) ∷ (37 ∷ 233 ∷ 10 ∷ 120 ∷ [], gap (10 ∷ 120 ∷ [])) ∷ (codes "/* * / **/*/", gap (codes "*/"))
    ∷ (47 ∷ 42 ∷ 233 ∷ 42 ∷ 47 ∷ [], gap []) ∷ (codes "/*/", nothing) ∷ (codes "/* *", nothing) ∷ (codes "/ *", token (of_mark Slash) (codes " *")) ∷ []
    )
unfolding piece_at symbol_piece slash_piece
gaps = refl
