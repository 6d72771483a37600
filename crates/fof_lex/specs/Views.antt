-- What the pieces that the program finds stand for.
use Rattle.fof_lex.specs.Reading as reading
use Rattle.fof_lex.specs.declared.piece.Piece.{Piece}
use Rattle.fof_lex.specs.declared.piece.Piece.TheVariants.{Gap, Token, Nothing}

abbrev pub piece_of : Piece → reading.Piece
piece_of (Gap rest) = reading.gap rest.now
piece_of (Token kind rest) = reading.token kind rest.now
piece_of Nothing = reading.nothing
