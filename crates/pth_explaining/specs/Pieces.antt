-- Pieces of lines.
use Rattle.std.specs.Prelude.{ℕ, List, decimal, flat_map}
use Rattle.pth_print.specs.WordTexts.{number_word}
use Rattle.pth_explaining.specs.declared.piece.Piece.{Piece}
use Rattle.pth_explaining.specs.declared.piece.Piece.TheVariants as piece

-- a piece
abbrev pub piece_text : Piece → List ℕ
piece_text (piece.Plain text) = text.now
piece_text (piece.Natural n) = decimal n
piece_text (piece.Number n) = number_word n

-- pieces one after another
abbrev pub text_of : List Piece → List ℕ
text_of pieces = flat_map piece_text pieces
