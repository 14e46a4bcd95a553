-- Pieces of lines in SVG.
use Rattle.std.specs.Prelude.{ℕ, List, ◌++◌, codes, decimal, flat_map}
use Rattle.pth_drawing.specs.declared.piece.Piece.{Piece}
use Rattle.pth_drawing.specs.declared.piece.Piece.TheVariants as piece

-- an attribute that is a number
abbrev pub attribute : (name : List ℕ) → ℕ → List ℕ
attribute name n = codes " " ++ (name ++ (codes "=\"" ++ (decimal n ++ codes "\"")))

-- a piece
abbrev pub piece_text : Piece → List ℕ
piece_text (piece.Plain text) = text.now
piece_text (piece.Number n) = decimal n
piece_text (piece.Attribute name n) = attribute name.now n

-- pieces one after another
abbrev pub text_of : List Piece → List ℕ
text_of pieces = flat_map piece_text pieces
