use Rattle.std.proofs.Common.{◌≡◌, ◌++◌, take}
use Rattle.pth_explaining.specs.Pieces.{text_of}
use Rattle.pth_explaining.proofs.piece.add_pieces.Given as goal

abbrev pub invariant-loop-piece : goal.invariant-loop-piece
invariant-loop-piece l = l.out ≡ l.initial.out ++ text_of (take l.piece-index l.pieces)
