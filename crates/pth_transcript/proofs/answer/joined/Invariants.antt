use Rattle.std.proofs.Common.{◌≡◌, ◌<◌, ℕ, List, All}
use Rattle.pth_text.specs.Hex.{hex_of}
use Rattle.pth_transcript.proofs.Pieces.{IsLeft}
use Rattle.pth_transcript.proofs.answer.joined.Given as goal

abbrev pub invariant-loop-piece : goal.invariant-loop-piece
invariant-loop-piece l = record {
  size : l.piece-iterator.size ≡ 4096;
  small : All (λ b. b < 256) l.bytes.items;
  left : (bs : List ℕ) → All (λ b. b < 256) bs → l.digits ≡ hex_of bs → IsLeft bs l.bytes.items l.piece-iterator.rest.now;
}
