use Rattle.pth_text.proofs.Pairs.{written_bytes_are_read}
use Rattle.pth_text.proofs.hex.written_bytes_are_read.Goals as goal

pub returns : goal.returns
returns c = written_bytes_are_read
