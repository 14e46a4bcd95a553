use Rattle.pth_text.proofs.Numbers.{written_number_is_read}
use Rattle.pth_text.proofs.number.written_numbers_are_read.Goals as goal

pub returns : goal.returns
returns c = written_number_is_read
