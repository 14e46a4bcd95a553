use Rattle.std.proofs.Common.{◌∙◌, sym}
use Rattle.pth_text.proofs.Numbers.{digit_here}
use Rattle.pth_text.proofs.number.digit.Goals as goal

pub returns : goal.returns
returns c = digit_here c.args.b (sym c.is_ascii_digit.ensures.value ∙ c.if-not-is_ascii_digit.false)
