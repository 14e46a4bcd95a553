use Rattle.std.proofs.Common.{rules, tests}
use Rattle.std.proofs.lemmas.Iterator.{YieldsList-from_slice}
use Rattle.std.proofs.lemmas.Iterator.Search.{all_from_yields_List}
use Rattle.pth_text.specs.Hex.{is_hex_digit}
use Rattle.pth_text.proofs.hex.are_hex_digits.Goals as goal

pub returns : goal.returns
returns c = all_from_yields_List (λ b. is_hex_digit b) _ _ c.all.result c.all.ensures.ran (YieldsList-from_slice c.args.bytes.now c.iter.ensures.rest) (λ x b q k. search (rules, tests))
