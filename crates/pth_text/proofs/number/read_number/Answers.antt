use Rattle.std.proofs.Common.{◌∙◌, ◌<◌, ◌^◌, Some, w64, ap, sym, rules}
use Rattle.std.proofs.lemmas.Int.{to_z_pos}
use Rattle.pth_text.proofs.Numbers.{plain_low, plain_none, plain_short, plain_some}
use Rattle.pth_text.proofs.number.read_number.Goals as goal

pub digits_number-requires : goal.digits_number-requires
digits_number-requires c = plain_short c.args.word.now (sym c.is_plain.ensures ∙ c.if-not-is_plain.false)

pub returns-in_err-n : goal.returns-in_err-n
returns-in_err-n c = c.from_residual.ensures ∙ plain_none c.args.word.now (sym c.is_plain.ensures ∙ c.if-not-is_plain.false) c.in_err-n.ensures

pub overflow_cast-result : goal.overflow_cast-result
overflow_cast-result c =
    let low : c.in_ok-n.n < 2 ^ 63 = plain_low c.args.word.now c.in_ok-n.n (sym c.is_plain.ensures ∙ c.if-not-is_plain.false) c.in_ok-n.ensures in
    search rules

pub returns : goal.returns
returns c =
    let plain = sym c.is_plain.ensures ∙ c.if-not-is_plain.false in
    ap (λ n. Some n) (to_z_pos w64 c.in_ok-n.n (plain_low c.args.word.now c.in_ok-n.n plain c.in_ok-n.ensures)) ∙ plain_some c.args.word.now c.in_ok-n.n plain c.in_ok-n.ensures
