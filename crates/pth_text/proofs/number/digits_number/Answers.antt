use Rattle.std.proofs.Common.{get_or, ◌∙◌, ◌<◌, ◌≤◌, ◌^◌, sym, arith, rules}
use Rattle.pth_text.proofs.Numbers.{digit_missing, digit_taken, digits_done, low_digit, low_more, low_number}
use Rattle.pth_text.proofs.number.digits_number.Goals as goal

pub returns-in_err-d : goal.returns-in_err-d
returns-in_err-d c = c.from_residual.ensures ∙ sym (c.loop-b.invariant.rest ∙ digit_missing c.args.digits.now c.loop-b.b-index c.loop-b.n c.loop-b-test.true c.in_err-d.ensures)

pub overflow_mul-n : goal.overflow_mul-n
overflow_mul-n c =
    let few : c.loop-b.b-index ≤ 17 = omega arith in
    let low : c.loop-b.n < 10 ^ 17 = low_number c.loop-b.n c.loop-b.b-index c.loop-b.invariant.low few in
    search rules

pub overflow_add-n : goal.overflow_add-n
overflow_add-n c =
    let few : c.loop-b.b-index ≤ 17 = omega arith in
    let low : c.loop-b.n < 10 ^ 17 = low_number c.loop-b.n c.loop-b.b-index c.loop-b.invariant.low few in
    let small : c.in_ok-d.d < 10 = low_digit (get_or c.args.digits.now c.loop-b.b-index 0) c.in_ok-d.d c.in_ok-d.ensures in
    search rules

pub loop-b-preserved : goal.loop-b-preserved
loop-b-preserved c = record {
  rest = c.loop-b.invariant.rest ∙ digit_taken c.args.digits.now c.loop-b.b-index c.loop-b.n c.in_ok-d.d c.loop-b-test.true c.in_ok-d.ensures;
  low = low_more c.loop-b.n c.loop-b.b-index c.in_ok-d.d c.loop-b.invariant.low (low_digit (get_or c.args.digits.now c.loop-b.b-index 0) c.in_ok-d.d c.in_ok-d.ensures);
}

pub returns : goal.returns
returns c = sym (c.loop-b.invariant.rest ∙ digits_done c.args.digits.now c.loop-b.b-index c.loop-b.n c.loop-b-test.false)
