use Rattle.std.proofs.Common.{◌∙◌, ℤ, sym, ap, ap₂, Some}
use Rattle.pth_base.specs.declared.call.Call.TheVariants as call
use Rattle.pth_transcript.proofs.OwnBack.{reply_back, same_number, not_none}
use Rattle.pth_transcript.proofs.ReadCalls.{value_readable}
use Rattle.pth_transcript.proofs.call.reply.Goals as goal

pub returns-in_err-read_number-clause-back : goal.returns-in_err-read_number-clause-back
returns-in_err-read_number-clause-back c = λ d fine e. absurd (not_none _ _ c.in_err-read_number.ensures (reply_back _ _ d fine e).read_message)

pub returns-in_err-read_number-2-clause-back : goal.returns-in_err-read_number-2-clause-back
returns-in_err-read_number-2-clause-back c = λ d fine e. absurd (not_none _ _ c.in_err-read_number-2.ensures (reply_back _ _ d fine e).read_value)

pub returns-clause-back : goal.returns-clause-back
returns-clause-back c = λ d fine e.
    let r = reply_back _ _ d fine e in
    ap₂ (λ (m v : ℤ). Some (call.Reply m v))
    (same_number _ r.message _ c.in_ok-read_number.ensures r.read_message r.small_message)
    (same_number _ r.value _ c.in_ok-read_number-2.ensures r.read_value r.small_value)
    ∙ ap (λ x. Some x) (sym r.is)

pub returns-clause-readable : goal.returns-clause-readable
returns-clause-readable c = (value_readable _ _ c.in_ok-read_number.ensures, (value_readable _ _ c.in_ok-read_number-2.ensures, tt))
