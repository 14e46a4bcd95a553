use Rattle.std.proofs.Common.{◌∙◌, sym}
use Rattle.pth_text.proofs.Numbers.{number_is_read, number_none, numeral_is_text}
use Rattle.pth_text.proofs.number.any_number.Goals as goal

pub returns-then-not-is_numeral : goal.returns-then-not-is_numeral
returns-then-not-is_numeral c = number_none _ (sym c.is_numeral.ensures ∙ c.if-not-is_numeral.true)

pub returns-in-Ok : goal.returns-in-Ok
returns-in-Ok c =
    let yes = sym c.is_numeral.ensures ∙ c.if-not-is_numeral.false in
    c.ok.ensures.value ∙ number_is_read c.args.word.now c.parse.result yes (rw c.in-Ok.ensures.cases.0 at c.parse.ensures.value.0)

pub returns-in-Err : goal.returns-in-Err
returns-in-Err c = absurd (c.in-Err.ensures.cases.0 (numeral_is_text c.args.word.now (sym c.is_numeral.ensures ∙ c.if-not-is_numeral.false)))
