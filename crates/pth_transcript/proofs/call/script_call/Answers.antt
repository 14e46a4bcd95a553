use Rattle.std.proofs.Common.{◌∙◌, ap, Some}
use Rattle.pth_line.specs.CallLines.{call_in}
use Rattle.pth_transcript.proofs.OwnBack.{same_line}
use Rattle.pth_transcript.proofs.ReadCalls.{first_scope, script_call_readable}
use Rattle.pth_transcript.proofs.call.script_call.Goals as goal

pub returns-in_ok-made-in-Some-Call-None-default : goal.returns-in_ok-made-in-Some-Call-None-default
returns-in_ok-made-in-Some-Call-None-default c =
    let arm = c.in-Some-Call-None-default in
    let made = c.in_ok-made-in-Some-Call-None-default in
    record {
      back = λ d scripted.
          let same = same_line _ _ _ _ arm.call scripted.line c.in_ok-call.ensures scripted.read arm.is arm.field-0-is in
          ap (λ x. Some x) (made.ensures ∙ ap (call_in first_scope) same ∙ scripted.made first_scope);
      readable = script_call_readable _ _ _ _ arm.call _ c.in_ok-call.ensures arm.is arm.field-0-is made.ensures;
    }
