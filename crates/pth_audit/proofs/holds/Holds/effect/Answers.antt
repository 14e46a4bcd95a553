use Rattle.std.proofs.Common.{◌∙◌, ap, sym, Bool}
use Rattle.pth_audit.specs.Holds.{answered_effect, effect_of, has_awaited}
use Rattle.pth_audit.proofs.holds.Holds.effect.Goals as goal

pub returns-in-Answered : goal.returns-in-Answered
returns-in-Answered c =
    c.answered_effect.ensures
    ∙ ap (λ (b : Bool). answered_effect b c.in-Answered.tid.0 c.in-Answered.call c.in-Answered.answer) c.is_awaiting.ensures
    ∙ sym (ap (effect_of (has_awaited c.args.self.now)) c.in-Answered.is)
