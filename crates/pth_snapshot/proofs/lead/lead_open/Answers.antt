use Rattle.std.proofs.Common.{◌∙◌}
use Rattle.pth_snapshot.proofs.Leading.{led_on, led_here}
use Rattle.pth_snapshot.proofs.lead.lead_open.Goals as goal

pub returns-then-is_open-clause-led : goal.returns-then-is_open-clause-led
returns-then-is_open-clause-led g c = λ lasts given st.
    led_on g.P.Program.functions given c.args.place c.wait_until.result c.open-outcome.new.machine c.wait_until.new.machine c.requires.kind
    (c.open-outcome.ensures.opened (λ over. (let goes = (c.is_open.ensures.between c.if-is_open.true).goes in let e = c.open-outcome.ensures.outcome ∙ goes in cc (e, over))) given st)
    (c.wait_until.ensures.comes lasts given)

pub returns-clause-led : goal.returns-clause-led
returns-clause-led g c = λ lasts given st.
    led_here g.P.Program.functions given c.args.place c.open-outcome.result c.open-outcome.new.machine c.requires.kind c.open-outcome.ensures.outcome (c.is_open.ensures.step c.if-is_open.false) (c.open-outcome.ensures.opened lasts given st)
