use Rattle.std.proofs.Common.{◌≡◌, rules}
use Rattle.std.specs.Prelude.{option_map}
use Rattle.pth_base.specs.declared.mark.Mark.TheVariants as mark
use Rattle.pth_transcript.proofs.ReadMarks.{act_readable}
use Rattle.pth_transcript.proofs.thread.act.Goals as goal

pub returns-clause-readable : goal.returns-clause-readable
returns-clause-readable c =
    let mapped : c.map.result ≡ option_map (λ told. mark.Acted c.args.tid told.act told.answer) c.in_ok-handler_act.field-0 = search rules in
    act_readable c.args.tid (search rules) c.in_ok-handler_act.field-0 c.map.result mapped c.in_ok-handler_act.ensures.readable
