use Rattle.std.proofs.Common.{◌∙◌, Err, ap}
use Rattle.pth_world.proofs.Telling.{has_still}
use Rattle.pth_waits.proofs.Attempted.{io_unawaited}
use Rattle.pth_waits.proofs.Attempting.{claimed_ready}
use Rattle.pth_waits.proofs.IoCalls.{answered_ready, begins_answered, io_told}
use Rattle.pth_waits.proofs.io.begin_waiting.Goals as goal

pub returns-in_default-clause-begins : goal.returns-in_default-clause-begins
returns-in_default-clause-begins g c s st none = begins_answered s c.args.at_once c.args.ring c.args.verdict c.in_default.not-Blocks

pub returns-in_default-clause-ready : goal.returns-in_default-clause-ready
returns-in_default-clause-ready g c call before s some st = answered_ready before c.args.w.now c.args.t.0 call c.args.ring c.args.verdict s some c.in_default.not-Blocks st

pub returns-then-at_once-clause-ready : goal.returns-then-at_once-clause-ready
returns-then-at_once-clause-ready g c call before s some st = io_told before c.args.w.now c.args.t.0 call c.count_or.result s some st

pub returns-in-Err-Fail-clause-ready : goal.returns-in-Err-Fail-clause-ready
returns-in-Err-Fail-clause-ready g c call before s some st =
    let same = c.claim_given.ensures.refused c.in-Err-Fail.errno (c.in-Err-Fail.is ∙ ap Err c.in-Err-Fail.field-0-is) in
    rw same (io_told before c.args.w.now c.args.t.0 call c.count_or-in-Err-Fail.result s some st)

pub returns-in-Ok-clause-ready : goal.returns-in-Ok-clause-ready
returns-in-Ok-clause-ready g c call before s some st =
    claimed_ready c.claim_given.new.w c.args.t.0 call c.args.ring c.in-Blocks.awaits s (io_unawaited before call some) (c.in-Ok.ensures.shows s.control st.control) (has_still c.args.w.now c.claim_given.new.w s c.claim_given.ensures.store st.store)
