use Rattle.pth_waits.proofs.IoCalls.{io_begins, io_counted}
use Rattle.pth_waits.proofs.io.try_first.Goals as goal

pub begin_waiting-requires-clause-counted : goal.begin_waiting-requires-clause-counted
begin_waiting-requires-clause-counted g c =
    let verdict = rw c.kernel_mut.ensures.value at c.in_ok-verdict.ensures.verdict in
    let after = rw c.kernel_mut.ensures.value at c.in_ok-verdict.ensures.after in
    io_counted g.P.Program.functions c.args.w.now c.requires.whole c.try_awaited.new.k c.args.t.0 c.args.call.now c.args.awaits c.requires.may c.in_ok-verdict.verdict verdict after
    c.requires.awaits c.requires.ring c.requires.length

pub returns-clause-attempts : goal.returns-clause-attempts
returns-clause-attempts g c =
    let verdict = rw c.kernel_mut.ensures.value at c.in_ok-verdict.ensures.verdict in
    let after = rw c.kernel_mut.ensures.value at c.in_ok-verdict.ensures.after in
    let once = rw c.kernel.ensures at c.is_at_once-at_once.ensures in
    let found = c.begin_waiting.ensures in
    io_begins g.P.Program.functions c.args.w.now c.requires.whole c.try_awaited.new.k c.args.t.0 c.args.call.now c.args.awaits c.requires.may c.in_ok-verdict.verdict verdict after
    c.requires.awaits c.requires.ring c.requires.length
    c.begin_waiting.new.w c.begin_waiting.result c.is_at_once-at_once.result c.ring_given.result once c.ring_given.ensures
    found.begins found.ready found.may
