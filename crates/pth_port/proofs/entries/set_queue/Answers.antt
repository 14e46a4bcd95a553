use Rattle.pth_port.specs.Ports.{with_queue}
use Rattle.pth_port.proofs.Lookups.{entry_written, entry_none}
use Rattle.pth_port.proofs.entries.set_queue.Goals as goal

pub returns-in-Some-clause-ports : goal.returns-in-Some-clause-ports
returns-in-Some-clause-ports c =
    let written = with_queue c.args.queue c.in-Some.port.now in
    entry_written c.args.ports.now (c.get_mut.follows.lender written) c.args.p c.in-Some.port.now (with_queue c.args.queue) (c.get_mut.follows.holds written) c.in-Some.ensures.value

pub returns-in_default-clause-ports : goal.returns-in_default-clause-ports
returns-in_default-clause-ports c = entry_none c.args.ports.now c.get_mut.follows.lender-at-none c.args.p (with_queue c.args.queue) c.get_mut.follows.holds-at-none c.in_default.ensures.value
