use Rattle.std.proofs.Common.{Some}
use Rattle.pth_port.proofs.Lookups.{entry_put}
use Rattle.pth_port.proofs.entries.add_port.Goals as goal

pub returns-clause-ports : goal.returns-clause-ports
returns-clause-ports c = entry_put c.args.ports.now c.insert.new.self c.args.p (Some c.args.port) c.in_ok-_none.ensures.updates
