use Rattle.std.proofs.Common.{None}
use Rattle.pth_port.proofs.Lookups.{entry_put}
use Rattle.pth_port.proofs.entries.remove_port.Goals as goal

pub returns-clause-ports : goal.returns-clause-ports
returns-clause-ports c = entry_put c.args.ports.now c.remove-port.new.self c.args.p None c.remove-port.ensures.updates
