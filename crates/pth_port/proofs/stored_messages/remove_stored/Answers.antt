use Rattle.std.proofs.Common.{None}
use Rattle.pth_port.proofs.Lookups.{stored_put}
use Rattle.pth_port.proofs.stored_messages.remove_stored.Goals as goal

pub returns-clause-stored_messages : goal.returns-clause-stored_messages
returns-clause-stored_messages c = stored_put c.args.stored_messages.now c.remove-stored.new.self c.args.n None c.remove-stored.ensures.updates
