use Rattle.std.proofs.Common.{Some}
use Rattle.pth_port.proofs.Lookups.{stored_put}
use Rattle.pth_port.proofs.stored_messages.store_message.Goals as goal

pub returns-clause-stored_messages : goal.returns-clause-stored_messages
returns-clause-stored_messages c = stored_put c.args.stored_messages.now c.insert.new.self c.args.n (Some c.args.stored) c.in_ok-_none.ensures.updates
