use Rattle.pth_port.specs.Ports.{without_reply}
use Rattle.pth_port.proofs.Lookups.{stored_written, stored_none}
use Rattle.pth_port.proofs.stored_messages.clear_reply.Goals as goal

pub returns-in-Some-clause-stored_messages : goal.returns-in-Some-clause-stored_messages
returns-in-Some-clause-stored_messages c =
    let written = without_reply c.in-Some.stored.now in
    stored_written c.args.stored_messages.now (c.get_mut.follows.lender written) c.args.n c.in-Some.stored.now without_reply (c.get_mut.follows.holds written) c.in-Some.ensures.value

pub returns-in_default-clause-stored_messages : goal.returns-in_default-clause-stored_messages
returns-in_default-clause-stored_messages c = stored_none c.args.stored_messages.now c.get_mut.follows.lender-at-none c.args.n without_reply c.get_mut.follows.holds-at-none c.in_default.ensures.value
