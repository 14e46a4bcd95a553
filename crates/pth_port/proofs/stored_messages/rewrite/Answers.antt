use Rattle.std.proofs.Common.{SFits, w64, to_z-of_z}
use Rattle.pth_port.specs.Ports.{rewritten}
use Rattle.pth_port.proofs.Lookups.{stored_written, stored_none}
use Rattle.pth_port.proofs.stored_messages.rewrite.Goals as goal

pub returns-in-Some-clause-stored_messages : goal.returns-in-Some-clause-stored_messages
returns-in-Some-clause-stored_messages c =
    let written = rewritten c.args.value c.in-Some.stored.now in
    let fits : SFits w64 c.args.value = c.ranges.value in
    rw to_z-of_z (stored_written c.args.stored_messages.now (c.get_mut.follows.lender written) c.args.n c.in-Some.stored.now (rewritten c.args.value) (c.get_mut.follows.holds written) c.in-Some.ensures.value)

pub returns-in_default-clause-stored_messages : goal.returns-in_default-clause-stored_messages
returns-in_default-clause-stored_messages c = stored_none c.args.stored_messages.now c.get_mut.follows.lender-at-none c.args.n (rewritten c.args.value) c.get_mut.follows.holds-at-none c.in_default.ensures.value
