use Rattle.std.proofs.Common.{is_some, refl, sym, ◌∙◌, ap}
use Rattle.std.specs.Ordering.{nat_cmp}
use Rattle.std.specs.BTreeMap as tree
use Rattle.pth_audit.specs.Mailboxes.{messages_in}
use Rattle.pth_audit.proofs.MailTables.{some_map, queue_at}
use Rattle.pth_audit.proofs.mailboxes.has_port.Goals as goal

pub returns : goal.returns
returns c =
    let o = tree.get nat_cmp c.args.ports.now c.args.i in
    c.contains_key.ensures ∙ sym (some_map messages_in o) ∙ ap is_some (queue_at c.args.ports.now c.args.i o refl)
