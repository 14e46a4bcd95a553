use Rattle.std.proofs.Common.{Some, None, length, sym, ◌∙◌, ap}
use Rattle.std.proofs.lemmas.List.{length-map}
use Rattle.pth_audit.specs.Mailboxes.{message_of}
use Rattle.pth_audit.proofs.MailTables.{messages_at}
use Rattle.pth_audit.proofs.mailboxes.count_at.Goals as goal

pub returns-in-Some : goal.returns-in-Some
returns-in-Some c =
    let queue = c.in-Some.queue.now in
    c.len.ensures ∙ queue.ok.0 ∙ sym (length-map queue.items message_of)
    ∙ ap length (messages_at c.args.ports.now c.args.i (Some queue) c.in-Some.ensures.value)

pub returns-in-None : goal.returns-in-None
returns-in-None c = ap length (messages_at c.args.ports.now c.args.i None c.in-None.ensures.value)
