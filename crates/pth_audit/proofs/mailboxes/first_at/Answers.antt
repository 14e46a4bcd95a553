use Rattle.std.proofs.Common.{◌≡◌, ◌<◌, Some, None, length, option_map, sym, ◌∙◌, ap, subst}
use Rattle.pth_audit.specs.Mailboxes.{message_of, first}
use Rattle.pth_audit.proofs.MailTables.{messages_at, first_seen}
use Rattle.pth_audit.proofs.mailboxes.first_at.Goals as goal

pub returns-in-Some : goal.returns-in-Some
returns-in-Some c =
    let queue = c.in-Some.queue.now in
    let long : queue.len ≡ length queue.items = queue.ok.0 in
    ap (option_map message_of) c.copied.ensures
    ∙ first_seen queue.items c.front.result
    (λ some. subst (λ n. 0 < n) long (c.front.ensures.variant.0 some))
    (λ some. c.front.ensures.variant.1 (subst (λ n. 0 < n) (sym long) some))
    c.front.ensures.lookup
    ∙ ap first (messages_at c.args.ports.now c.args.i (Some queue) c.in-Some.ensures.value)

pub returns-in-None : goal.returns-in-None
returns-in-None c = ap first (messages_at c.args.ports.now c.args.i None c.in-None.ensures.value)
