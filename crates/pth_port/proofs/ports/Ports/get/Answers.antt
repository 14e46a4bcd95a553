use Rattle.std.proofs.Common.{ℕ, ◌∙◌, ap, SFits, w64, to_z-of_z}
use Rattle.pth_port.specs.Mail.{Mail, Message, messages_of, got}
use Rattle.pth_port.specs.Ports.{message, mail_of, settled}
use Rattle.pth_port.proofs.MailSteps.{first_kept, got_done}
use Rattle.pth_port.proofs.ports.Ports.get.Goals as goal

pub settle-requires-clause-held : goal.settle-requires-clause-held
settle-requires-clause-held c =
    let h = c.in-Some-hold_first.ensures in
    ap (λ (z : Mail). z.kept c.in-Some-hold_first.n) h.mail ∙ first_kept (mail_of c.args.self.now) c.in-Some.port.0 _ _ h.first

pub returns-clause-mail : goal.returns-clause-mail
returns-clause-mail c =
    let fits : SFits w64 c.args.p = c.ranges.p in
    let port = rw to_z-of_z at c.in-Some.ensures.number in
    let q : Mail = mail_of c.args.self.now in
    let stored : Message = message c.in-Some-hold_first.n c.in-Some-hold_first.stored in
    let h = c.in-Some-hold_first.ensures in
    c.settle.ensures.mail
    ∙ ap (settled stored) h.mail
    ∙ got_done q c.in-Some.port.0 stored (messages_of (q.at c.in-Some.port.0)) h.first h.fresh
    ∙ ap (λ (i : ℕ). got i (messages_of (q.at i)) q) port
