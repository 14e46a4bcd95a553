use Rattle.std.proofs.Common.{◌≡◌, ℕ, is_some, sym, ◌∙◌, ap, SFits, w64, to_z-of_z}
use Rattle.pth_numbered.specs.Operands.{number}
use Rattle.pth_port.specs.Mail.{Mail, Message, sent, replied}
use Rattle.pth_port.specs.Ports.{mail_of, with_held, without_held}
use Rattle.pth_port.proofs.MailSteps.{kept_after, replied_done}
use Rattle.pth_port.proofs.ports.Ports.reply.Goals as goal

pub send-requires : goal.send-requires
send-requires c = ap is_some (kept_after _ _ _ c.rewrite_held.ensures.mail)

pub returns-clause-mail : goal.returns-clause-mail
returns-clause-mail c =
    let fits : SFits w64 c.args.v = c.ranges.v in
    let fits_too : SFits w64 c.args.m = c.ranges.m in
    let q : Mail = mail_of c.args.self.now in
    let n : ℕ = c.message_number-n.result in
    let n_is : n ≡ number c.args.m = rw to_z-of_z at c.message_number-n.ensures in
    let stored : Message = record { number = n; value = c.args.v; reply = 0 } in
    let written : mail_of c.rewrite_held.new.self ≡ with_held stored q = rw to_z-of_z at c.rewrite_held.ensures.mail in
    c.send.ensures.mail stored (kept_after q _ stored written)
    ∙ ap (λ (z : Mail). sent c.in-Some.port.0 stored (without_held n z)) written
    ∙ replied_done q n c.in-Some.port.0 c.args.v (q.kept n) c.in-Some.ensures.held c.in-Some.ensures.number c.in-Some.ensures.port (sym c.if-not-has.ensures.live)
    ∙ ap (λ (i : ℕ). replied c.args.v (q.kept i) q) n_is
