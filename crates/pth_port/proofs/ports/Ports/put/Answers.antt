use Rattle.std.proofs.Common.{◌≡◌, ℕ, is_some, sym, ◌∙◌, ap, ap₂, SFits, w64, to_z-of_z}
use Rattle.pth_numbered.specs.Operands.{number}
use Rattle.pth_port.specs.Mail.{Mail, Message, sent}
use Rattle.pth_port.specs.Ports.{reply_number, mail_of, with_held, without_held}
use Rattle.pth_port.proofs.MailSteps.{kept_after, reply_known, put_done}
use Rattle.pth_port.proofs.ports.Ports.put.Goals as goal
use Rattle.pth_port.proofs.ports.Ports.put.Goals.{In_ok-n}

-- the message that is put
abbrev stored : In_ok-n → Message
stored c = record { number = c.in_ok-n.n; value = c.args.v; reply = reply_number c.in-Ok.reply }

added : (c : In_ok-n) → mail_of c.add_held.new.self ≡ with_held (stored c) (record (mail_of c.args.self.now) { made = c.in_ok-n.n })
added c = let fits : SFits w64 c.args.v = c.ranges.v in rw to_z-of_z at c.in_ok-n.ensures.mail

pub send-requires : goal.send-requires
send-requires c = let a = (goal.at.send-requires c).In_ok-n in ap is_some (kept_after _ _ (stored a) (added a))

pub returns-clause-mail : goal.returns-clause-mail
returns-clause-mail c =
    let a = (goal.at.returns-clause-mail c).In_ok-n in
    let q : Mail = mail_of c.args.self.now in
    let n : ℕ = c.in_ok-n.n in
    let fits : SFits w64 c.args.p = c.ranges.p in
    let fits_too : SFits w64 c.args.reply = c.ranges.reply in
    let live = rw to_z-of_z at c.in-Some.ensures.live in
    let port = rw to_z-of_z at c.in-Some.ensures.number in
    let known = rw to_z-of_z at c.in-Ok.ensures.known in
    let reply = rw to_z-of_z at c.in-Ok.ensures.number in
    c.send.ensures.mail (stored a) (kept_after _ _ (stored a) (added a))
    ∙ ap (λ (z : Mail). sent c.in-Some.port.0 (stored a) (without_held n z)) (added a)
    ∙ ap₂ (λ (i j : ℕ). sent i (record { number = n; value = c.args.v; reply = j }) (without_held n (with_held (record { number = n; value = c.args.v; reply = j }) (record q { made = n })))) port reply
    ∙ put_done q (number c.args.p) (number c.args.reply) n c.args.v (sym live) (reply_known q c.args.reply known) c.in_ok-n.ensures.number (ap q.kept c.in_ok-n.ensures.number ∙ c.in_ok-n.ensures.none)
