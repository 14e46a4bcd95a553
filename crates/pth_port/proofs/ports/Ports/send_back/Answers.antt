use Rattle.std.proofs.Common.{◌≡◌, ℕ, is_some, sym, ◌∙◌, ap}
use Rattle.pth_port.specs.Mail.{Mail, Message, sent}
use Rattle.pth_port.specs.Ports.{reply_number, message, mail_of, with_held, without_held}
use Rattle.pth_port.proofs.MailSteps.{kept_after, back_done}
use Rattle.pth_port.proofs.ports.Ports.send_back.Goals as goal
use Rattle.pth_port.proofs.ports.Ports.send_back.Goals.{After-clear_held}

-- the message that goes on
abbrev stored : After-clear_held → Message
stored c = record (message c.args.n c.args.stored) { reply = 0 }

cleared : (c : After-clear_held) → mail_of c.clear_held.new.self ≡ with_held (stored c) (mail_of c.args.self.now)
cleared c = c.clear_held.ensures.mail (message c.args.n c.args.stored) c.requires

pub send-requires : goal.send-requires
send-requires c = let a = (goal.at.send-requires c).After-clear_held in ap is_some (kept_after _ _ (stored a) (cleared a))

pub returns-in-Some-clause-mail : goal.returns-in-Some-clause-mail
returns-in-Some-clause-mail c =
    let a = (goal.at.returns-in-Some-clause-mail c).After-clear_held in
    let q : Mail = mail_of c.args.self.now in
    let m : Message = message c.args.n c.args.stored in
    let reply : m.reply ≡ c.in-Some.port.0 = ap reply_number c.in-Some.is in
    c.send.ensures.mail (stored a) (kept_after q _ (stored a) (cleared a))
    ∙ ap (λ (z : Mail). sent c.in-Some.port.0 (stored a) (without_held c.args.n z)) (cleared a)
    ∙ ap (λ (i : ℕ). sent i (stored a) (without_held c.args.n (with_held (stored a) q))) (sym reply)
    ∙ back_done q c.args.closed.0 m (λ is. c.if-port-closed.true (sym reply ∙ is))
