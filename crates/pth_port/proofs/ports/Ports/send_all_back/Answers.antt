use Rattle.std.proofs.Common.{◌∙◌, ap, arith}
use Rattle.pth_port.specs.Mail.{Mail}
use Rattle.pth_port.specs.Ports.{message, mail_of, gone_on}
use Rattle.pth_port.proofs.MailSteps.{first_kept, Goes, goes}
use Rattle.pth_port.proofs.ports.Ports.send_all_back.Goals as goal
use Rattle.pth_port.proofs.ports.Ports.send_all_back.Goals.{After-send_back}

pub send_back-requires : goal.send_back-requires
send_back-requires c =
    let h = c.in-Some.ensures in
    ap (λ (z : Mail). z.kept c.in-Some.n) h.mail ∙ first_kept (mail_of c.loop-n.self) c.args.port.0 _ _ h.first

went : (c : After-send_back) → Goes (mail_of c.loop-n.self) (mail_of c.send_back.new.self) c.args.port.0
went c =
    let h = c.in-Some.ensures in
    goes (mail_of c.loop-n.self) (mail_of c.send_back.new.self) c.args.port.0 (message c.in-Some.n c.in-Some.stored) h.first h.fresh (c.send_back.ensures.mail ∙ ap (gone_on c.args.port.0 (message c.in-Some.n c.in-Some.stored)) h.mail)

pub loop-n-smaller : goal.loop-n-smaller
loop-n-smaller c = let fewer = (went c).fewer in omega arith

pub loop-n-preserved : goal.loop-n-preserved
loop-n-preserved c = record {
  mail = (went c).closed ∙ c.loop-n.invariant.mail;
  live = (went c).live ∙ c.loop-n.invariant.live;
  names = c.send_back.ensures.names ∙ c.in-Some.ensures.names ∙ c.loop-n.invariant.names;
}
