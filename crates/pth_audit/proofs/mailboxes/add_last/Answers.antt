use Rattle.pth_audit.proofs.MailTables.{sent_written, sent_nowhere}
use Rattle.pth_audit.proofs.mailboxes.add_last.Goals as goal

pub returns-in_ok-push_back : goal.returns-in_ok-push_back
returns-in_ok-push_back c =
    sent_written c.args.ports.now (c.get_mut.follows.lender c.push_back.new.self) c.args.i c.in-Some.queue.now c.push_back.new.self c.args.stored (c.get_mut.follows.holds c.push_back.new.self) c.in-Some.ensures.value c.in_ok-push_back.ensures.items

pub returns-in_default : goal.returns-in_default
returns-in_default c = sent_nowhere c.args.ports.now c.get_mut.follows.lender-at-none c.args.i c.args.stored c.get_mut.follows.holds-at-none c.in_default.ensures.value
