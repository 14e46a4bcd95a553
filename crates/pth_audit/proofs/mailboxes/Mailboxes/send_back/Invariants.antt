use Rattle.std.proofs.Common.{◌≡◌, map}
use Rattle.std.specs.VecDeque.Iter.{deque_iter_rest}
use Rattle.pth_port.specs.Mail.{sent_back}
use Rattle.pth_audit.specs.Mailboxes.{message_of, mail_of}
use Rattle.pth_audit.proofs.mailboxes.Mailboxes.send_back.Given as goal

-- the messages that are left go back as all do
abbrev pub invariant-loop-stored : goal.invariant-loop-stored
invariant-loop-stored l = sent_back (map message_of (deque_iter_rest l.stored-iterator)) (mail_of l.self) ≡ sent_back (map message_of l.queue.items) (mail_of l.initial.self)
