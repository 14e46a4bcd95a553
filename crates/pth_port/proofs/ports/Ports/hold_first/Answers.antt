use Rattle.std.proofs.Common.{refl, sym, ap}
use Rattle.pth_port.specs.Mail.{messages_of}
use Rattle.pth_port.specs.Ports.{PortsOf, first_message}
use Rattle.pth_port.proofs.Taking.{Takes, takes, none_queued, no_port, none_first}
use Rattle.pth_port.proofs.ports.Ports.hold_first.Goals as goal
use Rattle.pth_port.proofs.ports.Ports.hold_first.Goals.{After-set_queue}

pub returns-in_err-queue-clause-first : goal.returns-in_err-queue-clause-first
returns-in_err-queue-clause-first c =
    rw (c.from_residual.ensures, ← c.self.view_is) (sym (ap (λ o. first_message (messages_of o)) (no_port _ c.args.p.0 c.in_err-queue.ensures)))

pub returns-in_err-queue-clause-mail : goal.returns-in_err-queue-clause-mail
returns-in_err-queue-clause-mail c =
    rw (← c.self.view_is) (none_first _ c.args.p.0 _ (ap messages_of (no_port _ c.args.p.0 c.in_err-queue.ensures)))

pub returns-in_err-n-clause-first : goal.returns-in_err-n-clause-first
returns-in_err-n-clause-first c =
    rw (c.from_residual-in_err-n.ensures, ← c.self.view_is) (sym (ap first_message (none_queued _ c.self.invariant c.args.p.0 c.in_ok-queue.queue c.in_ok-queue.ensures c.in_err-n.ensures)))

pub returns-in_err-n-clause-mail : goal.returns-in_err-n-clause-mail
returns-in_err-n-clause-mail c =
    rw (← c.self.view_is) (none_first _ c.args.p.0 _ (none_queued _ c.self.invariant c.args.p.0 c.in_ok-queue.queue c.in_ok-queue.ensures c.in_err-n.ensures))

abbrev before : After-set_queue → PortsOf
before c = record { ports = c.self.inside.ports.entries; stored_messages = c.self.inside.stored_messages.entries; made = c.self.inside.made; sent = c.self.inside.sent }

abbrev after : After-set_queue → PortsOf
after c = record (before c) { ports = c.set_queue.new.ports.entries; stored_messages = c.set_place.new.stored_messages.entries }

took : (c : After-set_queue) → Takes (before c) (after c) c.args.p.0 c.in_ok-n.n c.in_ok-n.stored
took c = takes (before c) c.self.invariant c.args.p.0 c.in_ok-queue.queue c.in_ok-queue.ensures (after c) c.in_ok-n.n c.in_ok-n.stored c.next.result c.without_first-queue.result c.in_ok-n.ensures c.next.ensures c.without_first-queue.ensures c.set_queue.ensures.ports c.set_queue.ensures.count refl refl c.set_place.ensures.stored_messages c.set_place.ensures.count

pub invariant_of-self : goal.invariant_of-self
invariant_of-self c = (took c).kept

pub returns-clause-first : goal.returns-clause-first
returns-clause-first c = rw (← c.self.view_is) (took (goal.at.returns-clause-first c).After-set_queue).first

pub returns-clause-mail : goal.returns-clause-mail
returns-clause-mail c = rw (← c.self.view_is) (took (goal.at.returns-clause-mail c).After-set_queue).mail

pub returns-clause-names : goal.returns-clause-names
returns-clause-names c = rw (← c.self.view_is) (took (goal.at.returns-clause-names c).After-set_queue).names

pub returns-clause-replies : goal.returns-clause-replies
returns-clause-replies c = (took (goal.at.returns-clause-replies c).After-set_queue).reply

pub returns-clause-fresh : goal.returns-clause-fresh
returns-clause-fresh c = rw (← c.self.view_is) (took (goal.at.returns-clause-fresh c).After-set_queue).fresh
