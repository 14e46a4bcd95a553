use Rattle.std.proofs.Common.{refl, ◌∙◌}
use Rattle.pth_port.specs.Ports.{PortsOf, without_held}
use Rattle.pth_port.proofs.Changes.{names_same}
use Rattle.pth_port.proofs.HeldMessages.{dropped_mail, dropped_kept}
use Rattle.pth_port.proofs.Taking.{Sends, sends, has_room_for, no_port, none_sent}
use Rattle.pth_port.proofs.ports.Ports.send.Goals as goal
use Rattle.pth_port.proofs.ports.Ports.send.Goals.{After-set_queue}

pub add_last-queue-requires : goal.add_last-queue-requires
add_last-queue-requires c = has_room_for _ c.self.invariant c.args.p c.in-Some.queue c.in-Some.ensures c.args.n

abbrev before : After-set_queue → PortsOf
before c = record { ports = c.self.inside.ports.entries; stored_messages = c.self.inside.stored_messages.entries; made = c.self.inside.made; sent = c.self.inside.sent }

abbrev after : After-set_queue → PortsOf
after c = record (before c) { ports = c.set_queue.new.ports.entries; stored_messages = c.add_last-queue.new.stored_messages.entries }

went : (c : After-set_queue) → Sends (before c) (after c) c.args.p.0 c.args.n
went c = sends (before c) c.self.invariant c.args.p c.in-Some.queue c.in-Some.ensures c.args.n (after c) (rw (← c.self.view_is) at c.requires) (rw c.add_last-queue.ensures.queue at c.set_queue.ensures.ports) c.set_queue.ensures.count refl refl c.add_last-queue.ensures.stored_messages c.add_last-queue.ensures.count

pub invariant_of-self : goal.invariant_of-self
invariant_of-self c = (went c).kept

pub returns-in-Some-clause-mail : goal.returns-in-Some-clause-mail
returns-in-Some-clause-mail c = rw (← c.self.view_is) (went (goal.at.returns-in-Some-clause-mail c).After-set_queue).mail

pub returns-in-Some-clause-names : goal.returns-in-Some-clause-names
returns-in-Some-clause-names c = rw (← c.self.view_is) (went (goal.at.returns-in-Some-clause-names c).After-set_queue).names

pub invariant_of-self-in-None : goal.invariant_of-self-in-None
invariant_of-self-in-None c = dropped_kept _ _ c.self.invariant c.args.n (rw (← c.self.view_is) at c.requires) refl refl refl c.remove_stored.ensures.stored_messages c.remove_stored.ensures.count

pub returns-in-None-clause-mail : goal.returns-in-None-clause-mail
returns-in-None-clause-mail c = rw (← c.self.view_is)
    (λ m was. dropped_mail _ _ c.self.invariant c.args.n (rw (← c.self.view_is) at c.requires) refl refl refl c.remove_stored.ensures.stored_messages c.remove_stored.ensures.count ∙ none_sent (without_held c.args.n _) c.args.p.0 m (no_port _ c.args.p.0 c.in-None.ensures))

pub returns-in-None-clause-names : goal.returns-in-None-clause-names
returns-in-None-clause-names c = rw (← c.self.view_is) (names_same _ _ c.self.invariant c.args.n _ refl refl c.remove_stored.ensures.stored_messages)
