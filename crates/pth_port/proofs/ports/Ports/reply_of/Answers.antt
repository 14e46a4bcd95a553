use Rattle.std.proofs.Common.{refl, sym}
use Rattle.pth_port.proofs.MailSteps.{held_here, not_here, none_here, reply_some, reply_held, reply_none, number_kept, number_none, reply_absent}
use Rattle.pth_port.proofs.ports.Ports.reply_of.Goals as goal

pub returns-in_err-stored-clause-number : goal.returns-in_err-stored-clause-number
returns-in_err-stored-clause-number c = rw (← c.self.view_is) (number_none c.args.n _ (none_here _ c.args.n c.in_err-stored.ensures))

pub returns-in_err-stored-clause-none : goal.returns-in_err-stored-clause-none
returns-in_err-stored-clause-none c = rw (c.from_residual.ensures, ← c.self.view_is) (reply_absent _ c.self.invariant c.args.n (none_here _ c.args.n c.in_err-stored.ensures))

pub returns-then-is_held-clause-port : goal.returns-then-is_held-clause-port
returns-then-is_held-clause-port c = rw (← c.self.view_is) (reply_some c.in_ok-stored.stored.reply c.args.n c.in_ok-stored.stored.value _ (held_here _ c.args.n c.in_ok-stored.stored c.in_ok-stored.ensures (sym c.if-is_held.ensures)))

pub returns-then-is_held-clause-held : goal.returns-then-is_held-clause-held
returns-then-is_held-clause-held c = rw (← c.self.view_is) (reply_held c.in_ok-stored.stored.reply _ _ (held_here _ c.args.n c.in_ok-stored.stored c.in_ok-stored.ensures (sym c.if-is_held.ensures)))

pub returns-then-is_held-clause-number : goal.returns-then-is_held-clause-number
returns-then-is_held-clause-number c = rw (← c.self.view_is) (number_kept c.args.n _ _ (held_here _ c.args.n c.in_ok-stored.stored c.in_ok-stored.ensures (sym c.if-is_held.ensures)) refl)

pub returns-then-is_held-clause-none : goal.returns-then-is_held-clause-none
returns-then-is_held-clause-none c = rw (← c.self.view_is) (reply_none _ c.self.invariant c.args.n c.in_ok-stored.stored (held_here _ c.args.n c.in_ok-stored.stored c.in_ok-stored.ensures (sym c.if-is_held.ensures)))

pub returns-else-is_held-clause-number : goal.returns-else-is_held-clause-number
returns-else-is_held-clause-number c = rw (← c.self.view_is) (number_none c.args.n _ (not_here _ c.args.n c.in_ok-stored.stored c.in_ok-stored.ensures (sym c.if-is_held.ensures)))

pub returns-else-is_held-clause-none : goal.returns-else-is_held-clause-none
returns-else-is_held-clause-none c = rw (← c.self.view_is) (reply_absent _ c.self.invariant c.args.n (not_here _ c.args.n c.in_ok-stored.stored c.in_ok-stored.ensures (sym c.if-is_held.ensures)))
