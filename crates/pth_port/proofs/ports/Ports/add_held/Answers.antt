use Rattle.std.proofs.Common.{◌+◌, arith, refl, sym, ap, SFits, w64, to_z-of_z}
use Rattle.std.proofs.lemmas.Result.{err_from_is_err_and}
use Rattle.pth_base.specs.declared.errno.Errno.TheVariants.{EAGAIN}
use Rattle.pth_port.proofs.Changes.{mail_made, names_same}
use Rattle.pth_port.proofs.HeldMessages.{none_given, none_held, added_mail, added_kept}
use Rattle.pth_port.proofs.Answering.{answer_test, answer_memory, answer_given, is_full, has_room}
use Rattle.pth_port.proofs.ports.Ports.add_held.Goals as goal

pub returns-then-len-ge-MOST_MESSAGES-clause-answer : goal.returns-then-len-ge-MOST_MESSAGES-clause-answer
returns-then-len-ge-MOST_MESSAGES-clause-answer c = rw (← c.self.view_is) (answer_test (λ n. n) _ EAGAIN _ (is_full _ c.self.invariant (omega arith)))

pub returns-in_err-n-clause-answer : goal.returns-in_err-n-clause-answer
returns-in_err-n-clause-answer c =
    let p = err_from_is_err_and c.from_residual.result c.from_residual.ensures.1 in
    rw (← c.self.view_is) (answer_memory (λ n. n) _ EAGAIN _ c.from_residual.result p.0 (has_room _ c.self.invariant (omega arith)) p.1 p.2)

pub store_message-requires : goal.store_message-requires
store_message-requires c = none_given _ c.self.invariant c.in_ok-n.n (omega (arith, c.in_ok-n.ensures.number))

pub returns-in_err-store_message-clause-answer : goal.returns-in_err-store_message-clause-answer
returns-in_err-store_message-clause-answer c =
    let p = err_from_is_err_and c.from_residual-in_err-store_message.result c.from_residual-in_err-store_message.ensures.1 in
    rw (← c.self.view_is) (answer_memory (λ n. n) _ EAGAIN _ c.from_residual-in_err-store_message.result p.0 (has_room _ c.self.invariant (omega arith)) p.1 p.2)

pub invariant_of-self-2 : goal.invariant_of-self-2
invariant_of-self-2 c =
    let fits : SFits w64 c.args.value = c.ranges.value in
    rw c.in_ok-n.ensures.number (added_kept _ _ c.self.invariant refl refl refl c.args.value c.args.reply (rw (to_z-of_z, c.in_ok-n.ensures.number) at c.in_ok-store_message.ensures.stored_messages) c.in_ok-store_message.ensures.count c.requires (omega arith))

pub returns-clause-answer : goal.returns-clause-answer
returns-clause-answer c = rw (← c.self.view_is, c.in_ok-n.ensures.number) (answer_given (λ n. n) _ EAGAIN _ (c.self.inside.sent + 1) (has_room _ c.self.invariant (omega arith)) (ap (λ n. n + 1) (sym (mail_made _))))

pub returns-clause-none : goal.returns-clause-none
returns-clause-none c =
    let fits : SFits w64 c.args.value = c.ranges.value in
    rw (← c.self.view_is, mail_made) (none_held _ _ c.self.invariant refl refl refl c.args.value c.args.reply (rw (to_z-of_z, c.in_ok-n.ensures.number) at c.in_ok-store_message.ensures.stored_messages) c.in_ok-store_message.ensures.count)

pub returns-clause-mail : goal.returns-clause-mail
returns-clause-mail c =
    let fits : SFits w64 c.args.value = c.ranges.value in
    rw (← c.self.view_is, c.in_ok-n.ensures.number) (added_mail _ _ c.self.invariant refl refl refl c.args.value c.args.reply (rw (to_z-of_z, c.in_ok-n.ensures.number) at c.in_ok-store_message.ensures.stored_messages) c.in_ok-store_message.ensures.count)

pub returns-clause-names : goal.returns-clause-names
returns-clause-names c = rw (← c.self.view_is) (names_same _ _ c.self.invariant c.in_ok-n.n _ refl refl c.in_ok-store_message.ensures.stored_messages)

pub returns-clause-number : goal.returns-clause-number
returns-clause-number c = rw (← c.self.view_is, c.in_ok-n.ensures.number) (ap (λ n. n + 1) (sym (mail_made _)))
