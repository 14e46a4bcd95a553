use Rattle.std.proofs.Common.{◌+◌, refl, sym, ap, arith}
use Rattle.std.proofs.lemmas.Result.{err_from_is_err_and}
use Rattle.pth_base.specs.declared.errno.Errno.TheVariants.{EEXIST, EAGAIN}
use Rattle.pth_base.specs.declared.ids.PortId.{PortId}
use Rattle.pth_port.proofs.Changes.{names_made}
use Rattle.pth_port.proofs.Naming.{no_port_yet, new_mail, new_names, new_kept, ports_full, ports_room}
use Rattle.pth_port.proofs.Answering.{answer_test, answer_memory, answer_given, answer_past}
use Rattle.pth_port.proofs.ports.Ports.create.Goals as goal

pub returns-then-len-ge-MOST_PORTS-clause-answer : goal.returns-then-len-ge-MOST_PORTS-clause-answer
returns-then-len-ge-MOST_PORTS-clause-answer c =
    let free = rw (← c.self.view_is) at c.if-is_taken.ensures in
    rw (← c.self.view_is) (answer_past (λ (p : PortId). p.0) EEXIST _ _ _ (sym free) (answer_test (λ (p : PortId). p.0) _ EAGAIN _ (ports_full _ c.self.invariant (omega arith))))

pub overflow_add-p : goal.overflow_add-p
overflow_add-p c = let fits = rw (← c.self.view_is, names_made) at c.requires in omega arith

pub add_port-requires : goal.add_port-requires
add_port-requires c = no_port_yet _ c.self.invariant

pub returns-in_err-add_port-clause-answer : goal.returns-in_err-add_port-clause-answer
returns-in_err-add_port-clause-answer c =
    let free = rw (← c.self.view_is) at c.if-is_taken.ensures in
    let p = err_from_is_err_and c.from_residual.result c.from_residual.ensures.1 in
    rw (← c.self.view_is) (answer_past (λ (p : PortId). p.0) EEXIST _ _ _ (sym free) (answer_memory (λ (p : PortId). p.0) _ EAGAIN _ c.from_residual.result p.0 (ports_room _ c.self.invariant (omega arith)) p.1 p.2))

pub invariant_of-self-2 : goal.invariant_of-self-2
invariant_of-self-2 c =
    let free = rw (← c.self.view_is) at c.if-is_taken.ensures in
    let fits = rw (← c.self.view_is, names_made) at c.requires in
    new_kept _ c.self.invariant _ c.new_port.result c.new_port.ensures.queue c.in_ok-add_port.ensures.ports c.in_ok-add_port.ensures.count refl refl refl (rw c.new_port.ensures.name (sym free)) (omega arith) (omega arith)

pub returns-clause-answer : goal.returns-clause-answer
returns-clause-answer c =
    let free = rw (← c.self.view_is) at c.if-is_taken.ensures in
    rw (← c.self.view_is) (answer_past (λ (p : PortId). p.0) EEXIST _ _ _ (sym free) (answer_given (λ (p : PortId). p.0) _ EAGAIN _ (record { 0 = c.self.inside.made + 1 }) (ports_room _ c.self.invariant (omega arith)) (ap (λ n. n + 1) (sym (names_made _)))))

pub returns-clause-mail : goal.returns-clause-mail
returns-clause-mail c = rw (← c.self.view_is) (new_mail _ c.self.invariant _ c.new_port.result c.new_port.ensures.queue c.in_ok-add_port.ensures.ports c.in_ok-add_port.ensures.count refl refl refl)

pub returns-clause-names : goal.returns-clause-names
returns-clause-names c = rw (← c.self.view_is, ← c.new_port.ensures.name) (new_names _ c.self.invariant _ c.new_port.result c.new_port.ensures.queue c.in_ok-add_port.ensures.ports c.in_ok-add_port.ensures.count refl refl refl)
