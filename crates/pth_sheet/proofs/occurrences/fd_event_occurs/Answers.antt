use Rattle.std.proofs.Common.{◌≡◌, ◌∙◌, ◌&&◌, ◌||◌, not, Bool, true, false, Some, refl, ap}
use Rattle.pth_base.specs.Descriptors.{contains}
use Rattle.pth_base.specs.declared.event.EventSpec.{EventSpec}
use Rattle.pth_kernel.specs.Kernel.{fd_named, is_fd_live, is_readable, is_writeable, is_exceptional}
use Rattle.pth_ring.specs.declared.event.Event.{Event}
use Rattle.pth_ring.specs.Rings.{with_status, with_next_look}
use Rattle.pth_model.specs.Looks.{found, found_by, next_look}
use Rattle.pth_sheet.specs.Events.{failed, occurred, pending}
use Rattle.pth_numbered.specs.Clauses.{◌when◌otherwise◌}
use Rattle.pth_sheet.proofs.Passes.{event_looked_at}
use Rattle.pth_sheet.proofs.occurrences.fd_event_occurs.Goals as goal

-- one of three tests, or each in its turn
one_of_three : (fails a b c : Bool) (x : Event) → with_status (found_by fails (a || b || c)) x ≡ (failed when fails otherwise occurred when a otherwise occurred when b otherwise occurred when c otherwise pending) x
one_of_three true a b c x = refl
one_of_three false true true true x = refl
one_of_three false true true false x = refl
one_of_three false true false true x = refl
one_of_three false true false false x = refl
one_of_three false false true true x = refl
one_of_three false false true false x = refl
one_of_three false false false true x = refl
one_of_three false false false false x = refl

pub returns : goal.returns
returns p c = λ s e goals fd x of_fd here awaited.
    let f = p.P.Program.functions in
    let k = s.control.kernel in
    event_looked_at f s e x here awaited
    ∙ ap (λ (spec : EventSpec). Some (with_next_look (next_look f s x.next_look spec) (with_status (found f s e x.next_look spec) x))) of_fd
    ∙ ap (λ (y : Event). Some y) (one_of_three (not (is_fd_live k (fd_named fd))) (contains goals 0 && is_readable k (fd_named fd)) (contains goals 1 && is_writeable k (fd_named fd)) (contains goals 2 && is_exceptional k (fd_named fd)) x)
