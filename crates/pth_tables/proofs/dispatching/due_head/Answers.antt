use Rattle.std.proofs.Common.{refl, arith}
use Rattle.pth_tables.specs.declared.mark.Mark.{Mark}
use Rattle.pth_tables.proofs.Places.{at_head, at_low}
use Rattle.pth_tables.proofs.dispatching.due_head.Goals as goal

pub is_due-requires : goal.is_due-requires
is_due-requires c =
    let head : Mark = record { slot = c.in_ok-slot.slot; place = 0 } in
    let low = at_low c.args.queues.now c.requires.orderly head (at_head c.args.queues.now head refl c.in_ok-slot.ensures) in
    let room = c.requires.room in
    omega arith

pub returns-then-is_due-clause-at : goal.returns-then-is_due-clause-at
returns-then-is_due-clause-at c = at_head c.args.queues.now (record { slot = c.in_ok-slot.slot; place = 0 }) refl c.in_ok-slot.ensures
