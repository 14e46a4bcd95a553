use Rattle.std.proofs.Common.{◌+◌, refl, sym, arith}
use Rattle.std.proofs.lemmas.List.{length-map}
use Rattle.pth_queue.specs.declared.queue.Queue.TheVariants.{Ready}
use Rattle.pth_tables.specs.declared.mark.Mark.{Mark}
use Rattle.pth_tables.proofs.Counting.{few_rows}
use Rattle.pth_tables.proofs.Places.{at_after, at_low}
use Rattle.pth_tables.proofs.dispatching.due_behind.Goals as goal

pub returns-then-is_due-clause-at : goal.returns-then-is_due-clause-at
returns-then-is_due-clause-at c = at_after c.args.queues.now c.requires.orderly c.args.at c.requires.at (record { slot = c.in_ok-slot.slot; place = c.args.at.place + 1 }) refl (sym c.in_ok-slot.ensures)

pub is_due-requires : goal.is_due-requires
is_due-requires c =
    let next : Mark = record { slot = c.in_ok-slot.slot; place = c.args.at.place + 1 } in
    let low = at_low c.args.queues.now c.requires.orderly next (at_after c.args.queues.now c.requires.orderly c.args.at c.requires.at next refl (sym c.in_ok-slot.ensures)) in
    let room = c.requires.room in
    omega arith

pub overflow_add-result : goal.overflow_add-result
overflow_add-result c = let low = c.requires.at.low in omega (arith, few_rows Ready c.args.queues.now c.requires.orderly, length-map c.args.queues.now.ready (λ r. r.holder))
