use Rattle.std.proofs.Common.{◌∙◌, sym, arith}
use Rattle.pth_queue.specs.Arena.{slots_of}
use Rattle.pth_tables.specs.Waits.{waits_of}
use Rattle.pth_tables.proofs.Places.{at_low}
use Rattle.pth_tables.proofs.Walks.{reaches_one}
use Rattle.pth_tables.proofs.dispatching.meet_next.Goals as goal

pub reach-requires : goal.reach-requires
reach-requires c = let low = at_low c.args.queues.now c.requires.orderly c.in-Some-due_behind.next c.in-Some-due_behind.ensures.at in let room = c.requires.room in omega arith

pub returns-clause-met : goal.returns-clause-met
returns-clause-met c met =
    let one = c.if-due-ne1.false in
    reaches_one (slots_of c.args.queues.now.ready) (waits_of c.args.waits.now) c.in-Some-due_behind.next (waits_of c.reach.new.self) c.in-Some-due_behind.ensures.at c.in-Some-due_behind.ensures.due (sym c.requires.told ∙ one) c.reach.ensures.value
