use Rattle.std.proofs.Common.{◌≡◌, ◌∙◌, Some, None, rules}
use Rattle.pth_threads.specs.Threads.{slot_of}
use Rattle.pth_world.proofs.Waits.{no_place, no_place_unknown}
use Rattle.pth_world.proofs.world.World.ready_slot.Goals as goal

pub returns-in_default-clause-none : goal.returns-in_default-clause-none
returns-in_default-clause-none g c none k sh =
    let at : slot_of c.args.self.now.threads.records c.args.t.0 ≡ None = search rules in
    no_place_unknown c.args.self.now.threads k c.requires sh.threads c.args.t.0 at

pub returns-else-is_ready-clause-none : goal.returns-else-is_ready-clause-none
returns-else-is_ready-clause-none g c none k sh =
    let at : slot_of c.args.self.now.threads.records c.args.t.0 ≡ Some c.in-Some.slot.0 = search rules in
    no_place c.args.self.now.threads k c.requires sh.threads c.args.t.0 c.in-Some.slot.0 at
    (λ ready. c.is_ready.ensures.no c.if-is_ready.false (c.queue_of.ensures.value ∙ rw c.queues.ensures ready))
