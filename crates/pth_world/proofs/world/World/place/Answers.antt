use Rattle.std.proofs.Common.{◌≡◌, ◌∙◌, Some, None, rules}
use Rattle.pth_queue.specs.Queues.{place_of}
use Rattle.pth_threads.specs.Threads.{slot_of}
use Rattle.pth_world.proofs.Placed.{place_is, no_place}
use Rattle.pth_world.proofs.world.World.place.Goals as goal

pub returns-in-Some : goal.returns-in-Some
returns-in-Some g c k sh =
    let at : slot_of c.args.self.now.threads.records c.args.t.0 ≡ Some c.in-Some.slot.0 = search rules in
    let told : c.place_of.result ≡ place_of c.in-Some.slot.0 c.args.self.now.threads.queues = search rules in
    told ∙ place_is c.args.self.now.threads k c.requires sh.threads c.args.t.0 c.in-Some.slot.0 at

pub returns-in-None : goal.returns-in-None
returns-in-None g c k sh =
    let at : slot_of c.args.self.now.threads.records c.args.t.0 ≡ None = search rules in
    no_place c.args.self.now.threads k c.requires sh.threads c.args.t.0 at
