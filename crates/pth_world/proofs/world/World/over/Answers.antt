use Rattle.std.proofs.Common.{ap}
use Rattle.pth_world.proofs.Waits.{queues_in, waits_in}
use Rattle.pth_world.proofs.Starts.{begins_empty}
use Rattle.pth_world.proofs.world.World.over.Goals as goal

pub returns : goal.returns
returns g c = rw (c.requires.shared, ap queues_in c.requires.empty.queues) (begins_empty g.P.Program.functions c.args.program c.args.top c.requires.range c.new-threads.result c.args.room.progress c.new-threads.ensures.slots c.new-threads.ensures.tids c.new-threads.ensures.entries c.new-threads.ensures.made c.new-threads.ensures.count c.requires.empty.none c.requires.empty.long c.args.room.queues.waits (ap waits_in c.requires.empty.queues) c.new-attributes.result c.new-attributes.ensures.objects c.new-attributes.ensures.made c.new-attributes.ensures.top c.new-events.result c.new-events.ensures c.new-conditions.result c.new-conditions.ensures c.new-barriers.result c.new-barriers.ensures c.args.kernel _ c.new-keys.ensures _ c.new-cleanups.ensures _ c.requires.empty.mutexes _ c.requires.empty.locks c.new-ports.result c.new-ports.ensures.names c.new-ports.ensures.mail c.requires.bodies)
