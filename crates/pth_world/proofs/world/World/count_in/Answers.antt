use Rattle.std.proofs.Common.{◌∙◌, ap, length}
use Rattle.pth_queue.specs.Queues.{rows_of}
use Rattle.pth_world.specs.World.{WorldOf}
use Rattle.pth_world.proofs.QueueReads.{length_shown}
use Rattle.pth_world.proofs.world.World.count_in.Goals as goal

pub returns : goal.returns
returns g c k sh = c.count.ensures ∙ ap (λ (x : WorldOf _ _ _). length (rows_of c.args.q x.threads.queues)) c.self.view_is ∙ length_shown c.args.self.now k c.args.q sh
