use Rattle.std.proofs.Common.{◌∙◌}
use Rattle.pth_queue.specs.Queues.{rows_of}
use Rattle.pth_world.proofs.QueueReads.{in_queue, holds-after, after_of-in, after_is}
use Rattle.pth_world.proofs.Walks.{behind-after}
use Rattle.pth_world.proofs.world.World.after.Goals as goal

pub thread_at-requires-clause-holds : goal.thread_at-requires-clause-holds
thread_at-requires-clause-holds g c = in_queue c.after.result _ _ (rw c.queues.ensures at c.after.ensures ∙ after_of-in c.slot-slot.result.0 c.args.q c.args.self.now.threads.queues (rw c.slot-slot.ensures.slot at c.requires.stands)) (λ v h. holds-after c.slot-slot.result.0 v (rows_of c.args.q c.args.self.now.threads.queues) h)

pub returns-clause-after : goal.returns-clause-after
returns-clause-after g c k front back r sh is same = c.thread_at.ensures.tid ∙ after_is c.args.self.now.threads k c.args.t.0 c.slot-slot.result.0 c.args.q c.after.result front back r c.requires.sound c.slot-slot.ensures.slot (rw c.slot-slot.ensures.slot at c.requires.stands) (rw c.queues.ensures at c.after.ensures) sh.threads is same

pub returns-clause-less : goal.returns-clause-less
returns-clause-less g c = behind-after c.args.self.now.threads c.args.t.0 c.slot-slot.result.0 c.args.q c.thread_at.result c.after.result c.requires.sound c.slot-slot.ensures.slot (rw c.slot-slot.ensures.slot at c.requires.stands) (rw c.queues.ensures at c.after.ensures) c.thread_at.ensures.tid
