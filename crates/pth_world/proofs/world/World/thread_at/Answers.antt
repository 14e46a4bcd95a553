use Rattle.pth_queue.proofs.Standing.{queue_of-holds}
use Rattle.pth_threads.specs.Threads.{tid_at}
use Rattle.pth_world.proofs.QueueReads.{used-holds, stands_at}
use Rattle.pth_world.proofs.world.World.thread_at.Goals as goal

pub get-requires : goal.get-requires
get-requires g c = rw c.threads.ensures (used-holds (tid_at c.args.self.now.threads.records) c.in-Some.slot.0 _ (c.requires.sound.queued c.args.q) (rw c.in-Some.is at c.requires.holds))

pub returns-in-Some-clause-stands : goal.returns-in-Some-clause-stands
returns-in-Some-clause-stands g c =
    let h = rw c.in-Some.is at c.requires.holds in
    stands_at _ c.requires.sound c.in-Some.slot.0 c.get.result.now.tid.0 c.args.q (used-holds (tid_at c.args.self.now.threads.records) c.in-Some.slot.0 _ (c.requires.sound.queued c.args.q) h) (rw c.threads.ensures at c.get.ensures.tid) (queue_of-holds c.args.q c.in-Some.slot.0 _ c.requires.sound.orderly h)
