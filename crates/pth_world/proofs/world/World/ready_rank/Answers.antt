use Rattle.std.proofs.Common.{◌≡◌, ℕ, ℤ, IsSomeAnd, subst, rules, SFits, w64, to_z-of_z}
use Rattle.pth_queue.specs.declared.queue.Queue.{Queue}
use Rattle.pth_queue.specs.declared.queue.Queue.TheVariants.{Ready}
use Rattle.pth_queue.specs.Queues.{place_of}
use Rattle.pth_world.specs.World.{WorldOf}
use Rattle.pth_world.proofs.QueueReads.{rank_is}
use Rattle.pth_world.proofs.world.World.ready_rank.Goals as goal

pub returns : goal.returns
returns g c k sh =
    let f : SFits w64 c.rank_of.result = search rules in
    let rank = subst (λ (x : WorldOf _ _ _). IsSomeAnd {T = Queue × ℤ × ℕ} (place_of c.slot-slot.result.0 x.threads.queues) (λ p. c.rank_of.result ≡ p.1)) c.self.view_is c.rank_of.ensures in
    rw to_z-of_z (rank_is c.args.self.now.threads k c.args.t.0 c.slot-slot.result.0 Ready c.rank_of.result c.requires.sound c.slot-slot.ensures.slot (rw c.slot-slot.ensures.slot at c.requires.stands) rank sh.threads)
