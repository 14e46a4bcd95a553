use Rattle.std.proofs.Common.{◌∙◌, option_map, sym, ap}
use Rattle.pth_queue.specs.Ranking.{last_of}
use Rattle.pth_queue.specs.Queues.{rows_of}
use Rattle.pth_threads.specs.Threads.{tid_at}
use Rattle.pth_queue.proofs.Standing.{last_of-None}
use Rattle.pth_world.proofs.Walks.{no_slot}
use Rattle.pth_world.proofs.QueueReads.{slot_number, in_queue, holds-last, last_is}
use Rattle.pth_world.proofs.world.World.last.Goals as goal

pub thread_at-requires-clause-holds : goal.thread_at-requires-clause-holds
thread_at-requires-clause-holds g c = in_queue c.tail.result _ _ (rw c.queues.ensures at c.tail.ensures) (λ v h. holds-last v (rows_of c.args.q c.args.self.now.threads.queues) h)

pub returns-clause-none : goal.returns-clause-none
returns-clause-none g c is = last_of-None _ (sym (rw c.queues.ensures at c.tail.ensures) ∙ ap (option_map slot_number) (no_slot (tid_at c.args.self.now.threads.records) c.thread_at.result c.tail.result c.thread_at.ensures.tid is))

pub returns-clause-last : goal.returns-clause-last
returns-clause-last g c k sh = c.thread_at.ensures.tid ∙ last_is (tid_at c.args.self.now.threads.records) c.tail.result (rows_of c.args.q c.args.self.now.threads.queues) (rw c.queues.ensures at c.tail.ensures) ∙ ap last_of (sym (sh.threads.standing c.args.q))
