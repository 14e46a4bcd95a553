use Rattle.std.proofs.Common.{◌∙◌, option_map, sym, ap}
use Rattle.pth_queue.specs.Ranking.{head_of}
use Rattle.pth_queue.specs.Queues.{rows_of}
use Rattle.pth_threads.specs.Threads.{tid_at}
use Rattle.pth_queue.proofs.Standing.{head_of-None}
use Rattle.pth_world.proofs.Walks.{no_slot}
use Rattle.pth_world.proofs.QueueReads.{slot_number, in_queue, holds-head, head_is}
use Rattle.pth_world.proofs.world.World.first.Goals as goal

pub thread_at-requires-clause-holds : goal.thread_at-requires-clause-holds
thread_at-requires-clause-holds g c = in_queue c.head.result _ _ (rw c.queues.ensures at c.head.ensures) (λ v h. holds-head v (rows_of c.args.q c.args.self.now.threads.queues) h)

pub returns-clause-none : goal.returns-clause-none
returns-clause-none g c is = head_of-None _ (sym (rw c.queues.ensures at c.head.ensures) ∙ ap (option_map slot_number) (no_slot (tid_at c.args.self.now.threads.records) c.thread_at.result c.head.result c.thread_at.ensures.tid is))

pub returns-clause-first : goal.returns-clause-first
returns-clause-first g c k sh = c.thread_at.ensures.tid ∙ head_is (tid_at c.args.self.now.threads.records) c.head.result (rows_of c.args.q c.args.self.now.threads.queues) (rw c.queues.ensures at c.head.ensures) ∙ ap head_of (sym (sh.threads.standing c.args.q))
