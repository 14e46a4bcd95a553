use Rattle.std.proofs.Common.{◌∙◌, ◌≤◌, length, sym, ap, subst}
use Rattle.pth_threads.specs.Threads.{tid_at}
use Rattle.pth_queue.specs.declared.queue.Queue.TheVariants.{Waiting}
use Rattle.pth_model.specs.Changes.{holders}
use Rattle.pth_world.proofs.Listed.{names_listed, used_listed}
use Rattle.pth_world.proofs.world.World.waiting.Goals as goal

pub returns-clause-waiting : goal.returns-clause-waiting
returns-clause-waiting g c k sh = names_listed (tid_at c.args.self.now.threads.records) _ _ (rw c.queues.ensures at c.slots.ensures.slots) ∙ sym (ap holders (sh.threads.standing Waiting))

pub returns-clause-used : goal.returns-clause-used
returns-clause-used g c = used_listed (tid_at c.args.self.now.threads.records) _ _ (rw c.queues.ensures at c.slots.ensures.slots) (c.requires.sound.queued Waiting)

pub returns-clause-few : goal.returns-clause-few
returns-clause-few g c = subst (λ n. length c.slots.new.into.items ≤ n) c.requires.sound.room (rw c.queues.ensures at c.slots.ensures.few)
