use Rattle.std.proofs.Common.{◌∙◌, ◌≡◌, ℕ, ℤ, Option, Some, None, IfSome, ap, SFits, w64, to_z-of_z}
use Rattle.pth_model.specs.Part.{is_put_waiting}
use Rattle.pth_base.specs.declared.thread.ThreadState.TheVariants as state
use Rattle.pth_queue.specs.Queues.{entered}
use Rattle.pth_queue.specs.declared.queue.Queue.TheVariants as queue
use Rattle.pth_threads.specs.declared.entry.Change.TheVariants as change
use Rattle.pth_world.specs.Sound.{IsPrio}
use Rattle.pth_world.specs.Touches.{view_changed, view_placed}
use Rattle.pth_world.specs.World.{WorldOf}
use Rattle.pth_world.proofs.Moves.{two_touches}
use Rattle.pth_world.proofs.Slots.{prio_fits}
use Rattle.pth_world.proofs.Waits.{prio_enters}
use Rattle.pth_world.proofs.world.World.put_waiting.Goals as goal

pub returns-clause-shows : goal.returns-clause-shows
unfolding is_put_waiting
returns-clause-shows g c k sh =
    let f : SFits w64 c.prio-prio.result = prio_fits _ c.prio-prio.ensures.low in
    rw (← c.prio-prio.ensures.prio k sh) ((rw to_z-of_z at c.put_at.ensures.shows) _ (c.change_of.ensures.shows k sh))

pub returns-clause-touches : goal.returns-clause-touches
returns-clause-touches g c = two_touches c.args.self.now.threads c.change_of.new.self.threads c.put_at.new.self.threads c.args.t.0 (view_changed (change.State state.Waiting)) (view_placed (Some queue.Waiting)) c.change_of.ensures.threads c.change_of.ensures.touches c.put_at.ensures.touches

if_some : {A B : ℕ → Type 0} (o : Option ℕ) → ((u : ℕ) → A u → B u) → IfSome o A → IfSome o B
if_some (Some u) f h = f u h
if_some None f h = h

pub returns-clause-queues : goal.returns-clause-queues
returns-clause-queues g c =
    let f : SFits w64 c.prio-prio.result = prio_fits _ c.prio-prio.ensures.low in
    let queues = ap (λ (k : WorldOf _ _ _). k.threads.queues) c.change_of.ensures.same in
    let placed = rw (c.change_of.ensures.threads.slots, to_z-of_z, queues) at c.put_at.ensures.queues in
    let Placed : ℕ → Type 0 = λ u. (prio : ℤ) × IsPrio prio × (c.put_at.new.self.threads.queues ≡ entered queue.Waiting prio u c.args.self.now.threads.queues) in
    if_some {B = Placed} _ (λ u is. (let it : Placed u = (c.prio-prio.result, c.prio-prio.ensures.low, is) in it)) placed

pub put_at-requires-clause-at : goal.put_at-requires-clause-at
put_at-requires-clause-at g c = ap (λ f. f c.args.t.0) c.change_of.ensures.threads.slots ∙ c.slot-slot.ensures.slot

pub put_at-requires-clause-rank : goal.put_at-requires-clause-rank
put_at-requires-clause-rank g c =
    let f : SFits w64 c.prio-prio.result = prio_fits _ c.prio-prio.ensures.low in
    rw to_z-of_z (prio_enters queue.Waiting _ c.prio-prio.ensures.low)
