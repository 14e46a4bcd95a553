use Rattle.std.proofs.Common.{◌≡◌, ◌∙◌, Option, Some, None, is_some, option_map, ap, sym, refl}
use Rattle.pth_base.specs.declared.ids.Tid.{Tid}
use Rattle.pth_model.specs.Changes.{leaves_queue, trails}
use Rattle.pth_model.specs.State.{Scheduler}
use Rattle.pth_threads.specs.Threads.{number_of}
use Rattle.pth_queue.specs.Arena.{slots_of}
use Rattle.pth_tables.specs.Waits.{waits_of, takes_ready}
use Rattle.pth_world.proofs.Waits.{queues_in, waits_in, turn_is}
use Rattle.pth_world.proofs.Showing.{of_threads, take_shows}
use Rattle.pth_world.proofs.Sound.{leave_sound}
use Rattle.pth_world.proofs.Views.{leave_touches}
use Rattle.pth_world.proofs.world.World.take_ready.Goals as goal

same_some : (o : Option Tid) → is_some (option_map number_of o) ≡ is_some o
same_some None = refl
same_some (Some t) = refl

pub dispatch-requires : goal.dispatch-requires
dispatch-requires g c = record { ready = rw c.queues_mut.ensures.value (rw c.requires.at at c.requires.stands) }

pub returns-clause-shows : goal.returns-clause-shows
unfolding leaves_queue trails
returns-clause-shows g c k sh =
    let w = c.args.self.now.threads in
    let is = rw c.queues_mut.ensures.value at c.dispatch.ensures.value in
    let by_name = c.is_some-by_name.ensures ∙ sym (same_some c.named.result) ∙ ap is_some (c.named.ensures ∙ ap (λ (x : Scheduler). x.preferred) (sym sh.scheduler)) in
    of_threads _ _ k _ sh (take_shows w k c.args.t.0 c.args.slot.0 c.requires.sound c.requires.at sh.threads c.dispatch.new.self.queues c.dispatch.new.self.waits (rw c.requires.at at c.requires.stands) (ap queues_in is) (ap waits_in is ∙ ap (λ b. takes_ready b (slots_of w.queues.ready) (waits_of w.waits)) by_name))

pub returns-clause-numbers : goal.returns-clause-numbers
returns-clause-numbers g c k sh taken few =
    turn_is c.args.self.now.threads k c.requires.sound sh.threads c.args.t.0 c.args.slot.0 c.requires.at (rw c.requires.at at c.requires.stands) taken few c.dispatch.result
    (rw c.queues_mut.ensures.value at c.dispatch.ensures.brief) (rw c.queues_mut.ensures.value at c.dispatch.ensures.turn.waited) (rw c.queues_mut.ensures.value at c.dispatch.ensures.turn.allowed)

pub returns-clause-sound : goal.returns-clause-sound
returns-clause-sound g c =
    let is = rw c.queues_mut.ensures.value at c.dispatch.ensures.value in
    leave_sound _ c.requires.sound c.args.t.0 c.args.slot.0 c.requires.at c.dispatch.new.self.queues c.dispatch.new.self.waits (ap queues_in is)

pub returns-clause-touches : goal.returns-clause-touches
returns-clause-touches g c =
    let is = rw c.queues_mut.ensures.value at c.dispatch.ensures.value in
    leave_touches _ c.requires.sound c.args.t.0 c.args.slot.0 c.requires.at c.dispatch.new.self.queues c.dispatch.new.self.waits (ap queues_in is)
