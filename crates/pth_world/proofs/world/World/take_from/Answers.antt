use Rattle.std.proofs.Common.{ap, sym, refl}
use Rattle.pth_model.specs.Changes.{leaves_queue}
use Rattle.pth_tables.specs.CountedOf.{waits_without}
use Rattle.pth_tables.specs.Waits.{waits_of}
use Rattle.pth_world.proofs.Waits.{queues_in, waits_in}
use Rattle.pth_world.proofs.Showing.{of_threads, leave_shows}
use Rattle.pth_world.proofs.Sound.{leave_sound}
use Rattle.pth_world.proofs.Views.{leave_touches}
use Rattle.pth_world.proofs.Places.{without-nowhere}
use Rattle.pth_world.proofs.Moves.{but_kept}
use Rattle.pth_world.proofs.world.World.take_from.Goals as goal

pub returns-in-Some-clause-shows : goal.returns-in-Some-clause-shows
unfolding leaves_queue
returns-in-Some-clause-shows g c k sh =
    let is = rw c.queues_mut.ensures.value at c.delete.ensures.rows in
    of_threads _ _ k _ sh (leave_shows _ k c.args.t.0 c.args.slot.0 c.requires.sound c.requires.at sh.threads c.delete.new.self.queues c.delete.new.self.waits (ap queues_in is) (ap waits_in is))

pub returns-in-Some-clause-sound : goal.returns-in-Some-clause-sound
returns-in-Some-clause-sound g c =
    let is = rw c.queues_mut.ensures.value at c.delete.ensures.rows in
    leave_sound _ c.requires.sound c.args.t.0 c.args.slot.0 c.requires.at c.delete.new.self.queues c.delete.new.self.waits (ap queues_in is)

pub returns-in-Some-clause-touches : goal.returns-in-Some-clause-touches
returns-in-Some-clause-touches g c =
    let is = rw c.queues_mut.ensures.value at c.delete.ensures.rows in
    leave_touches _ c.requires.sound c.args.t.0 c.args.slot.0 c.requires.at c.delete.new.self.queues c.delete.new.self.waits (ap queues_in is)

pub returns-in-None-clause-shows : goal.returns-in-None-clause-shows
unfolding leaves_queue
returns-in-None-clause-shows g c k sh =
    let none = sym (rw c.queues.ensures at c.in-None.ensures.value) in
    of_threads _ _ k _ sh (leave_shows _ k c.args.t.0 c.args.slot.0 c.requires.sound c.requires.at sh.threads c.args.self.now.threads.queues c.args.self.now.threads.waits (sym (without-nowhere c.args.slot.0 _ none)) (ap (λ p. waits_without p c.args.slot.0 (waits_of c.args.self.now.threads.waits)) (sym none)))

pub returns-in-None-clause-touches : goal.returns-in-None-clause-touches
returns-in-None-clause-touches g c = leave_touches _ c.requires.sound c.args.t.0 c.args.slot.0 c.requires.at _ c.args.self.now.threads.waits (sym (without-nowhere c.args.slot.0 _ (sym (rw c.queues.ensures at c.in-None.ensures.value))))

pub returns-in-None-clause-queues : goal.returns-in-None-clause-queues
returns-in-None-clause-queues g c = rw c.requires.at (sym (without-nowhere c.args.slot.0 _ (sym (rw c.queues.ensures at c.in-None.ensures.value))))

pub returns-in-Some-clause-but : goal.returns-in-Some-clause-but
returns-in-Some-clause-but g c = but_kept c.args.self.now _ c.args.t.0 _ (returns-in-Some-clause-touches g c) (record { slots = refl; tids = refl; made = refl }) refl refl refl (returns-in-Some-clause-sound g c)
