use Rattle.std.proofs.Common.{refl}
use Rattle.pth_model.specs.Changes.{goes_on, owing}
use Rattle.pth_world.proofs.Moves.{progress_whole}
use Rattle.pth_world.proofs.Showing.{of_threads, progress_shows}
use Rattle.pth_world.proofs.Slots.{used}
use Rattle.pth_world.proofs.Sound.{progress_sound, some_kept}
use Rattle.pth_world.proofs.Views.{owed_touches}
use Rattle.pth_world.proofs.Moves.{but_kept}
use Rattle.pth_world.proofs.world.World.owe.Goals as goal

pub returns-clause-shows : goal.returns-clause-shows
unfolding goes_on
returns-clause-shows g c k sh = of_threads _ _ k _ sh (progress_shows _ k c.args.t.0 c.slot-slot.result.0 c.requires.sound c.slot-slot.ensures.slot sh.threads _ (owing c.args.a) (rw c.progress_mut.ensures.value at c.owe.ensures.set))

pub returns-clause-sound : goal.returns-clause-sound
returns-clause-sound g c = progress_sound _ c.requires.sound c.args.t.0 c.slot-slot.result.0 c.slot-slot.ensures.slot _ _ (rw c.progress_mut.ensures.value at c.owe.ensures.set) (some_kept (owing c.args.a) _ (c.requires.sound.recorded c.slot-slot.result.0 (used _ c.args.t.0 c.slot-slot.result.0 c.requires.sound c.slot-slot.ensures.slot))) c.owe.ensures.long

pub returns-clause-touches : goal.returns-clause-touches
returns-clause-touches g c = owed_touches _ c.requires.sound c.args.t.0 c.slot-slot.result.0 c.slot-slot.ensures.slot _ c.args.a (rw c.progress_mut.ensures.value at c.owe.ensures.set)

pub returns-clause-whole : goal.returns-clause-whole
returns-clause-whole g c whole = progress_whole c.args.self.now _ c.args.t.0 c.slot-slot.result.0 _ whole c.slot-slot.ensures.slot (returns-clause-touches g c) (returns-clause-sound g c) refl refl refl refl (λ r f. f) (λ dead. dead)

pub returns-clause-but : goal.returns-clause-but
returns-clause-but g c = but_kept c.args.self.now _ c.args.t.0 _ (returns-clause-touches g c) (record { slots = refl; tids = refl; made = refl }) refl refl refl (returns-clause-sound g c)
