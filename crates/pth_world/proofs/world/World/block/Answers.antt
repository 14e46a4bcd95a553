use Rattle.std.proofs.Common.{refl, Some}
use Rattle.pth_model.specs.Changes.{goes_on, blocking}
use Rattle.pth_world.proofs.Moves.{progress_whole, blocked_fits}
use Rattle.pth_world.proofs.Showing.{of_threads, progress_shows}
use Rattle.pth_world.proofs.Slots.{used}
use Rattle.pth_world.proofs.Sound.{progress_sound, some_kept}
use Rattle.pth_world.proofs.Views.{blocked_touches}
use Rattle.pth_world.proofs.Moves.{but_kept}
use Rattle.pth_world.proofs.world.World.block.Goals as goal

pub returns-clause-shows : goal.returns-clause-shows
unfolding goes_on
returns-clause-shows g c k sh = of_threads _ _ k _ sh (progress_shows _ k c.args.t.0 c.slot-slot.result.0 c.requires.sound c.slot-slot.ensures.slot sh.threads _ (blocking (Some c.args.b)) (rw c.progress_mut.ensures.value at c.block.ensures.set))

pub returns-clause-sound : goal.returns-clause-sound
returns-clause-sound g c = progress_sound _ c.requires.sound c.args.t.0 c.slot-slot.result.0 c.slot-slot.ensures.slot _ _ (rw c.progress_mut.ensures.value at c.block.ensures.set) (some_kept (blocking (Some c.args.b)) _ (c.requires.sound.recorded c.slot-slot.result.0 (used _ c.args.t.0 c.slot-slot.result.0 c.requires.sound c.slot-slot.ensures.slot))) c.block.ensures.long

pub returns-clause-touches : goal.returns-clause-touches
returns-clause-touches g c = blocked_touches _ c.requires.sound c.args.t.0 c.slot-slot.result.0 c.slot-slot.ensures.slot _ (Some c.args.b) (rw c.progress_mut.ensures.value at c.block.ensures.set)

pub returns-clause-whole : goal.returns-clause-whole
returns-clause-whole g c whole may = progress_whole c.args.self.now _ c.args.t.0 c.slot-slot.result.0 _ whole c.slot-slot.ensures.slot (returns-clause-touches g c) (returns-clause-sound g c) refl refl refl refl (blocked_fits c.args.self.now c.args.t.0 c.slot-slot.result.0 c.requires.sound c.slot-slot.ensures.slot c.args.b may) (λ dead. dead)

pub returns-clause-but : goal.returns-clause-but
returns-clause-but g c = but_kept c.args.self.now _ c.args.t.0 _ (returns-clause-touches g c) (record { slots = refl; tids = refl; made = refl }) refl refl refl (returns-clause-sound g c)
