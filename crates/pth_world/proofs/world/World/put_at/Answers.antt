use Rattle.std.proofs.Common.{refl, ap, rules, SFits, w64, to_z-of_z}
use Rattle.pth_model.specs.Changes.{enters}
use Rattle.pth_world.proofs.Slots.{low}
use Rattle.pth_world.proofs.Waits.{queues_in, waits_in}
use Rattle.pth_world.proofs.Showing.{of_threads, enter_shows}
use Rattle.pth_world.proofs.Sound.{enter_sound}
use Rattle.pth_world.proofs.Views.{enter_touches}
use Rattle.pth_world.proofs.Moves.{but_kept}
use Rattle.pth_world.proofs.world.World.put_at.Goals as goal

pub returns-clause-shows : goal.returns-clause-shows
unfolding enters
returns-clause-shows g c k sh =
    let f : SFits w64 c.args.rank = search rules in
    let is = rw (c.queues_mut.ensures.value, to_z-of_z) at c.insert.ensures in
    of_threads _ _ k _ sh (enter_shows _ k c.args.t.0 c.args.slot.0 c.requires.sound c.requires.at sh.threads c.insert.new.self.queues c.insert.new.self.waits c.args.q c.args.rank c.args.top (rw c.requires.at at c.requires.nowhere) (ap queues_in is) (ap waits_in is))

pub returns-clause-sound : goal.returns-clause-sound
returns-clause-sound g c =
    let f : SFits w64 c.args.rank = search rules in
    let is = rw (c.queues_mut.ensures.value, to_z-of_z) at c.insert.ensures in
    enter_sound _ c.requires.sound c.args.t.0 c.args.slot.0 c.requires.at c.insert.new.self.queues c.insert.new.self.waits c.args.q c.args.rank (rw c.requires.at at c.requires.nowhere) c.requires.rank.taken (ap queues_in is)

pub returns-clause-touches : goal.returns-clause-touches
returns-clause-touches g c =
    let f : SFits w64 c.args.rank = search rules in
    let is = rw (c.queues_mut.ensures.value, to_z-of_z) at c.insert.ensures in
    enter_touches _ c.requires.sound c.args.t.0 c.args.slot.0 c.requires.at c.insert.new.self.queues c.insert.new.self.waits c.args.q c.args.rank (rw c.requires.at at c.requires.nowhere) (ap queues_in is)

pub returns-clause-but : goal.returns-clause-but
returns-clause-but g c = but_kept c.args.self.now _ c.args.t.0 _ (returns-clause-touches g c) (record { slots = refl; tids = refl; made = refl }) refl refl refl (returns-clause-sound g c)

pub insert-requires-clause-reserved : goal.insert-requires-clause-reserved
insert-requires-clause-reserved g c = rw (c.queues_mut.ensures.value, c.requires.sound.room) (low c.args.self.now.threads c.args.t.0 c.args.slot.0 c.requires.sound c.requires.at)
