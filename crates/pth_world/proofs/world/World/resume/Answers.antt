use Rattle.std.proofs.Common.{ap}
use Rattle.pth_threads.specs.Threads.{slot_of}
use Rattle.pth_model.specs.ThreadControl.{resumes}
use Rattle.pth_world.proofs.Moves.{known_slot, suspended_can, suspended_may, queue_is, entry_some}
use Rattle.pth_world.proofs.Ranks.{moves_one}
use Rattle.pth_world.proofs.world.World.resume.Goals as goal

pub queue_of_state-q-requires-clause-can : goal.queue_of_state-q-requires-clause-can
queue_of_state-q-requires-clause-can g c =
    let w = c.args.self.now in
    let slot = known_slot (slot_of w.threads.records c.args.t.0) c.requires.known in
    suspended_can w c.args.t.0 slot.0 c.requires.whole slot.1 c.requires.suspended

pub move_to-requires-clause-may : goal.move_to-requires-clause-may
move_to-requires-clause-may g c =
    let w = c.args.self.now in
    let slot = known_slot (slot_of w.threads.records c.args.t.0) c.requires.known in
    suspended_may w c.args.t.0 slot.0 c.requires.whole slot.1 c.requires.suspended c.queue_of_state-q.result c.queue_of_state-q.ensures

pub returns-clause-shows : goal.returns-clause-shows
unfolding resumes
returns-clause-shows g c k sh =
    let w = c.args.self.now in
    let slot = known_slot (slot_of w.threads.records c.args.t.0) c.requires.known in
    let same = ap (λ f. f c.args.t.0) sh.threads.known in
    let q = queue_is _ c.queue_of_state-q.result (entry_some w.threads c.args.t.0 slot.0 c.requires.whole.sound slot.1) c.queue_of_state-q.ensures in
    rw (same, q) (c.move_to.ensures.shows k sh)

pub returns-clause-moves : goal.returns-clause-moves
returns-clause-moves g c = moves_one c.args.self.now c.move_to.new.self c.queue_of_state-q.result _ c.move_to.ensures.moves
