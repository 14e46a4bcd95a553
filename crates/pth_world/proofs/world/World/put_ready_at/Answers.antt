use Rattle.std.proofs.Common.{◌∙◌, ap, Some, rules, SFits, w64, to_z-of_z}
use Rattle.pth_base.specs.declared.thread.ThreadState.TheVariants as state
use Rattle.pth_queue.specs.declared.queue.Queue.TheVariants as queue
use Rattle.pth_threads.specs.declared.entry.Change.TheVariants as change
use Rattle.pth_world.specs.Touches.{view_changed, view_placed}
use Rattle.pth_world.proofs.Moves.{two_touches}
use Rattle.pth_world.proofs.Waits.{may_enter}
use Rattle.pth_world.proofs.world.World.put_ready_at.Goals as goal

pub returns-clause-shows : goal.returns-clause-shows
returns-clause-shows g c k sh =
    let f : SFits w64 c.args.rank = search rules in
    (rw to_z-of_z at c.put_at.ensures.shows) _ (c.change_of.ensures.shows k sh)

pub returns-clause-touches : goal.returns-clause-touches
returns-clause-touches g c = two_touches c.args.self.now.threads c.change_of.new.self.threads c.put_at.new.self.threads c.args.t.0 (view_changed (change.State state.Ready)) (view_placed (Some queue.Ready)) c.change_of.ensures.threads c.change_of.ensures.touches c.put_at.ensures.touches

pub put_at-requires-clause-at : goal.put_at-requires-clause-at
put_at-requires-clause-at g c = ap (λ f. f c.args.t.0) c.change_of.ensures.threads.slots ∙ c.requires.at

pub put_at-requires-clause-rank : goal.put_at-requires-clause-rank
put_at-requires-clause-rank g c =
    let f : SFits w64 c.args.rank = search rules in
    rw to_z-of_z (may_enter queue.Ready _ c.requires.rank)
