use Rattle.std.proofs.Common.{ap}
use Rattle.pth_world.specs.World.{WorldOf}
use Rattle.pth_world.proofs.Moves.{runner_known}
use Rattle.pth_world.proofs.Vanishing.{vanish_all, vanish_runs, vanish_shows, vanish_store}
use Rattle.pth_world.proofs.world.World.vanish_all_but.Goals as goal

pub returns-clause-shows : goal.returns-clause-shows
returns-clause-shows g c = vanish_shows _ _ _ _ _ _ c.empty_queue.ensures.vanishing c.empty_queue.ensures.none c.empty_queue-2.ensures.vanishing c.empty_queue-2.ensures.none c.empty_queue-3.ensures.vanishing c.empty_queue-3.ensures.none c.empty_queue-4.ensures.vanishing c.empty_queue-4.ensures.none c.empty_queue-5.ensures.vanishing c.empty_queue-5.ensures.none _ (rw c.rings_mut.ensures.value at c.unclaim_all.ensures) _ (rw c.conditions_mut.ensures.value at c.leave_all.ensures) _ (rw c.barriers_mut.ensures.value at c.withdraw_all.ensures) c.args.t.0 c.requires.runs

pub returns-clause-made : goal.returns-clause-made
returns-clause-made g c = (vanish_all _ _ _ _ _ _ c.empty_queue.ensures.vanishing c.empty_queue.ensures.none c.empty_queue-2.ensures.vanishing c.empty_queue-2.ensures.none c.empty_queue-3.ensures.vanishing c.empty_queue-3.ensures.none c.empty_queue-4.ensures.vanishing c.empty_queue-4.ensures.none c.empty_queue-5.ensures.vanishing c.empty_queue-5.ensures.none).made

pub returns-clause-ranks : goal.returns-clause-ranks
returns-clause-ranks g c = (vanish_all _ _ _ _ _ _ c.empty_queue.ensures.vanishing c.empty_queue.ensures.none c.empty_queue-2.ensures.vanishing c.empty_queue-2.ensures.none c.empty_queue-3.ensures.vanishing c.empty_queue-3.ensures.none c.empty_queue-4.ensures.vanishing c.empty_queue-4.ensures.none c.empty_queue-5.ensures.vanishing c.empty_queue-5.ensures.none).ranks

pub returns-clause-same : goal.returns-clause-same
returns-clause-same g c = ap (λ (z : WorldOf _ _ _). record z { events = c.unclaim_all.new.self; conditions = c.leave_all.new.self; barriers = c.withdraw_all.new.self }) (vanish_all _ _ _ _ _ _ c.empty_queue.ensures.vanishing c.empty_queue.ensures.none c.empty_queue-2.ensures.vanishing c.empty_queue-2.ensures.none c.empty_queue-3.ensures.vanishing c.empty_queue-3.ensures.none c.empty_queue-4.ensures.vanishing c.empty_queue-4.ensures.none c.empty_queue-5.ensures.vanishing c.empty_queue-5.ensures.none).same

pub returns-clause-store : goal.returns-clause-store
returns-clause-store g c = vanish_store _ _ _ _ _ _ c.empty_queue.ensures.vanishing c.empty_queue.ensures.none c.empty_queue-2.ensures.vanishing c.empty_queue-2.ensures.none c.empty_queue-3.ensures.vanishing c.empty_queue-3.ensures.none c.empty_queue-4.ensures.vanishing c.empty_queue-4.ensures.none c.empty_queue-5.ensures.vanishing c.empty_queue-5.ensures.none c.args.t.0 c.requires.runs c.count_readers.ensures

pub count_readers-requires-clause-sound : goal.count_readers-requires-clause-sound
count_readers-requires-clause-sound g c = (vanish_all _ _ _ _ _ _ c.empty_queue.ensures.vanishing c.empty_queue.ensures.none c.empty_queue-2.ensures.vanishing c.empty_queue-2.ensures.none c.empty_queue-3.ensures.vanishing c.empty_queue-3.ensures.none c.empty_queue-4.ensures.vanishing c.empty_queue-4.ensures.none c.empty_queue-5.ensures.vanishing c.empty_queue-5.ensures.none).whole.sound

pub count_readers-requires-clause-known : goal.count_readers-requires-clause-known
count_readers-requires-clause-known g c = runner_known _ c.args.t.0 (vanish_all _ _ _ _ _ _ c.empty_queue.ensures.vanishing c.empty_queue.ensures.none c.empty_queue-2.ensures.vanishing c.empty_queue-2.ensures.none c.empty_queue-3.ensures.vanishing c.empty_queue-3.ensures.none c.empty_queue-4.ensures.vanishing c.empty_queue-4.ensures.none c.empty_queue-5.ensures.vanishing c.empty_queue-5.ensures.none).whole (vanish_runs _ _ _ _ _ _ c.empty_queue.ensures.vanishing c.empty_queue.ensures.none c.empty_queue-2.ensures.vanishing c.empty_queue-2.ensures.none c.empty_queue-3.ensures.vanishing c.empty_queue-3.ensures.none c.empty_queue-4.ensures.vanishing c.empty_queue-4.ensures.none c.empty_queue-5.ensures.vanishing c.empty_queue-5.ensures.none c.args.t.0 c.requires.runs)
