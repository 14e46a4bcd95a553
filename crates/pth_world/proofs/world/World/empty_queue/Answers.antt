use Rattle.pth_world.proofs.Vanishing.{vanish_none, vanish_then, vanish_one, vanish_less}
use Rattle.pth_world.proofs.world.World.empty_queue.Goals as goal

pub loop-t-init : goal.loop-t-init
loop-t-init g c = vanish_none _ c.requires

pub first-requires : goal.first-requires
first-requires g c = record { sound = c.loop-t.invariant.whole.sound }

pub drop_thread-requires-clause-sound : goal.drop_thread-requires-clause-sound
drop_thread-requires-clause-sound g c = c.loop-t.invariant.whole.sound

pub loop-t-preserved : goal.loop-t-preserved
loop-t-preserved g c = vanish_then _ _ _ c.loop-t.invariant (vanish_one c.loop-t.self c.drop_thread.new.self c.in-Some.t.0 c.args.q c.loop-t.invariant.whole c.in-Some.ensures.known c.in-Some.ensures.stands c.drop_thread.ensures.queues c.drop_thread.ensures.sound c.drop_thread.ensures.others c.drop_thread.ensures.threads c.drop_thread.ensures.shows c.drop_thread.ensures.store c.drop_thread.ensures.same)

pub loop-t-smaller : goal.loop-t-smaller
loop-t-smaller g c = vanish_less c.loop-t.self c.drop_thread.new.self c.in-Some.t.0 c.args.q c.loop-t.invariant.whole c.in-Some.ensures.known c.in-Some.ensures.stands c.drop_thread.ensures.queues
