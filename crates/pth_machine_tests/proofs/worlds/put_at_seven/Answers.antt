use Rattle.pth_world.proofs.Moves.{left_nowhere, queues_alone}
use Rattle.pth_machine_tests.proofs.worlds.put_at_seven.Goals as goal

pub put_ready-requires-clause-nowhere : goal.put_ready-requires-clause-nowhere
put_ready-requires-clause-nowhere c = left_nowhere c.args.world.now c.take_out.new.self c.args.t.0 (queues_alone _ _ c.take_out.ensures.same) c.take_out.ensures.queues
