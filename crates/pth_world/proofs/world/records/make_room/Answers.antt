use Rattle.pth_world.proofs.world.records.make_room.Goals as goal

pub returns : goal.returns
returns g c = record {
  queues = c.in_ok-queues.ensures;
  none = c.in_ok-progress.ensures.none;
  long = c.in_ok-progress.ensures.long;
  mutexes = c.in_ok-mutexes.ensures;
  locks = c.in_ok-rw_locks.ensures;
}
