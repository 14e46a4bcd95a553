use Rattle.pth_world.proofs.QueueReads.{once_thread, only_none, only_ends}
use Rattle.pth_world.proofs.world.World.is_only.Goals as goal

pub returns-then-first-t : goal.returns-then-first-t
returns-then-first-t g c k sh = only_ends c.args.t.0 c.in-Some-Some.first.0 c.in-Some-Some.last.0 _ (once_thread c.args.self.now.threads k c.args.t.0 c.args.q c.requires sh.threads) (c.in-Some-Some.ensures.first k sh) (c.in-Some-Some.ensures'.last k sh) c.if-first-t.true

pub returns-in_default : goal.returns-in_default
returns-in_default g c k sh = only_none c.args.t.0 c.last.result _ (c.last.ensures.last k sh) c.in_default.is-1
