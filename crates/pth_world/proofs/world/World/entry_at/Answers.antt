use Rattle.std.proofs.Common.{◌∙◌}
use Rattle.pth_threads.specs.Threads.{tid_at}
use Rattle.pth_world.proofs.Showing.{entry_is}
use Rattle.pth_world.proofs.world.World.entry_at.Goals as goal

pub returns-clause-entry : goal.returns-clause-entry
returns-clause-entry g c k sh =
    let x = c.args.self.now.threads.records in
    entry_is _ k (tid_at x c.args.s.0) c.args.s.0 c.requires.sound (c.requires.sound.tied.slot c.args.s.0 c.requires.used) sh.threads ∙ (rw c.threads.ensures at c.get.ensures.entry)
