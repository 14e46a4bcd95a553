use Rattle.pth_kernel.specs.Kernel.{advanced}
use Rattle.pth_world.proofs.Kernels.{turned_shows, kernel_whole}
use Rattle.pth_world.proofs.world.World.set_time.Goals as goal

pub returns-clause-shows : goal.returns-clause-shows
returns-clause-shows g c k sh = turned_shows c.args.self.now c.advance.new.self (advanced c.args.time) k sh (rw c.kernel_mut.ensures.value at c.advance.ensures.kernel)

pub returns-clause-whole : goal.returns-clause-whole
returns-clause-whole g c whole = kernel_whole c.args.self.now c.advance.new.self whole
