use Rattle.std.proofs.Common.{◌∙◌, sym, ap}
use Rattle.pth_threads.specs.Threads.{ThreadsOf, count}
use Rattle.pth_world.proofs.Showing.{present_is}
use Rattle.pth_world.proofs.world.World.present.Goals as goal

pub returns : goal.returns
returns g c k sh = c.count.ensures.value ∙ ap (λ (x : ThreadsOf). count x) c.threads.ensures ∙ sym (present_is c.args.self.now.threads k c.requires sh.threads)
