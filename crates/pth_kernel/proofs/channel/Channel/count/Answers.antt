use Rattle.pth_kernel.specs.Fields.{channel_of}
use Rattle.pth_kernel.proofs.Arrivals.{within-more}
use Rattle.pth_kernel.proofs.channel.Channel.count.Goals as goal

pub invariant_of-self : goal.invariant_of-self
invariant_of-self c =
    rw c.count.ensures (within-more c.args.entry.now (channel_of c.self.inside) c.self.invariant (rw (← c.self.view_is) at c.requires.bytes) (rw (← c.self.view_is) at c.requires.connections))
