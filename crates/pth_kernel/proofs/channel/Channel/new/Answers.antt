use Rattle.pth_kernel.proofs.Arrivals.{within-none}
use Rattle.pth_kernel.proofs.channel.Channel.new.Goals as goal

pub invariant_of-result : goal.invariant_of-result
invariant_of-result c = rw (c.new.ensures.items, c.new-2.ensures.items) (within-none c.nothing.result c.args.live c.nothing.ensures)
