use Rattle.std.proofs.Common.{◌≡◌, map}
use Rattle.pth_kernel.specs.Channels.{ChannelOf}
use Rattle.pth_kernel.specs.Kept.{AreFed}
use Rattle.pth_kernel.proofs.channels.gather.Given as goal

abbrev pub invariant-loop-stamp : goal.invariant-loop-stamp
invariant-loop-stamp l = record {
  fed : AreFed l.stamps l.stamp-index 0 l.channels;
  used : map (λ (x : ChannelOf). x.used) l.channels ≡ map (λ (x : ChannelOf). x.used) l.initial.channels;
}
