use Rattle.std.proofs.Common.{◌≡◌, ℕ, ◌<◌, length, get_or}
use Rattle.pth_base.specs.Descriptors.{contains}
use Rattle.pth_kernel.specs.Channels.{ChannelOf, unfed}
use Rattle.pth_kernel.proofs.channels.unfed.Given as goal

abbrev pub invariant-loop-f : goal.invariant-loop-f
invariant-loop-f l = record {
  many : length l.channels.items ≡ l.f;
  unfed : (k : ℕ) (d : ChannelOf) → k < l.f → get_or l.channels.items k d ≡ unfed (contains l.live.0 k);
}
