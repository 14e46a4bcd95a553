use Rattle.std.proofs.Common.{◌≡◌, ◌≤◌, ◌<◌, ◌-◌, ℕ, length, map, get_or}
use Rattle.pth_kernel.specs.declared.trace.Stamp.{Stamp}
use Rattle.pth_kernel.specs.Channels.{ChannelOf}
use Rattle.pth_kernel.specs.Kept.{AreFed}
use Rattle.pth_kernel.proofs.channels.count.Given as goal

abbrev pub invariant-loop-next : goal.invariant-loop-next
invariant-loop-next l = record {
  within : l.next ≤ length l.stamps;
  past : (k : ℕ) (d : Stamp) → k < l.next → (get_or l.stamps k d).at ≤ l.to;
  fed : AreFed l.stamps (length l.stamps) l.next l.channels;
  used : map (λ (x : ChannelOf). x.used) l.channels ≡ map (λ (x : ChannelOf). x.used) l.initial.channels;
}

abbrev pub decreases-loop-next : goal.decreases-loop-next
decreases-loop-next l = length l.stamps - l.next
