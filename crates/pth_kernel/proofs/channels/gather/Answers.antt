use Rattle.std.proofs.Common.{◌≡◌, ◌<◌, ◌+◌, ◌∙◌, length, set, sym, ap, subst, arith}
use Rattle.pth_kernel.specs.Channels.{ChannelOf, gathered}
use Rattle.pth_kernel.specs.Kept.{AreFed}
use Rattle.pth_kernel.proofs.Feeding.{same_uses, gather-more, fd-low}
use Rattle.pth_kernel.proofs.channels.gather.Goals as goal

pub loop-stamp-preserved : goal.loop-stamp-preserved
loop-stamp-preserved c =
    let ss = c.args.stamps.now in
    let n = c.loop-stamp.stamp-index in
    let xs = c.loop-stamp.channels in
    let s = c.stamp-item in
    let x = c.index-channels-stamp in
    let in' : n < length ss = omega arith in
    let low = fd-low ss n (length xs) s.result c.requires.sound in' s.is (omega arith) in
    let new : c.gather.new.self ≡ gathered s.result.what x.result = c.in_ok-gather.ensures ∙ ap (gathered s.result.what) (sym x.is) in
    record {
      fed = subst (λ (y : ChannelOf). AreFed ss (n + 1) 0 (set xs s.result.fd.0 y)) (sym new) (gather-more ss n xs s.result x.result in' s.is low x.is c.loop-stamp.invariant.fed);
      used = same_uses xs s.result.fd.0 x.result c.gather.new.self low x.is (ap (λ (y : ChannelOf). y.used) new) ∙ c.loop-stamp.invariant.used;
    }
