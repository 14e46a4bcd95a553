use Rattle.std.proofs.Common.{◌≡◌, ◌≤◌, ◌<◌, ◌+◌, ◌∙◌, ℕ, length, get_or, set, sym, ap, subst, arith}
use borrow.Author.Count.{below_more}
use Rattle.std.proofs.lemmas.List.{get_or_default}
use Rattle.pth_kernel.specs.declared.trace.Stamp.{Stamp}
use Rattle.pth_kernel.specs.Channels.{ChannelOf, counted}
use Rattle.pth_kernel.specs.Kept.{AreFed}
use Rattle.pth_kernel.proofs.Feeding.{same_uses, count-more, bytes-within, connections-within, room-within, fd-low}
use Rattle.pth_kernel.proofs.channels.count.Goals as goal

pub count-requires-clause-bytes : goal.count-requires-clause-bytes
count-requires-clause-bytes c =
    let s = c.index-stamps-next-in-loop-next in
    let x = c.index-channels-stamp in
    let low = fd-low c.args.stamps.now c.loop-next.next (length c.loop-next.channels) s.result c.requires.sound.each (omega arith) s.is (omega arith) in
    rw (← x.is) (bytes-within c.args.stamps.now c.loop-next.next c.loop-next.channels s.result x.result (omega arith) s.is low x.is c.loop-next.invariant.fed)

pub count-requires-clause-connections : goal.count-requires-clause-connections
count-requires-clause-connections c =
    let s = c.index-stamps-next-in-loop-next in
    let x = c.index-channels-stamp in
    let low = fd-low c.args.stamps.now c.loop-next.next (length c.loop-next.channels) s.result c.requires.sound.each (omega arith) s.is (omega arith) in
    rw (← x.is) (connections-within c.args.stamps.now c.loop-next.next c.loop-next.channels s.result x.result (omega arith) s.is low x.is c.loop-next.invariant.fed)

pub count-requires-clause-room : goal.count-requires-clause-room
count-requires-clause-room c =
    let s = c.index-stamps-next-in-loop-next in
    let x = c.index-channels-stamp in
    let low = fd-low c.args.stamps.now c.loop-next.next (length c.loop-next.channels) s.result c.requires.sound.each (omega arith) s.is (omega arith) in
    rw (← x.is) (room-within c.args.stamps.now c.loop-next.next c.loop-next.channels s.result x.result (omega arith) s.is low x.is c.requires.sound.each c.requires.sound.few c.loop-next.invariant.fed)

pub loop-next-preserved : goal.loop-next-preserved
loop-next-preserved c =
    let ss = c.args.stamps.now in
    let n = c.loop-next.next in
    let xs = c.loop-next.channels in
    let s = c.index-stamps-next-in-loop-next in
    let x = c.index-channels-stamp in
    let in' : n < length ss = omega arith in
    let low = fd-low ss n (length xs) s.result c.requires.sound.each in' s.is (omega arith) in
    let new : c.count.new.self ≡ counted s.result.what x.result = c.count.ensures ∙ ap (counted s.result.what) (sym x.is) in
    let was = c.index-stamps-next in
    let due : (d : Stamp) → (get_or ss n d).at ≤ c.args.to = λ d. subst (λ (t : Stamp). t.at ≤ c.args.to) (get_or_default ss n was.result d in') c.if-stamps-next.true in
    record {
      within = omega arith;
      past = λ k d h. below_more (λ (j : ℕ). (e : Stamp) → (get_or ss j e).at ≤ c.args.to) n (λ j l e. c.loop-next.invariant.past j e l) due k h d;
      fed = subst (λ (y : ChannelOf). AreFed ss (length ss) (n + 1) (set xs s.result.fd.0 y)) (sym new) (count-more ss n xs s.result x.result in' s.is low x.is c.loop-next.invariant.fed);
      used = same_uses xs s.result.fd.0 x.result c.count.new.self low x.is (ap (λ (y : ChannelOf). y.used) new) ∙ c.loop-next.invariant.used;
    }
