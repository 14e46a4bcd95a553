use Rattle.std.proofs.Common.{◌^◌, ◌<◌, arith}
use Rattle.std.proofs.lemmas.List.{with_items_is}
use Rattle.pth_kernel.proofs.Feeding.{fed-none}
use Rattle.pth_kernel.proofs.Starting.{opens}
use Rattle.pth_kernel.proofs.channels.gathered.Goals as goal

pub gather-requires-clause-fed : goal.gather-requires-clause-fed
gather-requires-clause-fed c =
    let many = c.in_ok-channels.ensures.many in
    rw c.deref_mut.ensures.value (fed-none c.args.stamps.now c.args.live c.in_ok-channels.channels.items (λ f d h. c.in_ok-channels.ensures.unfed f d (omega (arith, many))))

pub returns-clause-open : goal.returns-clause-open
returns-clause-open c =
    let many = c.in_ok-channels.ensures.many in
    let used = rw c.deref_mut.ensures.value at c.in_ok-gather.ensures.used in
    let new = with_items_is c.in_ok-channels.channels c.gather.new.channels (omega (arith, many)) in
    let low : c.args.live < 2 ^ 64 = omega arith in
    rw new (opens c.args.live c.in_ok-channels.channels.items c.gather.new.channels many c.in_ok-channels.ensures.unfed low used)
