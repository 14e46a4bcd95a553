use Rattle.std.proofs.Common.{arith}
use Rattle.std.proofs.lemmas.List.{with_items_is}
use Rattle.pth_kernel.proofs.Sound.{sound}
use Rattle.pth_kernel.proofs.Starting.{starts}
use Rattle.pth_kernel.proofs.kernel.Kernel.new.Goals as goal

pub gathered-requires : goal.gathered-requires
gathered-requires c = rw c.stamps.ensures (sound c.args.live.0 c.args.trace c.requires.sound)

pub count-place-requires-clause-sound : goal.count-place-requires-clause-sound
count-place-requires-clause-sound c = rw c.stamps-2.ensures (sound c.args.live.0 c.args.trace c.requires.sound)

pub invariant_of-result : goal.invariant_of-result
invariant_of-result c =
    let many = c.in_ok-channels.ensures.many in
    let new = with_items_is c.in_ok-channels.channels c.count-place.new.channels (omega (arith, many)) in
    rw new (record {
      sound = sound c.args.live.0 c.args.trace c.requires.sound;
      early = omega arith;
      short = c.requires.clock;
      divided = rw c.stamps-2.ensures at c.count-place.ensures.divided;
      many = omega (arith, many);
      fed = rw c.stamps-2.ensures at c.count-place.ensures.fed;
    })

pub returns : goal.returns
returns c =
    let many = c.in_ok-channels.ensures.many in
    let new = with_items_is c.in_ok-channels.channels c.count-place.new.channels (omega (arith, many)) in
    let same = rw c.deref_mut.ensures.value at c.count-place.ensures.used in
    rw new (starts c.args.trace c.args.clock c.args.live.0 c.in_ok-channels.channels.items c.count-place.new.channels c.in_ok-channels.ensures.open same)
