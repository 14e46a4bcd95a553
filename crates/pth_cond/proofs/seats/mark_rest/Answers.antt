use Rattle.std.proofs.Common.{◌≤◌, arith}
use Rattle.pth_cond.specs.Seats.{marks}
use Rattle.pth_cond.proofs.Seating.{all_none, all_more, all_end}
use Rattle.pth_cond.proofs.seats.mark_rest.Goals as goal

pub loop-i-init : goal.loop-i-init
loop-i-init c = all_none c.args.taken.now c.args.marked c.requires.count c.requires.order

pub loop-i-preserved : goal.loop-i-preserved
loop-i-preserved c =
    let from : marks c.args.taken.now ≤ c.loop-i.i = omega (arith, c.requires.count) in
    all_more c.args.taken.now c.loop-i.taken c.loop-i.i _ c.requires.order from c.loop-i-test.true c.loop-i.invariant

pub returns : goal.returns
returns c = all_end c.args.taken.now c.loop-i.taken c.loop-i.i c.loop-i-test.false c.loop-i.invariant
