use Rattle.std.proofs.Common.{arith}
use Rattle.pth_calls.proofs.Framing.{made_either, rings_frame}
use Rattle.pth_world.specs.Numbering.{no_numbers}
use Rattle.pth_calls.proofs.event_handling.ev_free.Goals as goal

pub returns-clause-frame : goal.returns-clause-frame
returns-clause-frame g c =
    let changes = rw c.rings_mut.ensures.value at c.free.ensures.changes in
    let refused = rw c.rings_mut.ensures.value at c.free.ensures.refused in
    rings_frame c.args.w.now c.requires.whole no_numbers c.free.new.self _ c.free.result changes refused (made_either c.args.all _ _ _ (omega arith) (omega arith))
