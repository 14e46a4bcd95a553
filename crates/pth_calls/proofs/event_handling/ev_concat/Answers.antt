use Rattle.std.proofs.Common.{arith}
use Rattle.pth_calls.proofs.Framing.{rings_frame}
use Rattle.pth_world.specs.Numbering.{no_numbers}
use Rattle.pth_calls.proofs.event_handling.ev_concat.Goals as goal

pub returns-in-Ok-clause-frame : goal.returns-in-Ok-clause-frame
returns-in-Ok-clause-frame g c =
    let changes = rw c.rings_mut.ensures.value at c.concat.ensures.changes in
    let refused = rw c.rings_mut.ensures.value at c.concat.ensures.refused in
    rings_frame c.args.w.now c.requires.whole no_numbers c.concat.new.self _ c.concat.result changes refused (omega arith)

pub returns-in-Err-clause-frame : goal.returns-in-Err-clause-frame
returns-in-Err-clause-frame g c =
    let changes = rw c.rings_mut.ensures.value at c.concat.ensures.changes in
    let refused = rw c.rings_mut.ensures.value at c.concat.ensures.refused in
    rings_frame c.args.w.now c.requires.whole no_numbers c.concat.new.self _ c.concat.result changes refused (omega arith)
