use Rattle.std.proofs.Common.{arith}
use Rattle.pth_calls.proofs.Framing.{rings_frame}
use Rattle.pth_world.specs.Numbering.{no_numbers}
use Rattle.pth_calls.proofs.event_handling.ev_isolate.Goals as goal

pub returns-in-Ok-Some-clause-frame : goal.returns-in-Ok-Some-clause-frame
returns-in-Ok-Some-clause-frame g c =
    let changes = rw c.rings_mut.ensures.value at c.isolate.ensures.changes in
    let refused = rw c.rings_mut.ensures.value at c.isolate.ensures.refused in
    rings_frame c.args.w.now c.requires.whole no_numbers c.isolate.new.self _ c.isolate.result changes refused (omega arith)

pub returns-in-Ok-None-clause-frame : goal.returns-in-Ok-None-clause-frame
returns-in-Ok-None-clause-frame g c =
    let changes = rw c.rings_mut.ensures.value at c.isolate.ensures.changes in
    let refused = rw c.rings_mut.ensures.value at c.isolate.ensures.refused in
    rings_frame c.args.w.now c.requires.whole no_numbers c.isolate.new.self _ c.isolate.result changes refused (omega arith)

pub returns-in-Err-clause-frame : goal.returns-in-Err-clause-frame
returns-in-Err-clause-frame g c =
    let changes = rw c.rings_mut.ensures.value at c.isolate.ensures.changes in
    let refused = rw c.rings_mut.ensures.value at c.isolate.ensures.refused in
    rings_frame c.args.w.now c.requires.whole no_numbers c.isolate.new.self _ c.isolate.result changes refused (omega arith)
