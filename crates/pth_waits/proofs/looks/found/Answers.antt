use Rattle.std.proofs.Common.{SFits, w64, rules, to_z-of_z}
use Rattle.pth_waits.proofs.looks.found.Goals as goal

pub returns-in-Fd : goal.returns-in-Fd
returns-in-Fd g c s st =
    let fits : SFits w64 c.in-Fd.fd = search rules in
    rw c.in-Fd.is ((rw to_z-of_z at c.found_fd.ensures) s c.args.e.0 st)

pub returns-in-Select : goal.returns-in-Select
returns-in-Select g c s st = rw c.in-Select.is (c.found_select.ensures s c.args.e.0 st)

pub returns-in-Msg : goal.returns-in-Msg
returns-in-Msg g c s st =
    let fits : SFits w64 c.in-Msg.p = search rules in
    rw c.in-Msg.is ((rw to_z-of_z at c.found_message.ensures) s c.args.e.0 st)

pub returns-in-Tid : goal.returns-in-Tid
returns-in-Tid g c s st =
    let fits : SFits w64 c.in-Tid.tid = search rules in
    rw c.in-Tid.is ((rw to_z-of_z at c.found_thread.ensures) s c.args.e.0 st)
