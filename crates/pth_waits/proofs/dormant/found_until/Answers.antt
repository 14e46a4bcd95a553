use Rattle.std.proofs.Common.{SFits, w64, rules, arith, to_z-of_z}
use Rattle.pth_model.specs.State.{now_of}
use Rattle.pth_waits.proofs.dormant.found_until.Goals as goal

pub returns-in-Fd-clause-pending : goal.returns-in-Fd-clause-pending
returns-in-Fd-clause-pending g c = λ s st.
    let fits : SFits w64 c.in-Fd.fd = search rules in
    rw c.in-Fd.is ((rw to_z-of_z at c.fd_until.ensures.pending) s c.args.e.0 st)

pub returns-in-Fd-clause-later : goal.returns-in-Fd-clause-later
returns-in-Fd-clause-later g c = λ s st finds.
    let fits : SFits w64 c.in-Fd.fd = search rules in
    (rw to_z-of_z at c.fd_until.ensures.later) s c.args.e.0 st ((rw c.in-Fd.is at finds).1 (now_of s.control) (omega arith) (omega arith))

pub returns-in-Select-clause-pending : goal.returns-in-Select-clause-pending
returns-in-Select-clause-pending g c = λ s st. rw c.in-Select.is (c.select_until.ensures.pending s c.args.e.0 st)

pub returns-in-Select-clause-later : goal.returns-in-Select-clause-later
returns-in-Select-clause-later g c = λ s st finds. c.select_until.ensures.later s c.args.e.0 st ((rw c.in-Select.is at finds).1 (now_of s.control) (omega arith) (omega arith))

pub returns-in-Msg-clause-pending : goal.returns-in-Msg-clause-pending
returns-in-Msg-clause-pending g c = λ s st.
    let fits : SFits w64 c.in-Msg.p = search rules in
    rw c.in-Msg.is ((rw to_z-of_z at c.message_until.ensures.pending) s c.args.e.0 st)

pub returns-in-Msg-clause-later : goal.returns-in-Msg-clause-later
returns-in-Msg-clause-later g c = λ s st finds.
    let fits : SFits w64 c.in-Msg.p = search rules in
    (rw to_z-of_z at c.message_until.ensures.later) s c.args.e.0 st ((rw c.in-Msg.is at finds).1 (now_of s.control) (omega arith) (omega arith))

pub returns-in-Cond-clause-pending : goal.returns-in-Cond-clause-pending
returns-in-Cond-clause-pending g c = λ s st.
    let fits : SFits w64 c.in-Cond.c = search rules in
    rw c.in-Cond.is ((rw to_z-of_z at c.cond_until.ensures.pending) s st)

pub returns-in-Cond-clause-later : goal.returns-in-Cond-clause-later
returns-in-Cond-clause-later g c = λ s st finds.
    let fits : SFits w64 c.in-Cond.c = search rules in
    (rw to_z-of_z at c.cond_until.ensures.later) s st ((rw c.in-Cond.is at finds).1 (now_of s.control) (omega arith) (omega arith))
