use Rattle.std.proofs.Common.{◌∙◌, sym, arith, rules, SFits, w64, to_z-of_z}
use Rattle.pth_kernel.specs.Kernel.{kernel_of}
use Rattle.pth_model.specs.State.{now_of}
use Rattle.pth_waits.proofs.Arrivals.{descriptors_later, descriptors_stay}
use Rattle.pth_waits.proofs.Dormancy.{is_not_here, later_than_now}
use Rattle.pth_waits.proofs.Standing.{none_died, none_left}
use Rattle.pth_waits.proofs.dormant.awaits_until.Goals as goal

pub returns-in_default-clause-away : goal.returns-in_default-clause-away
returns-in_default-clause-away g c = λ s st some.
    let d = c.in_default in
    descriptors_stay s c.descriptors_until.result _ c.args.awaits d.not-Alone d.not-AnyDeath d.not-Death d.not-Moment d.not-Mutex d.not-Lock d.not-Round d.not-Notice d.not-Retaking (kernel_of c.args.w.now.kernel) st.control.kernel (rw c.kernel.ensures at c.descriptors_until.ensures.away)

pub returns-in-AnyDeath-clause-away : goal.returns-in-AnyDeath-clause-away
returns-in-AnyDeath-clause-away g c = λ s st some.
    let none = is_not_here _ _ c.never_unless-in-AnyDeath.ensures.until some in
    rw c.in-AnyDeath.is (none_left c.args.w.now c.requires.whole s.control st.control (sym (c.any_has_died.ensures s.control st.control) ∙ none))

pub returns-in-AnyDeath-clause-later : goal.returns-in-AnyDeath-clause-later
returns-in-AnyDeath-clause-later g c = λ s st away.
    let none = none_died c.args.w.now c.requires.whole s.control st.control (rw c.in-AnyDeath.is at away) in
    later_than_now c.args.w.now s.control st.control _ (c.never_unless-in-AnyDeath.ensures.later (c.any_has_died.ensures s.control st.control ∙ none))

pub returns-in-Death-clause-later : goal.returns-in-Death-clause-later
returns-in-Death-clause-later g c = λ s st away.
    let fits : SFits w64 c.in-Death.n = search rules in
    let none = (rw c.in-Death.is at away) (now_of s.control) (omega arith) (omega arith) in
    later_than_now c.args.w.now s.control st.control _ (c.never_unless-in-Death.ensures.later ((rw to_z-of_z at c.has_died.ensures) s.control st.control ∙ none))

pub returns-in-Mutex-clause-later : goal.returns-in-Mutex-clause-later
returns-in-Mutex-clause-later g c = λ s st away.
    let fits : SFits w64 c.in-Mutex.m = search rules in
    let none = (rw c.in-Mutex.is at away) (now_of s.control) (omega arith) (omega arith) in
    later_than_now c.args.w.now s.control st.control _ (c.never_unless-in-Mutex.ensures.later ((rw to_z-of_z at c.is_free_mutex.ensures) s st ∙ none))

pub returns-in-Lock-clause-later : goal.returns-in-Lock-clause-later
returns-in-Lock-clause-later g c = λ s st away.
    let fits : SFits w64 c.in-Lock.l = search rules in
    let none = (rw c.in-Lock.is at away) (now_of s.control) (omega arith) (omega arith) in
    later_than_now c.args.w.now s.control st.control _ (c.never_unless-in-Lock.ensures.later ((rw to_z-of_z at c.is_open_lock.ensures) s st ∙ none))

pub returns-in-Round-clause-later : goal.returns-in-Round-clause-later
returns-in-Round-clause-later g c = λ s st away.
    let fits : SFits w64 c.in-Round.b = search rules in
    let none = (rw c.in-Round.is at away) (now_of s.control) (omega arith) (omega arith) in
    later_than_now c.args.w.now s.control st.control _ (c.never_unless-in-Round.ensures.later ((rw to_z-of_z at c.has_passed.ensures) s.control st.control ∙ none))

pub returns-in-Notice-clause-later : goal.returns-in-Notice-clause-later
returns-in-Notice-clause-later g c = λ s st away.
    let fits : SFits w64 c.in-Notice.c = search rules in
    let none = (rw c.in-Notice.is at away) (now_of s.control) (omega arith) (omega arith) in
    later_than_now c.args.w.now s.control st.control _ (c.never_unless-in-Notice.ensures.later ((rw (to_z-of_z, c.thread_in-in-Notice.ensures.tid) at c.is_noticed.ensures) s st ∙ none))

pub returns-in_default-clause-later : goal.returns-in_default-clause-later
returns-in_default-clause-later g c = λ s st away.
    let d = c.in_default in
    descriptors_later s c.descriptors_until.result _ c.args.awaits d.not-Alone d.not-AnyDeath d.not-Death d.not-Moment d.not-Mutex d.not-Lock d.not-Round d.not-Notice d.not-Retaking (kernel_of c.args.w.now.kernel) st.control.kernel (rw c.kernel.ensures at c.descriptors_until.ensures.later) away
