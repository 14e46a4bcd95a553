use Rattle.std.proofs.Common.{rules, SFits, w64, to_z-of_z}
use Rattle.pth_waits.proofs.wakes.has_come.Goals as goal

pub returns-in-Alone : goal.returns-in-Alone
returns-in-Alone g c s st = rw (c.in-Alone.is, ← c.thread_in.ensures.tid) (c.is_alone.ensures s.control st.control)

pub returns-in-Death : goal.returns-in-Death
returns-in-Death g c s st =
    let n : SFits w64 c.in-Death.n = search rules in
    rw c.in-Death.is ((rw to_z-of_z at c.has_died.ensures) s.control st.control)

pub returns-in-AnyDeath : goal.returns-in-AnyDeath
returns-in-AnyDeath g c s st = rw c.in-AnyDeath.is (c.requires.dead s.control st.control)

pub returns-in-Moment : goal.returns-in-Moment
returns-in-Moment g c s st = rw (c.in-Moment.is, st.control.kernel) (search rules)

pub returns-in-Mutex : goal.returns-in-Mutex
returns-in-Mutex g c s st =
    let m : SFits w64 c.in-Mutex.m = search rules in
    rw c.in-Mutex.is ((rw to_z-of_z at c.is_free_mutex.ensures) s st)

pub returns-in-Lock : goal.returns-in-Lock
returns-in-Lock g c s st =
    let l : SFits w64 c.in-Lock.l = search rules in
    rw c.in-Lock.is ((rw to_z-of_z at c.is_open_lock.ensures) s st)

pub returns-in-Round : goal.returns-in-Round
returns-in-Round g c s st =
    let b : SFits w64 c.in-Round.b = search rules in
    rw c.in-Round.is ((rw to_z-of_z at c.has_passed.ensures) s.control st.control)
