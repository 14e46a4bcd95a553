-- Runs whose marks the definitions alone compute: a waiter at a condition that is canceled and hands its signal on, a barrier whose first
-- arrival is aborted, and a message port that is destroyed while messages are pending on it.
use Rattle.std.specs.Prelude.{ℕ, zero, suc, ◌+◌, pos, negsuc, List, [], ◌∷◌, None, Some}
use Rattle.pth_base.specs.Program.{Functions}
use Rattle.pth_base.specs.declared.answer.Answer.TheVariants.{Int, Msg, Fail}
use Rattle.pth_base.specs.declared.call.Call.{Call}
use Rattle.pth_base.specs.declared.call.Call.TheVariants.{Spawn, Yield, Cancel, Abort, Join, Exit, PortCreate, PortPut, PortGet, PortDestroy, MutexInit, MutexAcquire, CondInit, CondAwait, CondNotify, BarrierInit, BarrierReach}
use Rattle.pth_base.specs.declared.errno.Errno.TheVariants.{ENOENT}
use Rattle.pth_base.specs.declared.mark.Mark.{Mark}
use Rattle.pth_base.specs.declared.mark.Mark.TheVariants.{Dispatch, Answered, Waits, Woke, Canceled, Took, GaveMutex, Withdrew, Ended}
use Rattle.pth_model.specs.Example.{Place, two_bodies}
use Rattle.pth_model.specs.Transition.{tid}

-- the calls of a body, one after another; behind them it exits with 5
abbrev pub call_in : List Call → ℕ → Call
call_in [] n = Exit (pos 5)
call_in (c ∷ cs) zero = c
call_in (c ∷ cs) (suc n) = call_in cs n

-- those of main, and those of every other thread
abbrev pub call_of : (main others : List Call) → (body gone : ℕ) → Call
call_of main others zero n = call_in main n
call_of main others (suc b) n = call_in others n

abbrev pub bodies_of : (main others : List Call) → ℕ → Functions Place ℕ
bodies_of main others p = record (two_bodies p) { step = λ s h answer. record { call = call_of main others s.body s.gone; state = record s { gone = s.gone + 1 }; shared = h } }

-- ---- threads 2 and 3 wait at a condition; thread 2 is notified, and canceled before it runs

abbrev pub waiters : ℕ → Functions Place ℕ
waiters = bodies_of
    (MutexInit (pos 0)
    ∷ CondInit (pos 0)
    ∷ Spawn (pos 1) (pos 0) (pos 0)
    ∷ Spawn (pos 1) (pos 0) (pos 0)
    ∷ Yield (pos 0)
    ∷ CondNotify (pos 0) (pos 0)
    ∷ Cancel (pos 2)
    ∷ Join (pos 3)
    ∷ [])
    (MutexAcquire (pos 0) (pos 0) (pos 0)
    ∷ CondAwait (pos 0) (pos 0) (pos 0)
    ∷ [])

-- thread 2 reacquires the mutex, gives it up as it ends, and thread 3 is notified in its place
abbrev pub waiters_marks : List Mark
waiters_marks =
    Dispatch 1 0 (tid 1) (pos 0) 0 6
    ∷ Answered (tid 1) (MutexInit (pos 0)) (Int (pos 1))
    ∷ Answered (tid 1) (CondInit (pos 0)) (Int (pos 1))
    ∷ Answered (tid 1) (Spawn (pos 1) (pos 0) (pos 0)) (Int (pos 2))
    ∷ Answered (tid 1) (Spawn (pos 1) (pos 0) (pos 0)) (Int (pos 3))
    ∷ Answered (tid 1) (Yield (pos 0)) (Int (pos 1))
    ∷ Dispatch 2 1 (tid 2) (pos 2) 0 4
    ∷ Answered (tid 2) (MutexAcquire (pos 0) (pos 0) (pos 0)) (Int (pos 1))
    ∷ Waits (tid 2) (CondAwait (pos 0) (pos 0) (pos 0))
    ∷ Dispatch 3 2 (tid 3) (pos 2) 1 5
    ∷ Answered (tid 3) (MutexAcquire (pos 0) (pos 0) (pos 0)) (Int (pos 1))
    ∷ Waits (tid 3) (CondAwait (pos 0) (pos 0) (pos 0))
    ∷ Dispatch 4 3 (tid 1) (pos 2) 2 6
    ∷ Answered (tid 1) (CondNotify (pos 0) (pos 0)) (Int (pos 1))
    ∷ Answered (tid 1) (Cancel (pos 2)) (Int (pos 1))
    ∷ Waits (tid 1) (Join (pos 3))
    ∷ Woke (tid 2) (pos 1)
    ∷ Dispatch 5 4 (tid 2) (pos 1) 0 5
    ∷ Canceled (tid 2) (Some (CondAwait (pos 0) (pos 0) (pos 0)))
    ∷ Took (tid 2) 0
    ∷ GaveMutex (tid 2) 0
    ∷ Ended (tid 2) (negsuc 0)
    ∷ Woke (tid 3) (pos 1)
    ∷ Dispatch 6 5 (tid 3) (pos 1) 0 5
    ∷ Answered (tid 3) (CondAwait (pos 0) (pos 0) (pos 0)) (Int (pos 1))
    ∷ GaveMutex (tid 3) 0
    ∷ Ended (tid 3) (pos 5)
    ∷ Woke (tid 1) (pos 1)
    ∷ Dispatch 7 6 (tid 1) (pos 1) 0 5
    ∷ Answered (tid 1) (Join (pos 3)) (Int (pos 5))
    ∷ Ended (tid 1) (pos 5)
    ∷ []

-- ---- a barrier for two threads; thread 2 reaches it first, and is aborted

abbrev pub arrivals : ℕ → Functions Place ℕ
arrivals = bodies_of
    (BarrierInit (pos 0) (pos 2)
    ∷ Spawn (pos 1) (pos 0) (pos 0)
    ∷ Yield (pos 0)
    ∷ Abort (pos 2)
    ∷ Spawn (pos 1) (pos 0) (pos 0)
    ∷ Yield (pos 0)
    ∷ BarrierReach (pos 0)
    ∷ Join (pos 3)
    ∷ [])
    (BarrierReach (pos 0) ∷ [])

-- its arrival is taken back, so thread 3 is the first of the round (PTH_BARRIER_HEADLIGHT), and main the last (PTH_BARRIER_TAILLIGHT)
abbrev pub arrivals_marks : List Mark
arrivals_marks =
    Dispatch 1 0 (tid 1) (pos 0) 0 6
    ∷ Answered (tid 1) (BarrierInit (pos 0) (pos 2)) (Int (pos 1))
    ∷ Answered (tid 1) (Spawn (pos 1) (pos 0) (pos 0)) (Int (pos 2))
    ∷ Answered (tid 1) (Yield (pos 0)) (Int (pos 1))
    ∷ Dispatch 2 1 (tid 2) (pos 1) 0 5
    ∷ Waits (tid 2) (BarrierReach (pos 0))
    ∷ Dispatch 3 2 (tid 1) (pos 1) 1 6
    ∷ Canceled (tid 2) None
    ∷ Withdrew (tid 2) 0
    ∷ Ended (tid 2) (negsuc 0)
    ∷ Answered (tid 1) (Abort (pos 2)) (Int (pos 1))
    ∷ Answered (tid 1) (Spawn (pos 1) (pos 0) (pos 0)) (Int (pos 3))
    ∷ Answered (tid 1) (Yield (pos 0)) (Int (pos 1))
    ∷ Dispatch 4 3 (tid 3) (pos 1) 0 5
    ∷ Waits (tid 3) (BarrierReach (pos 0))
    ∷ Dispatch 5 4 (tid 1) (pos 1) 1 6
    ∷ Answered (tid 1) (BarrierReach (pos 0)) (Int (negsuc 1))
    ∷ Waits (tid 1) (Join (pos 3))
    ∷ Woke (tid 3) (pos 1)
    ∷ Dispatch 6 5 (tid 3) (pos 1) 0 5
    ∷ Answered (tid 3) (BarrierReach (pos 0)) (Int (negsuc 0))
    ∷ Ended (tid 3) (pos 5)
    ∷ Woke (tid 1) (pos 1)
    ∷ Dispatch 7 6 (tid 1) (pos 1) 0 5
    ∷ Answered (tid 1) (Join (pos 3)) (Int (pos 5))
    ∷ Ended (tid 1) (pos 5)
    ∷ []

-- ---- two messages with reply port 2 and one without are pending on port 1, which is destroyed

abbrev pub replies : ℕ → Functions Place ℕ
replies = bodies_of
    (PortCreate None
    ∷ PortCreate None
    ∷ PortPut (pos 1) (pos 7) (pos 2)
    ∷ PortPut (pos 1) (pos 8) (pos 2)
    ∷ PortPut (pos 1) (pos 9) (pos 0)
    ∷ PortDestroy (pos 1)
    ∷ PortGet (pos 2)
    ∷ PortGet (pos 2)
    ∷ PortGet (pos 2)
    ∷ [])
    []

-- the two are replied to port 2, the oldest first, and the third is gone
abbrev pub replies_marks : List Mark
replies_marks =
    Dispatch 1 0 (tid 1) (pos 0) 0 6
    ∷ Answered (tid 1) (PortCreate None) (Int (pos 1))
    ∷ Answered (tid 1) (PortCreate None) (Int (pos 2))
    ∷ Answered (tid 1) (PortPut (pos 1) (pos 7) (pos 2)) (Int (pos 1))
    ∷ Answered (tid 1) (PortPut (pos 1) (pos 8) (pos 2)) (Int (pos 1))
    ∷ Answered (tid 1) (PortPut (pos 1) (pos 9) (pos 0)) (Int (pos 1))
    ∷ Answered (tid 1) (PortDestroy (pos 1)) (Int (pos 1))
    ∷ Answered (tid 1) (PortGet (pos 2)) (Msg (record { 0 = 1 }) (pos 7))
    ∷ Answered (tid 1) (PortGet (pos 2)) (Msg (record { 0 = 2 }) (pos 8))
    ∷ Answered (tid 1) (PortGet (pos 2)) (Fail ENOENT)
    ∷ Ended (tid 1) (pos 5)
    ∷ []
