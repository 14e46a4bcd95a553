-- What the laws of plans speak of.
use Rattle.std.specs.Prelude.{Bool, true, false, List, ◌∷◌}
use Rattle.pth_base.specs.declared.answer.Answer.{Answer}
use Rattle.pth_base.specs.declared.answer.Answer.TheVariants as answer
use Rattle.pth_base.specs.declared.errno.Errno.TheVariants.{EINTR}
use Rattle.pth_posix.specs.declared.pcall.PCall.{PCall}
use Rattle.pth_posix.specs.declared.pcall.PCall.TheVariants.{Exit, TimedWait}
use Rattle.pth_posix.specs.declared.plan.Planned.{Planned}
use Rattle.pth_posix.specs.declared.plan.Planned.TheVariants.{Calls, Answers}

-- an exit is never answered
abbrev pub is_exit : PCall → Bool
is_exit (Exit v) = true
is_exit c = false

-- the plan has an answer, and no call
abbrev pub is_answered : Planned → Bool
is_answered (Answers a) = true
is_answered (Calls c) = false

-- a timed wait whose `ev_time` gave an event, whose `cond_await` was answered EINTR, and whose `ev_free` was answered
abbrev pub is_timed_out : PCall → List Answer → Bool
is_timed_out (TimedWait c m at) (answer.Int e ∷ answer.Fail EINTR ∷ freed ∷ more) = true
is_timed_out c got = false
