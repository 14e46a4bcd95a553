-- Runs, computed by the definitions alone: in one main spawns a thread, yields to it and exits; in another it suspends one of
-- two threads, yields to the other by name, and resumes and joins the first; in the others it naps, waits for an event, reads, and
-- ends with a cleanup handler and values under two keys.
use Rattle.std.specs.Prelude.{ℕ, zero, suc, ◌+◌, ℤ, pos, false, List, [], ◌∷◌, ◌++◌, Option, Some, None}
use Rattle.pth_base.specs.Program.{Functions}
use Rattle.pth_base.specs.declared.act.Act.{Act}
use Rattle.pth_base.specs.declared.act.Act.TheVariants as act
use Rattle.pth_base.specs.declared.answer.Answer.TheVariants as answer
use Rattle.pth_base.specs.declared.answer.Answer.TheVariants.{Int, Bytes}
use Rattle.pth_kernel.specs.declared.trace.Entry.TheVariants.{Arrive}
use Rattle.pth_base.specs.declared.call.Call.{Call}
use Rattle.pth_base.specs.declared.call.Call.TheVariants.{Spawn, Suspend, Resume, Yield, Nap, Wait, Join, Exit, EvTime, Read, KeyCreate, KeySet, CleanupPush}
use Rattle.pth_base.specs.declared.mark.Mark.{Mark}
use Rattle.pth_kernel.specs.Kernel.{started}
use Rattle.pth_model.specs.State.{Given}
use Rattle.pth_base.specs.declared.mark.Mark.TheVariants.{Dispatch, Answered, Waits, Woke, Moved, Handler, Destructor, Acted, Ended}
use Rattle.pth_model.specs.Transition.{tid}

-- where a thread stands: its body, and how many lines it has gone
pub record Place : Type 0 where
  pub body : ℕ
  pub gone : ℕ

-- main's lines, and those of the other body
abbrev pub call_at : ℕ → ℕ → Call
call_at zero zero = Spawn (pos 1) (pos 9) (pos 0)
call_at zero (suc zero) = Yield (pos 0)
call_at zero (suc (suc n)) = Exit (pos 0)
call_at (suc b) n = Exit (pos 9)

-- a program of no note, and a kernel to whose descriptors nothing comes
abbrev pub given : Given ℕ
given = record { program = 0; kernel = started 1 0 []; top = 5 }

-- the program, whose shared value is nothing of note
abbrev pub two_bodies : ℕ → Functions Place ℕ
two_bodies p = record {
  shared = 0;
  bodies = 2;
  start = λ body arg. record { body = body; gone = 0 };
  step = λ s h answer. record { call = call_at s.body s.gone; state = record s { gone = s.gone + 1 }; shared = h };
  check = λ check arg h. false;
  act = λ handler arg index h. record { act = None; shared = h };
}

-- what its run tells: three turns, the child's end, and main's
abbrev pub its_marks : List Mark
its_marks =
    Dispatch 1 0 (tid 1) (pos 0) 0 6
    ∷ Answered (tid 1) (Spawn (pos 1) (pos 9) (pos 0)) (Int (pos 2))
    ∷ Answered (tid 1) (Yield (pos 0)) (Int (pos 1))
    ∷ Dispatch 2 1 (tid 2) (pos 1) 0 5
    ∷ Ended (tid 2) (pos 9)
    ∷ Dispatch 3 2 (tid 1) (pos 1) 1 6
    ∷ Ended (tid 1) (pos 0)
    ∷ []

-- ---- suspending, naming and joining

abbrev pub joining_call_at : ℕ → ℕ → Call
joining_call_at zero zero = Spawn (pos 1) (pos 0) (pos 0)
joining_call_at zero (suc zero) = Spawn (pos 1) (pos 0) (pos 0)
joining_call_at zero (suc (suc zero)) = Suspend (pos 2)
joining_call_at zero (suc (suc (suc zero))) = Yield (pos 3)
joining_call_at zero (suc (suc (suc (suc zero)))) = Resume (pos 2)
joining_call_at zero (suc (suc (suc (suc (suc zero))))) = Join (pos 2)
joining_call_at zero (suc (suc (suc (suc (suc (suc n)))))) = Exit (pos 0)
joining_call_at (suc b) n = Exit (pos 9)

abbrev pub joining_bodies : ℕ → Functions Place ℕ
joining_bodies p = record (two_bodies p) { step = λ s h answer. record { call = joining_call_at s.body s.gone; state = record s { gone = s.gone + 1 }; shared = h } }

-- t3 runs by its name, though t2 was made before it; t2 is resumed, and its end wakes main, whose join is answered its value
abbrev pub joining_marks : List Mark
joining_marks =
    Dispatch 1 0 (tid 1) (pos 0) 0 6
    ∷ Answered (tid 1) (Spawn (pos 1) (pos 0) (pos 0)) (Int (pos 2))
    ∷ Answered (tid 1) (Spawn (pos 1) (pos 0) (pos 0)) (Int (pos 3))
    ∷ Answered (tid 1) (Suspend (pos 2)) (Int (pos 1))
    ∷ Answered (tid 1) (Yield (pos 3)) (Int (pos 1))
    ∷ Dispatch 2 1 (tid 3) (pos 1) 0 5
    ∷ Ended (tid 3) (pos 9)
    ∷ Dispatch 3 2 (tid 1) (pos 1) 1 6
    ∷ Answered (tid 1) (Resume (pos 2)) (Int (pos 1))
    ∷ Waits (tid 1) (Join (pos 2))
    ∷ Dispatch 4 3 (tid 2) (pos 5) 0 1
    ∷ Ended (tid 2) (pos 9)
    ∷ Woke (tid 1) (pos 1)
    ∷ Dispatch 5 4 (tid 1) (pos 1) 0 5
    ∷ Answered (tid 1) (Join (pos 2)) (Int (pos 9))
    ∷ Ended (tid 1) (pos 0)
    ∷ []

-- ---- a nap

abbrev pub napping_call_at : ℕ → Call
napping_call_at zero = Nap (pos 5)
napping_call_at (suc n) = Exit (pos 0)

abbrev pub napping_bodies : ℕ → Functions Place ℕ
napping_bodies p = record (two_bodies p) { step = λ s h answer. record { call = napping_call_at s.gone; state = record s { gone = s.gone + 1 }; shared = h } }

-- nothing is ready, so time moves to the end of the nap
abbrev pub napping_marks : List Mark
napping_marks =
    Dispatch 1 0 (tid 1) (pos 0) 0 6
    ∷ Waits (tid 1) (Nap (pos 5))
    ∷ Moved 5
    ∷ Woke (tid 1) (pos 1)
    ∷ Dispatch 2 5 (tid 1) (pos 1) 0 5
    ∷ Answered (tid 1) (Nap (pos 5)) (Int (pos 1))
    ∷ Ended (tid 1) (pos 0)
    ∷ []

-- ---- an event

abbrev pub waiting_call_at : ℕ → Call
waiting_call_at zero = EvTime (pos 8)
waiting_call_at (suc zero) = Wait (pos 1)
waiting_call_at (suc (suc n)) = Exit (pos 0)

abbrev pub waiting_bodies : ℕ → Functions Place ℕ
waiting_bodies p = record (two_bodies p) { step = λ s h answer. record { call = waiting_call_at s.gone; state = record s { gone = s.gone + 1 }; shared = h } }

-- time moves to the moment of the event, and one event of the ring has occurred
abbrev pub waiting_marks : List Mark
waiting_marks =
    Dispatch 1 0 (tid 1) (pos 0) 0 6
    ∷ Answered (tid 1) (EvTime (pos 8)) (Int (pos 1))
    ∷ Waits (tid 1) (Wait (pos 1))
    ∷ Moved 8
    ∷ Woke (tid 1) (pos 1)
    ∷ Dispatch 2 8 (tid 1) (pos 1) 0 5
    ∷ Answered (tid 1) (Wait (pos 1)) (Int (pos 1))
    ∷ Ended (tid 1) (pos 0)
    ∷ []

-- ---- a read

-- one byte comes to descriptor 3, which is open from the start
abbrev pub given_a_byte : Given ℕ
given_a_byte = record { program = 0; kernel = started 1 8 (record { at = 5; fd = record { 0 = 3 }; what = Arrive (97 ∷ []) } ∷ []); top = 5 }

abbrev pub reading_call_at : ℕ → Call
reading_call_at zero = Read (pos 3) (pos 10)
reading_call_at (suc n) = Exit (pos 0)

abbrev pub reading_bodies : ℕ → Functions Place ℕ
reading_bodies p = record (two_bodies p) { step = λ s h answer. record { call = reading_call_at s.gone; state = record s { gone = s.gone + 1 }; shared = h } }

-- time moves to the moment at which the byte comes
abbrev pub reading_marks : List Mark
reading_marks =
    Dispatch 1 0 (tid 1) (pos 0) 0 6
    ∷ Waits (tid 1) (Read (pos 3) (pos 10))
    ∷ Moved 5
    ∷ Woke (tid 1) (pos 1)
    ∷ Dispatch 2 5 (tid 1) (pos 1) 0 5
    ∷ Answered (tid 1) (Read (pos 3) (pos 10)) (Bytes (97 ∷ []))
    ∷ Ended (tid 1) (pos 0)
    ∷ []

-- ---- an ending

abbrev pub ending_call_at : ℕ → Call
ending_call_at zero = KeyCreate (Some (pos 0))
ending_call_at (suc zero) = KeyCreate (Some (pos 1))
ending_call_at (suc (suc zero)) = KeySet (pos 0) (pos 1)
ending_call_at (suc (suc (suc zero))) = KeySet (pos 1) (pos 2)
ending_call_at (suc (suc (suc (suc zero)))) = CleanupPush (pos 2) (pos 5)
ending_call_at (suc (suc (suc (suc (suc n))))) = Exit (pos 0)

-- handlers 0 and 1 note the value and set one under the other's key, handler 2 notes its argument
abbrev pub ending_act_at : ℕ → ℤ → ℕ → Option Act
ending_act_at zero v zero = Some (act.Note v)
ending_act_at zero v (suc zero) = Some (act.SetKey (pos 1) (pos 7))
ending_act_at (suc zero) v zero = Some (act.Note v)
ending_act_at (suc zero) v (suc zero) = Some (act.SetKey (pos 0) (pos 3))
ending_act_at (suc (suc n)) v zero = Some (act.Note v)
ending_act_at h v i = None

abbrev pub ending_bodies : ℕ → Functions Place ℕ
ending_bodies p = record (two_bodies p) {
  step = λ s h answer. record { call = ending_call_at s.gone; state = record s { gone = s.gone + 1 }; shared = h };
  act = λ handler v index h. record { act = ending_act_at handler v index; shared = h };
}

-- a destructor of key 0 with a value, and one of key 1 with 7, each with its two acts
abbrev pub one_round : ℤ → List Mark
one_round v =
    Destructor (tid 1) 0 v
    ∷ Acted (tid 1) (act.Note v) answer.None
    ∷ Acted (tid 1) (act.SetKey (pos 1) (pos 7)) (Int (pos 1))
    ∷ Destructor (tid 1) 1 (pos 7)
    ∷ Acted (tid 1) (act.Note (pos 7)) answer.None
    ∷ Acted (tid 1) (act.SetKey (pos 0) (pos 3)) (Int (pos 1))
    ∷ []

-- the handler runs, and then four rounds of destructors; the value that is set last is forgotten
abbrev pub ending_marks : List Mark
ending_marks =
    Dispatch 1 0 (tid 1) (pos 0) 0 6
    ∷ Answered (tid 1) (KeyCreate (Some (pos 0))) (Int (pos 0))
    ∷ Answered (tid 1) (KeyCreate (Some (pos 1))) (Int (pos 1))
    ∷ Answered (tid 1) (KeySet (pos 0) (pos 1)) (Int (pos 1))
    ∷ Answered (tid 1) (KeySet (pos 1) (pos 2)) (Int (pos 1))
    ∷ Answered (tid 1) (CleanupPush (pos 2) (pos 5)) (Int (pos 1))
    ∷ Handler (tid 1) (record { 0 = 2 }) (pos 5)
    ∷ Acted (tid 1) (act.Note (pos 5)) answer.None
    ∷ one_round (pos 1) ++ one_round (pos 3) ++ one_round (pos 3) ++ one_round (pos 3)
    ++ Ended (tid 1) (pos 0) ∷ []

-- ---- waits

abbrev pub spawning_call_at : ℕ → ℕ → Call
spawning_call_at zero zero = Spawn (pos 1) (pos 0) (pos 0)
spawning_call_at zero (suc zero) = Spawn (pos 1) (pos 0) (pos 0)
spawning_call_at zero (suc (suc zero)) = Spawn (pos 1) (pos 0) (pos 0)
spawning_call_at zero (suc (suc (suc n))) = Exit (pos 0)
spawning_call_at (suc b) n = Exit (pos 9)

abbrev pub spawning_bodies : ℕ → Functions Place ℕ
spawning_bodies p = record (two_bodies p) { step = λ s h answer. record { call = spawning_call_at s.body s.gone; state = record s { gone = s.gone + 1 }; shared = h } }

-- Of three new threads the last is ready at rank 5, so its grace is one dispatch; the two that stand before it have none. One of them
-- still stands there at its second dispatch.
abbrev pub spawning_marks : List Mark
spawning_marks =
    Dispatch 1 0 (tid 1) (pos 0) 0 6
    ∷ Answered (tid 1) (Spawn (pos 1) (pos 0) (pos 0)) (Int (pos 2))
    ∷ Answered (tid 1) (Spawn (pos 1) (pos 0) (pos 0)) (Int (pos 3))
    ∷ Answered (tid 1) (Spawn (pos 1) (pos 0) (pos 0)) (Int (pos 4))
    ∷ Waits (tid 1) (Exit (pos 0))
    ∷ Dispatch 2 1 (tid 2) (pos 7) 0 0
    ∷ Ended (tid 2) (pos 9)
    ∷ Dispatch 3 2 (tid 3) (pos 7) 1 1
    ∷ Ended (tid 3) (pos 9)
    ∷ Dispatch 4 3 (tid 4) (pos 7) 2 2
    ∷ Ended (tid 4) (pos 9)
    ∷ Woke (tid 1) (pos 1)
    ∷ Dispatch 5 4 (tid 1) (pos 1) 0 5
    ∷ Ended (tid 1) (pos 0)
    ∷ []
