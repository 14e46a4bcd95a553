-- The program as functions.
use Rattle.std.specs.Prelude.{ℕ, zero, suc, ℤ, pos, false, None}
use Rattle.pth_base.specs.Program.{Functions}
use Rattle.pth_base.specs.declared.answer.Answer.{Answer}
use Rattle.pth_base.specs.declared.answer.Answer.TheVariants as answer
use Rattle.pth_base.specs.declared.call.Call.{Call}
use Rattle.pth_base.specs.declared.call.Call.TheVariants as call
use Rattle.pth_embedding.specs.declared.errand.Errand.{Errand}
use Rattle.pth_embedding.specs.declared.errand.Place.{Place}
use Rattle.pth_embedding.specs.declared.errand.Place.TheVariants as place

-- the number that a call was answered, and 0 for any other answer
abbrev pub int_of : Answer → ℤ
int_of (answer.Int n) = n
int_of a = pos 0

-- main begins with its spawn, and a worker has its argument
abbrev pub start_of : ℕ → ℤ → Place
start_of zero arg = place.Spawn
start_of (suc body) arg = place.Work arg

-- the call of a thread that stands here and is handed a number
abbrev pub call_of : Place → ℤ → Call
call_of place.Spawn n = call.Spawn (pos 1) (pos 9) (pos 0)
call_of place.YieldToWorker n = call.Yield n
call_of (place.Join worker) n = call.Join worker
call_of place.Finish n = call.Exit n
call_of (place.Work arg) n = call.Nap (pos 5)
call_of (place.Fetch arg) n = call.Read (pos 3) (pos 10)
call_of (place.Bring value) n = call.Exit value

-- where it stands after that call
abbrev pub place_after_call : Place → ℤ → Place
place_after_call place.Spawn n = place.YieldToWorker
place_after_call place.YieldToWorker n = place.Join n
place_after_call (place.Join worker) n = place.Finish
place_after_call (place.Work arg) n = place.Fetch arg
place_after_call (place.Fetch arg) n = place.Bring arg
place_after_call p n = p

-- the program; its shared value, its checks and its handlers are nothing of note
abbrev pub errand_functions : Errand → Functions Place (Unit {0})
errand_functions e = record {
  shared = tt;
  bodies = 2;
  start = start_of;
  step = λ p h a. record { call = call_of p (int_of a); state = place_after_call p (int_of a); shared = h };
  check = λ check arg h. false;
  act = λ handler arg index h. record { act = None; shared = h };
}
