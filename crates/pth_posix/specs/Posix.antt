-- A program that is written against POSIX as a program of the machine.
use Rattle.std.specs.Prelude.{List, [], ◌∷◌, ◌++◌}
use Rattle.pth_base.specs.Program.{Functions, Stepped}
use Rattle.pth_base.specs.declared.answer.Answer.{Answer}
use Rattle.pth_base.specs.declared.call.Call.{Call}
use Rattle.pth_base.specs.declared.call.Call.TheVariants as call
use Rattle.pth_posix.specs.Plan.{plan}
use Rattle.pth_posix.specs.PosixProgram.{PosixFunctions, PosixStepped}
use Rattle.pth_posix.specs.declared.pcall.PCall.{PCall}
use Rattle.pth_posix.specs.declared.pcall.PCall.TheVariants.{Nothing}
use Rattle.pth_posix.specs.declared.plan.Planned.{Planned}
use Rattle.pth_posix.specs.declared.plan.Planned.TheVariants.{Calls, Answers}

-- the program's state, the POSIX call that goes on, and what its calls of Pth were answered so far, the earliest first
pub record PosixThreadOf (S : Type 0) : Type 0 where
  pub state : S
  pub call : PCall
  pub got : List Answer

-- with one answer more
abbrev pub heard : {S : Type 0} → Answer → PosixThreadOf S → PosixThreadOf S
heard a p = record p { got = p.got ++ a ∷ [] }

-- a POSIX call begins with its first call of Pth, and with a plain line if it makes none
abbrev pub begun : Planned → Call
begun (Calls c) = c
begun (Answers a) = call.Plain

abbrev pub begins : {S H : Type 0} → PosixStepped S H → Stepped (PosixThreadOf S) H
begins x = record {
  call = begun (plan x.call []);
  state = record { state = x.state; call = x.call; got = [] };
  shared = x.shared;
}

-- it goes on with its next call of Pth; once it is answered, the program takes the answer and gives its next POSIX call
abbrev pub goes_on : {S H : Type 0} → PosixFunctions S H → PosixThreadOf S → H → Planned → Stepped (PosixThreadOf S) H
goes_on q p h (Calls c) = record { call = c; state = p; shared = h }
goes_on q p h (Answers a) = begins (q.step p.state h a)

abbrev pub posix_step : {S H : Type 0} → PosixFunctions S H → PosixThreadOf S → H → Answer → Stepped (PosixThreadOf S) H
posix_step q p h a = goes_on q (heard a p) h (plan p.call (p.got ++ a ∷ []))

-- a new thread makes no call at first, so its program's first step gets no answer
unfoldable pub functions_of_posix : {S H : Type 0} → PosixFunctions S H → Functions (PosixThreadOf S) H
functions_of_posix q = record {
  shared = q.shared;
  bodies = q.bodies;
  start = λ body arg. record { state = q.start body arg; call = Nothing; got = [] };
  step = posix_step q;
  check = q.check;
  act = q.act;
}
