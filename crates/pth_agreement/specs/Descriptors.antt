-- The descriptors that calls name, and runs in which no call names one.
use Rattle.std.specs.Prelude.{◌≡◌, ◌≢◌, ◌<◌, ℕ, true, List, [], ◌∷◌, ◌++◌, All}
use Rattle.pth_base.specs.Descriptors.{members}
use Rattle.pth_base.specs.Program.{Functions}
use Rattle.pth_base.specs.Table.{put}
use Rattle.pth_base.specs.declared.call.Call.{Call}
use Rattle.pth_base.specs.declared.call.Call.TheVariants as call
use Rattle.pth_base.specs.declared.event.EvLine.{EvLine}
use Rattle.pth_base.specs.declared.event.EvLine.TheVariants as line
use Rattle.pth_base.specs.declared.ids.FdSet.{FdSet}
use Rattle.pth_kernel.specs.Kernel.{Kernel, fd_named}
use Rattle.pth_model.specs.declared.progress.Progress.{Progress}
use Rattle.pth_model.specs.Course.{Course}
use Rattle.pth_model.specs.Run.{run}
use Rattle.pth_model.specs.State.{Given}
use Rattle.pth_agreement.specs.Agreement.{AsksForCall, given_to}

-- those of three sets
abbrev pub in_sets : FdSet → FdSet → FdSet → List ℕ
in_sets r w x = members r.0 ++ members w.0 ++ members x.0

-- those of which a call asks the kernel as it begins
abbrev pub asked_by_call : Call → List ℕ
asked_by_call (call.Fdmode f m) = fd_named f ∷ []
asked_by_call (call.Read f n) = fd_named f ∷ []
asked_by_call (call.ReadEv f n e) = fd_named f ∷ []
asked_by_call (call.Write f bytes) = fd_named f ∷ []
asked_by_call (call.WriteEv f bytes e) = fd_named f ∷ []
asked_by_call (call.Accept f) = fd_named f ∷ []
asked_by_call (call.AcceptEv f e) = fd_named f ∷ []
asked_by_call (call.Connect f) = fd_named f ∷ []
asked_by_call (call.ConnectEv f e) = fd_named f ∷ []
asked_by_call (call.Select r w x l) = in_sets r w x
asked_by_call (call.SelectEv r w x l e) = in_sets r w x
asked_by_call (call.Close f) = fd_named f ∷ []
asked_by_call c = []

-- those that a line names which makes an event
abbrev pub named_by_line : EvLine → List ℕ
named_by_line (line.Fd goals fd) = fd_named fd ∷ []
named_by_line (line.Select r w x) = in_sets r w x
named_by_line l = []

-- those that a call names: of which it asks, or of which an event is that it makes
abbrev pub named_by_call : Call → List ℕ
named_by_call (call.EvFd goals fd) = fd_named fd ∷ []
named_by_call (call.EvSelect r w x) = in_sets r w x
named_by_call (call.Chain e l) = named_by_line l
named_by_call c = asked_by_call c

-- d is none of them
abbrev pub IsNoneOf : ℕ → List ℕ → Type 0
IsNoneOf d fs = All (λ f. f ≢ d) fs

-- no call that a thread asks for before part i names d
abbrev pub NeverNamesUpTo : {P S H : Type 0} → (d : ℕ) → (P → Functions S H) → Given P → (i : ℕ) → Type 0
NeverNamesUpTo {S = S} d f g i =
    (j t : ℕ) (p : Progress S) → j < i → AsksForCall (run f g j) t p → IsNoneOf d (named_by_call (given_to (f g.program) p (run f g j)).call)

-- a kernel in which d is open
abbrev pub opened : ℕ → Kernel → Kernel
opened d k = record k { descriptors = put k.descriptors d (record (k.descriptors d) { live = true }) }

abbrev pub given_opened : {P : Type 0} → ℕ → Given P → Given P
given_opened d g = record g { kernel = opened d g.kernel }

module _ {P S H : Type 0} where
  -- a run that came so far, in whose state d is open
  abbrev pub with_opened : ℕ → Course P S H → Course P S H
  with_opened d c = record c { state = record c.state { control = record c.state.control { kernel = opened d c.state.control.kernel } } }

  -- after i parts the run in which d is open from the start differs from the run only in that d is open
  abbrev pub AgreesWithOpened : (P → Functions S H) → Given P → ℕ → ℕ → Type 0
  AgreesWithOpened f g d i = run f (given_opened d g) i ≡ with_opened d (run f g i)
