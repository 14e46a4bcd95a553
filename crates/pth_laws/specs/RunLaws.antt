-- The laws of runs: what holds of the marks of every run, wherever it stands, and of the state to which they led.
use Rattle.std.specs.Prelude.{◌≢◌, List}
use Rattle.pth_base.specs.declared.mark.Mark.{Mark}
use Rattle.pth_base.specs.declared.outcome.Outcome.TheVariants.{Killed}
use Rattle.pth_model.specs.Course.{Course}
use Rattle.pth_laws.specs.Clean.{IsClean}
use Rattle.pth_laws.specs.Exclusive.{Exclusive}
use Rattle.pth_laws.specs.InOrder.{InOrder}
use Rattle.pth_laws.specs.InTime.{InTime}
use Rattle.pth_laws.specs.Initialised.{Initialised}
use Rattle.pth_laws.specs.Kept.{IsWaitKept}
use Rattle.pth_laws.specs.Orderly.{Orderly}
use Rattle.pth_laws.specs.Tied.{IsTiedTo}
use Rattle.pth_laws.specs.Valid.{IsValid}

-- the five laws of marks
pub record MeetsMarkLaws (marks : List Mark) : Type 0 where
  -- no thread that is dispatched has waited longer than it is allowed
  pub in_time : InTime marks
  -- a thread that ends has run its handlers and then its destructors, and has no mark more
  pub orderly : Orderly marks
  -- no two threads have a mutex, a writer under a lock is alone, and who ends has given all of it up
  pub exclusive : Exclusive marks
  -- a mutex or lock that a thread takes was initialised before
  pub initialised : Initialised marks
  -- a message that is got is the oldest of its port
  pub in_order : InOrder marks

-- the laws of a run that came so far; tied, valid and clean leave out a run that a pth_kill ended
pub record MeetsRunLaws {P S H : Type 0} (c : Course P S H) : Type 0 where
  pub marks : MeetsMarkLaws c.marks
  -- the state fits the marks that led to it
  pub tied : c.turn.outcome ≢ Killed → IsTiedTo c.state c.marks
  -- who runs, is named by a yield, or stands in a queue other than that of the dead, lives
  pub valid : c.turn.outcome ≢ Killed → IsValid c.state c.turn
  -- nothing of a wait that is over stays behind, and nothing that a thread had that ended
  pub clean : c.turn.outcome ≢ Killed → IsClean c.state
  -- what a wait has, it has until it is over
  pub kept : IsWaitKept c.state
