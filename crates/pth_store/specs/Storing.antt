-- Calls that store something, and so take memory.
use Rattle.std.specs.Prelude.{◌≡◌, Result, Ok, Err}
use Rattle.pth_base.specs.declared.errno.Errno.{Errno}
use Rattle.pth_base.specs.declared.refusal.Refusal.{Refusal}
use Rattle.pth_base.specs.declared.refusal.Refusal.TheVariants.{Fail, OutOfMemory}

-- how such a call is answered: a refusal comes for certain, and else only want of memory refuses
abbrev pub AnswersWithMemory : Result (Unit {0}) Errno → Result (Unit {0}) Refusal → Type 0
AnswersWithMemory (Err e) r = r ≡ Err (Fail e)
AnswersWithMemory (Ok done) (Ok _) = Unit {0}
AnswersWithMemory (Ok done) (Err e) = e ≡ OutOfMemory
