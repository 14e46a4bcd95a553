-- Base priorities: those of threads, and those that attribute objects have for threads that are made with them (PTH_ATTR_PRIO).
use Rattle.std.specs.Prelude.{◌≡◌, ℕ, Some}
use Rattle.pth_threads.specs.Attributes.{IsSetPrio}
use Rattle.pth_threads.specs.declared.attribute.Attribute.TheVariants.{Free}
use Rattle.pth_threads.specs.declared.entry.Entry.{Entry}
use Rattle.pth_threads.specs.declared.entry.NewThread.{NewThread}
use Rattle.pth_model.specs.State.{State}

-- each base priority is one that can be set: from -N to N
pub record HasBasePriorities {P S H : Type 0} (top : ℕ) (s : State P S H) : Type 0 where
  -- that of a thread in the system
  pub threads : (t : ℕ) (e : Entry) → s.control.threads.known t ≡ Some e → IsSetPrio top e.prio
  -- that of an attribute object with values of its own: one that is bound has its thread's
  pub objects : (n : ℕ) (x : NewThread) → s.control.attributes.objects n ≡ Some (Free x) → IsSetPrio top x.prio
