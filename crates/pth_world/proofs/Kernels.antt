-- Changes of the kernel, and what they show.
use Rattle.std.proofs.Common.{◌≡◌, ◌∙◌, sym, ap}
use Rattle.pth_kernel.specs.Kernel.{Kernel, KernelOf, kernel_of}
use Rattle.pth_model.specs.Changes.{with_kernel}
use Rattle.pth_model.specs.State.{Control}
use Rattle.pth_world.specs.Shows.{Shows}
use Rattle.pth_world.specs.WellFormed.{WellFormed}
use Rattle.pth_world.specs.World.{WorldOf}

-- where the kernel alone changes, what it shows is what counts
module _ {P S H : Type 0} (w : WorldOf P S H) (x : KernelOf) where
  pub kernel_shows : (k : Control P S H) (y : Kernel) → Shows w k → y ≡ kernel_of x → Shows (record w { kernel = x }) (record k { kernel = y })
  kernel_shows k y sh is = record { program = sh.program; shared = sh.shared; threads = sh.threads; attributes = sh.attributes; events = sh.events; conditions = sh.conditions; barriers = sh.barriers; kernel = is; used = sh.used; scheduler = sh.scheduler }

  pub kernel_whole : WellFormed w → WellFormed (record w { kernel = x })
  kernel_whole whole = record { sound = whole.sound; fits = whole.fits; runner = whole.runner; stored = whole.stored; top = whole.top }

  -- a change of the kernel
  pub turned_shows : (h : Kernel → Kernel) (k : Control P S H) → Shows w k → kernel_of x ≡ h (kernel_of w.kernel) → Shows (record w { kernel = x }) (with_kernel h k)
  turned_shows h k sh is = kernel_shows k (h k.kernel) sh (ap h sh.kernel ∙ sym is)
