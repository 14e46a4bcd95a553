-- Changes of what the scheduler keeps.
use Rattle.std.proofs.Common.{◌≡◌}
use Rattle.pth_model.specs.State.{Control, Scheduler}
use Rattle.pth_world.specs.World.{WorldOf}
use Rattle.pth_world.specs.Shows.{Shows}
use Rattle.pth_world.specs.WellFormed.{WellFormed}

-- where the scheduler alone changes, what it shows is what counts
pub scheduler_shows : {P S H : Type 0} (w : WorldOf P S H) (x : Scheduler) (k : Control P S H) (y : Scheduler) → Shows w k → y ≡ x → Shows (record w { scheduler = x }) (record k { scheduler = y })
scheduler_shows w x k y sh is = record { program = sh.program; shared = sh.shared; threads = sh.threads; attributes = sh.attributes; events = sh.events; conditions = sh.conditions; barriers = sh.barriers; kernel = sh.kernel; used = sh.used; scheduler = is }

-- and a world is whole that is run by the same thread
pub scheduler_whole : {P S H : Type 0} (w : WorldOf P S H) (x : Scheduler) → x.running ≡ w.scheduler.running → WellFormed w → WellFormed (record w { scheduler = x })
scheduler_whole w x same whole = record { sound = whole.sound; fits = λ u. rw same (whole.fits u); runner = rw same whole.runner; stored = whole.stored; top = whole.top }
