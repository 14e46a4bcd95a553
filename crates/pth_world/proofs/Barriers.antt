-- Changes of barriers, and what they show.
use Rattle.std.proofs.Common.{◌≡◌, ◌∙◌, false, List, Option, refl, sym, ap, arith}
use Rattle.pth_cond.specs.Barriers.{Barrier, BarrierTable, barriers_of}
use Rattle.pth_model.specs.Changes.{with_barriers}
use Rattle.pth_model.specs.State.{Control}
use Rattle.pth_world.specs.Frame.{Frame}
use Rattle.pth_world.specs.Numbering.{no_numbers}
use Rattle.pth_world.specs.Shows.{Shows}
use Rattle.pth_world.specs.WellFormed.{WellFormed}
use Rattle.pth_world.specs.World.{WorldOf}

-- where barriers alone change, what they show is what counts
module _ {P S H : Type 0} (w : WorldOf P S H) (b : List (Option Barrier)) where
  pub barred_shows : (g : BarrierTable → BarrierTable) (k : Control P S H) → Shows w k → barriers_of b ≡ g (barriers_of w.barriers) → Shows (record w { barriers = b }) (with_barriers g k)
  barred_shows g k sh is = record { program = sh.program; shared = sh.shared; threads = sh.threads; attributes = sh.attributes; events = sh.events; conditions = sh.conditions; barriers = ap g sh.barriers ∙ sym is; kernel = sh.kernel; used = sh.used; scheduler = sh.scheduler }

  pub barred_whole : WellFormed w → WellFormed (record w { barriers = b })
  barred_whole whole = record { sound = whole.sound; fits = whole.fits; runner = whole.runner; stored = whole.stored; top = whole.top }

  pub barred_frame : WellFormed w → Frame w (record w { barriers = b }) no_numbers w.scheduler.running false
  barred_frame whole = record {
    whole = barred_whole whole;
    runs = refl;
    made = λ k. omega arith;
    ranks = record { under = λ bound low h. h; fresh = omega arith };
    preferred = refl;
  }
