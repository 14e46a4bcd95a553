-- Changes of conditions, and what they show.
use Rattle.std.proofs.Common.{◌≡◌, ◌∙◌, false, List, refl, sym, ap, arith}
use Rattle.pth_cond.specs.Conditions.{Condition, ConditionTable, conditions_of}
use Rattle.pth_model.specs.Changes.{with_conditions}
use Rattle.pth_model.specs.State.{Control}
use Rattle.pth_world.specs.Frame.{Frame}
use Rattle.pth_world.specs.Numbering.{no_numbers}
use Rattle.pth_world.specs.Shows.{Shows}
use Rattle.pth_world.specs.WellFormed.{WellFormed}
use Rattle.pth_world.specs.World.{WorldOf}

-- where conditions alone change, what they show is what counts
module _ {P S H : Type 0} (w : WorldOf P S H) (c : List Condition) where
  pub seated_shows : (g : ConditionTable → ConditionTable) (k : Control P S H) → Shows w k → conditions_of c ≡ g (conditions_of w.conditions) → Shows (record w { conditions = c }) (with_conditions g k)
  seated_shows g k sh is = record { program = sh.program; shared = sh.shared; threads = sh.threads; attributes = sh.attributes; events = sh.events; conditions = ap g sh.conditions ∙ sym is; barriers = sh.barriers; kernel = sh.kernel; used = sh.used; scheduler = sh.scheduler }

  pub seated_whole : WellFormed w → WellFormed (record w { conditions = c })
  seated_whole whole = record { sound = whole.sound; fits = whole.fits; runner = whole.runner; stored = whole.stored; top = whole.top }

  pub seated_frame : WellFormed w → Frame w (record w { conditions = c }) no_numbers w.scheduler.running false
  seated_frame whole = record {
    whole = seated_whole whole;
    runs = refl;
    made = λ k. omega arith;
    ranks = record { under = λ bound low h. h; fresh = omega arith };
    preferred = refl;
  }
