-- Changes of events, and what they show.
use Rattle.std.proofs.Common.{◌≡◌, ◌∙◌, ◌+◌, ◌≤◌, false, Result, Ok, Err, OnOk, refl, sym, ap, arith}
use Rattle.pth_ring.specs.Arena.{RingsOf, events_of}
use Rattle.pth_ring.specs.Rings.{Events}
use Rattle.pth_model.specs.Changes.{with_events}
use Rattle.pth_model.specs.State.{Control}
use Rattle.pth_world.specs.Frame.{Frame}
use Rattle.pth_world.specs.Numbering.{Thread, Object, Event, Port, Numbers}
use Rattle.pth_world.specs.Shows.{Shows}
use Rattle.pth_world.specs.WellFormed.{WellFormed}
use Rattle.pth_world.specs.World.{WorldOf}

-- where events alone change, what they show is what counts
module _ {P S H : Type 0} (w : WorldOf P S H) (e : RingsOf) where
  pub events_show : (k : Control P S H) (x : Events) → Shows w k → x ≡ events_of e → Shows (record w { events = e }) (record k { events = x })
  events_show k x sh is = record { program = sh.program; shared = sh.shared; threads = sh.threads; attributes = sh.attributes; events = is; conditions = sh.conditions; barriers = sh.barriers; kernel = sh.kernel; used = sh.used; scheduler = sh.scheduler }

  pub events_whole : WellFormed w → WellFormed (record w { events = e })
  events_whole whole = record { sound = whole.sound; fits = whole.fits; runner = whole.runner; stored = whole.stored; top = whole.top }

  pub events_frame : (n : Numbers) → WellFormed w → e.made ≤ w.events.made + n Event → Frame w (record w { events = e }) n w.scheduler.running false
  events_frame n whole few = record {
    whole = events_whole whole;
    runs = refl;
    made = elim [ Thread ↦ omega arith | Object ↦ omega arith | Event ↦ few | Port ↦ omega arith ];
    ranks = record { under = λ bound low h. h; fresh = omega arith };
    preferred = refl;
  }

  -- a change of what is kept of events
  pub kept_shows : (h : Events → Events) (k : Control P S H) → Shows w k → events_of e ≡ h (events_of w.events) → Shows (record w { events = e }) (with_events h k)
  kept_shows h k sh is = events_show k (h k.events) sh (ap h sh.events ∙ sym is)

-- what follows where a call is not refused
pub on_ok : {T E A B : Type 0} (r : Result T E) → OnOk r A → (A → B) → OnOk r B
on_ok (Ok x) a f = f a
on_ok (Err e) a f = tt
