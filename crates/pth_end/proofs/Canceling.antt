-- Ends by cancellation: what is changed and told before them.
use Rattle.std.proofs.Common.{◌≡◌, ℕ, false, List, Option, append-nil, refl, subst, sym}
use Rattle.pth_base.specs.declared.call.Call.{Call}
use Rattle.pth_base.specs.declared.ids.Tid.{Tid}
use Rattle.pth_base.specs.declared.mark.Mark.{Mark}
use Rattle.pth_base.specs.declared.mark.Mark.TheVariants.{Canceled}
use Rattle.pth_model.specs.Resources.{told}
use Rattle.pth_model.specs.State.{Control, State}
use Rattle.pth_model.specs.Transition.{Change, changes, controlled}
use Rattle.pth_world.proofs.Telling.{has_still}
use Rattle.pth_world.specs.Leading.{IsQuiet, Leads}
use Rattle.pth_model.specs.Ending.{other_than}
use Rattle.pth_world.proofs.Frames.{frame_then}
use Rattle.pth_world.specs.Frame.{Frame}
use Rattle.pth_world.specs.Numbering.{no_numbers}
use Rattle.pth_world.specs.Shows.{Shows, StandsFor}
use Rattle.pth_world.specs.World.{WorldOf}

-- that a thread is canceled changes nothing of what threads have
pub quiet_canceled : (t : Tid) (c : Option Call) → IsQuiet (Canceled t c)
unfolding told
quiet_canceled t c = λ x. refl

-- the control was changed, and nothing else is stored
pub change_stands : {P S H : Type 0} (w v : WorldOf P S H) (g : Change P S H) (s : State P S H) → Shows v (g s.control) → v.store ≡ w.store → StandsFor w s → StandsFor v (controlled g s)
change_stands w v g s shows stored st = record { control = shows; store = has_still w v s stored st.store }

-- so the world was led there without a word
pub change_leads : {P S H : Type 0} (w v : WorldOf P S H) (g : Change P S H) → ((k : Control P S H) → Shows w k → Shows v (g k)) → v.store ≡ w.store → (s : State P S H) (old : List Mark) → StandsFor w s → Leads v old old (changes g s)
change_leads w v g shows stored s old st = record { stands = change_stands w v g s (shows s.control st.control) stored st; tells = sym (append-nil old) }

-- a thread ends once its record was changed
pub ends_then : {P S H : Type 0} (u v w : WorldOf P S H) (t : ℕ) → Frame u v no_numbers u.scheduler.running false → Frame v w no_numbers (other_than t v.scheduler.running) false → Frame u w no_numbers (other_than t u.scheduler.running) false
ends_then u v w t changed ends = subst (λ (r : Option ℕ). Frame u w no_numbers (other_than t r) false) changed.runs (frame_then no_numbers u v w u.scheduler.running (other_than t v.scheduler.running) false changed ends)
