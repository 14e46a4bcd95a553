-- What the acts of handlers leave, one after another.
use Rattle.std.proofs.Common.{◌≡◌, ◌∙◌, ℕ, false, Option, Result, Ok, Err, OnOk, refl, ap, sym, subst}
use Rattle.pth_end.specs.Handling.{IsHandled}
use Rattle.pth_world.proofs.Frames.{gives_none}
use Rattle.pth_world.proofs.Ranks.{ranks_none, ranks_same}
use Rattle.pth_world.specs.Frame.{Frame}
use Rattle.pth_world.specs.Keeps.{KeepsAllButStore}
use Rattle.pth_world.specs.Sound.{IsAlive}
use Rattle.pth_world.specs.Store.{store_of}
use Rattle.pth_world.specs.Numbering.{Thread, Object, Event, Port, no_numbers}
use Rattle.pth_world.specs.WellFormed.{WellFormed}
use Rattle.pth_world.specs.World.{WorldOf, ThreadsBySlot}

module _ {P S H : Type 0} where
  pub handled_none : (w : WorldOf P S H) → WellFormed w → IsHandled w w
  handled_none w whole = record { whole = whole; same = refl; ports = refl; cleanups = refl }

  -- something else is stored, but no other cleanup
  pub handled_stored : (w v : WorldOf P S H) → WellFormed w → KeepsAllButStore w v → (store_of v.store).cleanups ≡ (store_of w.store).cleanups → IsHandled w v
  handled_stored w v whole keeps cleanups = record { whole = keeps.whole whole; same = keeps.same ∙ ap (λ (x : WorldOf P S H). record w { shared = x.shared; store = v.store; conditions = x.conditions }) (sym keeps.same); ports = keeps.made; cleanups = cleanups }

  -- another shared value was set
  pub handled_shared : (w v : WorldOf P S H) → WellFormed v → v ≡ record w { shared = v.shared } → IsHandled w v
  handled_shared w v whole same = record {
    whole = whole;
    same = same ∙ ap (λ (x : WorldOf P S H). record w { shared = v.shared; store = x.store; conditions = x.conditions }) (sym same);
    ports = ap (λ (x : WorldOf P S H). x.store.ports.made) same;
    cleanups = ap (λ (x : WorldOf P S H). (store_of x.store).cleanups) same;
  }

  pub handled_then : (u v w : WorldOf P S H) → IsHandled u v → IsHandled v w → IsHandled u w
  handled_then u v w a b = record {
    whole = b.whole;
    same = b.same ∙ ap (λ (x : WorldOf P S H). record x { shared = w.shared; store = w.store; conditions = w.conditions }) a.same;
    ports = b.ports ∙ a.ports;
    cleanups = b.cleanups ∙ a.cleanups;
  }

  -- who is alive still is
  pub still_alive : (w v : WorldOf P S H) (t : ℕ) → IsHandled w v → IsAlive w.threads t → IsAlive v.threads t
  still_alive w v t h alive = subst (λ (x : ThreadsBySlot S). IsAlive x t) (sym (ap (λ (x : WorldOf P S H). x.threads) h.same)) alive

  pub kept_alive : (w v : WorldOf P S H) (t : ℕ) → KeepsAllButStore w v → IsAlive w.threads t → IsAlive v.threads t
  kept_alive w v t keeps alive = subst (λ (x : ThreadsBySlot S). IsAlive x t) (sym (ap (λ (x : WorldOf P S H). x.threads) keeps.same)) alive

-- where threads, objects, events, how many ports were made, and the scheduler are as they were
module _ {P S H : Type 0} (w : WorldOf P S H) (r : Option ℕ) (runs : w.scheduler.running ≡ r) where
  abbrev changed : WorldOf P S H → WorldOf P S H
  changed v = record w { shared = v.shared; store = v.store; conditions = v.conditions; used = v.used }

  frame_by : (v : WorldOf P S H) → v.store.ports.made ≡ w.store.ports.made → WellFormed (changed v) → Frame w (changed v) no_numbers r false
  frame_by v ports whole = record { whole = whole; runs = runs; made = gives_none no_numbers w (changed v) (elim [ Thread ↦ refl | Object ↦ refl | Event ↦ refl | Port ↦ ports ]); ranks = ranks_same 0 w.threads w.threads _ refl (ranks_none w.threads); preferred = refl }

  pub stored_frame : (v : WorldOf P S H) → WellFormed w → KeepsAllButStore w v → Frame w v no_numbers r false
  stored_frame v whole keeps = subst (λ (z : WorldOf P S H). Frame w z no_numbers r false) (sym keeps.same) (frame_by (record w { store = v.store }) keeps.made (subst (λ (z : WorldOf P S H). WellFormed z) keeps.same (keeps.whole whole)))

  pub used_frame : (v : WorldOf P S H) → WellFormed v → v ≡ record w { used = v.used } → Frame w v no_numbers r false
  used_frame v whole same = subst (λ (z : WorldOf P S H). Frame w z no_numbers r false) (sym same) (frame_by (record w { used = v.used }) refl (subst (λ (z : WorldOf P S H). WellFormed z) same whole))

  pub handled_frame : (v : WorldOf P S H) → IsHandled w v → Frame w v no_numbers r false
  handled_frame v h = subst (λ (z : WorldOf P S H). Frame w z no_numbers r false) (sym h.same) (frame_by (record w { shared = v.shared; store = v.store; conditions = v.conditions }) h.ports (subst (λ (z : WorldOf P S H). WellFormed z) h.same h.whole))

-- whatever is answered
pub if_answered : {T E A : Type 0} (r : Result T E) → A → OnOk r A
if_answered (Ok x) a = a
if_answered (Err e) a = tt
