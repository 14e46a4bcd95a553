-- WellFormed worlds stay whole: where a piece of code leads, waits are as consistent as in the state to which the definition leads.
use Rattle.std.proofs.Common.{◌≡◌, List, Result, Ok, Err, OnOk, refl, sym, subst}
use Rattle.pth_base.specs.declared.mark.Mark.{Mark}
use Rattle.pth_base.specs.declared.memory.OutOfMemory.{OutOfMemory}
use Rattle.pth_kernel.specs.Kernel.{KernelOf}
use Rattle.pth_model.specs.State.{State}
use Rattle.pth_model.specs.Transition.{Transition}
use Rattle.pth_laws.specs.Consistent.{AreWaitsConsistent}
use Rattle.pth_laws.proofs.Consistent.{consistent_as}
use Rattle.pth_world.specs.Leading.{LedTo}
use Rattle.pth_world.specs.Shows.{StandsFor}
use Rattle.pth_world.specs.StateOf.{state_of}
use Rattle.pth_world.specs.WellFormed.{WellFormed}
use Rattle.pth_world.specs.World.{WorldOf}
use Rattle.pth_world.proofs.StateOf.{stands_for_state}
use Rattle.pth_end.specs.Whole.{Whole}

module _ {P S H : Type 0} where
  -- a world stands for states whose waits are as consistent as those of the one that it shows
  pub waits_shown : (w : WorldOf P S H) (s : State P S H) → StandsFor w s → AreWaitsConsistent s → AreWaitsConsistent (state_of w)
  unfolding state_of
  waits_shown w s st r = consistent_as s (state_of w) (sym st.control.threads.known) (sym st.control.threads.progress) (sym st.control.events) (sym st.control.conditions) (sym st.control.barriers) (sym st.store) r

  pub waits_of : (w : WorldOf P S H) (s : State P S H) → StandsFor w s → AreWaitsConsistent (state_of w) → AreWaitsConsistent s
  unfolding state_of
  waits_of w s st r = consistent_as (state_of w) s st.control.threads.known st.control.threads.progress st.control.events st.control.conditions st.control.barriers st.store r

  pub led_whole : {T : Type 0} (w v : WorldOf P S H) (to : State P S H → Transition P S H) (old new : List Mark) (r : Result T OutOfMemory) → WellFormed w → OnOk r (WellFormed v) → LedTo (StandsFor w) to v old new r → (AreWaitsConsistent (state_of w) → AreWaitsConsistent (to (state_of w)).state) → OnOk r (Whole w → Whole v)
  led_whole w v to old new (Ok x) whole after led keeps =
      let at = led.leads (state_of w) (stands_for_state w whole.sound) in
      λ full. record { formed = after; waits = waits_shown v (to (state_of w)).state at.stands (keeps full.waits) }
  led_whole w v to old new (Err e) whole after led keeps = tt

  -- no clause speaks of the kernel
  pub kernel_whole : (w v : WorldOf P S H) (k : KernelOf) → (WellFormed w → WellFormed v) → v ≡ record w { kernel = k } → Whole w → Whole v
  unfolding state_of
  kernel_whole w v k after same full = record {
    formed = after full.formed;
    waits = subst (λ (z : WorldOf P S H). AreWaitsConsistent (state_of z)) (sym same) (consistent_as (state_of w) (state_of (record w { kernel = k })) refl refl refl refl refl refl full.waits);
  }
