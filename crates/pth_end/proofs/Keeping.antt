-- Calls of the thread that runs keep a whole world whole.
use Rattle.std.proofs.Common.{◌≡◌, ℕ, Bool, false, List, Option, Some, Result, Ok, Err, IfOk, OnOk, ◌∙◌, ap}
use Rattle.pth_base.specs.Program.{Functions}
use Rattle.pth_base.specs.declared.call.Call.{Call}
use Rattle.pth_base.specs.declared.mark.Mark.{Mark}
use Rattle.pth_base.specs.declared.memory.OutOfMemory.{OutOfMemory}
use Rattle.pth_model.specs.declared.next.Next.{Next}
use Rattle.pth_model.specs.Awaits.{is_awaiting}
use Rattle.pth_model.specs.Calls.{begun, gone_on}
use Rattle.pth_laws.proofs.Consistent.{consistent_begun, consistent_gone_on}
use Rattle.pth_world.specs.Frame.{Frame}
use Rattle.pth_world.specs.Leading.{Goes, LedTo, StandsRightly, StandsWhere}
use Rattle.pth_world.specs.Numbering.{Numbers}
use Rattle.pth_world.specs.Shows.{StandsFor}
use Rattle.pth_world.specs.StateOf.{state_of}
use Rattle.pth_world.specs.WellFormed.{WellFormed}
use Rattle.pth_world.specs.World.{WorldOf}
use Rattle.pth_world.proofs.StateOf.{stands_for_state, state_awaits_rightly}
use Rattle.pth_end.specs.Whole.{Whole, IsUnblocked}
use Rattle.pth_end.proofs.Callers.{caller_of}
use Rattle.pth_end.proofs.Wholes.{waits_shown}

module _ {P S H : Type 0} (f : P → Functions S H) (w v : WorldOf P S H) (t : ℕ) (whole : WellFormed w) (runs : w.scheduler.running ≡ Some t) where
  stands : StandsFor w (state_of w)
  stands = stands_for_state w whole.sound

  -- the call that t begins has led to a world
  begun_whole : (c : Call) → IsUnblocked w t → WellFormed v → StandsFor v (begun f t c (state_of w)).told.state → Whole w → Whole v
  begun_whole c free after st full = record {
    formed = after;
    waits = waits_shown v (begun f t c (state_of w)).told.state st (consistent_begun f t c (state_of w) (caller_of w whole t runs) (free (state_of w).control stands.control) full.waits);
  }

  pub begun_leads : {T : Type 0} (c : Call) (old new : List Mark) (r : Result T OutOfMemory) → OnOk r (WellFormed v) → LedTo (StandsFor w) (λ s. (begun f t c s).told) v old new r → OnOk r (IsUnblocked w t → Whole w → Whole v)
  begun_leads c old new (Ok x) after led = λ free full. begun_whole c free after (led.leads (state_of w) stands).stands full
  begun_leads c old new (Err e) after led = tt

  pub begun_goes_whole : (c : Call) (n : Numbers) (running : Next → Option ℕ) (yields : Next → Bool) (old new : List Mark) (r : Result Next OutOfMemory) → IfOk r (λ x. Frame w v n (running x) (yields x)) → Goes (StandsFor w) (begun f t c) v old new r → OnOk r (IsUnblocked w t → Whole w → Whole v)
  begun_goes_whole c n running yields old new (Ok x) frame goes = λ free full. begun_whole c free frame.whole (goes.leads (state_of w) stands).stands full
  begun_goes_whole c n running yields old new (Err e) frame goes = tt

  -- where the state says whether t awaits a condition
  pub begun_where_whole : (c : Call) (n : Numbers) (running : Next → Option ℕ) (yields : Next → Bool) (old new : List Mark) (r : Result Next OutOfMemory) → IfOk r (λ x. Frame w v n (running x) (yields x)) → Goes (StandsWhere w t false) (begun f t c) v old new r → OnOk r (IsUnblocked w t → Whole w → Whole v)
  begun_where_whole c n running yields old new (Ok x) frame goes =
      λ free full. begun_whole c free frame.whole (goes.leads (state_of w) (stands, state_awaits_rightly w t ∙ ap is_awaiting (free (state_of w).control stands.control))).stands full
  begun_where_whole c n running yields old new (Err e) frame goes = tt

  -- t goes on with the call that blocks it
  pub gone_on_whole : (n : Numbers) (running : Next → Option ℕ) (yields : Next → Bool) (old new : List Mark) (r : Result Next OutOfMemory) → IfOk r (λ x. Frame w v n (running x) (yields x)) → Goes (StandsRightly w t) (gone_on f t) v old new r → OnOk r (Whole w → Whole v)
  gone_on_whole n running yields old new (Ok x) frame goes =
      λ full. record {
        formed = frame.whole;
        waits = waits_shown v (gone_on f t (state_of w)).told.state (goes.leads (state_of w) (stands, state_awaits_rightly w t)).stands (consistent_gone_on f t (state_of w) (caller_of w whole t runs) full.waits);
      }
  gone_on_whole n running yields old new (Err e) frame goes = tt
