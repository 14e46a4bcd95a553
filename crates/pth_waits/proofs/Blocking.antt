-- Calls that block their threads, wait on, and are answered.
use Rattle.std.proofs.Common.{◌≡◌, ℕ, List, ◌∷◌, [], ◌++◌, Option, Some, None, option_map, false, refl, ◌∙◌, ap, arith, sym}
use Rattle.pth_model.specs.Awaits.{is_await}
use Rattle.pth_base.proofs.Lists.{put_twice}
use Rattle.pth_base.proofs.Tables.{put_here}
use Rattle.pth_base.specs.Table.{put}
use Rattle.pth_base.specs.Program.{Functions}
use Rattle.pth_base.specs.declared.answer.Answer.{Answer}
use Rattle.pth_base.specs.declared.call.Call.{Call}
use Rattle.pth_base.specs.declared.call.Call.TheVariants as call
use Rattle.pth_base.specs.declared.mark.Mark.{Mark}
use Rattle.pth_base.specs.declared.mark.Mark.TheVariants.{Answered, Waits}
use Rattle.pth_model.specs.declared.awaits.Awaits.{Awaits}
use Rattle.pth_model.specs.declared.blocked.Blocked.{Blocked}
use Rattle.pth_model.specs.declared.progress.Progress.{Progress}
use Rattle.pth_model.specs.Calls.{answers, blocks, waits_by}
use Rattle.pth_model.specs.Changes.{blocking, goes_on, is_blocked_by}
use Rattle.pth_model.specs.RingWaits.{ring_given, claims, stops_waiting}
use Rattle.pth_model.specs.Resources.{told}
use Rattle.pth_model.specs.State.{Control, State}
use Rattle.pth_model.specs.Transition.{changes, tid, tells, ◌and_then◌}
use Rattle.pth_world.specs.Numbering.{Thread, Object, Event, Port, no_numbers}
use Rattle.pth_world.specs.World.{WorldOf}
use Rattle.pth_world.proofs.Frames.{gives_none}
use Rattle.pth_world.proofs.Ranks.{ranks_none, ranks_same}
use Rattle.pth_world.specs.Frame.{Frame}
use Rattle.pth_world.specs.Leading.{Leads, IsQuiet, StandsOnce}
use Rattle.pth_world.specs.Shows.{Shows, StandsFor}
use Rattle.pth_world.specs.Store.{store_of}
use Rattle.pth_world.specs.WellFormed.{WellFormed}

-- that a thread waits changes nothing else, but for one that awaits a condition
pub quiet-waits : (t : ℕ) (c : Call) → is_await c ≡ false → IsQuiet (Waits (tid t) c)
unfolding told
quiet-waits t (call.CondAwait c m e) other x = absurd (cc other)
quiet-waits t c other x = refl

module _ {P S H : Type 0} (w : WorldOf P S H) (s : State P S H) (m : Mark) (quiet : IsQuiet m) where
  pub quiet_told : s.resources.store ≡ store_of w.store → (told s.resources m).store ≡ store_of w.store
  quiet_told has = quiet s.resources ∙ has

  -- the world still stands for the state once that is told
  pub quiet_once : StandsFor w s → StandsOnce w m s
  quiet_once st = record { control = st.control; store = quiet_told st.store }

module _ {P S H : Type 0} (w : WorldOf P S H) (s : State P S H) (t : ℕ) (c : Call) (other : is_await c ≡ false) where
  -- the same of the mark of a wait, and the reverse
  pub waits_once : StandsFor w s → StandsOnce w (Waits (tid t) c) s
  waits_once = quiet_once w s (Waits (tid t) c) (quiet-waits t c other)

  pub once_stands : StandsOnce w (Waits (tid t) c) s → StandsFor w s
  once_stands once = record { control = once.control; store = sym (quiet-waits t c other s.resources) ∙ once.store }

-- a call blocks its thread
pub waits_leads : {P S H : Type 0} (w : WorldOf P S H) (s : State P S H) (t : ℕ) (c : Call) (a : Awaits) (old new : List Mark) → (told s.resources (Waits (tid t) c)).store ≡ store_of w.store → Shows w (blocks t c a (claims t (ring_given c) s.control)) → new ≡ old ++ Waits (tid t) c ∷ [] → Leads w old new (waits_by t c a s)
waits_leads w s t c a old new told_so sh appended =
    record { stands = record { control = sh; store = told_so }; tells = appended }

-- the call that blocks a thread is answered
pub answers_leads : {P S H : Type 0} (f : P → Functions S H) (w : WorldOf P S H) (s : State P S H) (t : ℕ) (c : Call) (a : Answer) (old new : List Mark) → (told s.resources (Answered (tid t) c a)).store ≡ store_of w.store → Shows w (stops_waiting t s.control) → new ≡ old ++ Answered (tid t) c a ∷ [] → Leads w old new (answers f t c a s)
answers_leads f w s t c a old new tell sh appended = record { stands = record { control = sh; store = tell }; tells = appended }

-- another call blocks the thread
blocking_twice : {S : Type 0} (o : Option (Progress S)) (x y : Option Blocked) → option_map (blocking x) (option_map (blocking y) o) ≡ option_map (blocking x) o
blocking_twice (Some p) x y = refl
blocking_twice None x y = refl

pub blocked_twice : {P S H : Type 0} (k : Control P S H) (t : ℕ) (x y : Option Blocked) → is_blocked_by t x (is_blocked_by t y k) ≡ is_blocked_by t x k
unfolding goes_on
blocked_twice k t x y =
    let p = k.threads.progress in
    let first = option_map (blocking y) (p t) in
    ap (λ (q : ℕ → Option (Progress _)). record k { threads = record k.threads { progress = q } })
    (ap (λ (o : Option (Progress _)). put (put p t first) t (option_map (blocking x) o)) (put_here p t first)
    ∙ put_twice p t first (option_map (blocking x) first)
    ∙ ap (put p t) (blocking_twice (p t) x y))

-- a call that blocks its thread waits on
pub waits_on_leads : {P S H : Type 0} (w : WorldOf P S H) (s : State P S H) (t : ℕ) (b : Blocked) (old new : List Mark) → (told s.resources (Waits (tid t) b.call)).store ≡ store_of w.store → Shows w (is_blocked_by t (Some b) s.control) → new ≡ old ++ Waits (tid t) b.call ∷ [] → Leads w old new ((changes (is_blocked_by t (Some b)) and_then tells (Waits (tid t) b.call)) s)
waits_on_leads w s t b old new told_so sh appended =
    record { stands = record { control = sh; store = told_so }; tells = appended }

-- a world of which the progress of threads alone is another one
pub progress_frame : {P S H : Type 0} (w : WorldOf P S H) (p : List (Option (Progress S))) (r : Option ℕ) → w.scheduler.running ≡ r → WellFormed (record w { threads = record w.threads { progress = p } }) → Frame w (record w { threads = record w.threads { progress = p } }) no_numbers r false
progress_frame w p r is whole = record { whole = whole; runs = is; made = gives_none no_numbers w (record w { threads = record w.threads { progress = p } }) (λ k. refl); ranks = ranks_same 0 w.threads w.threads _ refl (ranks_none w.threads); preferred = refl }

-- no call blocks the thread any longer
pub unblocked_frame : {P S H : Type 0} (w v : WorldOf P S H) (r : Option ℕ) → w.scheduler.running ≡ r → WellFormed v → v.events.made ≡ w.events.made → v ≡ record w { threads = record w.threads { progress = v.threads.progress }; events = v.events; conditions = v.conditions } → Frame w v no_numbers r false
unblocked_frame {P} {S} {H} w v r is whole made same = record {
  whole = whole;
  runs = ap (λ (z : WorldOf P S H). z.scheduler.running) same ∙ is;
  made = elim [
    | Thread ↦ (let e = ap (λ (z : WorldOf P S H). z.threads.records.made) same in omega arith)
    | Object ↦ (let e = ap (λ (z : WorldOf P S H). z.attributes.objects.made) same in omega arith)
    | Event ↦ (let e = made in omega arith)
    | Port ↦ (let e = ap (λ (z : WorldOf P S H). z.store.ports.made) same in omega arith)
  ];
  ranks = ranks_same 0 w.threads w.threads v.threads (ap (λ (z : WorldOf P S H). z.threads.queues) same) (ranks_none w.threads);
  preferred = ap (λ (z : WorldOf P S H). z.scheduler.preferred) same;
}
