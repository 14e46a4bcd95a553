-- Calls that are answered: where they lead, and what they leave of a world.
use Rattle.std.proofs.Common.{◌≡◌, ℕ, List, [], ◌∷◌, ◌++◌, Some, Result, Ok, Err, IfOk, OnOk, OnErr, false, subst, sym, refl, append-nil}
use Rattle.pth_base.proofs.Cuts.{cut_none}
use Rattle.pth_base.specs.declared.answer.Answer.{Answer}
use Rattle.pth_base.specs.declared.answer.Answer.TheVariants.{Fail}
use Rattle.pth_base.specs.declared.call.Call.{Call}
use Rattle.pth_base.specs.declared.errno.Errno.{Errno}
use Rattle.pth_base.specs.declared.ids.Tid.{Tid}
use Rattle.pth_base.specs.declared.mark.Mark.{Mark}
use Rattle.pth_base.specs.declared.mark.Mark.TheVariants.{Answered}
use Rattle.pth_base.specs.declared.memory.OutOfMemory.{OutOfMemory}
use Rattle.pth_model.specs.Awaits.{is_await}
use Rattle.pth_model.specs.declared.next.Next.{Next}
use Rattle.pth_model.specs.declared.next.Next.TheVariants.{Done}
use Rattle.pth_model.specs.State.{Control, State}
use Rattle.pth_model.specs.Transition.{Last, Piece, silent, tells, ◌and_then◌, ◌and_next◌}
use Rattle.pth_world.proofs.Frames.{frame_then}
use Rattle.pth_world.proofs.Telling.{quiet-refused, quiet_tells, tells_leads, Tells}
use Rattle.pth_world.specs.Frame.{Frame, runs_after, yields_after}
use Rattle.pth_world.specs.Leading.{Goes, IsQuiet, Leads}
use Rattle.pth_world.specs.Numbering.{no_numbers}
use Rattle.pth_world.specs.Shows.{Shows, StandsFor}
use Rattle.pth_world.specs.World.{WorldOf}
use Rattle.pth_end.proofs.Chains.{cut_second, leads_then}

-- ---- where they lead

-- a piece led to u, and then the call was answered: its mark tells what threads have in v
pub done_goes : {P S H : Type 0} (last : Last P S H) (w u v : WorldOf P S H) (e : Piece P S H) (m : Mark) (a : Answer) (old mid new : List Mark) (r : Result Next OutOfMemory)
    → ((s : State P S H) → StandsFor w s → last s ≡ (e and_then tells m and_next Done a) s) → ((s : State P S H) → StandsFor w s → Leads u old mid (e s)) → Tells u m v → ((k : Control P S H) → Shows u k → Shows v k)
    → IfOk r (λ n. n ≡ Done a) → OnOk r (new ≡ mid ++ m ∷ []) → OnErr r (new ≡ mid) → Goes (StandsFor w) last v old new r
done_goes last w u v e m a old mid new (Ok n) by first tell shows is told kept = record {
  next = λ s st. rw (by s st) is;
  leads = λ s st. rw (by s st) (leads_then u v s e (tells m) old mid new (first s st) (tells_leads u v m _ tell (first s st).stands (shows _ (first s st).stands.control) mid new told));
  cut = tt;
}
done_goes last w u v e m a old mid new (Err o) by first tell shows is told kept = record {
  next = tt;
  leads = tt;
  cut = λ s st. rw (by s st) (cut_second u s e (tells m) old mid new (first s st) (cut_none mid new _ kept));
}

-- the mark tells nothing of what threads have
pub quiet_goes : {P S H : Type 0} (last : Last P S H) (w v : WorldOf P S H) (e : Piece P S H) (m : Mark) (a : Answer) (old mid new : List Mark) (r : Result Next OutOfMemory)
    → ((s : State P S H) → StandsFor w s → last s ≡ (e and_then tells m and_next Done a) s) → ((s : State P S H) → StandsFor w s → Leads v old mid (e s)) → IsQuiet m
    → IfOk r (λ n. n ≡ Done a) → OnOk r (new ≡ mid ++ m ∷ []) → OnErr r (new ≡ mid) → Goes (StandsFor w) last v old new r
quiet_goes last w v e m a old mid new r by first quiet = done_goes last w v v e m a old mid new r by first (quiet_tells v v m quiet refl) (λ k shows. shows)

-- the call did nothing but answer
pub said_goes : {P S H : Type 0} (last : Last P S H) (w : WorldOf P S H) (m : Mark) (a : Answer) (old new : List Mark) (r : Result Next OutOfMemory)
    → ((s : State P S H) → StandsFor w s → last s ≡ (silent and_then tells m and_next Done a) s) → IsQuiet m
    → IfOk r (λ n. n ≡ Done a) → OnOk r (new ≡ old ++ m ∷ []) → OnErr r (new ≡ old) → Goes (StandsFor w) last w old new r
said_goes last w m a old new r by quiet = quiet_goes last w w silent m a old old new r by (λ s st. record { stands = st; tells = sym (append-nil old) }) quiet

-- it was refused
pub refused_goes : {P S H : Type 0} (last : Last P S H) (w : WorldOf P S H) (t : Tid) (c : Call) (e : Errno) (old new : List Mark) (r : Result Next OutOfMemory)
    → ((s : State P S H) → StandsFor w s → last s ≡ (silent and_then tells (Answered t c (Fail e)) and_next Done (Fail e)) s) → is_await c ≡ false
    → IfOk r (λ n. n ≡ Done (Fail e)) → OnOk r (new ≡ old ++ Answered t c (Fail e) ∷ []) → OnErr r (new ≡ old) → Goes (StandsFor w) last w old new r
refused_goes last w t c e old new r by other = said_goes last w (Answered t c (Fail e)) (Fail e) old new r by (quiet-refused t c e other)

-- ---- what they leave

-- the call is answered, and its thread goes on
pub done_frame : {P S H E : Type 0} (w v : WorldOf P S H) (t : ℕ) (q : Result Next E) (a : Answer) → IfOk q (λ n. n ≡ Done a) → Frame w v no_numbers (Some t) false → IfOk q (λ n. Frame w v no_numbers (runs_after t n) (yields_after n))
done_frame w v t (Ok n) a is f = subst (λ (k : Next). Frame w v no_numbers (runs_after t k) (yields_after k)) (sym is) f
done_frame w v t (Err e) a is f = tt

-- what comes next for its thread is told after more was done
pub later_frame : {P S H E : Type 0} (u v w : WorldOf P S H) (t : ℕ) (q : Result Next E) → Frame u v no_numbers (Some t) false → IfOk q (λ n. Frame v w no_numbers (runs_after t n) (yields_after n)) → IfOk q (λ n. Frame u w no_numbers (runs_after t n) (yields_after n))
later_frame u v w t (Ok n) f later = frame_then no_numbers u v w (Some t) (runs_after t n) (yields_after n) f later
later_frame u v w t (Err e) f later = tt
