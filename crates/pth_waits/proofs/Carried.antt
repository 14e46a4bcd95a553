-- Verdicts that are carried out lead where calls lead: as they begin, and as they are tried again.
use Rattle.std.proofs.Common.{◌≡◌, ◌∙◌, ℕ, pos, nat_lt, Bool, true, false, Option, Some, None, List, [], ◌++◌, Result, Ok, Err, IfOk, refl, sym, ap, subst, arith}
use Rattle.std.proofs.lemmas.Bool.Decides.{nat_tests}
use Rattle.std.proofs.lemmas.Result.{IfOk-weaker}
use Rattle.pth_base.specs.Cut.{IsCut}
use Rattle.pth_base.specs.Program.{Functions}
use Rattle.pth_base.specs.declared.answer.Answer.TheVariants.{Int, Fail}
use Rattle.pth_base.specs.declared.call.Call.{Call}
use Rattle.pth_base.specs.declared.call.Call.TheVariants as call
use Rattle.pth_base.specs.declared.errno.Errno.TheVariants.{EINTR}
use Rattle.pth_base.specs.declared.mark.Mark.{Mark}
use Rattle.pth_base.specs.declared.mark.Mark.TheVariants.{Answered}
use Rattle.pth_base.specs.declared.memory.OutOfMemory.{OutOfMemory}
use Rattle.pth_model.specs.declared.awaits.Awaits.{Awaits}
use Rattle.pth_model.specs.declared.blocked.Blocked.{Blocked}
use Rattle.pth_model.specs.declared.next.Next.{Next}
use Rattle.pth_model.specs.declared.verdict.Verdict.{Verdict}
use Rattle.pth_model.specs.declared.verdict.Verdict.TheVariants.{Says, Yields, Blocks, Ends, Kills}
use Rattle.pth_model.specs.Awaits.{is_await, written_in}
use Rattle.pth_model.specs.Calls.{begun, begun_as, begun_by, interrupted, tried_again, tried_again_by, tried_by, unless_settled}
use Rattle.pth_model.specs.Changes.{blocked_of}
use Rattle.pth_model.specs.Resources.{told, answer_told}
use Rattle.pth_model.specs.RingWaits.{claims, has_settled, ring_given}
use Rattle.pth_model.specs.Row.{Attempt, effect_of, refuses, unless_refused}
use Rattle.pth_model.specs.Rows.{row_of}
use Rattle.pth_model.specs.State.{State}
use Rattle.pth_model.specs.Transition.{Last, Piece, Transition, Went, silent, tid, ◌and_finally◌}
use Rattle.pth_numbered.specs.Clauses.{◌when◌otherwise◌}
use Rattle.pth_world.proofs.Frames.{frame_then}
use Rattle.pth_world.proofs.Telling.{quiet-refused}
use Rattle.pth_world.specs.Frame.{Frame, runs_after, yields_after}
use Rattle.pth_world.specs.Leading.{Attempts, Goes, IsIdle, IsReady, Leads, MayComeTo, StandsWhere, Tries}
use Rattle.pth_world.specs.Numbering.{no_numbers}
use Rattle.pth_world.specs.Shows.{Shows, StandsFor}
use Rattle.pth_world.specs.WellFormed.{MayAwaitAs}
use Rattle.pth_world.specs.World.{WorldOf}
use Rattle.pth_waits.specs.Verdicts.{interrupted_if, is_called}
use Rattle.pth_waits.proofs.Attempting.{IsQuietCall}
use Rattle.pth_waits.proofs.Blocking.{once_stands, quiet_once}

-- only a write has a count, and that it is answered with tells nothing of what threads have
quiet_count : (t : ℕ) (c : Call) (a : Awaits) → is_await c ≡ false → MayAwaitAs t c a → nat_lt 0 (written_in a) ≡ true → IsQuietCall t c
unfolding told answer_told
quiet_count t (call.MutexAcquire m v e) a other may some = absurd (cc (subst (λ (y : Awaits). nat_lt 0 (written_in y) ≡ true) may some))
quiet_count t (call.RwAcquire l write v e) a other may some = absurd (cc (subst (λ (y : Awaits). nat_lt 0 (written_in y) ≡ true) may some))
quiet_count t (call.CondAwait c m e) a other may some = λ y x. absurd (cc other)
quiet_count t (call.Exit v) a other may some = λ y x. refl
quiet_count t (call.Join n) a other may some = λ y x. refl
quiet_count t (call.Nap n) a other may some = λ y x. refl
quiet_count t (call.Usleep n) a other may some = λ y x. refl
quiet_count t (call.Sleep n) a other may some = λ y x. refl
quiet_count t (call.Wait e) a other may some = λ y x. refl
quiet_count t (call.Read f n) a other may some = λ y x. refl
quiet_count t (call.ReadEv f n e) a other may some = λ y x. refl
quiet_count t (call.Write f bytes) a other may some = λ y x. refl
quiet_count t (call.WriteEv f bytes e) a other may some = λ y x. refl
quiet_count t (call.Accept f) a other may some = λ y x. refl
quiet_count t (call.AcceptEv f e) a other may some = λ y x. refl
quiet_count t (call.Connect f) a other may some = λ y x. refl
quiet_count t (call.ConnectEv f e) a other may some = λ y x. refl
quiet_count t (call.Select r w x l) a other may some = λ y z. refl
quiet_count t (call.SelectEv r w x l e) a other may some = λ y z. refl
quiet_count t (call.BarrierReach b) a other may some = λ y x. refl
quiet_count t c a other may some = absurd may

module _ {P S H : Type 0} where
  -- ---- where something leads

  -- one state is as good as another from which it goes alike
  pub goes_as : (from to : State P S H → Type 0) (last other : Last P S H) (v : WorldOf P S H) (old new : List Mark) (r : Result Next OutOfMemory)
      → ((s : State P S H) → to s → (u : State P S H) × from u × (last u ≡ other s)) → Goes from last v old new r → Goes to other v old new r
  goes_as from to last other v old new (Ok n) by g = record {
    next = λ s st. (let u = by s st in g.next u.0 u.1 ∙ ap (λ (x : Went P S H). x.next) u.2);
    leads = λ s st. (let u = by s st in subst (λ (x : Went P S H). Leads v old new x.told) u.2 (g.leads u.0 u.1));
    cut = tt;
  }
  goes_as from to last other v old new (Err e) by g = record {
    next = tt;
    leads = tt;
    cut = λ s st. (let u = by s st in subst (λ (x : Went P S H). Cut x.told.marks) u.2 (g.cut u.0 u.1));
  }
    where
      Cut : List Mark → Type 0
      Cut whole = IsCut old new whole

  -- nor does it matter who awaits
  pub goes_where : (w : WorldOf P S H) (t : ℕ) (b : Bool) (last : Last P S H) (v : WorldOf P S H) (old new : List Mark) (r : Result Next OutOfMemory) → Goes (StandsFor w) last v old new r → Goes (StandsWhere w t b) last v old new r
  goes_where w t b last v old new r = goes_as (StandsFor w) (StandsWhere w t b) last last v old new r (λ s st. (s, st.0, refl))

  -- what is done without a word before it
  silent_first : (e : Piece P S H) (last : Last P S H) (s : State P S H) → (e s).marks ≡ [] → last (e s).state ≡ (e and_finally last) s
  silent_first e last s none = ap (λ (ms : List Mark). record { told = record { state = (last (e s).state).told.state; marks = ms ++ (last (e s).state).told.marks }; next = (last (e s).state).next }) (sym none)

  -- ---- a call begins

  module _ (f : P → Functions S H) (w v : WorldOf P S H) (t : ℕ) (c : Call) (x : Verdict) where
    begun_is : is_called c ≡ true → (s : State P S H) → begun f t c s ≡ begun_as f t c (row_of f s t c).begin s
    unfolding begun
    begun_is is s = by_call c is
      where
        by_call : (d : Call) → is_called d ≡ true → begun f t d s ≡ begun_as f t d (row_of f s t d).begin s
        by_call call.Plain is = absurd (cc is)
        by_call (call.Note n) is = absurd (cc is)
        by_call d is = refl

    pub begun_goes : is_called c ≡ true → Attempts false w v t c (ring_given c) (λ s. (row_of f s t c).begin) x → (u : WorldOf P S H) (old new : List Mark) (r : Result Next OutOfMemory)
        → Goes (IsReady v t c (ring_given c) x) (begun_by f t c x) u old new r → Goes (StandsWhere w t false) (begun f t c) u old new r
    begun_goes is a u old new r = goes_as (IsReady v t c (ring_given c) x) (StandsWhere w t false) (begun_by f t c x) (begun f t c) u old new r (λ s st.
        let e = effect_of (row_of f s t c).begin in (
          (e s).state,
          a.ready s st,
          silent_first e (begun_by f t c x) s (a.silent s st.0)
              ∙ ap (λ (y : Verdict). (e and_finally begun_by f t c y) s) (sym (a.verdict s st.0)) ∙ sym (begun_is is s),
        ))

  -- ---- it is tried again

  module _ (v : WorldOf P S H) (t : ℕ) (c : Call) (other : is_await c ≡ false) where
    -- an attempt at a blocked call comes to this, if its ring has settled or not
    record Comes (b : Bool) (to : Verdict) (a : Attempt P S H) (s : State P S H) : Type 0 where
      pub verdict : (unless_settled b a).verdict ≡ to
      pub silent : (effect_of (unless_settled b a) s).marks ≡ []
      pub ready : IsReady v t c None to (effect_of (unless_settled b a) s).state

    stands : (a : Awaits) (u : State P S H) → IsReady v t c None (Blocks a) u → StandsFor v u
    unfolding claims
    stands a u ready = once_stands v u t c other ready

    counted : (a : Awaits) (e : Piece P S H) (s : State P S H) (some : Bool) → nat_lt 0 (written_in a) ≡ some → MayAwaitAs t c a → (e s).marks ≡ [] → IsReady v t c None (Blocks a) (e s).state → (some ≡ false → e s ≡ silent s)
        → Comes true (Says (Int (pos (written_in a)) when some otherwise Fail EINTR)) (record { verdict = Blocks a; effect = e }) s
    unfolding claims
    counted a e s true is may none ready idle = record {
      verdict = rw is refl;
      silent = rw is none;
      ready = rw is (quiet_once v (e s).state _ (quiet_count t c a other may is _) (stands a (e s).state ready));
    }
    counted a e s false is may none ready idle = record {
      verdict = rw is refl;
      silent = rw is refl;
      ready = rw is (quiet_once v s (Answered (tid t) c (Fail EINTR)) (quiet-refused (tid t) c EINTR other) (subst (λ (y : Transition P S H). StandsFor v y.state) (idle refl) (stands a (e s).state ready)));
    }

    idle_zero : (n : ℕ) → nat_lt 0 n ≡ false → n ≡ 0
    idle_zero n is = grind (arith, nat_tests)

    comes_as : (b : Bool) (x : Verdict) (e : Piece P S H) (s : State P S H) → MayComeTo t c x → (unless_refused (refuses x) e s).marks ≡ [] → IsReady v t c None x (unless_refused (refuses x) e s).state → (IsIdle x → unless_refused (refuses x) e s ≡ silent s)
        → Comes b (interrupted_if b x) (record { verdict = x; effect = e }) s
    comes_as false x e s may none ready idle = record { verdict = refl; silent = none; ready = ready }
    comes_as true (Blocks a) e s may none ready idle = counted a e s (nat_lt 0 (written_in a)) refl may none ready (λ zero. idle (idle_zero (written_in a) zero))
    comes_as true (Says a) e s may none ready idle = record { verdict = refl; silent = none; ready = ready }
    comes_as true (Yields a) e s may none ready idle = record { verdict = refl; silent = none; ready = ready }
    comes_as true (Ends y) e s may none ready idle = record { verdict = refl; silent = none; ready = ready }
    comes_as true Kills e s may none ready idle = record { verdict = refl; silent = none; ready = ready }

    by_verdict : (b : Bool) (x : Verdict) (a : Attempt P S H) (s : State P S H) → a.verdict ≡ x → MayComeTo t c x → (effect_of a s).marks ≡ [] → IsReady v t c None x (effect_of a s).state → (IsIdle x → effect_of a s ≡ silent s) → Comes b (interrupted_if b x) a s
    by_verdict b x a s is may none ready idle =
        subst (λ (y : Verdict). Comes b (interrupted_if b x) (record { verdict = y; effect = a.effect }) s) (sym is)
        (comes_as b x a.effect s may
        (subst (λ (y : Verdict). (unless_refused (refuses y) a.effect s).marks ≡ []) is none)
        (subst (λ (y : Verdict). IsReady v t c None x (unless_refused (refuses y) a.effect s).state) is ready)
        (subst (λ (y : Verdict). IsIdle x → unless_refused (refuses y) a.effect s ≡ silent s) is idle))

    ready_shows : (x : Verdict) (s : State P S H) → IsReady v t c None x s → Shows v s.control
    unfolding claims
    ready_shows (Says a) s is = is.control
    ready_shows (Yields a) s is = is.control
    ready_shows (Blocks a) s is = is.control
    ready_shows (Ends n) s is = is.control
    ready_shows Kills s is = is.control

  module _ (f : P → Functions S H) (w v : WorldOf P S H) (t : ℕ) (b : Blocked) (x : Verdict) (other : is_await b.call ≡ false) (tries : Tries w v t b (λ s. (row_of f s t b.call).again b.awaits) x) where
    -- what the blocked call comes to may be carried out
    pub again_may : (settled : Bool) → MayComeTo t b.call (interrupted_if settled x)
    again_may false = tries.attempts.may
    again_may true = by_x x
      where
        by_x : (y : Verdict) → MayComeTo t b.call (interrupted y)
        by_x (Blocks a) = tt
        by_x (Says a) = tt
        by_x (Yields a) = tt
        by_x (Ends n) = tt
        by_x Kills = tt

    -- and leads where a call leads that is tried again
    pub again_goes : (settled : Bool) (u : WorldOf P S H) (old new : List Mark) (r : Result Next OutOfMemory) → ((s : State P S H) → StandsFor w s → settled ≡ has_settled s.control.events (ring_given b.call))
        → Goes (λ s. (blocked_of s.control t ≡ Some b) × IsReady v t b.call None (interrupted_if settled x) s) (tried_by f t b (interrupted_if settled x)) u old new r
        → Goes (λ s. StandsWhere w t (is_await b.call) s × (blocked_of s.control t ≡ Some b)) (tried_again f t) u old new r
    unfolding tried_again
    again_goes settled u old new r is =
        let y = interrupted_if settled x in
        goes_as (λ s. (blocked_of s.control t ≡ Some b) × IsReady v t b.call None y s) (λ s. StandsWhere w t (is_await b.call) s × (blocked_of s.control t ≡ Some b)) (tried_by f t b y) (tried_again f t) u old new r (λ s st.
        let a = (row_of f s t b.call).again b.awaits in
        let comes = by_verdict v t b.call other settled x a s (tries.attempts.verdict s st.0.0) tries.attempts.may (tries.attempts.silent s st.0.0) (tries.attempts.ready s st.0) (λ idle. tries.idle idle s st.0.0) in
        let made = subst (λ (z : Bool). Comes v t b.call other z y a s) (is s st.0.0) comes in
        let e = effect_of (unless_settled (has_settled s.control.events (ring_given b.call)) a) in (
          (e s).state,
          (tries.held s.control (e s).state.control st.0.0.control (ready_shows v t b.call other y (e s).state made.ready) ∙ st.1, made.ready),
          silent_first e (tried_by f t b y) s made.silent
              ∙ ap (λ (z : Verdict). (e and_finally tried_by f t b z) s) (sym made.verdict)
              ∙ ap (λ (o : Option Blocked). tried_again_by f t o s) (sym st.1),
        ))

-- the frame of an attempt, and of what carries out its verdict
pub carried_frame : {P S H : Type 0} (w v x : WorldOf P S H) (t : ℕ) (q : Option ℕ) (r : Result Next OutOfMemory) → Frame w v no_numbers q false → IfOk r (λ k. Frame v x no_numbers (runs_after t k) (yields_after k)) → IfOk r (λ k. Frame w x no_numbers (runs_after t k) (yields_after k))
carried_frame w v x t q r made carried = IfOk-weaker r _ _ (λ k frame. frame_then no_numbers w v x q (runs_after t k) (yields_after k) made frame) carried
