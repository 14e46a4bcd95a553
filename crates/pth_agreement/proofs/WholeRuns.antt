-- Runs, with another program and another trace.
use Rattle.std.proofs.Common.{◌≡◌, [], ◌∷◌, true, ◌<◌, ℕ, zero, suc, ◌+◌, min, List, Option, Some, None, refl, ap, ap₂, map, ◌++◌, sym, ◌∙◌, subst, lt-suc_self, lt_trans}
use Rattle.pth_base.specs.Limits.{last_moment}
use Rattle.pth_base.specs.Program.{Functions, Stepped}
use Rattle.pth_base.specs.declared.answer.Answer.{Answer}
use Rattle.pth_kernel.specs.Kernel.{Kernel, advanced, came_to}
use Rattle.pth_kernel.specs.declared.trace.Stamp.{Stamp}
use Rattle.pth_kernel.specs.Moments.{least_after}
use Rattle.pth_model.specs.declared.blocked.Blocked.{Blocked}
use Rattle.pth_model.specs.declared.progress.Progress.{Progress}
use Rattle.pth_model.specs.Changes.{raises_ready, moves_to, blocked_in, blocked_of}
use Rattle.pth_model.specs.Course.{Course, followed}
use Rattle.pth_model.specs.Part.{Part, Move, Take, Step, Close, Halt, next_part, part, is_put_back, is_put_waiting, placed_by, is_placed, turn_ends}
use Rattle.pth_model.specs.Run.{parts, run}
use Rattle.pth_model.specs.State.{State, Control, Given, start, now_of, clock_of}
use Rattle.pth_model.specs.Transition.{controlled}
use Rattle.pth_agreement.specs.Agreement.{IsAlikeUpTo, AgreesWithProgram, with_program}
use Rattle.pth_agreement.proofs.Placed.{Bare}
use Rattle.pth_agreement.proofs.Kernels.{ShowsSame, WaitLeft, EventLeft, AsksLeft}
use Rattle.pth_agreement.proofs.Others.{Others, other_kernel, AllLeft}
use Rattle.pth_agreement.specs.Descriptors.{asked_by_call}
use Rattle.pth_agreement.proofs.Asked.{asked_by_wait, asked_by_event}
use Rattle.pth_ring.specs.declared.event.Event.{Event}
use Rattle.pth_agreement.proofs.Endings.{stepping_so}
use Rattle.pth_agreement.proofs.Passes.{moments_same}
use Rattle.pth_agreement.proofs.Parts.{StepAlikeBy, placed_course, StepSame, CallLeftBy, PartSame, next_part_same, part_same}

-- what is given, with no program
abbrev pub bare_given : {P : Type 0} → Given P → Given (Unit {0})
bare_given g = record { program = tt; kernel = g.kernel; top = g.top }

-- a turn that is closed changes of the kernel only the moment
put_kernel : {P S H : Type 0} (t : ℕ) (r : Option ℕ) (b : Option Blocked) (k : Control P S H) → (placed_by t r b k).kernel ≡ k.kernel
unfolding is_put_back is_put_waiting Rattle.pth_model.specs.Changes.sets Rattle.pth_model.specs.Changes.enters
put_kernel t None b k = refl
put_kernel t (Some r) (Some b) k = refl
put_kernel t (Some r) None k = refl

pub ends_kernel : {P S H : Type 0} (t : ℕ) (s : State P S H) → (controlled (turn_ends t) s).control.kernel ≡ advanced (min (now_of s.control + clock_of s.control) last_moment) s.control.kernel
unfolding raises_ready is_placed
ends_kernel {P = P} {S = S} {H = H} t s = ap (λ (k : Kernel). advanced (min (k.now + k.clock) last_moment) k) (put_kernel t s.control.scheduler.running (blocked_of s.control t) (raises_ready s.control))

module _ {P S H : Type 0} (p : P) (other : Others) (f : P → Functions S H) (step : S → H → Answer → Stepped S H) where
  abbrev bare : Unit {0} → Functions S H
  bare = stepping_so f p step

  -- a part that follows a run
  abbrev followed_by : {Q : Type 0} → (Q → Functions S H) → Course Q S H → Course Q S H
  followed_by h c = followed c (part h c.turn c.state)

  pub follows_same : (c : Course (Unit {0}) S H) → PartSame p other f step c.state (next_part c.state c.turn) → followed_by f (placed_course p other c) ≡ placed_course p other (followed_by bare c)
  follows_same c same = ap (followed (placed_course p other c)) (part_same p other f step c.turn c.state same)

  -- if in each part before part i what is asked has the same answer
  pub run_same : (g : Given (Unit {0})) (i : ℕ) → ((j : ℕ) → j < i → let c = run bare g j in PartSame p other f step c.state (next_part c.state c.turn))
      → run f (record { program = p; kernel = other_kernel other g.kernel; top = g.top }) i ≡ placed_course p other (run bare g i)
  unfolding parts start
  run_same g zero same = refl
  run_same g (suc i) same = ap (followed_by f) (run_same g i (λ j before. same j (lt_trans before (lt-suc_self i)))) ∙ follows_same (run bare g i) (same i (lt-suc_self i))

-- ---- the trace of a run is the one that it was given

-- another trace, and the same descriptors
abbrev pub only_trace : List Stamp → Others
only_trace trace = record {
  trace = trace;
  descriptors = λ ds. ds;
  left = λ f. true;
  same_at = λ ds f all. refl;
  puts = λ ds f x all. refl;
  opens = λ ds f. refl;
}

module _ (trace : List Stamp) where
  all_left : (fs : List ℕ) → AllLeft (only_trace trace) fs
  all_left [] = tt
  all_left (f ∷ fs) = (refl, all_left fs)

  wait_is_left : (o : Option Blocked) → WaitLeft (only_trace trace) o
  wait_is_left None = tt
  wait_is_left (Some b) = all_left (asked_by_wait b.awaits)

  event_is_left : (o : Option Event) → EventLeft (only_trace trace) o
  event_is_left None = tt
  event_is_left (Some x) = all_left (asked_by_event x.spec)

  pub asks_left : {P S H : Type 0} (k : Control P S H) → ShowsSame (only_trace trace) k.kernel → AsksLeft (only_trace trace) k
  asks_left k shows = record { shows = shows; waits = λ t. wait_is_left (blocked_of k t); events = λ e. event_is_left (k.events.events e) }

  pub call_is_left : {P S H : Type 0} (p : P) (f : P → Functions S H) (step : S → H → Answer → Stepped S H) (b : Option Blocked) (o : Option (Progress S)) (shared : H) → CallLeftBy p (only_trace trace) f step b o shared
  call_is_left p f step None (Some o) shared = all_left (asked_by_call (step o.state shared o.owed).call)
  call_is_left p f step None None shared = tt
  call_is_left p f step (Some b) o shared = tt

-- of its own trace a kernel shows the same
pub shows_own : (trace : List Stamp) (k : Kernel) → k.trace ≡ trace → ShowsSame (only_trace trace) k
shows_own trace k own = ap (λ (l : List Stamp). came_to (record k { trace = l })) (sym own)

module _ {P S H : Type 0} (p : P) (trace : List Stamp) (f : P → Functions S H) (step : S → H → Answer → Stepped S H) where
  pub own_part : (s : Bare S H) (a : Part) → s.control.kernel.trace ≡ trace → ((t : ℕ) → a ≡ Step t → StepSame p (only_trace trace) f step t s) → PartSame p (only_trace trace) f step s a
  own_part s Move own same = (
    ap₂ (λ (l : List Stamp) ms. least_after (now_of s.control) (map (λ (x : Stamp). x.at) l ++ ms)) (sym own) (moments_same p (only_trace trace) f step s),
    λ m next. asks_left trace (moves_to m s.control) (shows_own trace (advanced m s.control.kernel) own),
  )
  own_part s Take own same = tt
  own_part s (Step t) own same = (asks_left trace s.control (shows_own trace s.control.kernel own), same t refl, call_is_left trace p f step (blocked_of s.control t) (s.control.threads.progress t) s.control.shared)
  own_part s (Close t) own same = asks_left trace (turn_ends t s.control) (shows_own trace (turn_ends t s.control).kernel (ap (λ (k : Kernel). k.trace) (ends_kernel t s) ∙ own))
  own_part s Halt own same = tt

-- a program gives what it gives
pub gives_own : {S H : Type 0} (a : Functions S H) (b : Option Blocked) (o : Option (Progress S)) (shared : H) → StepAlikeBy a a b o shared
gives_own a None (Some p) shared = refl
gives_own a None None shared = tt
gives_own a (Some c) o shared = tt

-- if two programs give the same to each thread that asks
gives_asked : {S H : Type 0} (a b : Functions S H) (o : Option (Progress S)) (shared : H) → ((p : Progress S) → o ≡ Some p → p.blocked ≡ None → b.step p.state shared p.owed ≡ a.step p.state shared p.owed) → StepAlikeBy a b (blocked_in o) o shared
gives_asked a b None shared same = tt
gives_asked {S = S} {H = H} a b (Some p) shared same = by_call p.blocked refl
  where
    by_call : (c : Option Blocked) → p.blocked ≡ c → StepAlikeBy a b c (Some p) shared
    by_call None free = same p refl free
    by_call (Some c) blocked = tt

module _ {S H : Type 0} (h : Unit {0} → Functions S H) where
  -- so it is the same with that trace put in its place
  pub run_own : (g : Given (Unit {0})) (i : ℕ) → run h g i ≡ placed_course tt (only_trace g.kernel.trace) (run h g i)
  unfolding parts start
  run_own g zero = refl
  run_own g (suc i) =
      let c = run h g i in
      let own : c.state.control.kernel.trace ≡ g.kernel.trace = ap (λ (c : Course (Unit {0}) S H). c.state.control.kernel.trace) (run_own g i) in
      ap (λ c. followed c (part h c.turn c.state)) (run_own g i)
      ∙ follows_same tt (only_trace g.kernel.trace) h (h tt).step c (own_part tt g.kernel.trace h (h tt).step c.state (next_part c.state c.turn) own (λ t next. gives_own (h tt) (blocked_of c.state.control t) (c.state.control.threads.progress t) c.state.control.shared))

  pub own_trace : (g : Given (Unit {0})) (i : ℕ) → (run h g i).state.control.kernel.trace ≡ g.kernel.trace
  own_trace g i = ap (λ (c : Course (Unit {0}) S H). c.state.control.kernel.trace) (run_own g i)

module _ {P S H : Type 0} (f : P → Functions S H) where
  -- the program of a run as nothing but its functions
  abbrev pub own : P → Unit {0} → Functions S H
  own p u = f p

  -- a run is that of its program's functions, with the program put in its place
  pub run_bare : (g : Given P) (i : ℕ) → run f g i ≡ placed_course g.program (only_trace g.kernel.trace) (run (own g.program) (bare_given g) i)
  run_bare g i = run_same g.program (only_trace g.kernel.trace) f (f g.program).step (bare_given g) i (λ j before.
      let c = run (own g.program) (bare_given g) j in
      own_part g.program g.kernel.trace f (f g.program).step c.state (next_part c.state c.turn) (own_trace (own g.program) (bare_given g) j)
      (λ t next. gives_own (f g.program) (blocked_of c.state.control t) (c.state.control.threads.progress t) c.state.control.shared))

  pub program_kept : (g : Given P) (i : ℕ) → (run f g i).state.control.program ≡ g.program
  program_kept g i = ap (λ (c : Course P S H). c.state.control.program) (run_bare g i)

  pub trace_kept : (g : Given P) (i : ℕ) → (run f g i).state.control.kernel.trace ≡ g.kernel.trace
  trace_kept g i = ap (λ (c : Course P S H). c.state.control.kernel.trace) (run_bare g i)

  -- another program, whose steps give the same
  pub programs_agree : (g : Given P) (q : P) (i : ℕ) → IsAlikeUpTo f g q i → AgreesWithProgram f g q i
  programs_agree g q i alike =
      let trace = g.kernel.trace in
      let step = (f g.program).step in
      let same : stepping_so f q step ≡ own g.program = λ j u. record (alike.others j) { step = step } in
      let asked : (j : ℕ) → j < i → let c = run (own g.program) (bare_given g) j in PartSame q (only_trace trace) f step c.state (next_part c.state c.turn) = λ j before.
      let c = run (own g.program) (bare_given g) j in
      own_part q trace f step c.state (next_part c.state c.turn) (own_trace (own g.program) (bare_given g) j) (λ t next.
      let same_run = run_bare g j in
      gives_asked (f g.program) (f q) (c.state.control.threads.progress t) c.state.control.shared (λ o at free.
      subst (λ (d : Course P S H). (f q).step o.state d.state.control.shared o.owed ≡ (f g.program).step o.state d.state.control.shared o.owed) same_run (alike.steps j t o before (record {
        steps = ap (λ (d : Course P S H). next_part d.state d.turn) same_run ∙ next_part_same g.program (only_trace trace) c.state c.turn ∙ next;
        is_so_far = ap (λ (d : Course P S H). d.state.control.threads.progress t) same_run ∙ at;
        unblocked = free;
      })))) in
      run_same q (only_trace trace) f step (bare_given g) i (subst (λ (h : Unit {0} → Functions S H). (j : ℕ) → j < i → let c = run h (bare_given g) j in PartSame q (only_trace trace) f step c.state (next_part c.state c.turn)) (sym same) asked)
      ∙ ap (λ (h : Unit {0} → Functions S H). placed_course q (only_trace trace) (run h (bare_given g) i)) same
      ∙ sym (ap (with_program q) (run_bare g i))
