-- What holds of a machine between two parts, through the parts of a turn; and who is named by a yield.
use Rattle.std.proofs.Common.{◌≡◌, ℕ, ◌+◌, ◌≤◌, Bool, true, false, List, [], Option, Some, None, IsSome, IfSome, option_map, length, inl, inr, refl, sym, ◌∙◌, ap, subst, arith}
use Rattle.std.specs.Option.{option_or}
use Rattle.pth_base.specs.declared.ids.Tid.{Tid}
use Rattle.pth_queue.specs.declared.queue.Queue.{Queue}
use Rattle.pth_queue.specs.declared.queue.Queue.TheVariants as queue
use Rattle.pth_queue.specs.declared.ranked.Ranked.{Ranked}
use Rattle.pth_queue.specs.Ranking.{head_of, holds}
use Rattle.pth_queue.specs.Queues.{QueuesOf, queue_of}
use Rattle.pth_queue.proofs.Sets.{holds-queue_of}
use Rattle.pth_threads.specs.Threads.{ThreadsOf, slot_of, number_of}
use Rattle.pth_model.specs.declared.next.Next.{Next}
use Rattle.pth_model.specs.declared.next.Next.TheVariants as next
use Rattle.pth_model.specs.Part.{chosen, turn_after}
use Rattle.pth_model.specs.State.{Scheduler, Turn}
use Rattle.pth_world.specs.World.{WorldOf, ThreadsBySlot}
use Rattle.pth_world.specs.Frame.{Frame, Names, runs_after, yields_after}
use Rattle.pth_world.specs.Numbering.{HasGiven, GivesNone, made, no_numbers, one_of_each}
use Rattle.pth_world.specs.Ranks.{IsUnder}
use Rattle.pth_world.specs.Sound.{IsKnown}
use Rattle.pth_world.specs.WellFormed.{WellFormed, IsIn, IsRunnable, OfNew, OfReady, WaitsToRun}
use Rattle.pth_world.proofs.Frames.{frame_then, gives_none}
use Rattle.pth_sched.specs.MachineOf.{MachineOf, IsGoing}
use Rattle.pth_sched.specs.Passing.{IsReady}
use Rattle.pth_sched.proofs.Parts.{turn_steps, turn_turns}

-- ---- who is named

module _ {S : Type 0} where
  -- who waits to run goes on to, where records and queues are the same
  pub waits_same : (x y : ThreadsBySlot S) → y.records ≡ x.records → y.queues ≡ x.queues → (u : ℕ) → WaitsToRun x u → WaitsToRun y u
  waits_same x y records queues u waits = record {
    known = subst (λ (r : ThreadsOf). IsSome (slot_of r u)) (sym records) waits.known;
    queue = waits.queue;
    runnable = waits.runnable;
    stands = subst (λ (r : ThreadsOf). IfSome (slot_of r u) (λ i. queue_of i y.queues ≡ Some waits.queue)) (sym records) (subst (λ (q : QueuesOf). IfSome (slot_of x.records u) (λ i. queue_of i q ≡ Some waits.queue)) (sym queues) waits.stands);
  }

  -- where no thread is new, it is ready
  stands_ready : (x : ThreadsBySlot S) → x.queues.new ≡ [] → (o : Option ℕ) (q : Queue) → IsRunnable q → IfSome o (λ i. queue_of i x.queues ≡ Some q) → IfSome o (λ i. queue_of i x.queues ≡ Some queue.Ready)
  stands_ready x none o q OfReady h = h
  stands_ready x none None q OfNew h = tt
  stands_ready x none (Some i) q OfNew h =
      let there : holds i x.queues.new ≡ true = holds-queue_of queue.New i x.queues h in
      let out : holds i x.queues.new ≡ false = ap (holds i) none in
      absurd (cc (there, out))

  -- whoever is named goes on to wait, where all do
  pub named_on : (q r : Option ℕ) (x y : ThreadsBySlot S) → r ≡ q → ((u : ℕ) → WaitsToRun x u → WaitsToRun y u) → IfSome q (λ u. WaitsToRun x u) → IfSome r (λ u. WaitsToRun y u)
  named_on q r x y same stays named = subst (λ (o : Option ℕ). IfSome o (λ u. WaitsToRun y u)) (sym same) (by_named q named)
    where
      by_named : (o : Option ℕ) → IfSome o (λ u. WaitsToRun x u) → IfSome o (λ u. WaitsToRun y u)
      by_named (Some u) waits = stays u waits
      by_named None waits = tt

-- the one that is named, else the first
pub next_chosen : (p f : Option Tid) (t : Tid) (named : Option ℕ) (rows : List Ranked) → Some t ≡ option_or p f → option_map number_of p ≡ named → option_map number_of f ≡ head_of rows → Some t.0 ≡ chosen named rows
next_chosen (Some x) f t named rows is name head = subst (λ (o : Option ℕ). Some t.0 ≡ chosen o rows) name (ap (option_map number_of) is)
next_chosen None f t named rows is name head = subst (λ (o : Option ℕ). Some t.0 ≡ chosen o rows) name (ap (option_map number_of) is ∙ head)

module _ {P S H : Type 0} where
  -- whoever is named is ready, once no thread is new
  pub named_ready : (w : WorldOf P S H) → w.threads.queues.new ≡ [] → IfSome w.scheduler.preferred (λ u. WaitsToRun w.threads u) → IfSome w.scheduler.preferred (λ u. IsReady w u)
  named_ready w none named = by_named w.scheduler.preferred named
    where
      by_named : (o : Option ℕ) → IfSome o (λ u. WaitsToRun w.threads u) → IfSome o (λ u. IsReady w u)
      by_named (Some u) waits = (waits.known, stands_ready w.threads none (slot_of w.threads.records u) waits.queue waits.runnable waits.stands)
      by_named None waits = tt

  -- the one that is taken is ready
  pub next_ready : (w : WorldOf P S H) (p f : Option Tid) (t : Tid) → Some t ≡ option_or p f → option_map number_of p ≡ w.scheduler.preferred → IfSome w.scheduler.preferred (λ u. IsReady w u) → IfSome f (λ x. IsKnown w.threads x.0) → IfSome f (λ x. IsIn queue.Ready w.threads x.0) → IsReady w t.0
  next_ready w (Some x) f t is name ready known stands =
      let named : IsReady w x.0 = subst (λ (o : Option ℕ). IfSome o (λ u. IsReady w u)) (sym name) ready in
      let same : x ≡ t = cc in
      subst (λ (y : Tid). IsReady w y.0) same named
  next_ready w None f t is name ready known stands = (subst (λ (o : Option Tid). IfSome o (λ x. IsKnown w.threads x.0)) (sym is) known, subst (λ (o : Option Tid). IfSome o (λ x. IsIn queue.Ready w.threads x.0)) (sym is) stands)

  -- ---- frames

  -- the program's step leaves who stands where, and who is named
  pub stepped_frame : (w m v : WorldOf P S H) (r : Option ℕ) (yields : Bool) → WellFormed m → m.scheduler ≡ w.scheduler → GivesNone w m → m.threads.queues ≡ w.threads.queues → Frame m v one_of_each r yields → Frame w v one_of_each r yields
  stepped_frame w m v r yields whole scheduler none queues frame = frame_then one_of_each w m v m.scheduler.running r yields (record {
    whole = whole;
    runs = refl;
    made = gives_none no_numbers w m none;
    ranks = record {
      under = λ bound low under. subst (λ (x : QueuesOf). IsUnder bound x.ready) (sym queues) under;
      fresh = subst (λ (x : QueuesOf). length x.new ≤ length w.threads.queues.new + 0) (sym queues) (omega arith);
    };
    preferred = ap (λ (x : Scheduler). x.preferred) scheduler;
  }) frame

  -- whoever is named after a call waits to run, where nobody was named before
  names_wait : (yields : Bool) (w v : WorldOf P S H) → w.scheduler.preferred ≡ None → Names yields w v → IfSome v.scheduler.preferred (λ u. WaitsToRun v.threads u)
  names_wait false w v none is = subst (λ (o : Option ℕ). IfSome o (λ u. WaitsToRun v.threads u)) (sym (is ∙ none)) tt
  names_wait true w v none (inl is) = subst (λ (o : Option ℕ). IfSome o (λ u. WaitsToRun v.threads u)) (sym (is ∙ none)) tt
  names_wait true w v none (inr named) = subst (λ (o : Option ℕ). IfSome o (λ u. WaitsToRun v.threads u)) (sym named.1) named.2

  -- where control is not given up, nobody else is named
  names_none : (t : ℕ) (n : Next) (x : Turn) (w v : WorldOf P S H) → (turn_after t n x).gave ≡ None → Names (yields_after n) w v → v.scheduler.preferred ≡ w.scheduler.preferred
  names_none t (next.Done a) x w v gave named = named
  names_none t (next.Yields a) x w v gave named = absurd (cc gave)
  names_none t next.Blocks x w v gave named = named
  names_none t (next.Ended n) x w v gave named = named
  names_none t next.Killed x w v gave named = named

-- nobody runs but the thread that gave up control
gives_own : (t : ℕ) (n : Next) (x : Turn) → x.gave ≡ None → IfSome (turn_after t n x).gave (λ g. IfSome (runs_after t n) (λ r. r ≡ g))
gives_own t (next.Done a) x none = subst (λ (o : Option ℕ). IfSome o (λ g. IfSome (Some t) (λ r. r ≡ g))) (sym none) tt
gives_own t (next.Yields a) x none = refl
gives_own t next.Blocks x none = refl
gives_own t (next.Ended v) x none = tt
gives_own t next.Killed x none = subst (λ (o : Option ℕ). IfSome o (λ g. IfSome (Some t) (λ r. r ≡ g))) (sym none) tt

if_always : (o : Option ℕ) (Q : Type 0) → Q → IfSome o (λ t. Q)
if_always (Some t) Q q = q
if_always None Q q = tt

-- ---- the parts of a turn

module _ {P S H : Type 0} (m v : MachineOf P S H) (going : IsGoing m) where
  -- no number is given between turns
  given_still : GivesNone m.world v.world → v.turn.steps ≡ m.turn.steps → HasGiven (v.turn.steps + 1) v.world
  given_still none steps k = let a = going.made k in let n = none k in omega arith

  -- a thread is dispatched, and nobody is named any longer
  pub take_going : (t : ℕ) → m.world.scheduler.running ≡ None → WellFormed v.world → v.world.scheduler.running ≡ Some t → v.world.scheduler.preferred ≡ None → GivesNone m.world v.world → v.turn.gave ≡ None → v.turn.turns ≡ m.turn.turns + 1 → v.turn.steps ≡ m.turn.steps → IsGoing v
  take_going t nobody whole runs unnamed gives gave turns steps = record {
    whole = whole;
    preferred = subst (λ (o : Option ℕ). IfSome o (λ u. WaitsToRun v.world.threads u)) (sym unnamed) tt;
    unnamed = λ none some. unnamed;
    made = given_still gives steps;
    turns = (let a = going.between nobody in omega arith);
    over = subst (λ (o : Option ℕ). IfSome o (λ g. v.turn.turns ≤ v.turn.steps)) (sym gave) tt;
    own = subst (λ (o : Option ℕ). IfSome o (λ g. IfSome v.world.scheduler.running (λ r. r ≡ g))) (sym gave) tt;
    between = λ none. absurd (cc (none, runs));
  }

  -- a step of thread t, and what its call leads to
  pub step_going : (t : ℕ) (n : Next) (w : WorldOf P S H) → m.turn.gave ≡ None → m.world.scheduler.running ≡ Some t → Frame m.world w one_of_each (runs_after t n) (yields_after n) → WellFormed v.world → v.world ≡ record w { threads = record w.threads { progress = v.world.threads.progress } } → v.turn ≡ turn_after t n (record m.turn { steps = m.turn.steps + 1 }) → IsGoing v
  step_going t n w over runs frame whole same turn =
      let x : Turn = record m.turn { steps = m.turn.steps + 1 } in
      let none : m.world.scheduler.preferred ≡ None = going.unnamed over (subst (λ (o : Option ℕ). IsSome o) (sym runs) refl) in
      let names : v.world.scheduler.preferred ≡ w.scheduler.preferred = ap (λ (k : WorldOf P S H). k.scheduler.preferred) same in
      let running : v.world.scheduler.running ≡ runs_after t n = ap (λ (k : WorldOf P S H). k.scheduler.running) same ∙ frame.runs in
      let gave : v.turn.gave ≡ (turn_after t n x).gave = ap (λ (k : Turn). k.gave) turn in
      let turns : v.turn.turns ≡ m.turn.turns = ap (λ (k : Turn). k.turns) turn ∙ turn_turns t n x in
      let steps : v.turn.steps ≡ m.turn.steps + 1 = ap (λ (k : Turn). k.steps) turn ∙ turn_steps t n x in
      let fewer : v.turn.turns ≤ v.turn.steps = (let a = going.turns in omega arith) in
      record {
        whole = whole;
        preferred = named_on w.scheduler.preferred v.world.scheduler.preferred w.threads v.world.threads names (waits_same w.threads v.world.threads (ap (λ (k : WorldOf P S H). k.threads.records) same) (ap (λ (k : WorldOf P S H). k.threads.queues) same)) (names_wait (yields_after n) m.world w none frame.preferred);
        unnamed = λ given some. names ∙ names_none t n x m.world w (sym gave ∙ given) frame.preferred ∙ none;
        made = λ k. (let a = going.made k in let b = frame.made k in let c : made v.world k ≡ made w k = ap (λ (x : WorldOf P S H). made x k) same in omega arith);
        turns = omega arith;
        over = if_always v.turn.gave (v.turn.turns ≤ v.turn.steps) fewer;
        own = subst (λ (o : Option ℕ). IfSome o (λ g. IfSome v.world.scheduler.running (λ r. r ≡ g))) (sym gave) (subst (λ (o : Option ℕ). IfSome (turn_after t n x).gave (λ g. IfSome o (λ r. r ≡ g))) (sym running) (gives_own t n x over));
        between = λ nobody. fewer;
      }

  -- a turn is over, and who is named goes on to wait
  pub close_going : (t : ℕ) → m.turn.gave ≡ Some t → WellFormed v.world → v.world.scheduler.running ≡ None → IfSome v.world.scheduler.preferred (λ u. WaitsToRun v.world.threads u) → GivesNone m.world v.world → v.turn.gave ≡ None → v.turn.turns ≡ m.turn.turns → v.turn.steps ≡ m.turn.steps → IsGoing v
  close_going t over whole nobody named gives gave turns steps =
      let fewer : m.turn.turns ≤ m.turn.steps = subst (λ (o : Option ℕ). IfSome o (λ g. m.turn.turns ≤ m.turn.steps)) over going.over in
      record {
        whole = whole;
        preferred = named;
        unnamed = λ none some. (let rests = subst (λ (o : Option ℕ). IsSome o) nobody some in absurd (cc rests));
        made = given_still gives steps;
        turns = omega arith;
        over = subst (λ (o : Option ℕ). IfSome o (λ g. v.turn.turns ≤ v.turn.steps)) (sym gave) tt;
        own = subst (λ (o : Option ℕ). IfSome o (λ g. IfSome v.world.scheduler.running (λ r. r ≡ g))) (sym gave) tt;
        between = λ none. omega arith;
      }

  -- what is made leaves the turn, and who runs and is named
  pub still_going : WellFormed v.world → v.world.scheduler.running ≡ m.world.scheduler.running → v.world.scheduler.preferred ≡ m.world.scheduler.preferred → GivesNone m.world v.world → ((u : ℕ) → WaitsToRun m.world.threads u → WaitsToRun v.world.threads u) → v.turn ≡ m.turn → IsGoing v
  still_going whole running named gives stays turn =
      let turns = ap (λ (x : Turn). x.turns) turn in
      let steps = ap (λ (x : Turn). x.steps) turn in
      record {
        whole = whole;
        preferred = named_on m.world.scheduler.preferred v.world.scheduler.preferred m.world.threads v.world.threads named stays going.preferred;
        unnamed = λ none some. named ∙ going.unnamed (ap (λ (x : Turn). x.gave) (sym turn) ∙ none) (subst (λ (o : Option ℕ). IsSome o) running some);
        made = given_still gives steps;
        turns = (let a = going.turns in omega arith);
        over = subst (λ (x : Turn). IfSome x.gave (λ g. x.turns ≤ x.steps)) (sym turn) going.over;
        own = subst (λ (x : Turn). IfSome x.gave (λ g. IfSome v.world.scheduler.running (λ r. r ≡ g))) (sym turn) (subst (λ (o : Option ℕ). IfSome m.turn.gave (λ g. IfSome o (λ r. r ≡ g))) (sym running) going.own);
        between = λ nobody. (let a = going.between (sym running ∙ nobody) in omega arith);
      }
