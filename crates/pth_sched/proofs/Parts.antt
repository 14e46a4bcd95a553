-- The part that comes next, and what the parts of a turn make.
use Rattle.std.proofs.Common.{◌≡◌, ◌≢◌, ℕ, ◌+◌, ◌==◌, ◌≤◌, ℤ, Bool, true, false, List, [], ◌∷◌, ◌++◌, length, reverse, Option, Some, None, is_some, refl, sym, ap, ◌∙◌, subst, append-nil, arith}
use Rattle.pth_base.specs.Cut.{IsCut}
use Rattle.pth_base.specs.Program.{Functions}
use Rattle.pth_base.specs.declared.mark.Mark.{Mark}
use Rattle.pth_base.specs.declared.mark.Mark.TheVariants.{Dispatch}
use Rattle.pth_base.specs.declared.outcome.Outcome.{Outcome}
use Rattle.pth_base.specs.declared.outcome.Outcome.TheVariants.{Running, Ended, Killed, Stalled, OutOfMemory}
use Rattle.pth_queue.specs.declared.queue.Queue.TheVariants as queues
use Rattle.pth_queue.specs.Ranking.{place_in}
use Rattle.pth_model.specs.declared.blocked.Blocked.{Blocked}
use Rattle.pth_model.specs.declared.next.Next.{Next}
use Rattle.pth_model.specs.declared.next.Next.TheVariants as next
use Rattle.pth_model.specs.declared.progress.Progress.{Progress}
use Rattle.pth_model.specs.Calls.{gone_on}
use Rattle.pth_model.specs.Changes.{blocked_of, enters, holders, leaves_queue, sets}
use Rattle.pth_model.specs.Course.{Course, HasHistory, within}
use Rattle.pth_kernel.specs.Kernel.{Kernel}
use Rattle.pth_model.specs.State.{State, Control, Turn, main, queue, now_of}
use Rattle.pth_model.specs.Transition.{silent, controlled, tid}
use Rattle.pth_model.specs.Pass.{is_ready_at, moment, pass}
use Rattle.pth_model.specs.Part.{Part, Halt, Move, part, part_by, next_part, next_part_by, unless_ended, moves, takes, dispatches, steps, steps_by, steps_on, closes, runs, trail_with, turn_ends, readies, readies_all, readies_new, chosen, rank_by, is_idle, owes_after, turn_after, gives_up, ends_run}
use Rattle.pth_model.specs.Resources.{told as told_of}
use Rattle.pth_world.proofs.Telling.{has_still}
use Rattle.pth_world.specs.World.{WorldOf}
use Rattle.pth_base.specs.Limits.{most_steps}
use Rattle.pth_model.specs.Allowance.{AreTakenReady, Point, standing_of, waited, number_by}
use Rattle.pth_tables.specs.declared.waits.Turn.{Turn as Numbers}
use Rattle.pth_world.specs.Shows.{Shows, StandsFor, IsTurnOf}
use Rattle.pth_world.specs.Leading.{Leads}
use Rattle.pth_sched.specs.MachineOf.{MachineOf}
use Rattle.pth_sched.specs.Running.{Stands, Makes}
use Rattle.pth_sched.proofs.Showing.{running_of}

halts : (o : Outcome) (p : Part) → o ≢ Running → unless_ended o p ≡ Halt
halts Running p ended = absurd (ended refl)
halts (Ended v) p ended = refl
halts Killed p ended = refl
halts Stalled p ended = refl
halts OutOfMemory p ended = refl

module _ {P S H : Type 0} (f : P → Functions S H) (m : MachineOf P S H) (c : Course P S H) (st : Stands m c) where
  nobody_runs : (r : Option ℕ) → m.world.scheduler.running ≡ r → c.state.control.scheduler.running ≡ r
  nobody_runs r is = running_of m.world c.state.control st.world.control ∙ is

  pub part_halt : m.turn.outcome ≢ Running → part f c.turn c.state ≡ within c.turn (silent c.state)
  unfolding part next_part
  part_halt ended = rw (halts c.turn.outcome (next_part_by c.turn.gave c.state.control.scheduler.running (is_idle c.state.control)) (λ runs. ended (ap (λ (x : Turn). x.outcome) (sym st.turn) ∙ runs))) refl

  module _ (goes : m.turn.outcome ≡ Running) where
    on_turn : c.turn.outcome ≡ Running
    on_turn = ap (λ (x : Turn). x.outcome) st.turn ∙ goes

    gave_turn : (o : Option ℕ) → m.turn.gave ≡ o → c.turn.gave ≡ o
    gave_turn o is = ap (λ (x : Turn). x.gave) st.turn ∙ is

    pub part_close : (t : ℕ) → m.turn.gave ≡ Some t → part f c.turn c.state ≡ closes f c.turn t c.state
    unfolding part next_part
    part_close t over = rw (on_turn, gave_turn (Some t) over) refl

    pub part_step : (t : ℕ) → m.turn.gave ≡ None → m.world.scheduler.running ≡ Some t → part f c.turn c.state ≡ steps f c.turn t c.state
    unfolding part next_part
    part_step t none over = rw (on_turn, gave_turn None none, nobody_runs (Some t) over) refl

    pub part_take : m.turn.gave ≡ None → m.world.scheduler.running ≡ None → is_idle c.state.control ≡ false → part f c.turn c.state ≡ takes c.turn c.state
    unfolding part next_part
    part_take none nobody busy = rw (on_turn, gave_turn None none, nobody_runs None nobody, busy) refl

    next_move : m.turn.gave ≡ None → m.world.scheduler.running ≡ None → is_idle c.state.control ≡ true → next_part c.state c.turn ≡ Move
    unfolding next_part
    next_move none nobody idle = rw (on_turn, gave_turn None none, nobody_runs None nobody, idle) refl

    pub part_move : m.turn.gave ≡ None → m.world.scheduler.running ≡ None → is_idle c.state.control ≡ true → part f c.turn c.state ≡ moves f c.turn c.state
    unfolding part
    part_move none nobody idle = ap (part_by f c.turn c.state) (next_move none nobody idle)

-- the same part, the same marks and states
module _ {P S H : Type 0} (v : MachineOf P S H) (one two : Course P S H) (same : two ≡ one) where
  pub makes_as : (old new : List Mark) → Makes v old new one → Makes v old new two
  makes_as old new = subst (λ (x : Course P S H). Makes v old new x) (sym same)

  pub stands_as : Stands v one → Stands v two
  stands_as = subst (Stands v) (sym same)

  pub cut_as : (old new : List Mark) → IsCut old new one.marks → IsCut old new two.marks
  cut_as old new = subst (λ (x : Course P S H). IsCut old new x.marks) (sym same)

-- threads that become ready leave the trail
readies_trail : {P S H : Type 0} (ts : List ℕ) (k : Control P S H) → (readies_all ts k).threads.trail ≡ k.threads.trail
unfolding readies_all readies is_ready_at leaves_queue sets enters
readies_trail [] k = refl
readies_trail (t ∷ ts) k = readies_trail ts (readies t k)

-- a turn that is over has a step of its own
pub turns_few : (turns steps : ℕ) → turns ≤ steps → steps ≤ most_steps → turns ≤ most_steps
turns_few turns steps fewer few = omega (arith, fewer, few)

module _ {P S H : Type 0} (m : MachineOf P S H) (c : Course P S H) (st : Stands m c) (history : HasHistory c) where
  abbrev new : List ℕ
  new = reverse (holders (queue c.state.control queues.New))

  -- the trail after the new threads are ready is that of a run, and has a dispatch a turn
  pub ready_history : AreTakenReady (readies_new c.state.control).threads.trail
  ready_history = subst AreTakenReady (sym (readies_trail new c.state.control)) history.taken

  pub few_turns : m.turn.turns ≤ most_steps → length (readies_new c.state.control).threads.trail ≤ most_steps
  few_turns few = subst (λ (l : List Point). length l ≤ most_steps) (sym (readies_trail new c.state.control)) (let t : c.turn.turns ≡ m.turn.turns = ap (λ (x : Turn). x.turns) st.turn in omega (arith, few, history.turns, t))

module _ {P S H : Type 0} (m : MachineOf P S H) (c : Course P S H) (st : Stands m c) where
  pub still_makes : (old : List Mark) → Makes m old old (within c.turn (silent c.state))
  still_makes old = record { stands = record { world = st.world; turn = st.turn; memory = st.memory }; tells = sym (append-nil old) }

  -- no thread waits for a moment: the run is stalled
  pub stall_makes : (f : P → Functions S H) (old new : List Mark) → new ≡ old → moment f c.state ≡ None → Makes (record m { turn = record m.turn { outcome = Stalled } }) old new (moves f c.turn c.state)
  unfolding moves
  stall_makes f old new same none = rw none record {
    stands = record { world = st.world; turn = ap (λ (x : Turn). record x { outcome = Stalled }) st.turn; memory = λ e. cc e };
    tells = same ∙ sym (append-nil old);
  }

  -- a turn is over, and a pass is made
  pub close_makes : (f : P → Functions S H) (t : ℕ) (w : WorldOf P S H) (old new : List Mark) → Leads w old new (pass f (controlled (turn_ends t) c.state)) → Makes (record { world = w; turn = record m.turn { gave = None } }) old new (closes f c.turn t c.state)
  unfolding closes
  close_makes f t w old new leads = record {
    stands = record { world = leads.stands; turn = ap (λ (x : Turn). record x { gave = None }) st.turn; memory = st.memory };
    tells = leads.tells;
  }

  -- a turn is over
  pub turn_over : (t : ℕ) (v : WorldOf P S H) → Shows v (turn_ends t c.state.control) → v.store ≡ m.world.store → StandsFor v (controlled (turn_ends t) c.state)
  turn_over t v shows stored = record { control = shows; store = has_still m.world v c.state stored st.world.store }

  -- a thread is dispatched
  module _ (t : ℕ) (w u : WorldOf P S H) (ready : Shows w (readies_new c.state.control)) (next : Some t ≡ chosen (readies_new c.state.control).scheduler.preferred (queue (readies_new c.state.control) queues.Ready)) (shows : Shows u (runs t (readies_new c.state.control))) (stored : u.store ≡ m.world.store) where
    pub take_stands : Stands (record { world = u; turn = record m.turn { turns = m.turn.turns + 1 } }) (takes c.turn c.state)
    unfolding takes dispatches told_of
    take_stands = rw (← next) record {
      world = record { control = shows; store = has_still m.world u c.state stored st.world.store };
      turn = ap (λ (x : Turn). record x { turns = x.turns + 1 }) st.turn;
      memory = st.memory;
    }

    pub take_makes : (rank : ℤ) (time : ℕ) (turn : Numbers) (old new : List Mark) → rank ≡ rank_by (place_in t (queue (readies_new c.state.control) queues.Ready)) → time ≡ w.kernel.now → IsTurnOf (readies_new c.state.control) t turn → new ≡ old ++ Dispatch (m.turn.turns + 1) time (tid t) rank turn.waited turn.allowed ∷ []
        → Makes (record { world = u; turn = record m.turn { turns = m.turn.turns + 1 } }) old new (takes c.turn c.state)
    unfolding takes dispatches told_of
    take_makes rank time turn old new rank_is time_is numbers told =
        let k = readies_new c.state.control in
        let now : now_of k ≡ time = ap (λ (x : Kernel). x.now) ready.kernel ∙ sym time_is in
        record {
          stands = take_stands;
          tells = rw (← next) (told
              ∙ ap (λ (x : Turn). old ++ Dispatch (x.turns + 1) time (tid t) rank turn.waited turn.allowed ∷ []) (sym st.turn)
              ∙ ap (λ (n : ℕ). old ++ Dispatch (c.turn.turns + 1) n (tid t) rank turn.waited turn.allowed ∷ []) (sym now)
              ∙ ap (λ (r : ℤ). old ++ Dispatch (c.turn.turns + 1) (now_of k) (tid t) r turn.waited turn.allowed ∷ []) rank_is
              ∙ ap (λ (n : ℕ). old ++ Dispatch (c.turn.turns + 1) (now_of k) (tid t) (rank_by (place_in t (queue k queues.Ready))) n turn.allowed ∷ []) numbers.waited
              ∙ ap (λ (n : ℕ). old ++ Dispatch (c.turn.turns + 1) (now_of k) (tid t) (rank_by (place_in t (queue k queues.Ready))) (number_by (waited (trail_with t k)) (standing_of t (k.threads.standing queues.Ready))) n ∷ []) numbers.allowed);
        }

  -- a call that was made, and what it leads to, are a step
  pub step_makes : (f : P → Functions S H) (v : MachineOf P S H) (t : ℕ) (w : WorldOf P S H) (n : Next) (old new : List Mark) → n ≡ (steps_on f t c.state).next → Leads w old new (steps_on f t c.state).told
      → ((k : Control P S H) → Shows w k → Shows v.world (owes_after t n k)) → v.world.store ≡ w.store → v.turn ≡ turn_after t n (record m.turn { steps = m.turn.steps + 1 }) → v.turn.outcome ≢ OutOfMemory → Makes v old new (steps f c.turn t c.state)
  unfolding steps
  step_makes f v t w n old new next leads settles stored turn memory =
      let went = steps_on f t c.state in
      record {
        stands = record {
          world = record { control = subst (λ (x : Next). Shows v.world (owes_after t x went.told.state.control)) next (settles went.told.state.control leads.stands.control); store = has_still w v.world went.told.state stored leads.stands.store };
          turn = ap (λ (x : Turn). turn_after t went.next (record x { steps = x.steps + 1 })) st.turn ∙ ap (λ (x : Next). turn_after t x (record m.turn { steps = m.turn.steps + 1 })) (sym next) ∙ sym turn;
          memory = memory;
        };
        tells = leads.tells;
      }

pub closes_marks : {P S H : Type 0} (f : P → Functions S H) (x : Turn) (t : ℕ) (s : State P S H) → (closes f x t s).marks ≡ (pass f (controlled (turn_ends t) s)).marks
unfolding closes
closes_marks f x t s = refl

pub steps_marks : {P S H : Type 0} (f : P → Functions S H) (x : Turn) (t : ℕ) (s : State P S H) → (steps f x t s).marks ≡ (steps_on f t s).told.marks
unfolding steps
steps_marks f x t s = refl

-- a thread that a call blocks tries it again
pub steps_again : {P S H : Type 0} (f : P → Functions S H) (t : ℕ) (s : State P S H) → is_some (blocked_of s.control t) ≡ true → steps_on f t s ≡ gone_on f t s
steps_again {S = S} f t s blocked = by_blocked (blocked_of s.control t) (s.control.threads.progress t) blocked
  where
    by_blocked : (b : Option Blocked) (p : Option (Progress S)) → is_some b ≡ true → steps_by f t b p s ≡ gone_on f t s
    by_blocked (Some b) p some = refl
    by_blocked None p some = absurd (cc some)

-- no step ends memory
pub after_memory : (t : ℕ) (n : Next) (x : Turn) → x.outcome ≢ OutOfMemory → (turn_after t n x).outcome ≢ OutOfMemory
after_memory t (next.Done a) x memory = memory
after_memory t (next.Yields a) x memory = memory
after_memory t next.Blocks x memory = memory
after_memory t next.Killed x memory = λ e. cc e
after_memory t (next.Ended v) x memory = by_main (t == main)
  where
    by_main : (b : Bool) → (gives_up t (ends_run v b x)).outcome ≢ OutOfMemory
    by_main true = λ e. cc e
    by_main false = memory

-- what a step leaves of the counts of its turn
pub turn_steps : (t : ℕ) (n : Next) (x : Turn) → (turn_after t n x).steps ≡ x.steps
turn_steps t (next.Done a) x = refl
turn_steps t (next.Yields a) x = refl
turn_steps t next.Blocks x = refl
turn_steps t next.Killed x = refl
turn_steps t (next.Ended v) x = by_main (t == main)
  where
    by_main : (b : Bool) → (gives_up t (ends_run v b x)).steps ≡ x.steps
    by_main true = refl
    by_main false = refl

pub turn_turns : (t : ℕ) (n : Next) (x : Turn) → (turn_after t n x).turns ≡ x.turns
turn_turns t (next.Done a) x = refl
turn_turns t (next.Yields a) x = refl
turn_turns t next.Blocks x = refl
turn_turns t next.Killed x = refl
turn_turns t (next.Ended v) x = by_main (t == main)
  where
    by_main : (b : Bool) → (gives_up t (ends_run v b x)).turns ≡ x.turns
    by_main true = refl
    by_main false = refl
