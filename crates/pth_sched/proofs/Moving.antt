-- Idle time moves to a moment, and a pass is made.
use Rattle.std.proofs.Common.{◌≡◌, ◌↔◌, ℕ, Bool, true, false, List, [], ◌∷◌, ◌++◌, map, Option, Some, None, is_some, Result, Ok, Err, OnOk, refl, sym, ap, subst, ◌∙◌, append_assoc}
use Rattle.pth_base.specs.Program.{Functions}
use Rattle.pth_base.specs.Cut.{IsCut}
use Rattle.pth_base.specs.declared.mark.Mark.{Mark}
use Rattle.pth_base.specs.declared.mark.Mark.TheVariants.{Moved}
use Rattle.pth_queue.specs.declared.ranked.Ranked.{Ranked}
use Rattle.pth_queue.specs.declared.queue.Queue.TheVariants as queues
use Rattle.pth_queue.specs.Ranking.{named_row}
use Rattle.pth_threads.specs.Threads.{tid_at}
use Rattle.pth_model.specs.Changes.{is_empty, moves_to}
use Rattle.pth_model.specs.Course.{Course, within}
use Rattle.pth_model.specs.Part.{moves, moves_by, is_idle}
use Rattle.pth_model.specs.Pass.{moment, pass}
use Rattle.pth_model.specs.Resources.{told as told_of}
use Rattle.pth_model.specs.State.{State, Control, Scheduler, Turn, queue}
use Rattle.pth_model.specs.Transition.{changes, tells, ◌and_then◌}
use Rattle.pth_world.proofs.Ranks.{ranks_none}
use Rattle.pth_world.proofs.Telling.{has_still}
use Rattle.pth_world.specs.World.{WorldOf, ThreadsBySlot}
use Rattle.pth_world.specs.Shows.{Shows}
use Rattle.pth_world.specs.Leading.{Leads}
use Rattle.pth_world.specs.Numbering.{GivesNone, made}
use Rattle.pth_world.specs.Ranks.{KeepsRanks}
use Rattle.pth_world.specs.WellFormed.{WellFormed, WaitsToRun}
use Rattle.pth_sched.specs.MachineOf.{MachineOf}
use Rattle.pth_sched.specs.Passing.{OnlyWakes}
use Rattle.pth_sched.specs.Running.{Stands, Makes, Keeps}
use Rattle.pth_sched.proofs.Going.{still_going}
use Rattle.pth_sched.proofs.Keeping.{gives_rest}
use Rattle.pth_sched.proofs.UpperBounds.{still_bounded}

module _ {P S H : Type 0} where
  -- ---- where nothing is new or ready

  pub empty_is_idle : (w : WorldOf P S H) (k : Control P S H) → Shows w k → w.threads.queues.new ≡ [] → w.threads.queues.ready ≡ [] → is_idle k ≡ true
  empty_is_idle w k st none_new none_ready =
      let new : is_empty (queue k queues.New) ≡ true = ap (λ (rows : List Ranked). is_empty rows) (st.threads.standing queues.New) ∙ ap (λ (rows : List Ranked). is_empty (map (named_row (tid_at w.threads.records)) rows)) none_new in
      let ready : is_empty (queue k queues.Ready) ≡ true = ap (λ (rows : List Ranked). is_empty rows) (st.threads.standing queues.Ready) ∙ ap (λ (rows : List Ranked). is_empty (map (named_row (tid_at w.threads.records)) rows)) none_ready in
      rw (new, ready) refl

  -- ---- a pass is made

  module _ (m v : MachineOf P S H) where
    pub pass_makes : (f : P → Functions S H) (c : Course P S H) (old new : List Mark) → Stands m c → v.turn ≡ m.turn → Leads v.world old new (pass f c.state) → Makes v old new (within c.turn (pass f c.state))
    pass_makes f c old new st turn leads = record {
      stands = record { world = leads.stands; turn = st.turn ∙ sym turn; memory = λ e. st.memory (ap (λ (x : Turn). x.outcome) (sym turn) ∙ e) };
      tells = leads.tells;
    }

    pub pass_keeps : {A E : Type 0} (r : Result A E) → Keeps m → v.turn ≡ m.turn → OnOk r (OnlyWakes m.world v.world) → OnOk r (Keeps v)
    pass_keeps (Err e) keeps turn wakes = tt
    pass_keeps (Ok a) keeps turn wakes =
        let rest = wakes.rest in
        let running = ap (λ (k : Scheduler). k.running) rest.scheduler in
        record {
          going = still_going m v keeps.going wakes.whole running (ap (λ (k : Scheduler). k.preferred) rest.scheduler) (gives_rest m.world v.world rest wakes.made) wakes.stays turn;
          ranks = still_bounded m v keeps.ranks wakes.ranks running turn;
        }

    -- it is later, and nothing else has changed
    pub moved_keeps : (now : ℕ) → Keeps m → WellFormed v.world → v.world ≡ record m.world { kernel = record m.world.kernel { now = now } } → v.turn ≡ m.turn → Keeps v
    moved_keeps now keeps whole same turn =
        let threads : v.world.threads ≡ m.world.threads = ap (λ (w : WorldOf P S H). w.threads) same in
        let running : v.world.scheduler.running ≡ m.world.scheduler.running = ap (λ (w : WorldOf P S H). w.scheduler.running) same in
        let named : v.world.scheduler.preferred ≡ m.world.scheduler.preferred = ap (λ (w : WorldOf P S H). w.scheduler.preferred) same in
        let gives : GivesNone m.world v.world = λ k. ap (λ (w : WorldOf P S H). made w k) same in
        record {
          going = still_going m v keeps.going whole running named gives (λ u. subst (λ (x : ThreadsBySlot S). WaitsToRun x u) (sym threads)) turn;
          ranks = still_bounded m v keeps.ranks (subst (λ (x : ThreadsBySlot S). KeepsRanks 0 m.world.threads x) (sym threads) (ranks_none m.world.threads)) running turn;
        }

  -- ---- time moves

  -- the state that the pass finds
  abbrev moved : ℕ → State P S H → State P S H
  moved t s = ((changes (moves_to t) and_then tells (Moved t)) s).state

  module _ (t : ℕ) (c : Course P S H) where
    -- where the pass begins
    abbrev pub before_pass : Course P S H
    before_pass = record { state = moved t c.state; turn = c.turn; marks = [] }

    pub moved_stands : (m v : MachineOf P S H) → v.turn ≡ m.turn → ((k : Control P S H) → Shows m.world k → Shows v.world (moves_to t k)) → v.world.store ≡ m.world.store → Stands m c → Stands v before_pass
    unfolding told_of
    moved_stands m v turn shows stored st = record {
      world = record { control = shows c.state.control st.world.control; store = has_still m.world v.world c.state stored st.world.store };
      turn = st.turn ∙ sym turn;
      memory = λ e. st.memory (ap (λ (x : Turn). x.outcome) (sym turn) ∙ e);
    }

    module _ (f : P → Functions S H) (old mid new : List Mark) (told : mid ≡ old ++ Moved t ∷ []) where
      pub move_makes : (v : MachineOf P S H) → Makes v mid new (within c.turn (pass f before_pass.state)) → Makes v old new (moves_by f c.turn (Some t) c.state)
      move_makes v makes = record {
        stands = record { world = makes.stands.world; turn = makes.stands.turn; memory = makes.stands.memory };
        tells = makes.tells ∙ ap (λ (l : List Mark). l ++ (pass f before_pass.state).marks) told ∙ append_assoc old (Moved t ∷ []) (pass f before_pass.state).marks;
      }

      -- memory ends in the pass
      pub move_cut : IsCut mid new (pass f before_pass.state).marks → IsCut old new (moves_by f c.turn (Some t) c.state).marks
      move_cut cut = record {
        first = Moved t ∷ cut.first;
        rest = cut.rest;
        new_is = cut.new_is ∙ ap (λ (l : List Mark). l ++ cut.first) told ∙ append_assoc old (Moved t ∷ []) cut.first;
        whole_is = ap (λ (l : List Mark). Moved t ∷ l) cut.whole_is;
      }

  -- ---- by the moment that comes next

  module _ (f : P → Functions S H) (x : Turn) (s : State P S H) (o : Option ℕ) (next : o ≡ moment f s) where
    pub moves_as : moves f x s ≡ moves_by f x o s
    unfolding moves
    moves_as = ap (λ (n : Option ℕ). moves_by f x n s) (sym next)

-- whether there is a moment
pub no_moment_as : (o : Option ℕ) (b : Bool) → is_some o ≡ b → (b ≡ false) ↔ (o ≡ None)
no_moment_as None b is = (λ h. refl, λ h. sym is)
no_moment_as (Some m) b is = (λ h. absurd (cc (is, h)), λ h. absurd (cc h))
