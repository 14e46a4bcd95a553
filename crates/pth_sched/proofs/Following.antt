-- How a machine that makes the parts of a run follows it.
use Rattle.std.proofs.Common.{◌≡◌, ◌≢◌, ℕ, ◌+◌, ◌<◌, ◌≤◌, List, [], ◌++◌, Bool, true, false, refl, sym, ap, ap₂, ◌∙◌, arith, append_assoc, append-nil, subst}
use Rattle.pth_world.specs.Leading.{AllAwaitRightly}
use Rattle.pth_laws.proofs.EveryRun.{run_valid}
use Rattle.pth_laws.proofs.History.{run_history}
use Rattle.pth_base.specs.Program.{Functions}
use Rattle.pth_base.specs.declared.mark.Mark.{Mark}
use Rattle.pth_base.specs.declared.outcome.Outcome.TheVariants.{Running, OutOfMemory, Killed}
use Rattle.pth_kernel.specs.Kernel.{Kernel}
use Rattle.pth_model.specs.Course.{Course, HasHistory}
use Rattle.pth_model.specs.State.{Given, Scheduler, Turn, start}
use Rattle.pth_model.specs.Part.{part}
use Rattle.pth_model.specs.Run.{run, stops_at, IsBetween}
use Rattle.pth_model.proofs.Runs.{parts-more, between-none, between-more, none-more}
use Rattle.pth_base.specs.Cut.{IsCut}
use Rattle.pth_world.specs.Sound.{IsSound}
use Rattle.pth_world.specs.StateOf.{state_of}
use Rattle.pth_world.proofs.StateOf.{stands_for_state, state_awaits_rightly}
use Rattle.pth_sched.specs.MachineOf.{MachineOf, machine_stops}
use Rattle.pth_sched.proofs.Left.{left, left_at}
use Rattle.pth_sched.specs.Running.{Stands, StandsAt, Makes, MakesPart, FollowsUntil, BreaksOffBefore, GoesOn}
use Rattle.pth_sched.proofs.Keeping.{stops_ended}
use Rattle.pth_sched.proofs.Showing.{stops_is}
use Rattle.pth_sched.proofs.Stopping.{far, near}

module _ {P S H : Type 0} (f : P → Functions S H) (g : Given P) (halts : ℕ → Bool) (i : ℕ) where
  -- from part i the machine came to a part before which none halts, and what is told between was appended
  pub record Reaches (m : MachineOf P S H) (old new : List Mark) : Type 0 where
    pub part : ℕ
    pub later : i ≤ part
    pub going : (k : ℕ) → i ≤ k → k < part → halts k ≡ false
    pub stands : StandsAt f g part m
    pub told : List Mark
    pub between : IsBetween f g i part told
    pub appended : new ≡ old ++ told

  unfoldable pub reach-none : (m : MachineOf P S H) (old : List Mark) → StandsAt f g i m → Reaches m old old
  reach-none m old st = record {
    part = i;
    later = omega arith;
    going = λ k from below. absurd (omega (arith, from, below));
    stands = st;
    told = [];
    between = between-none f g i;
    appended = sym (append-nil old);
  }

  -- of each thread the state of the run says rightly whether it awaits a condition
  pub await_rightly : (k : ℕ) → (run f g k).turn.outcome ≢ Killed → AllAwaitRightly (run f g k).state
  await_rightly k lives = (run_valid f g k lives).awaits

  -- the machine makes a part of the run
  unfoldable pub reach-more : (m v : MachineOf P S H) (old mid new : List Mark) → (r : Reaches m old mid) → halts r.part ≡ false → (run f g r.part).turn.outcome ≢ Killed
      → ((c : Course P S H) → Stands m c → AllAwaitRightly c.state → HasHistory c → Makes v mid new (part f c.turn c.state)) → Reaches v old new
  reach-more m v old mid new r on lives makes =
      let here = run f g r.part in
      let made = makes here r.stands (await_rightly r.part lives) (run_history f g r.part) in
      record {
        part = r.part + 1;
        later = omega (arith, r.later);
        going = none-more halts i r.part r.going on;
        stands = subst (λ (x : Course P S H). Stands v x) (sym (parts-more f (start f g) r.part)) (record { world = made.stands.world; turn = made.stands.turn; memory = made.stands.memory });
        told = r.told ++ (part f here.turn here.state).marks;
        between = between-more f g i r.part r.told r.between;
        appended = made.tells ∙ ap (λ (x : List Mark). x ++ (part f here.turn here.state).marks) r.appended ∙ append_assoc old r.told (part f here.turn here.state).marks;
      }

  -- the part where the machine stands halts
  pub reach-stop : (m : MachineOf P S H) (old new : List Mark) → (r : Reaches m old new) → halts r.part ≡ true → FollowsUntil f g halts i m old new
  reach-stop m old new r halt = record {
    part = r.part;
    goes = record { later = r.later; here = halt; first = r.going };
    stands = r.stands;
    told = r.told;
    between = r.between;
    appended = r.appended;
  }

  -- memory ends in the next part
  pub reach-cut : (m : MachineOf P S H) (old mid new : List Mark) → (r : Reaches m old mid) → halts r.part ≡ false → (run f g r.part).turn.outcome ≢ Killed
      → ((c : Course P S H) → Stands m c → AllAwaitRightly c.state → IsCut mid new (part f c.turn c.state).marks) → BreaksOffBefore f g halts i old new
  reach-cut m old mid new r on lives cuts =
      let here = run f g r.part in
      let tells = (part f here.turn here.state).marks in
      record {
        part = r.part;
        later = r.later;
        going = λ k from upto. none-more halts i r.part r.going on k from (omega (arith, upto));
        told = r.told;
        between = r.between;
        rest = tells;
        within = between-more f g r.part r.part [] (between-none f g r.part);
        cut = subst (λ (x : List Mark). IsCut x new tells) r.appended (cuts here r.stands (await_rightly r.part lives));
      }

-- the part that comes next is made
pub made_part : {P S H : Type 0} (f : P → Functions S H) (g : Given P) (i : ℕ) (m v : MachineOf P S H) (old new : List Mark) → ((c : Course P S H) → Stands m c → Makes v old new (part f c.turn c.state)) → StandsAt f g i m → MakesPart f g i v old new
made_part f g i m v old new makes st =
    let here = run f g i in
    let made = makes here st in
    record {
      stands = subst (λ x. Stands v x) (sym (parts-more f (start f g) i)) (record { world = made.stands.world; turn = made.stands.turn; memory = made.stands.memory });
      told = (part f here.turn here.state).marks;
      between = between-more f g i i [] (between-none f g i);
      appended = made.tells;
    }

-- ---- each part comes nearer to where the run stops

-- the machine is as far as the course where it stands
left_is : {P S H : Type 0} (to : ℕ) (m : MachineOf P S H) (c : Course P S H) → Stands m c → left to m ≡ far to c
left_is to m c st =
    ap (λ (x : Turn). left_at to x m.world.scheduler.running m.world.kernel.now) (sym st.turn)
    ∙ ap₂ (λ (x : Scheduler) (k : Kernel). left_at to c.turn x.running k.now) (sym st.world.control.scheduler) (sym st.world.control.kernel)

still_runs : {P S H : Type 0} (to : ℕ) (m : MachineOf P S H) → machine_stops to m ≡ false → m.turn.outcome ≢ OutOfMemory
still_runs to m on ended = (let halt = stops_ended to m (λ runs. cc (runs, ended)) in cc (halt, on))

-- a run that the machine goes on with was not killed
pub lives_on : {P S H : Type 0} (to : ℕ) (m : MachineOf P S H) (c : Course P S H) → Stands m c → machine_stops to m ≡ false → c.turn.outcome ≢ Killed
lives_on to m c st on killed =
    let ended : m.turn.outcome ≡ Killed = ap (λ (x : Turn). x.outcome) (sym st.turn) ∙ killed in
    let halt = stops_ended to m (λ runs. cc (runs, ended)) in
    cc (halt, on)

pub made_less : {P S H : Type 0} (f : P → Functions S H) (m v : MachineOf P S H) → IsSound m.world.threads → ((c : Course P S H) → Stands m c → AllAwaitRightly c.state → Stands v (part f c.turn c.state)) → (to : ℕ) → machine_stops to m ≡ false → left to v < left to m
made_less {P = P} {S = S} {H = H} f m v sound stands to on =
    let c : Course P S H = record { state = state_of m.world; turn = m.turn; marks = [] } in
    let st : Stands m c = record { world = stands_for_state m.world sound; turn = refl; memory = still_runs to m on } in
    let nearer = near f to c (sym (stops_is to m c st) ∙ on) in
    rw (left_is to v (part f c.turn c.state) (stands c st (state_awaits_rightly m.world)), left_is to m c st) nearer

-- after an outcome that ended the run a machine stays where it is
pub stays : {P S H : Type 0} (f : P → Functions S H) (g : Given P) (to i : ℕ) (m : MachineOf P S H) (old : List Mark) → m.turn.outcome ≢ Running → StandsAt f g i m → GoesOn f g to i m old old
stays f g to i m old ended st =
    let r = reach-none f g (stops_at f g to) i m old st in
    reach-stop f g (stops_at f g to) i m old old r (sym (stops_is to m (run f g r.part) r.stands) ∙ stops_ended to m ended)
