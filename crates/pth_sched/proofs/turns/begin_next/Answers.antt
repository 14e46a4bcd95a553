use Rattle.std.proofs.Common.{◌≡◌, ◌∙◌, ℕ, ◌||◌, ◌&&◌, List, Option, Some, Result, Ok, Err, IfOk, OnOk, IfSome, ap, sym, subst, arith, false}
use Rattle.std.proofs.lemmas.Result.{IfOk-weaker}
use Rattle.pth_base.specs.Program.{Functions}
use Rattle.pth_base.specs.declared.call.Call.{Call}
use Rattle.pth_base.specs.declared.mark.Mark.{Mark}
use Rattle.pth_base.specs.declared.memory.OutOfMemory.{OutOfMemory}
use Rattle.pth_kernel.specs.Kernel.{kernel_of}
use Rattle.pth_model.specs.declared.next.Next.{Next}
use Rattle.pth_model.specs.declared.progress.Progress.{Progress}
use Rattle.pth_model.specs.Calls.{begun}
use Rattle.pth_model.specs.Part.{step_of, stepping, steps_from}
use Rattle.pth_model.specs.State.{Control}
use Rattle.pth_model.specs.Transition.{controlled}
use Rattle.pth_world.specs.Frame.{runs_after, yields_after}
use Rattle.pth_world.specs.Leading.{Goes, StandsWhere}
use Rattle.pth_world.specs.Numbering.{made}
use Rattle.pth_world.specs.Shows.{Shows}
use Rattle.pth_world.specs.World.{WorldOf}
use Rattle.pth_world.proofs.Telling.{has_still}
use Rattle.pth_waits.proofs.Carried.{goes_as, goes_where}
use Rattle.pth_sched.specs.NonWaking.{waits_without_waking, is_waiting}
use Rattle.pth_sched.proofs.Begins.{non_waking_never}
use Rattle.pth_sched.proofs.QuiescentSteps.{begun_stays_quiescent, quiescent_by}
use Rattle.pth_sched.proofs.Going.{stepped_frame}
use Rattle.pth_sched.proofs.turns.begin_next.Goals as goal

-- where the call leads after the program's step, the step leads
module _ {P S H : Type 0} (f : P → Functions S H) (w u v : WorldOf P S H) (t : ℕ) (call : Call) (stored : u.store ≡ w.store)
    (calls : (k : Control P S H) → Shows w k → IfSome (k.threads.progress t) (λ p. call ≡ (step_of f k p).call))
    (shows : (k : Control P S H) → Shows w k → IfSome (k.threads.progress t) (λ p. Shows u (stepping t (step_of f k p) k))) where
  stepped : (p : Progress S) (old new : List Mark) (r : Result Next OutOfMemory) → Goes (StandsWhere u t false) (begun f t call) v old new r
      → Goes (λ s. StandsWhere w t false s × (s.control.threads.progress t ≡ Some p)) (steps_from f t p) v old new r
  stepped p old new r = goes_as (StandsWhere u t false) (λ s. StandsWhere w t false s × (s.control.threads.progress t ≡ Some p)) (begun f t call) (steps_from f t p) v old new r (λ s st.
      let k = s.control in
      let is = subst (λ (o : Option (Progress S)). IfSome o (λ q. call ≡ (step_of f k q).call)) st.1 (calls k st.0.0.control) in
      let sh = subst (λ (o : Option (Progress S)). IfSome o (λ q. Shows u (stepping t (step_of f k q) k))) st.1 (shows k st.0.0.control) in
      let after = controlled (stepping t (step_of f k p)) s in
      (after, (record { control = sh; store = has_still w u s stored st.0.0.store }, st.0.1), ap (λ (c : Call). begun f t c after) is))

-- what follows from what holds of a result that is there
both : {A E : Type 0} {X : A → Type 0} {Y Q : Type 0} (r : Result A E) → IfOk r X → OnOk r Y → ((n : A) → X n → Y → Q) → OnOk r Q
both (Ok n) x y f = f n x y
both (Err e) x y f = tt

all_three : {A E : Type 0} {X Y : A → Type 0} {Z Q : Type 0} (r : Result A E) → IfOk r X → IfOk r Y → OnOk r Z → ((n : A) → X n → Y n → Z → Q) → OnOk r Q
all_three (Ok n) x y z f = f n x y z
all_three (Err e) x y z f = tt

pub begin_at_once-requires-clause-few : goal.begin_at_once-requires-clause-few
begin_at_once-requires-clause-few g c k =
    let few = c.requires.few k in
    let same : made c.next_call.new.self k ≡ made c.args.w.now k = ap (λ (w : WorldOf _ _ _). made w k) c.in_ok-call.ensures.same in
    omega arith

pub begin_waking-requires-clause-few : goal.begin_waking-requires-clause-few
begin_waking-requires-clause-few g c k =
    let few = c.requires.few k in
    let same : made c.next_call.new.self k ≡ made c.args.w.now k = ap (λ (w : WorldOf _ _ _). made w k) c.in_ok-call.ensures.same in
    omega arith

pub begin_at_once-requires-clause-never : goal.begin_at_once-requires-clause-never
begin_at_once-requires-clause-never g c = non_waking_never c.in_ok-call.call (sym c.is_non_waking.ensures ∙ c.if-is_non_waking.true)

pub returns-then-is_non_waking-clause-goes : goal.returns-then-is_non_waking-clause-goes
returns-then-is_non_waking-clause-goes g c p = stepped g.P.Program.functions c.args.w.now c.next_call.new.self c.begin_at_once.new.w c.args.t.0 c.in_ok-call.call (ap (λ (k : WorldOf _ _ _). k.store) c.in_ok-call.ensures.same) c.in_ok-call.ensures.call c.in_ok-call.ensures.shows p _ _ _ (goes_where c.next_call.new.self c.args.t.0 false _ _ _ _ _ c.begin_at_once.ensures.goes)

pub returns-then-is_non_waking-clause-some : goal.returns-then-is_non_waking-clause-some
returns-then-is_non_waking-clause-some g c s st = c.next_call.ensures.some s.control st.control

pub returns-then-is_non_waking-clause-frame : goal.returns-then-is_non_waking-clause-frame
returns-then-is_non_waking-clause-frame g c =
    let same = c.in_ok-call.ensures.same in
    IfOk-weaker c.begin_at_once.result _ _ (λ n frame. stepped_frame c.args.w.now c.next_call.new.self c.begin_at_once.new.w (runs_after c.args.t.0 n) (yields_after n) (c.in_ok-call.ensures.whole c.requires.whole) (ap (λ (k : WorldOf _ _ _). k.scheduler) same) (λ k. ap (λ (w : WorldOf _ _ _). made w k) same) (ap (λ (k : WorldOf _ _ _). k.threads.queues) same) frame) c.begin_at_once.ensures.frame

pub returns-then-is_non_waking-clause-quiescence : goal.returns-then-is_non_waking-clause-quiescence
returns-then-is_non_waking-clause-quiescence g c =
    let non_waking = sym c.is_non_waking.ensures ∙ c.if-is_non_waking.true in
    both c.begin_at_once.result c.begin_at_once.ensures.goes.next c.begin_at_once.ensures.goes.leads (λ n next leads quiescent some.
    begun_stays_quiescent g.P.Program.functions c.args.w.now c.begin_at_once.new.w c.args.quiescence.now.until c.args.t.0 (quiescent some) c.requires.runs c.next_call.new.self c.in_ok-call.call n _ _ (ap (λ (k : WorldOf _ _ _). k.store) c.in_ok-call.ensures.same) (λ r st. next r st.0) (λ r st. leads r st.0) c.requires.free (ap (λ b. b || (waits_without_waking (kernel_of c.next_call.new.self.kernel) c.in_ok-call.call && is_waiting n)) non_waking) (λ r st. c.next_call.ensures.some r.control st.control) c.in_ok-call.ensures.shows)

pub returns-clause-goes : goal.returns-clause-goes
returns-clause-goes g c p = stepped g.P.Program.functions c.args.w.now c.next_call.new.self c.begin_waking.new.w c.args.t.0 c.in_ok-call.call (ap (λ (k : WorldOf _ _ _). k.store) c.in_ok-call.ensures.same) c.in_ok-call.ensures.call c.in_ok-call.ensures.shows p _ _ _ c.begin_waking.ensures.goes

pub returns-clause-some : goal.returns-clause-some
returns-clause-some g c s st = c.next_call.ensures.some s.control st.control

pub returns-clause-frame : goal.returns-clause-frame
returns-clause-frame g c =
    let same = c.in_ok-call.ensures.same in
    IfOk-weaker c.begin_waking.result _ _ (λ n frame. stepped_frame c.args.w.now c.next_call.new.self c.begin_waking.new.w (runs_after c.args.t.0 n) (yields_after n) (c.in_ok-call.ensures.whole c.requires.whole) (ap (λ (k : WorldOf _ _ _). k.scheduler) same) (λ k. ap (λ (w : WorldOf _ _ _). made w k) same) (ap (λ (k : WorldOf _ _ _). k.threads.queues) same) frame) c.begin_waking.ensures.frame

pub returns-clause-quiescence : goal.returns-clause-quiescence
returns-clause-quiescence g c =
    let stirs = sym c.is_non_waking.ensures ∙ c.if-is_non_waking.false in
    all_three c.begin_waking.result c.begin_waking.ensures.kept c.begin_waking.ensures.goes.next c.begin_waking.ensures.goes.leads (λ n kept next leads quiescent.
    quiescent_by c.begin_waking.new.w (waits_without_waking (kernel_of c.next_call.new.self.kernel) c.in_ok-call.call && is_waiting n) c.args.quiescence.now.until c.begin_waking.new.quiescence.until kept
    (λ test some. begun_stays_quiescent g.P.Program.functions c.args.w.now c.begin_waking.new.w c.args.quiescence.now.until c.args.t.0 (quiescent some) c.requires.runs c.next_call.new.self c.in_ok-call.call n _ _ (ap (λ (k : WorldOf _ _ _). k.store) c.in_ok-call.ensures.same) next leads c.requires.free (ap (λ b. b || (waits_without_waking (kernel_of c.next_call.new.self.kernel) c.in_ok-call.call && is_waiting n)) stirs ∙ test) (λ r st. c.next_call.ensures.some r.control st.control) c.in_ok-call.ensures.shows))
