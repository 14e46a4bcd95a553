-- What a piece of code did to a world, and to what is told.
--
-- `LedTo` joins where a piece led and where it broke off. `Goes` repeats its fields, so that `leads` and `cut` are one step away.
use Rattle.std.specs.Prelude.{◌≡◌, ℕ, ℤ, pos, Bool, List, [], ◌++◌, Option, None, Result, IfOk, OnOk, OnErr}
use Rattle.pth_base.specs.Cut.{IsCut}
use Rattle.pth_base.specs.declared.answer.Answer.{Answer}
use Rattle.pth_base.specs.declared.answer.Answer.TheVariants.{Int}
use Rattle.pth_base.specs.declared.call.Call.{Call}
use Rattle.pth_base.specs.declared.mark.Mark.{Mark}
use Rattle.pth_base.specs.declared.mark.Mark.TheVariants.{Answered, Waits}
use Rattle.pth_base.specs.declared.memory.OutOfMemory.{OutOfMemory}
use Rattle.pth_model.specs.Changes.{blocked_of}
use Rattle.pth_model.specs.Resources.{told}
use Rattle.pth_model.specs.Store.{Resources}
use Rattle.pth_model.specs.RingWaits.{claims}
use Rattle.pth_model.specs.State.{Control, State}
use Rattle.pth_model.specs.Transition.{Transition, Last, controlled, silent, tells, tid, ◌and_then◌}
use Rattle.pth_model.specs.declared.blocked.Blocked.{Blocked}
use Rattle.pth_model.specs.declared.next.Next.{Next}
use Rattle.pth_model.specs.declared.verdict.Verdict.{Verdict}
use Rattle.pth_model.specs.declared.verdict.Verdict.TheVariants.{Says, Yields, Blocks, Ends, Kills}
use Rattle.pth_model.specs.Awaits.{is_await, is_awaiting, written_in}
use Rattle.pth_model.specs.Row.{Attempt, effect_of}
use Rattle.pth_world.specs.World.{WorldOf}
use Rattle.pth_world.specs.Shows.{Shows, StandsFor}
use Rattle.pth_world.specs.Store.{store_of}
use Rattle.pth_world.specs.WellFormed.{MayAwaitAs}

-- the world stands for the state that is led to, and what is told was appended: the marks were old, and are new
pub record Leads {P S H : Type 0} (w : WorldOf P S H) (old new : List Mark) (told : Transition P S H) : Type 0 where
  pub stands : StandsFor w told.state
  pub tells : new ≡ old ++ told.marks

-- the mark changes nothing of what threads stored
abbrev pub IsQuiet : Mark → Type 0
IsQuiet m = (k : Resources) → (told k m).store ≡ k.store

-- without a word the world came to stand for the state that is led to
pub record Changed {P S H : Type 0} (v : WorldOf P S H) (told : Transition P S H) : Type 0 where
  pub shows : Shows v told.state.control
  pub store : told.state.resources.store ≡ store_of v.store
  pub silent : told.marks ≡ []

-- the attempt at a call that is made in world w comes to this answer, and world v stands for its effect
pub record IsAnswered {P S H : Type 0} (w v : WorldOf P S H) (a : Answer) (attempt : State P S H → Attempt P S H) : Type 0 where
  pub verdict : (s : State P S H) → StandsFor w s → (attempt s).verdict ≡ Says a
  pub effect : (s : State P S H) → StandsFor w s → Changed v (effect_of (attempt s) s)

-- it comes to this answer, and once a mark has told so, world v stands for its effect and for what the mark tells
pub record IsTold {P S H : Type 0} (w v : WorldOf P S H) (m : Mark) (a : Answer) (attempt : State P S H → Attempt P S H) : Type 0 where
  pub verdict : (s : State P S H) → StandsFor w s → (attempt s).verdict ≡ Says a
  pub silent : (s : State P S H) → StandsFor w s → (effect_of (attempt s) s).marks ≡ []
  pub stands : (s : State P S H) → StandsFor w s → StandsFor v ((effect_of (attempt s) and_then tells m) s).state

-- Where a piece of code led the world from each of these states: to that of the transition, with its marks told; or for want of memory it
-- broke off.
pub record LedTo {P S H T : Type 0} (from : State P S H → Type 0) (to : State P S H → Transition P S H) (v : WorldOf P S H) (old new : List Mark) (r : Result T OutOfMemory) : Type 0 where
  pub leads : OnOk r ((s : State P S H) → from s → Leads v old new (to s))
  pub cut : OnErr r ((s : State P S H) → from s → IsCut old new (to s).marks)

-- What a piece of code came to from each of these states: what comes next, and where the world was led; or for want of memory it broke
-- off.
pub record Goes {P S H : Type 0} (from : State P S H → Type 0) (last : Last P S H) (v : WorldOf P S H) (old new : List Mark) (r : Result Next OutOfMemory) : Type 0 where
  pub next : IfOk r (λ n. (s : State P S H) → from s → n ≡ (last s).next)
  pub leads : OnOk r ((s : State P S H) → from s → Leads v old new (last s).told)
  pub cut : OnErr r ((s : State P S H) → from s → IsCut old new (last s).told.marks)

-- ---- verdicts on calls

-- the world stands for this state once a mark is told
pub record StandsOnce {P S H : Type 0} (w : WorldOf P S H) (m : Mark) (s : State P S H) : Type 0 where
  pub control : Shows w s.control
  pub store : (told s.resources m).store ≡ store_of w.store

-- the world stands for this state, which says whether t awaits a condition
abbrev pub StandsWhere : {P S H : Type 0} → WorldOf P S H → ℕ → Bool → State P S H → Type 0
StandsWhere w t awaiting s = StandsFor w s × (s.resources.awaits t ≡ awaiting)

-- of t the state says rightly whether it awaits a condition: as the call does that blocks t, if any
abbrev pub AwaitsRightly : {P S H : Type 0} → ℕ → State P S H → Type 0
AwaitsRightly t s = s.resources.awaits t ≡ is_awaiting (blocked_of s.control t)

abbrev pub AllAwaitRightly : {P S H : Type 0} → State P S H → Type 0
AllAwaitRightly s = (t : ℕ) → AwaitsRightly t s

abbrev pub StandsRightly : {P S H : Type 0} → WorldOf P S H → ℕ → State P S H → Type 0
StandsRightly w t s = StandsFor w s × AwaitsRightly t s

-- a call of t may come to this verdict: if it blocks t, it waits for what it may wait for
abbrev pub MayComeTo : ℕ → Call → Verdict → Type 0
MayComeTo t c (Blocks a) = MayAwaitAs t c a
MayComeTo t c v = Unit {0}

-- From this state a verdict on a call of t can be carried out in the world: what threads have is already as an answer will tell, or the
-- mark of the wait, and the ring is claimed that is waited for from now on, if any.
abbrev pub IsReady : {P S H : Type 0} → WorldOf P S H → ℕ → Call → Option ℤ → Verdict → State P S H → Type 0
IsReady w t c ring (Says a) s = StandsOnce w (Answered (tid t) c a) s
IsReady w t c ring (Yields a) s = StandsOnce w (Answered (tid t) c a) s
IsReady w t c ring (Blocks a) s = StandsOnce w (Waits (tid t) c) (controlled (claims t ring) s)
IsReady w t c ring (Ends v) s = StandsFor w s
IsReady w t c ring Kills s = StandsOnce w (Answered (tid t) c (Int (pos 1))) s

-- The attempt at a call of t that is made in world w comes to this verdict, and in world v it can be carried out from its effect, if t
-- awaited a condition or not, as is said here.
pub record Attempts {P S H : Type 0} (awaiting : Bool) (w v : WorldOf P S H) (t : ℕ) (c : Call) (ring : Option ℤ) (attempt : State P S H → Attempt P S H) (x : Verdict) : Type 0 where
  pub verdict : (s : State P S H) → StandsFor w s → (attempt s).verdict ≡ x
  pub silent : (s : State P S H) → StandsFor w s → (effect_of (attempt s) s).marks ≡ []
  pub ready : (s : State P S H) → StandsWhere w t awaiting s → IsReady v t c ring x (effect_of (attempt s) s).state
  pub may : MayComeTo t c x

-- it blocks its thread, and nothing is written of what it waits for
abbrev pub IsIdle : Verdict → Type 0
IsIdle (Blocks a) = written_in a ≡ 0
IsIdle v = ⊥

-- The blocked call of t is tried again: what blocks on and wrote nothing did nothing, so that it can be interrupted; and until the
-- verdict is carried out, the call blocks t still.
pub record Tries {P S H : Type 0} (w v : WorldOf P S H) (t : ℕ) (b : Blocked) (attempt : State P S H → Attempt P S H) (x : Verdict) : Type 0 where
  pub attempts : Attempts (is_await b.call) w v t b.call None attempt x
  pub idle : IsIdle x → (s : State P S H) → StandsFor w s → effect_of (attempt s) s ≡ silent s
  pub held : (k j : Control P S H) → Shows w k → Shows v j → blocked_of j t ≡ blocked_of k t
