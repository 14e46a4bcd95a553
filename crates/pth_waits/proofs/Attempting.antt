-- Attempts at calls: what they come to, and when that can be carried out.
use Rattle.std.proofs.Common.{◌≡◌, ◌∙◌, ℕ, ℤ, Bool, true, false, Option, None, refl, sym, ap, subst}
use Rattle.pth_base.specs.Naming.{seen}
use Rattle.pth_base.specs.Table.{table}
use Rattle.pth_base.specs.declared.answer.Answer.{Answer}
use Rattle.pth_base.specs.declared.call.Call.{Call}
use Rattle.pth_base.specs.declared.errno.Errno.{Errno}
use Rattle.pth_base.specs.declared.answer.Answer.TheVariants.{Fail}
use Rattle.pth_base.specs.declared.mark.Mark.TheVariants.{Answered}
use Rattle.pth_threads.specs.Threads.{slot_of}
use Rattle.pth_model.specs.declared.blocked.Blocked.{Blocked}
use Rattle.pth_model.specs.declared.awaits.Awaits.{Awaits}
use Rattle.pth_model.specs.declared.verdict.Verdict.{Verdict}
use Rattle.pth_model.specs.declared.verdict.Verdict.TheVariants.{Says, Yields, Blocks, Ends, Kills}
use Rattle.pth_model.specs.Awaits.{is_await}
use Rattle.pth_model.specs.Changes.{blocked_in, blocked_of}
use Rattle.pth_model.specs.RingWaits.{claims}
use Rattle.pth_model.specs.Row.{Attempt, effect_of, refuses, unless_refused}
use Rattle.pth_model.specs.State.{Control, State}
use Rattle.pth_model.specs.Transition.{controlled, Piece, silent, tid}
use Rattle.pth_world.proofs.Telling.{quiet-refused}
use Rattle.pth_world.specs.Leading.{Attempts, Changed, IsIdle, IsQuiet, IsReady, MayComeTo, Tries}
use Rattle.pth_world.specs.Shows.{Shows, StandsFor}
use Rattle.pth_world.specs.Store.{store_of}
use Rattle.pth_world.specs.World.{WorldOf, ThreadsBySlot}
use Rattle.pth_waits.proofs.Blocking.{quiet_once, waits_once}

-- no answer to the call tells anything of what threads have
abbrev pub IsQuietCall : ℕ → Call → Type 0
IsQuietCall t c = (a : Answer) → IsQuiet (Answered (tid t) c a)

-- what is answered, or blocks, or ends its thread
abbrev pub IsPlain : Verdict → Type 0
IsPlain (Yields a) = ⊥
IsPlain Kills = ⊥
IsPlain v = Unit {0}

module _ {P S H : Type 0} where
  -- ---- when a verdict can be carried out

  -- a ring is claimed, if there is one
  pub claimed_ready : (v : WorldOf P S H) (t : ℕ) (c : Call) (ring : Option ℤ) (a : Awaits) (s : State P S H) → is_await c ≡ false → Shows v (claims t ring s.control) → s.resources.store ≡ store_of v.store → IsReady v t c ring (Blocks a) s
  claimed_ready v t c ring a s other sh has = waits_once v (controlled (claims t ring) s) t c other (record { control = sh; store = has })

  -- there is none to claim
  pub none_ready : (v : WorldOf P S H) (t : ℕ) (c : Call) (a : Awaits) (s : State P S H) → is_await c ≡ false → StandsFor v s → IsReady v t c None (Blocks a) s
  unfolding claims
  none_ready v t c a s other st = waits_once v s t c other st

  -- a refusal tells nothing of what threads have
  pub refused_ready : (v : WorldOf P S H) (t : ℕ) (c : Call) (ring : Option ℤ) (e : Errno) (s : State P S H) → is_await c ≡ false → StandsFor v s → IsReady v t c ring (Says (Fail e)) s
  refused_ready v t c ring e s other st = quiet_once v s (Answered (tid t) c (Fail e)) (quiet-refused (tid t) c e other) st

  pub quiet_ready : (v : WorldOf P S H) (t : ℕ) (c : Call) (x : Verdict) (s : State P S H) → is_await c ≡ false → IsQuietCall t c → IsPlain x → StandsFor v s → IsReady v t c None x s
  unfolding claims
  quiet_ready v t c (Says a) s other quiet plain st = quiet_once v s (Answered (tid t) c a) (quiet a) st
  quiet_ready v t c (Blocks a) s other quiet plain st = waits_once v s t c other st
  quiet_ready v t c (Ends n) s other quiet plain st = st
  quiet_ready v t c (Yields a) s other quiet plain st = absurd plain
  quiet_ready v t c Kills s other quiet plain st = absurd plain

  -- ---- attempts that change nothing but what is told

  does_nothing : (b : Bool) → ◌≡◌ {A = Piece P S H} (unless_refused b silent) silent
  does_nothing true = refl
  does_nothing false = refl

  -- whatever such an attempt comes to
  pub quiet_effect : (attempt : Attempt P S H) → attempt.effect ≡ silent → effect_of attempt ≡ silent
  quiet_effect a quiet = ap (unless_refused (refuses a.verdict)) quiet ∙ does_nothing (refuses a.verdict)

  module _ (awaiting : Bool) (w v : WorldOf P S H) (t : ℕ) (c : Call) (ring : Option ℤ) (attempt : State P S H → Attempt P S H) (x : Verdict) where
    pub quiet_attempts : ((s : State P S H) → (attempt s).effect ≡ silent) → ((s : State P S H) → StandsFor w s → (attempt s).verdict ≡ x) → ((s : State P S H) → StandsFor w s → IsReady v t c ring x s) → MayComeTo t c x
        → Attempts awaiting w v t c ring attempt x
    quiet_attempts quiet is ready may = record {
      verdict = is;
      silent = λ s st. ap (λ (e : Piece P S H). (e s).marks) (quiet_effect (attempt s) (quiet s));
      ready = λ s st. subst (λ (e : Piece P S H). IsReady v t c ring x (e s).state) (sym (quiet_effect (attempt s) (quiet s))) (ready s st.0);
      may = may;
    }

    -- ---- attempts whose change is made without a word

    pub changed_attempts : ((s : State P S H) → StandsFor w s → (attempt s).verdict ≡ x) → ((s : State P S H) → StandsFor w s → Changed v (effect_of (attempt s) s)) → ((u : State P S H) → StandsFor v u → IsReady v t c ring x u) → MayComeTo t c x
        → Attempts awaiting w v t c ring attempt x
    changed_attempts is changes ready may = record {
      verdict = is;
      silent = λ s st. (changes s st).silent;
      ready = λ s st. ready (effect_of (attempt s) s).state (record { control = (changes s st.0).shows; store = (changes s st.0).store });
      may = may;
    }

  -- ---- calls that are tried again

  -- in worlds of the same threads the same calls block them
  pub blocked_still : (w v : WorldOf P S H) (t : ℕ) → v.threads ≡ w.threads → (k j : Control P S H) → Shows w k → Shows v j → blocked_of j t ≡ blocked_of k t
  blocked_still w v t same k j sh sj =
      ap (λ (p : ℕ → Option _). blocked_in (p t)) (sj.threads.progress ∙ ap (λ (x : ThreadsBySlot _). seen None (slot_of x.records) (table None x.progress)) same ∙ sym sh.threads.progress)

  module _ (w v : WorldOf P S H) (t : ℕ) (b : Blocked) (attempt : State P S H → Attempt P S H) (x : Verdict) where
    -- tried again by an attempt that changes nothing but what is told
    pub quiet_tries : ((s : State P S H) → (attempt s).effect ≡ silent) → ((s : State P S H) → StandsFor w s → (attempt s).verdict ≡ x) → ((s : State P S H) → StandsFor w s → IsReady v t b.call None x s) → MayComeTo t b.call x → v.threads ≡ w.threads
        → Tries w v t b attempt x
    quiet_tries quiet is ready may same = record {
      attempts = quiet_attempts (is_await b.call) w v t b.call None attempt x quiet is ready may;
      idle = λ idle s st. ap (λ (e : Piece P S H). e s) (quiet_effect (attempt s) (quiet s));
      held = blocked_still w v t same;
    }

    -- or by one whose change is made without a word
    pub changed_tries : ((s : State P S H) → StandsFor w s → (attempt s).verdict ≡ x) → ((s : State P S H) → StandsFor w s → Changed v (effect_of (attempt s) s)) → ((u : State P S H) → StandsFor v u → IsReady v t b.call None x u) → MayComeTo t b.call x
        → (IsIdle x → (s : State P S H) → StandsFor w s → effect_of (attempt s) s ≡ silent s) → ((k j : Control P S H) → Shows w k → Shows v j → blocked_of j t ≡ blocked_of k t) → Tries w v t b attempt x
    changed_tries is changes ready may idle held = record {
      attempts = changed_attempts (is_await b.call) w v t b.call None attempt x is changes ready may;
      idle = idle;
      held = held;
    }
