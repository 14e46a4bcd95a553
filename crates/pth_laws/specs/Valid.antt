-- What holds of each state of a run, unless a pth_kill ended it.
use Rattle.std.specs.Prelude.{◌≡◌, ◌⊎◌, ℕ, true, false, All, Some, None, is_some}
use Rattle.pth_queue.specs.declared.queue.Queue.{Queue}
use Rattle.pth_queue.specs.declared.queue.Queue.TheVariants.{Dead}
use Rattle.pth_model.specs.Awaits.{is_awaiting}
use Rattle.pth_model.specs.Store.{HasNothing}
use Rattle.pth_model.specs.Standing.{is_queue}
use Rattle.pth_model.specs.State.{State, Turn, queue}
use Rattle.pth_model.specs.Changes.{holders, blocked_of}
use Rattle.pth_model.specs.Living.{lives, is_made}

module _ {P S H : Type 0} (s : State P S H) where
  abbrev pub Lives : ℕ → Type 0
  Lives t = lives (s.control.threads.known t) ≡ true

  -- it was made, and does not live any more
  pub record IsOver (t : ℕ) : Type 0 where
    pub made : is_made s.control.threads.made t ≡ true
    pub gone : lives (s.control.threads.known t) ≡ false

  -- who takes part lives, and who is over has nothing
  pub record IsValid (x : Turn) : Type 0 where
    -- who is in the system was made
    pub made : (t : ℕ) → is_some (s.control.threads.known t) ≡ true → is_made s.control.threads.made t ≡ true
    -- whoever is new, ready, waiting or suspended lives
    pub stands : (q : Queue) → is_queue q Dead ≡ false → All Lives (holders (queue s.control q))
    -- so does who runs, and who is to run next by a yield that named it
    pub runs : (t : ℕ) → s.control.scheduler.running ≡ Some t → Lives t
    pub preferred : (t : ℕ) → s.control.scheduler.preferred ≡ Some t → Lives t
    -- who gave up control runs still, or is over
    pub gave : (t : ℕ) → x.gave ≡ Some t → (s.control.scheduler.running ≡ Some t) ⊎ IsOver t
    -- no yield is open while a thread makes its steps
    pub unnamed : (t : ℕ) → s.control.scheduler.running ≡ Some t → x.gave ≡ None → s.control.scheduler.preferred ≡ None
    -- who waits at a condition, or has not its mutex again, is whom a pth_cond_await blocks
    pub awaits : (t : ℕ) → s.resources.awaits t ≡ is_awaiting (blocked_of s.control t)
    -- who is over has nothing: no cleanup, no value, no mutex and no lock
    pub empty : (t : ℕ) → IsOver t → HasNothing s.resources.store t
