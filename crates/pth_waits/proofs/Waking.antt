-- Which threads are to wake, beside rings and without.
use Rattle.std.proofs.Common.{◌≡◌, ◌∙◌, ℕ, ℤ, ◌||◌, Bool, true, false, List, [], Option, Some, None, refl, ap, sym}
use Rattle.std.specs.List.{list_any}
use Rattle.pth_base.specs.Program.{Functions}
use Rattle.pth_model.specs.declared.awaits.Awaited.{Awaited}
use Rattle.pth_model.specs.declared.blocked.Blocked.{Blocked}
use Rattle.pth_model.specs.Awaits.{awaits_in}
use Rattle.pth_model.specs.Calls.{wakes}
use Rattle.pth_model.specs.Changes.{blocked_in, blocked_of}
use Rattle.pth_model.specs.Coming.{has_come}
use Rattle.pth_model.specs.Looks.{comes}
use Rattle.pth_model.specs.Pass.{comes_for}
use Rattle.pth_model.specs.RingWaits.{awaited_events, awaited_in, events_from}
use Rattle.pth_model.specs.State.{Control, State}
use Rattle.pth_numbered.specs.Operands.{number}
use Rattle.pth_threads.specs.Threads.{slot_of}
use Rattle.pth_world.proofs.Showing.{no_progress}
use Rattle.pth_world.specs.Shows.{StandsFor}
use Rattle.pth_world.specs.World.{WorldOf}

or_false : (b : Bool) → (b || false) ≡ b
or_false true = refl
or_false false = refl

or_turned : (a b : Bool) → (a || b) ≡ (b || a)
or_turned true true = refl
or_turned true false = refl
or_turned false true = refl
or_turned false false = refl

-- ---- by what is read of a thread

module _ {P S H : Type 0} (k : Control P S H) (t : ℕ) (a : Awaited) (is : a ≡ awaited_in (blocked_of k t)) where
  -- the thread was given a ring
  pub ring_events : (e : ℤ) → a.ring ≡ Some e → awaited_events k t ≡ k.events.rings (number e)
  ring_events e given = ap (λ (b : Awaited). events_from k.events b.ring) (sym is) ∙ ap (events_from k.events) given

  -- it was given none
  pub no_events : a.ring ≡ None → awaited_events k t ≡ []
  no_events none = ap (λ (b : Awaited). events_from k.events b.ring) (sym is) ∙ ap (events_from k.events) none

module _ {P S H : Type 0} (s : State P S H) (t : ℕ) (a : Awaited) (is : a ≡ awaited_in (blocked_of s.control t)) (come : Bool) (has : come ≡ has_come s t a.what) where
  -- it wakes once what it waits for has come
  pub wakes_by : come ≡ wakes t s
  unfolding wakes
  wakes_by = has ∙ ap (λ (b : Awaited). has_come s t b.what) is

  -- or an event of its ring comes
  pub due_with : (f : P → Functions S H) (found : Bool) (e : ℤ) → a.ring ≡ Some e → found ≡ list_any (λ i. comes f s i (s.control.events.events i)) (s.control.events.rings (number e)) → (found || come) ≡ (wakes t s || comes_for f s t)
  unfolding comes_for
  due_with f found e given is_found =
      or_turned found come
      ∙ ap (λ (b : Bool). b || found) wakes_by
      ∙ ap (λ (b : Bool). wakes t s || b) (is_found ∙ ap (list_any (λ i. comes f s i (s.control.events.events i))) (sym (ring_events s.control t a is e given)))

  pub due_without : (f : P → Functions S H) → a.ring ≡ None → come ≡ (wakes t s || comes_for f s t)
  unfolding comes_for
  due_without f none =
      wakes_by
      ∙ sym (ap (λ (es : List ℕ). wakes t s || list_any (λ i. comes f s i (s.control.events.events i)) es) (no_events s.control t a is none) ∙ or_false (wakes t s))

-- who is not in the system does not wake
pub gone_stays : {P S H : Type 0} (w : WorldOf P S H) (s : State P S H) → StandsFor w s → (t : ℕ) → slot_of w.threads.records t ≡ None → false ≡ wakes t s
unfolding wakes
gone_stays w s st t none = ap (λ (b : Option Blocked). has_come s t (awaits_in b)) (ap blocked_in (no_progress w.threads s.control t none st.control.threads))

-- what is due or may be canceled
pub due_or : (a b c due : Bool) → due ≡ (a || b) → (due || c) ≡ (a || b || c)
due_or a b c due is = ap (λ (x : Bool). x || c) is
