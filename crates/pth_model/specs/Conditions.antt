-- Conditions: pth_cond_init, pth_cond_await, pth_cond_notify. The answers and the changes stand beside the conditions. How a wait goes
-- on stands with the calls (`awaits_on`).
use Rattle.std.specs.Prelude.{ℕ, ◌||◌, not, ℤ, Bool, is_ok}
use Rattle.pth_base.specs.declared.errno.Errno.TheVariants.{EINVAL, EBUSY}
use Rattle.pth_numbered.specs.Operands.{is_zero}
use Rattle.pth_lock.specs.Mutexes.{mutex_release_answer, mutex_take_answer}
use Rattle.pth_cond.specs.declared.seats.Seat.{Seat}
use Rattle.pth_cond.specs.declared.seats.Seat.TheVariants.{Await}
use Rattle.pth_cond.specs.Conditions.{cond_init_answer, cond_notify_answer, cond_initialised, cond_notified, is_initialised, is_marked, seat_entered, seat_left, seat_handed_on}
use Rattle.pth_model.specs.declared.awaits.Awaited.{Awaited}
use Rattle.pth_model.specs.declared.awaits.Awaits.{Awaits}
use Rattle.pth_model.specs.declared.awaits.Awaits.TheVariants.{Nothing, Notice}
use Rattle.pth_model.specs.declared.verdict.Verdict.{Verdict}
use Rattle.pth_model.specs.declared.verdict.Verdict.TheVariants.{Blocks}
use Rattle.pth_model.specs.Verdict.{done, by_result, refused}
use Rattle.pth_numbered.specs.Clauses.{◌when◌otherwise◌}
use Rattle.pth_model.specs.State.{State}
use Rattle.pth_model.specs.Transition.{Change, changes, nothing, silent, tid, ◌and◌}
use Rattle.pth_model.specs.Changes.{with_conditions}
use Rattle.pth_model.specs.RingWaits.{extra_ring, is_no_ring, is_claimed_ring, ring_seats}
use Rattle.pth_model.specs.Row.{Row, ◌changing◌, ◌trying◌}

-- the seat of a thread that awaits a condition
abbrev pub seat_of : ℕ → Seat
seat_of t = Await (tid t)

module _ {P S H : Type 0} (s : State P S H) where
  -- pth_cond_init
  abbrev pub cond_init : ℤ → Row P S H
  cond_init c = by_result done (cond_init_answer s.control.conditions c) changing with_conditions (cond_initialised c)

  -- pth_cond_notify: of those that were not notified yet the first, if v is 0, and else each
  abbrev pub cond_notify : (c v : ℤ) → Row P S H
  cond_notify c v = by_result done (cond_notify_answer s.control.conditions c) changing with_conditions (cond_notified c (not (is_zero v)))

module _ {P S H : Type 0} (s : State P S H) (t : ℕ) where
  -- t's seat at a condition was notified
  abbrev pub is_noticed : ℤ → Bool
  is_noticed c = is_marked s.control.conditions c (seat_of t)

  -- t can take a mutex
  abbrev pub can_take : ℤ → Bool
  can_take m = is_ok (mutex_take_answer s.resources.store.mutexes t m)

  abbrev pub begins_await : (c m e : ℤ) → Verdict
  begins_await c m e =
      refused EINVAL when not (is_initialised s.control.conditions c) || is_no_ring s (extra_ring e) otherwise
      by_result (λ released. refused EBUSY when is_claimed_ring s (extra_ring e) otherwise Blocks (Notice c))
      (mutex_release_answer s.resources.store.mutexes t m)

  -- pth_cond_await: t has a seat at the condition from now on. That a level of its mutex is given back, the mark tells.
  abbrev pub cond_await : (c m e : ℤ) → Row P S H
  cond_await c m e = record {
    begin = begins_await c m e trying changes (with_conditions (seat_entered c (seat_of t)));
    again = λ a. Blocks Nothing trying silent;
  }

module _ {P S H : Type 0} where
  -- t's wait at a condition is over, and its seat there is left
  unfoldable pub leaves_seat : ℕ → Awaits → Change P S H
  leaves_seat t (Notice c) = with_conditions (seat_left c (seat_of t))
  leaves_seat t a = nothing

  -- or is left and its mark handed on, since t is canceled or ends
  unfoldable pub hands_on_seat : ℕ → Awaits → Change P S H
  hands_on_seat t (Notice c) = with_conditions (seat_handed_on c (seat_of t))
  hands_on_seat t a = nothing

  -- t is canceled or ends while it waits so: its seat is handed on, and then those of the events of its ring
  abbrev pub hands_on_seats : ℕ → Awaited → Change P S H
  hands_on_seats t a = hands_on_seat t a.what and ring_seats seat_handed_on a.ring
