-- Looks at one moment: a second look at an event changes nothing of it.
use Rattle.std.proofs.Common.{◌≡◌, ◌∙◌, ℕ, ◌==◌, ◌&&◌, ◌||◌, not, nat_le, Bool, true, false, if◌then◌else◌, List, [], ◌∷◌, ◌++◌, Option, Some, None, option_map, refl, sym, ap, ap₂}
use mathlib.Core.Path.{fun_ext}
use Rattle.pth_base.specs.Program.{Functions}
use Rattle.pth_base.specs.declared.event.EventSpec.{EventSpec}
use Rattle.pth_base.specs.declared.event.EventSpec.TheVariants as of
use Rattle.pth_ring.specs.declared.event.Event.{Event}
use Rattle.pth_ring.specs.declared.event.Status.{Status}
use Rattle.pth_ring.specs.Ring.{each, ring_holds}
use Rattle.pth_ring.specs.Rings.{with_status, with_next_look}
use Rattle.pth_model.specs.State.{State, now_of}
use Rattle.pth_model.specs.Looks.{check_holds, found_by, found, next_look, looked_at, after_looks}
use Rattle.pth_model.specs.Times.{moment_after}

-- ---- when an event of a function is looked at next: is_due of a moment, and whether its check holds

module _ (is_due : ℕ → Bool) (next later : ℕ) where
  abbrev put_off : (due check : Bool) → ℕ
  put_off due check = if due && not check then later else next

  again_off : (due check : Bool) → is_due next ≡ due → (if is_due (put_off due check) && not check then later else put_off due check) ≡ put_off due check
  again_off true true due = if_neither (is_due next) later next
    where
      if_neither : (b : Bool) (m n : ℕ) → (if b && false then m else n) ≡ n
      if_neither true m n = refl
      if_neither false m n = refl
  again_off false true due = ap (λ (b : Bool). if b && false then later else next) due
  again_off true false due = same_either (is_due later && true)
    where
      same_either : (b : Bool) → (if b then later else later) ≡ later
      same_either true = refl
      same_either false = refl
  again_off false false due = ap (λ (b : Bool). if b && true then later else next) due

  again_due : (due check : Bool) → (is_due (put_off due check) && check) ≡ (is_due next && check)
  again_due true true = refl
  again_due false true = refl
  again_due true false = neither (is_due later) (is_due next)
    where
      neither : (a b : Bool) → (a && false) ≡ (b && false)
      neither true true = refl
      neither true false = refl
      neither false true = refl
      neither false false = refl
  again_due false false = refl

-- ---- events

module _ {P S H : Type 0} (f : P → Functions S H) (s : State P S H) where
  next_again : (next : ℕ) (spec : EventSpec) → next_look f s (next_look f s next spec) spec ≡ next_look f s next spec
  next_again next (of.Func check arg interval) =
      again_off (λ n. nat_le n (now_of s.control)) next (moment_after (now_of s.control) interval) (nat_le next (now_of s.control)) (check_holds f s check arg) refl
  next_again next (of.Fd goals fd) = refl
  next_again next (of.Select r w x) = refl
  next_again next (of.Time at) = refl
  next_again next (of.Msg p) = refl
  next_again next (of.Tid state t) = refl
  next_again next (of.Cond c) = refl

  found_again : (e next : ℕ) (spec : EventSpec) → found f s e (next_look f s next spec) spec ≡ found f s e next spec
  found_again e next (of.Func check arg interval) =
      ap (found_by false)
      (again_due (λ n. nat_le n (now_of s.control)) next (moment_after (now_of s.control) interval) (nat_le next (now_of s.control)) (check_holds f s check arg))
  found_again e next (of.Fd goals fd) = refl
  found_again e next (of.Select r w x) = refl
  found_again e next (of.Time at) = refl
  found_again e next (of.Msg p) = refl
  found_again e next (of.Tid state t) = refl
  found_again e next (of.Cond c) = refl

  -- a second look at an event
  pub looked_again : (e : ℕ) (x : Event) → looked_at f s e (looked_at f s e x) ≡ looked_at f s e x
  looked_again e x =
      ap₂ (λ (n : ℕ) (found : Status). with_next_look n (with_status found x)) (next_again x.next_look x.spec) (found_again e x.next_look x.spec)

-- ---- all events

or_later : (a b c : Bool) → (a || (b || c)) ≡ ((a || b) || c)
or_later true b c = refl
or_later false b c = refl

holds_both : (e : ℕ) (xs ys : List ℕ) → ring_holds e (xs ++ ys) ≡ (ring_holds e xs || ring_holds e ys)
holds_both e [] ys = refl
holds_both e (x ∷ xs) ys = ap (λ (b : Bool). (x == e) || b) (holds_both e xs ys) ∙ or_later (x == e) (ring_holds e xs) (ring_holds e ys)

module _ {P S H : Type 0} (f : P → Functions S H) (s : State P S H) where
  abbrev look : ℕ → Option Event → Option Event
  look e = option_map (looked_at f s e)

  again : (e : ℕ) (o : Option Event) → look e (look e o) ≡ look e o
  again e None = refl
  again e (Some x) = ap (λ (y : Event). Some y) (looked_again f s e x)

  -- one look, and then another, by which of the two is at this event
  look_twice : (first second : Bool) (e : ℕ) (o : Option Event) → (if second then look e (if first then look e o else o) else (if first then look e o else o)) ≡ (if first || second then look e o else o)
  look_twice true true e o = again e o
  look_twice true false e o = refl
  look_twice false true e o = refl
  look_twice false false e o = refl

  either_once : (b : Bool) → (b || b) ≡ b
  either_once true = refl
  either_once false = refl

  abbrev with_events_of : (ℕ → Option Event) → State P S H
  with_events_of g = record s { control = record s.control { events = record s.control.events { events = g } } }

  -- a look at some, and then at others
  pub looks_joined : (xs ys : List ℕ) → after_looks f (after_looks f s xs) ys ≡ after_looks f s (xs ++ ys)
  unfolding each
  looks_joined xs ys =
      ap with_events_of
      (fun_ext (λ e.
      look_twice (ring_holds e xs) (ring_holds e ys) e (s.control.events.events e)
      ∙ ap (λ (b : Bool). if b then look e (s.control.events.events e) else s.control.events.events e) (sym (holds_both e xs ys))))

  pub looks_again : (es : List ℕ) → after_looks f (after_looks f s es) es ≡ after_looks f s es
  unfolding each
  looks_again es =
      ap with_events_of
      (fun_ext (λ e.
      look_twice (ring_holds e es) (ring_holds e es) e (s.control.events.events e)
      ∙ ap (λ (b : Bool). if b then look e (s.control.events.events e) else s.control.events.events e) (either_once (ring_holds e es))))
