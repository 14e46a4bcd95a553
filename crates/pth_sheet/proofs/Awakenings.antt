-- Whom a pass awakens, by the events as the pass leaves them.
use Rattle.std.proofs.Common.{◌≡◌, ◌∙◌, ℕ, ◌+◌, ◌==◌, ◌+ℤ◌, ◌||◌, nat_lt, pos, Bool, true, false, cond, List, [], ◌∷◌, map, filter, count_by, ℤ, Option, Some, None, option_map, refl, sym, ap, ap₂, subst, arith}
use Rattle.std.specs.List.{list_any}
use Rattle.std.proofs.lemmas.List.Sums.{sum_by-cons}
use mathlib.Core.Path.{fun_ext}
use Rattle.pth_base.specs.Program.{Functions}
use Rattle.pth_base.specs.declared.mark.Mark.{Mark}
use Rattle.pth_base.specs.declared.mark.Mark.TheVariants.{Woke}
use Rattle.pth_base.specs.declared.thread.ThreadState.TheVariants as state
use Rattle.pth_base.proofs.Tables.{put_by, same_self, same_means}
use Rattle.pth_numbered.specs.Operands.{number}
use Rattle.pth_threads.specs.Threads.{changed}
use Rattle.pth_threads.specs.declared.entry.Change.TheVariants as change
use Rattle.pth_threads.specs.declared.entry.Entry.{Entry}
use Rattle.pth_ring.specs.Ring.{ring_holds}
use Rattle.pth_ring.specs.Rings.{is_settled}
use Rattle.pth_model.specs.Calls.{wakes}
use Rattle.pth_model.specs.Cancellation.{may_be_canceled}
use Rattle.pth_model.specs.Changes.{sets, enters, leaves_queue, or_nobody, prio_of, blocked_of}
use Rattle.pth_model.specs.Looks.{comes, looked_at}
use Rattle.pth_model.specs.Pass.{is_ready_at, woken, all_woken, looks, pass, to_wake, waiting, comes_for, is_to_wake}
use Rattle.pth_model.specs.RingWaits.{awaited_events, events_from, has_settled, ring_held}
use Rattle.pth_model.specs.State.{State}
use Rattle.pth_model.specs.Transition.{controlled, tid}
use Rattle.pth_sheet.specs.Events.{event, after_pass}
use Rattle.pth_sheet.proofs.Cases.{by_cases}
use Rattle.pth_sheet.proofs.Passes.{counts_some, event_passed, rings_passed}

-- ---- lists

-- a test of all that stand in a list
or_true : (a b : Bool) → b ≡ true → (a || b) ≡ true
or_true true b h = refl
or_true false b h = h

here_first : (x : ℕ) (xs : List ℕ) → ring_holds x (x ∷ xs) ≡ true
here_first x xs = ap (λ (b : Bool). b || ring_holds x xs) (same_self x)

filter_same : (p q : ℕ → Bool) (xs : List ℕ) → ((x : ℕ) → ring_holds x xs ≡ true → p x ≡ q x) → filter p xs ≡ filter q xs
filter_same p q [] same = refl
filter_same p q (x ∷ xs) same =
    ap₂ (λ (b : Bool) (r : List ℕ). cond b (x ∷ r) r) (same x (here_first x xs)) (filter_same p q xs (λ y h. same y (or_true (x == y) (ring_holds y xs) h)))

any_same : (p q : ℕ → Bool) (xs : List ℕ) → ((x : ℕ) → ring_holds x xs ≡ true → p x ≡ q x) → list_any p xs ≡ list_any q xs
any_same p q [] same = refl
any_same p q (x ∷ xs) same =
    ap₂ (λ (a b : Bool). a || b) (same x (here_first x xs)) (any_same p q xs (λ y h. same y (or_true (x == y) (ring_holds y xs) h)))

-- one that stands in the list passes the test
any_of : (p : ℕ → Bool) (xs : List ℕ) (x : ℕ) → ring_holds x xs ≡ true → p x ≡ true → list_any p xs ≡ true
any_of p [] x stands passes = absurd (cc stands)
any_of p (y ∷ xs) x stands passes =
    by_cases (y == x)
    (λ is. ap (λ (b : Bool). b || list_any p xs) (subst (λ i. p i ≡ true) (sym (same_means y x is)) passes))
    (λ is. or_true (p y) (list_any p xs) (any_of p xs x (subst (λ (b : Bool). (b || ring_holds x xs) ≡ true) is stands) passes))

no_more : (n : ℕ) → n ≡ 0 + n
no_more n = omega arith

-- some pass the test exactly if their count is above 0
counted : (p : ℕ → Bool) (xs : List ℕ) → list_any p xs ≡ nat_lt 0 (count_by p xs)
counted p [] = refl
counted p (x ∷ xs) =
    by_cases (p x)
    (λ is.
    ap (λ (b : Bool). b || list_any p xs) is
    ∙ sym (counts_some (count_by p xs))
    ∙ ap (λ (b : Bool). nat_lt 0 (cond {A = ℕ} b 1 0 + count_by p xs)) (sym is)
    ∙ ap (nat_lt 0) (sym (sum_by-cons (λ y. cond (p y) 1 0) x xs)))
    (λ is.
    ap (λ (b : Bool). b || list_any p xs) is
    ∙ counted p xs
    ∙ ap (nat_lt 0) (no_more (count_by p xs))
    ∙ ap (λ (b : Bool). nat_lt 0 (cond {A = ℕ} b 1 0 + count_by p xs)) (sym is)
    ∙ ap (nat_lt 0) (sym (sum_by-cons (λ y. cond (p y) 1 0) x xs)))

-- ---- the marks of a pass

same_prio : (o : Option Entry) → (or_nobody (option_map (changed (change.State state.Ready)) o)).prio ≡ (or_nobody o).prio
unfolding changed
same_prio None = refl
same_prio (Some e) = refl

module _ {P S H : Type 0} where
  -- a thread that is woken keeps its priority, and so do the others
  prio_woken : (t u : ℕ) (s : State P S H) → prio_of (woken t s).state.control u ≡ prio_of s.control u
  unfolding woken is_ready_at leaves_queue sets enters
  prio_woken t u s =
      put_by (λ o. (or_nobody o).prio ≡ prio_of s.control u) s.control.threads.known t (option_map (changed (change.State state.Ready)) (s.control.threads.known t)) u
      (λ is. same_prio (s.control.threads.known t) ∙ ap (λ i. prio_of s.control i) (sym is))
      (λ other. refl)

  marks_woken : (ts : List ℕ) (s : State P S H) → (all_woken ts s).marks ≡ map (λ t. Woke (tid t) (prio_of s.control t +ℤ pos 1)) ts
  unfolding all_woken woken
  marks_woken [] s = refl
  marks_woken (t ∷ ts) s =
      ap (λ (marks : List Mark). Woke (tid t) (prio_of s.control t +ℤ pos 1) ∷ marks)
      (marks_woken ts (woken t s).state
      ∙ ap (λ (g : ℕ → ℤ). map (λ u. Woke (tid u) (g u +ℤ pos 1)) ts) (fun_ext (λ u. prio_woken t u s)))

module _ {P S H : Type 0} (f : P → Functions S H) (s : State P S H) where
  -- an event of the ring of a waiting thread
  looked_at_for : (t e : ℕ) → ring_holds t (waiting s.control) ≡ true → ring_holds e (awaited_events s.control t) ≡ true → event (after_pass f s) e ≡ option_map (looked_at f s e) (event s e)
  looked_at_for t e waits stands = event_passed f s e ∙ rw (any_of (λ u. ring_holds e (awaited_events s.control u)) (waiting s.control) t waits stands) refl

  -- an event comes exactly if the pass leaves one failed or occurred
  settled_by : (r : Option ℤ) → ((e : ℕ) → ring_holds e (events_from s.control.events r) ≡ true → event (after_pass f s) e ≡ option_map (looked_at f s e) (event s e)) → list_any (λ e. comes f s e (event s e)) (events_from s.control.events r) ≡ has_settled (after_pass f s).control.events r
  settled_by None looked = refl
  settled_by (Some i) looked =
      let ring = s.control.events.rings (number i) in
      any_same (λ e. comes f s e (event s e)) (λ e. is_settled (event (after_pass f s) e)) ring (λ e h. ap is_settled (sym (looked e h)))
      ∙ counted (λ e. is_settled (event (after_pass f s) e)) ring
      ∙ ap (λ (rings : ℕ → List ℕ). nat_lt 0 (count_by (λ e. is_settled (event (after_pass f s) e)) (rings (number i)))) (sym (rings_passed f s))

  to_wake_as : (t : ℕ) → ring_holds t (waiting s.control) ≡ true → is_to_wake f s t ≡ (wakes t s || has_settled (after_pass f s).control.events (ring_held (blocked_of s.control t)) || may_be_canceled s.control t)
  unfolding comes_for
  to_wake_as t waits = ap (λ (b : Bool). wakes t s || b || may_be_canceled s.control t) (settled_by (ring_held (blocked_of s.control t)) (λ e stands. looked_at_for t e waits stands))

  marks_passed : (pass f s).marks ≡ map (λ t. Woke (tid t) (prio_of s.control t +ℤ pos 1)) (to_wake f s)
  unfolding pass looks
  marks_passed = marks_woken (to_wake f s) (controlled (looks f s) s)

  pub awakened : (pass f s).marks ≡ map (λ t. Woke (tid t) (prio_of s.control t +ℤ pos 1)) (filter (λ t. wakes t s || has_settled (after_pass f s).control.events (ring_held (blocked_of s.control t)) || may_be_canceled s.control t) (waiting s.control))
  unfolding to_wake
  awakened =
      marks_passed
      ∙ ap (λ ts. map (λ t. Woke (tid t) (prio_of s.control t +ℤ pos 1)) ts) (filter_same (is_to_wake f s) (λ t. wakes t s || has_settled (after_pass f s).control.events (ring_held (blocked_of s.control t)) || may_be_canceled s.control t) (waiting s.control) to_wake_as)
