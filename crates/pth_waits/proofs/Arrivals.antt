-- Until the next arrival, what descriptors bring stays away, and events of descriptors stay pending.
use Rattle.std.proofs.Common.{◌≡◌, ◌∙◌, ℕ, ◌+◌, ◌<◌, ◌≤◌, ◌&&◌, ◌||◌, not, min, nat_lt, nat_le, is_some, Bool, true, false, if◌then◌else◌, ℤ, List, [], ◌∷◌, filter, All, Option, Some, None, refl, sym, subst, arith}
use Rattle.std.proofs.lemmas.Bool.Decides.{nat_tests}
use Rattle.pth_base.specs.Limits.{last_moment}
use Rattle.pth_base.specs.Descriptors.{contains, members}
use Rattle.pth_base.specs.declared.ids.FdSet.{FdSet}
use Rattle.pth_base.specs.declared.answer.Answer.{Answer}
use Rattle.pth_base.specs.declared.event.EventSpec.TheVariants as of
use Rattle.pth_base.specs.declared.errno.Errno.TheVariants.{EBADF}
use Rattle.pth_kernel.specs.Kernel.{Kernel, advanced, next_time, fd_named, is_fd_live, is_readable, is_writeable, is_exceptional}
use Rattle.pth_kernel.specs.Moments.{least_after, least_by}
use Rattle.pth_io.specs.Attempts.{are_all_live, is_any_ready, is_past, select_answer, sets_answer, fails, not_yet}
use Rattle.pth_numbered.specs.Clauses.{◌when◌otherwise◌}
use Rattle.pth_ring.specs.declared.event.Status.TheVariants.{Pending, Occurred, Failed}
use Rattle.pth_model.specs.declared.awaits.Awaits.{Awaits}
use Rattle.pth_model.specs.declared.awaits.Retake.{Retake}
use Rattle.pth_model.specs.declared.awaits.Awaits.TheVariants.{Nothing, Alone, Death, AnyDeath, Moment, Ring, Selection, Mutex, Lock, Round, Notice, Retaking}
use Rattle.pth_model.specs.State.{State, now_of}
use Rattle.pth_model.specs.Coming.{descriptors_bring}
use Rattle.pth_model.specs.Looks.{found_unasked}
use Rattle.pth_model.specs.Transition.{controlled}
use Rattle.pth_waits.specs.Dormant.{IsFoundPending, StaysAway, after_now, bound, deadline_in}
use Rattle.pth_waits.proofs.Kernels.{IsSame, HasNoDeadline, all_still, any_still, exceptional_still, readable_still, bring_still, writeable_still}

module _ {P S H : Type 0} (s : State P S H) (until : ℕ) (soon : until ≤ bound (next_time s.control.kernel)) (within : until ≤ last_moment + 1) where
  pub still : (n : ℕ) → now_of s.control ≤ n → n < until → All (IsSame (now_of s.control) n) s.control.kernel.trace
  still n later early = all_still (now_of s.control) n later (omega arith) s.control.kernel.trace (omega arith)

  -- an event of descriptors
  pub fd_pending : (e goals : ℕ) (fd : ℤ) → found_unasked s e (of.Fd goals fd) ≡ Pending → IsFoundPending s until e (of.Fd goals fd)
  fd_pending e goals fd is = (
    tt,
    λ n later early.
        let all = still n later early in
        rw (readable_still s.control.kernel n all (fd_named fd), writeable_still s.control.kernel n all (fd_named fd), exceptional_still s.control.kernel n all (fd_named fd)) is,
  )

  pub select_pending : (e : ℕ) (r w y : FdSet) → found_unasked s e (of.Select r w y) ≡ Pending → IsFoundPending s until e (of.Select r w y)
  select_pending e r w y is = (tt, λ n later early. rw (any_still s.control.kernel n (still n later early) r.0 w.0 y.0) is)

-- by the least of the next arrival and the deadline
module _ (k : Kernel) (a : Awaits) (is : descriptors_bring k a ≡ false) (arrival until : ℕ) (soon : arrival ≤ bound (next_time k)) (within : arrival ≤ last_moment + 1) (least : until ≡ min arrival (deadline_in a)) where
  all_at : (n : ℕ) → k.now ≤ n → n < until → All (IsSame k.now n) k.trace
  all_at n later early = all_still k.now n later (omega (arith, least)) k.trace (omega (arith, least))

  past_by : (n m : ℕ) → k.now ≤ n → n < m → is_past (advanced n k) (Some m) ≡ is_past k (Some m)
  past_by n m later early = grind (arith, nat_tests)

  no_deadline_by : (n : ℕ) (later : k.now ≤ n) (early : n < until) → (b : Awaits) → n < deadline_in b → HasNoDeadline k n (all_at n later early) b
  no_deadline_by n later early (Selection r w x (Some m)) h = past_by n m later h
  no_deadline_by n later early (Selection r w x None) h = refl
  no_deadline_by n later early b h = tt

  pub until_deadline : (n : ℕ) → k.now ≤ n → n < until → descriptors_bring (advanced n k) a ≡ false
  until_deadline n later early = bring_still k n (all_at n later early) a (no_deadline_by n later early a (omega (arith, least))) ∙ is

-- what stays away that is awaited at descriptors
pub descriptors_stay : {P S H : Type 0} (s : State P S H) (until t : ℕ) (a : Awaits) → (a ≡ Alone → ⊥) → (a ≡ AnyDeath → ⊥) → ((n : ℤ) → a ≡ Death n → ⊥) → ((m : ℕ) → a ≡ Moment m → ⊥) → ((m : ℤ) → a ≡ Mutex m → ⊥) → ((l : ℤ) (write : Bool) → a ≡ Lock l write → ⊥) → ((x : ℤ) (round : ℕ) → a ≡ Round x round → ⊥) → ((x : ℤ) → a ≡ Notice x → ⊥) → ((m : ℤ) (o : Retake) → a ≡ Retaking m o → ⊥)
    → (z : Kernel) → s.control.kernel ≡ z → ((n : ℕ) → z.now ≤ n → n < until → descriptors_bring (advanced n z) a ≡ false) → StaysAway s until t a
descriptors_stay s until t Alone a b c d e f g h i z is away = absurd (a refl)
descriptors_stay s until t AnyDeath a b c d e f g h i z is away = absurd (b refl)
descriptors_stay s until t (Death n) a b c d e f g h i z is away = absurd (c n refl)
descriptors_stay s until t (Moment m) a b c d e f g h i z is away = absurd (d m refl)
descriptors_stay s until t (Mutex m) a b c d e f g h i z is away = absurd (e m refl)
descriptors_stay s until t (Lock l write) a b c d e f g h i z is away = absurd (f l write refl)
descriptors_stay s until t (Round x round) a b c d e f g h i z is away = absurd (g x round refl)
descriptors_stay s until t (Notice x) a b c d e f g h i z is away = absurd (h x refl)
descriptors_stay s until t (Retaking m o) a b c d e f g h i z is away = absurd (i m o refl)
descriptors_stay s until t Nothing a b c d e f g h i z is away = λ n l x. refl
descriptors_stay s until t (Ring r) a b c d e f g h i z is away = λ n l x. refl
descriptors_stay s until t o a b c d e f g h i z is away = subst (λ (y : Kernel). (n : ℕ) → y.now ≤ n → n < until → descriptors_bring (advanced n y) o ≡ false) (sym is) away

-- and what is told of it now
pub descriptors_later : {P S H : Type 0} (s : State P S H) (until t : ℕ) (a : Awaits) → (a ≡ Alone → ⊥) → (a ≡ AnyDeath → ⊥) → ((n : ℤ) → a ≡ Death n → ⊥) → ((m : ℕ) → a ≡ Moment m → ⊥) → ((m : ℤ) → a ≡ Mutex m → ⊥) → ((l : ℤ) (write : Bool) → a ≡ Lock l write → ⊥) → ((x : ℤ) (round : ℕ) → a ≡ Round x round → ⊥) → ((x : ℤ) → a ≡ Notice x → ⊥) → ((m : ℤ) (o : Retake) → a ≡ Retaking m o → ⊥)
    → (z : Kernel) → s.control.kernel ≡ z → (descriptors_bring z a ≡ false → z.now < until) → StaysAway s (after_now s.control) t a → now_of s.control < until
descriptors_later s until t Alone a b c d e f g h i z is later away = absurd (a refl)
descriptors_later s until t AnyDeath a b c d e f g h i z is later away = absurd (b refl)
descriptors_later s until t (Death n) a b c d e f g h i z is later away = absurd (c n refl)
descriptors_later s until t (Moment m) a b c d e f g h i z is later away = absurd (d m refl)
descriptors_later s until t (Mutex m) a b c d e f g h i z is later away = absurd (e m refl)
descriptors_later s until t (Lock l write) a b c d e f g h i z is later away = absurd (f l write refl)
descriptors_later s until t (Round x round) a b c d e f g h i z is later away = absurd (g x round refl)
descriptors_later s until t (Notice x) a b c d e f g h i z is later away = absurd (h x refl)
descriptors_later s until t (Retaking m o) a b c d e f g h i z is later away = absurd (i m o refl)
descriptors_later s until t Nothing a b c d e f g h i z is later away = subst (λ (y : Kernel). y.now < until) (sym is) (later refl)
descriptors_later s until t (Ring r) a b c d e f g h i z is later away = subst (λ (y : Kernel). y.now < until) (sym is) (later refl)
descriptors_later s until t o a b c d e f g h i z is later away =
    subst (λ (y : Kernel). y.now < until) (sym is) (later (subst (λ (y : Kernel). descriptors_bring y o ≡ false) is (away (now_of s.control) (omega arith) (omega arith))))

found_by : (live occurs : Bool) → live ≡ true → occurs ≡ false → (if not live then Failed else (if occurs then Occurred else Pending)) ≡ Pending
found_by live occurs a b = rw (a, b) refl

-- an event of descriptors is found pending where none is gone, and none is as it says
module _ {P S H : Type 0} (s : State P S H) (until : ℕ) (z : Kernel) (is : s.control.kernel ≡ z) (soon : until ≤ bound (next_time z)) (within : until ≤ last_moment + 1) where
  abbrev with_kernel_of : Kernel → State P S H
  with_kernel_of y = controlled (λ k. record k { kernel = y }) s

  soon_here : until ≤ bound (next_time s.control.kernel)
  soon_here = subst (λ (y : Kernel). until ≤ bound (next_time y)) (sym is) soon

  pub fd_waits : (e goals : ℕ) (fd : ℤ) → is_fd_live z (fd_named fd) ≡ true → ((contains goals 0 && is_readable z (fd_named fd)) || (contains goals 1 && is_writeable z (fd_named fd)) || (contains goals 2 && is_exceptional z (fd_named fd))) ≡ false → IsFoundPending s until e (of.Fd goals fd)
  fd_waits e goals fd live none = fd_pending s until soon_here within e goals fd (subst (λ (y : Kernel). found_unasked (with_kernel_of y) e (of.Fd goals fd) ≡ Pending) (sym is) (found_by _ _ live none))

  pub select_waits : (e : ℕ) (r w y : FdSet) → are_all_live z r.0 w.0 y.0 ≡ true → is_any_ready z r.0 w.0 y.0 ≡ false → IsFoundPending s until e (of.Select r w y)
  select_waits e r w y live none = select_pending s until soon_here within e r w y (subst (λ (q : Kernel). found_unasked (with_kernel_of q) e (of.Select r w y) ≡ Pending) (sym is) (found_by _ _ live none))

-- ---- and all of it is later than now

-- later than now, and at most just after the last moment
abbrev pub IsAhead : ℕ → ℕ → Type 0
IsAhead now m = (now < m) × (m ≤ last_moment + 1)

counted : (now m : ℕ) → (nat_lt now m && nat_le m last_moment) ≡ true → (now < m) × (m ≤ last_moment)
counted now m h = (grind (arith, nat_tests), grind (arith, nat_tests))

ahead_by : (now m : ℕ) (b : Bool) (o : Option ℕ) → (nat_lt now m && nat_le m last_moment) ≡ b → IsAhead now (bound o) → IsAhead now (bound (if b then least_by m o else o))
ahead_by now m true None is h = (let c = counted now m is in (c.0, omega (arith, c.1)))
ahead_by now m true (Some q) is h = (let c = counted now m is in (omega (arith, c.0, h.0), omega (arith, c.1)))
ahead_by now m false o is h = h

least_ahead : (now : ℕ) → now ≤ last_moment → (ms : List ℕ) → IsAhead now (bound (least_after now ms))
least_ahead now within [] = (omega arith, omega arith)
least_ahead now within (m ∷ ms) = ahead_by now m (nat_lt now m && nat_le m last_moment) (least_after now ms) refl (least_ahead now within ms)

-- by what a kernel says
pub next_ahead : (k : Kernel) (now : ℕ) (o : Option ℕ) → now ≡ k.now → now ≤ last_moment → o ≡ next_time k → IsAhead k.now (bound o)
next_ahead k now o same within is = subst (λ (p : Option ℕ). IsAhead k.now (bound p)) (sym is) (least_ahead k.now (omega (arith, same)) _)

pub at_most : (m n : ℕ) → m ≡ n → m ≤ n
at_most m n is = omega (arith, is)

-- a moment that has not come
pub not_come : (now m : ℕ) → nat_le m now ≡ false → now < m
not_come now m is = grind (arith, nat_tests)

no_deadline_yet : (a b past : Bool) (x y : Answer) → is_some (fails EBADF when a otherwise Some x when b otherwise Some y when past otherwise not_yet) ≡ false → past ≡ false
no_deadline_yet true b past x y is = absurd (cc is)
no_deadline_yet false true past x y is = absurd (cc is)
no_deadline_yet false false true x y is = absurd (cc is)
no_deadline_yet false false false x y is = refl

-- nor has the deadline of what is awaited
pub deadline_later : (k : Kernel) (a : Awaits) → k.now < last_moment + 1 → descriptors_bring k a ≡ false → k.now < deadline_in a
unfolding select_answer
deadline_later k (Selection r w x (Some m)) within is =
    not_come k.now m (no_deadline_yet (not (are_all_live k r.0 w.0 x.0)) (is_any_ready k r.0 w.0 x.0) (nat_le m k.now)
    (sets_answer k (filter (is_readable k) (members r.0)) (filter (is_writeable k) (members w.0)) (filter (is_exceptional k) (members x.0))) (sets_answer k [] [] []) is)
deadline_later k a within is = within

pub pending_says : (live occurs : Bool) → (if not live then Failed else (if occurs then Occurred else Pending)) ≡ Pending → (live ≡ true) × (occurs ≡ false)
pending_says true true is = absurd (cc is)
pending_says true false is = (refl, refl)
pending_says false occurs is = absurd (cc is)
