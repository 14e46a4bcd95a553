-- The moments for which waiting threads wait are counted, one after another.
use Rattle.std.proofs.Common.{◌≡◌, ◌≢◌, ◌∙◌, ℕ, ℤ, ◌==◌, ◌<◌, ◌&&◌, ◌++◌, ◌∷◌, Bool, true, false, if◌then◌else◌, nat_lt, nat_le, min, List, [], length, map, Option, Some, None, inl, refl, sym, ap, ap₂, subst, append_assoc, append-nil, arith}
use Rattle.std.proofs.Math.Nat.{min_comm}
use Rattle.pth_base.specs.Limits.{last_moment}
use Rattle.pth_base.specs.Program.{Functions}
use Rattle.pth_base.specs.declared.event.EventSpec.{EventSpec}
use Rattle.pth_base.specs.declared.event.EventSpec.TheVariants as of
use Rattle.pth_base.specs.Chain.{StandsIn}
use Rattle.pth_base.proofs.Tables.{same_self, not_same}
use Rattle.pth_ring.specs.declared.event.Event.{Event}
use Rattle.pth_ring.specs.Ring.{RingGoesOn, Begins, from, rest_of}
use Rattle.pth_ring.specs.Rings.{Events}
use Rattle.pth_kernel.specs.Moments.{least_after, least_by}
use Rattle.pth_model.specs.declared.awaits.Awaited.{Awaited}
use Rattle.pth_model.specs.Awaits.{moment_in}
use Rattle.pth_model.specs.Calls.{waits_until}
use Rattle.pth_model.specs.Changes.{blocked_of}
use Rattle.pth_model.specs.Looks.{event_moment, occurs_at}
use Rattle.pth_model.specs.Pass.{moments_of}
use Rattle.pth_model.specs.RingWaits.{awaited_in, ring_held, events_from}
use Rattle.pth_model.specs.State.{State}

-- ---- the least of a list

-- the least of three does not hang on their order
min_turned : (m n b : ℕ) → min n (min m b) ≡ min m (min n b)
min_turned m n b = omega arith

module _ (now : ℕ) where
  abbrev counts : ℕ → Bool
  counts m = nat_lt now m && nat_le m last_moment

  -- a moment is counted where the best so far is b
  abbrev pub sooner : Option ℕ → ℕ → Option ℕ
  sooner b m = if counts m then least_by m b else b

  sooner_by : (p q : Bool) (b : Option ℕ) (m n : ℕ) → (if q then least_by n (if p then least_by m b else b) else (if p then least_by m b else b)) ≡ (if p then least_by m (if q then least_by n b else b) else (if q then least_by n b else b))
  sooner_by true true None m n = ap (λ (x : ℕ). Some x) (min_comm n m)
  sooner_by true true (Some b) m n = ap (λ (x : ℕ). Some x) (min_turned m n b)
  sooner_by true false b m n = refl
  sooner_by false true b m n = refl
  sooner_by false false b m n = refl

  -- a list of one more
  pub least_more : (ms : List ℕ) (m : ℕ) → least_after now (ms ++ m ∷ []) ≡ sooner (least_after now ms) m
  least_more [] m = refl
  least_more (x ∷ ms) m = ap (λ (b : Option ℕ). sooner b x) (least_more ms m) ∙ sooner_by (counts m) (counts x) (least_after now ms) m x

-- ---- one after another

-- Of all these moments the rest are left. The best is the least of those that were counted.
pub record Counted (now : ℕ) (all rest : List ℕ) (best : Option ℕ) : Type 0 where
  pub done : List ℕ
  pub split : all ≡ done ++ rest
  pub least : best ≡ least_after now done

module _ (now : ℕ) (all rest : List ℕ) (best next : Option ℕ) where
  -- more of them are counted
  pub counts_more : (ms : List ℕ) → (c : Counted now all (ms ++ rest) best) → next ≡ least_after now (c.done ++ ms) → Counted now all rest next
  counts_more ms c is = record { done = c.done ++ ms; split = c.split ∙ sym (append_assoc c.done ms rest); least = is }

  -- one more is counted
  pub counts_one : (m : ℕ) → Counted now all (m ∷ rest) best → next ≡ sooner now best m → Counted now all rest next
  counts_one m c is = counts_more (m ∷ []) c (is ∙ ap (λ (b : Option ℕ). sooner now b m) c.least ∙ sym (least_more now c.done m))

pub all_counted : (now : ℕ) (all rest : List ℕ) (best : Option ℕ) → rest ≡ [] → Counted now all rest best → best ≡ least_after now all
all_counted now all rest best none c = c.least ∙ ap (least_after now) (sym (c.split ∙ ap (λ (l : List ℕ). c.done ++ l) none ∙ append-nil c.done))

-- ---- round a ring

module _ (x : Events) (e : ℕ) where
  pub begins_within : Begins (x.rings e) e → StandsIn e (x.rings e)
  begins_within begins = subst (λ (l : List ℕ). StandsIn e l) (sym begins) (inl refl)

  -- fewer are left after each
  pub counts_less : (n m : ℕ) → StandsIn n (x.rings e) → ((i : ℕ) → StandsIn n (x.rings i) → RingGoesOn (x.rings i) i n m) → m ≢ e → length (from m (x.rings e)) < length (from n (x.rings e))
  counts_less n m within goes_on more =
      let next : (if m == e then [] else from m (x.rings e)) ≡ from m (x.rings e) = rw (not_same m e more) refl in
      let is : length (from n (x.rings e)) ≡ length (n ∷ from m (x.rings e)) = ap (λ (l : List ℕ). length l) ((goes_on e within).rest ∙ ap (λ (l : List ℕ). n ∷ l) next) in
      omega (arith, is)

-- an event of something else than a moment or a function has no moment
pub no_moment : {P S H : Type 0} (f : P → Functions S H) (s : State P S H) (next : ℕ) (spec : EventSpec) → ((at : ℕ) → spec ≡ of.Time at → ⊥) → ((check arg : ℤ) (interval : ℕ) → spec ≡ of.Func check arg interval → ⊥) → occurs_at f s next spec ≡ 0
no_moment f s next (of.Time at) time function = absurd (time at refl)
no_moment f s next (of.Func check arg interval) time function = absurd (function check arg interval refl)
no_moment f s next spec time function = refl

module _ {P S H : Type 0} (f : P → Functions S H) (s : State P S H) (x : Events) (now e : ℕ) (start : Option ℕ) where
  abbrev pub moments_from : List ℕ → List ℕ
  moments_from = map (λ (i : ℕ). event_moment f s (x.events i))

  -- the events of a ring were counted up to n, which comes next, after moments of which start is the least
  pub record CountedRound (n : ℕ) (best : Option ℕ) : Type 0 where
    pub within : StandsIn n (x.rings e)
    pub counted : (ms : List ℕ) → start ≡ least_after now ms → Counted now (ms ++ moments_from (x.rings e)) (moments_from (from n (x.rings e))) best

  from_first : (xs : List ℕ) → xs ≡ e ∷ rest_of xs → from e xs ≡ xs
  from_first xs begins = rw begins (rw (same_self e) refl)

  pub counts_none : Begins (x.rings e) e → CountedRound e start
  counts_none begins = record {
    within = subst (λ (l : List ℕ). StandsIn e l) (sym begins) (inl refl);
    counted = λ ms is. record { done = ms; split = ap (λ (l : List ℕ). ms ++ moments_from l) (sym (from_first (x.rings e) begins)); least = is };
  }

  module _ (n m : ℕ) (best next : Option ℕ) (v : Event) (so_far : CountedRound n best)
      (event_is : x.events n ≡ Some v) (is : next ≡ sooner now best (occurs_at f s v.next_look v.spec))
      (goes_on : (i : ℕ) → StandsIn n (x.rings i) → RingGoesOn (x.rings i) i n m) where
    abbrev left : List ℕ
    left = if m == e then [] else from m (x.rings e)

    goes : RingGoesOn (x.rings e) e n m
    goes = goes_on e so_far.within

    counted_now : (ms : List ℕ) → start ≡ least_after now ms → Counted now (ms ++ moments_from (x.rings e)) (moments_from left) next
    counted_now ms h =
        counts_one now _ (moments_from left) best next (event_moment f s (x.events n))
        (subst (λ (l : List ℕ). Counted now (ms ++ moments_from (x.rings e)) (moments_from l) best) goes.rest (so_far.counted ms h))
        (is ∙ ap (λ (o : Option Event). sooner now best (event_moment f s o)) (sym event_is))

    -- it was the last
    pub round_counted : m ≡ e → (ms : List ℕ) → start ≡ least_after now ms → next ≡ least_after now (ms ++ moments_from (x.rings e))
    round_counted last ms h =
        let none : left ≡ [] = rw (last, same_self e) refl in
        all_counted now _ (moments_from left) next (ap moments_from none) (counted_now ms h)

    -- another one comes next
    pub counts_next : m ≢ e → CountedRound m next
    counts_next more = record {
      within = goes.within;
      counted = λ ms h.
          let some : left ≡ from m (x.rings e) = rw (not_same m e more) refl in
          subst (λ (l : List ℕ). Counted now (ms ++ moments_from (x.rings e)) (moments_from l) next) some (counted_now ms h);
    }

-- ---- the moments of a thread

module _ {P S H : Type 0} (f : P → Functions S H) (s : State P S H) (t : ℕ) where
  -- Moments are counted of which best is the least. Then that for which the thread's call waits is counted, where next is the
  -- least, and those of the events of the ring that it was given, if any, where last is.
  module _ (now : ℕ) (ms : List ℕ) (best next last : Option ℕ) (a : Awaited) (ring : Option ℤ) (x : Events)
      (awaits : a ≡ awaited_in (blocked_of s.control t)) (given : a.ring ≡ ring) (same : s.control.events ≡ x) where
    abbrev moments_in : Events → Option ℤ → List ℕ
    moments_in y r = map (λ (e : ℕ). event_moment f s (y.events e)) (events_from y r)

    own : waits_until t s ∷ moments_in x ring ≡ moments_of f s t
    own =
        let held : ring ≡ ring_held (blocked_of s.control t) = sym given ∙ ap (λ (y : Awaited). y.ring) awaits in
        ap (λ (l : List ℕ). waits_until t s ∷ l) (ap₂ moments_in (sym same) held)

    call_counted : best ≡ least_after now ms → next ≡ sooner now best (moment_in a.what) → next ≡ least_after now (ms ++ waits_until t s ∷ [])
    unfolding waits_until
    call_counted least is = is ∙ ap₂ (sooner now) least (ap (λ (y : Awaited). moment_in y.what) awaits) ∙ sym (least_more now ms (waits_until t s))

    pub thread_counted : best ≡ least_after now ms → next ≡ sooner now best (moment_in a.what)
        → ((ns : List ℕ) → next ≡ least_after now ns → last ≡ least_after now (ns ++ moments_in x ring))
        → last ≡ least_after now (ms ++ moments_of f s t)
    thread_counted least is goes_on =
        goes_on (ms ++ waits_until t s ∷ []) (call_counted least is)
        ∙ ap (least_after now) (append_assoc ms (waits_until t s ∷ []) (moments_in x ring))
        ∙ ap (λ (l : List ℕ). least_after now (ms ++ l)) own
