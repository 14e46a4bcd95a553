-- A call that begins, and a thread that goes on with the call that blocks it, with another program and another kernel.
use Rattle.std.proofs.Common.{◌≡◌, ℕ, Bool, true, false, ℤ, pos, Option, Some, None, refl, ap, ◌∙◌}
use Rattle.pth_base.specs.Program.{Functions, Stepped}
use Rattle.pth_base.specs.declared.answer.Answer.{Answer}
use Rattle.pth_base.specs.declared.answer.Answer.TheVariants as answer
use Rattle.pth_base.specs.declared.call.Call.{Call}
use Rattle.pth_base.specs.declared.call.Call.TheVariants as call
use Rattle.pth_base.specs.declared.mark.Mark.TheVariants as mark
use Rattle.pth_agreement.proofs.Others.{Others, AllLeft}
use Rattle.pth_agreement.specs.Descriptors.{asked_by_call}
use Rattle.pth_lock.specs.Objects.{object_named}
use Rattle.pth_model.specs.declared.awaits.Awaited.{Awaited}
use Rattle.pth_model.specs.declared.awaits.Awaits.{Awaits}
use Rattle.pth_model.specs.declared.awaits.Awaits.TheVariants as awaits
use Rattle.pth_model.specs.declared.awaits.Retake.{Retake}
use Rattle.pth_model.specs.declared.awaits.Retake.TheVariants as retake
use Rattle.pth_model.specs.declared.blocked.Blocked.{Blocked}
use Rattle.pth_model.specs.declared.next.Next.TheVariants as next
use Rattle.pth_model.specs.declared.verdict.Verdict.{Verdict}
use Rattle.pth_model.specs.declared.verdict.Verdict.TheVariants.{Says, Yields, Blocks, Ends, Kills}
use Rattle.pth_model.specs.Calls.{begun, begun_by, begun_as, blocks, waits_by, canceled_by, interrupted, unless_settled, answers, tried_by, tried, tried_again, tried_again_by, gone_on, gone_on_where, gone_on_in, gone_on_by, retaken_as, retakes, retakes_where, ends_await, awaits_on, awaits_on_where}
use Rattle.pth_model.specs.Cancellation.{canceled_in, canceled_value, may_be_canceled, takes_request}
use Rattle.pth_model.specs.Changes.{blocked_of, is_blocked_by}
use Rattle.pth_model.specs.Conditions.{can_take, is_noticed, leaves_seat, hands_on_seats}
use Rattle.pth_model.specs.Ending.{ending}
use Rattle.pth_model.specs.RingWaits.{claims, extra_ring, has_settled, ring_given, stops_waiting}
use Rattle.pth_model.specs.Row.{Attempt, effect_of}
use Rattle.pth_model.specs.Rows.{row_of}
use Rattle.pth_model.specs.Transition.{Change, nothing, changes, tells, tid, ◌and◌, ◌and_then◌, ◌and_next◌}
use Rattle.pth_agreement.proofs.Placed.{Bare, placed, gone, AreSame, DoSame, GoSame, AttemptSame, and_same, changes_same, then_same, next_same, finally_at, effect_same}
use Rattle.pth_agreement.proofs.Kernels.{ShowsSame, WaitLeft}
use Rattle.pth_agreement.proofs.Endings.{stepping_so, claims_same, blocked_same, stops_same, seats_same, ending_same}
use Rattle.pth_agreement.proofs.Rows.{begins_same, tried_same, request_same}

module _ {P S H : Type 0} (p : P) (other : Others) where
  waits_same : (t : ℕ) (c : Call) (a : Awaits) → DoSame {S = S} {H = H} p other (waits_by t c a) (waits_by t c a)
  waits_same t c a =
      let b = Some (record { call = c; awaits = a }) in
      let m = mark.Waits (tid t) c in
      then_same p other (changes (claims t (ring_given c) and blocks t c a)) (tells m) (changes (claims t (ring_given c) and blocks t c a)) (tells m)
      (changes_same p other (claims t (ring_given c) and blocks t c a) (claims t (ring_given c) and blocks t c a) (and_same p other (claims t (ring_given c)) (blocks t c a) (claims t (ring_given c)) (blocks t c a) (claims_same p other t (ring_given c)) (blocked_same p other t b))) (λ u. refl)

  leaves_seat_same : (t : ℕ) (a : Awaits) → AreSame {S = S} {H = H} p other (leaves_seat t a) (leaves_seat t a)
  unfolding leaves_seat
  leaves_seat_same t (awaits.Notice c) k = refl
  leaves_seat_same t a k = refl

  module _ (f : P → Functions S H) (step : S → H → Answer → Stepped S H) (t : ℕ) where
    abbrev bare : Unit {0} → Functions S H
    bare = stepping_so f p step

    ends_same : (v : ℤ) → GoSame p other (ending bare t v and_next next.Ended v) (ending f t v and_next next.Ended v)
    ends_same v = next_same p other (ending bare t v) (ending f t v) (next.Ended v) (ending_same p other f step t v)

    answers_same : (c : Call) (x : Answer) → DoSame p other (answers bare t c x) (answers f t c x)
    answers_same c x = let m = mark.Answered (tid t) c x in then_same p other (changes (stops_waiting t)) (tells m) (changes (stops_waiting t)) (tells m) (changes_same p other (stops_waiting t) (stops_waiting t) (stops_same p other t)) (λ u. refl)

    begun_by_same : (c : Call) (v : Verdict) → GoSame p other (begun_by bare t c v) (begun_by f t c v)
    begun_by_same c (Says x) s = refl
    begun_by_same c (Yields x) s = refl
    begun_by_same c (Blocks a) s = next_same p other (waits_by t c a) (waits_by t c a) next.Blocks (waits_same t c a) s
    begun_by_same c (Ends v) s = ends_same v s
    begun_by_same c Kills s = refl

    begun_as_same : (c : Call) (a : Attempt (Unit {0}) S H) (b : Attempt P S H) (s : Bare S H) → AttemptSame p other a b s → begun_as f t c b (placed p other s) ≡ gone p other (begun_as bare t c a s)
    begun_as_same c a b s same =
        let u = (effect_of a s).state in
        finally_at p other (effect_of a) (begun_by bare t c a.verdict) (effect_of b) (begun_by f t c b.verdict) s (effect_same p other a b s same)
        (ap (λ v. begun_by f t c v (placed p other u)) same.verdict ∙ begun_by_same c a.verdict u)

    pub begun_same : (c : Call) (s : Bare S H) → ShowsSame other s.control.kernel → AllLeft other (asked_by_call c) → begun f t c (placed p other s) ≡ gone p other (begun bare t c s)
    unfolding begun
    begun_same call.Plain s shows left = refl
    begun_same (call.Note v) s shows left = refl
    begun_same c s shows left = begun_as_same c (row_of bare s t c).begin (row_of f (placed p other s) t c).begin s (begins_same p other f step t s shows c left)

    -- ---- a call is tried again

    canceled_same : (o : Option Blocked) → GoSame p other (canceled_by bare t o) (canceled_by f t o)
    canceled_same None s = refl
    canceled_same (Some b) s =
        next_same p other (canceled_in bare t b.call) (canceled_in f t b.call) (next.Ended canceled_value)
        (then_same p other (takes_request t b.call) (ending bare t canceled_value) (takes_request t b.call) (ending f t canceled_value) (request_same p other t b.call) (ending_same p other f step t canceled_value)) s

    tried_by_same : (b : Blocked) (v : Verdict) → GoSame p other (tried_by bare t b v) (tried_by f t b v)
    tried_by_same b (Says x) s = next_same p other (answers bare t b.call x) (answers f t b.call x) (next.Done x) (answers_same b.call x) s
    tried_by_same b (Yields x) s = next_same p other (answers bare t b.call x) (answers f t b.call x) (next.Yields x) (answers_same b.call x) s
    tried_by_same b (Blocks a) s =
        let o = Some (record b { awaits = a }) in
        let m = mark.Waits (tid t) b.call in
        next_same p other (changes (is_blocked_by t o) and_then tells m) (changes (is_blocked_by t o) and_then tells m) next.Blocks
        (then_same p other (changes (is_blocked_by t o)) (tells m) (changes (is_blocked_by t o)) (tells m) (changes_same p other (is_blocked_by t o) (is_blocked_by t o) (blocked_same p other t o)) (λ u. refl)) s
    tried_by_same b (Ends v) s = ends_same v s
    tried_by_same b Kills s = let x = answer.Int (pos 1) in next_same p other (answers bare t b.call x) (answers f t b.call x) next.Killed (answers_same b.call x) s

    tried_as_same : (b : Blocked) (x : Attempt (Unit {0}) S H) (y : Attempt P S H) (s : Bare S H) → AttemptSame p other x y s → tried f t b y (placed p other s) ≡ gone p other (tried bare t b x s)
    tried_as_same b x y s same =
        let u = (effect_of x s).state in
        finally_at p other (effect_of x) (tried_by bare t b x.verdict) (effect_of y) (tried_by f t b y.verdict) s (effect_same p other x y s same)
        (ap (λ v. tried_by f t b v (placed p other u)) same.verdict ∙ tried_by_same b x.verdict u)

    settled_same : (come : Bool) (x : Attempt (Unit {0}) S H) (y : Attempt P S H) (s : Bare S H) → AttemptSame p other x y s → AttemptSame p other (unless_settled come x) (unless_settled come y) s
    settled_same false x y s same = same
    settled_same true x y s same = record { verdict = ap interrupted same.verdict; effect = same.effect }

    tried_again_by_same : (o : Option Blocked) (s : Bare S H) → ShowsSame other s.control.kernel → WaitLeft other o → tried_again_by f t o (placed p other s) ≡ gone p other (tried_again_by bare t o s)
    tried_again_by_same None s shows left = refl
    tried_again_by_same (Some b) s shows left =
        let come = has_settled s.control.events (ring_given b.call) in
        let x = (row_of bare s t b.call).again b.awaits in
        let y = (row_of f (placed p other s) t b.call).again b.awaits in
        tried_as_same b (unless_settled come x) (unless_settled come y) s (settled_same come x y s (tried_same p other f step t s shows b.call b.awaits left))

    where_same_on : (now : Bool) (s : Bare S H) → ShowsSame other s.control.kernel → WaitLeft other (blocked_of s.control t) → gone_on_where f t now (placed p other s) ≡ gone p other (gone_on_where bare t now s)
    unfolding tried_again
    where_same_on true s shows left = canceled_same (blocked_of s.control t) s
    where_same_on false s shows left = tried_again_by_same (blocked_of s.control t) s shows left

    -- ---- a wait at a condition goes on

    retaken_same : (c : Call) (m : ℤ) (o : Retake) → GoSame p other (retaken_as bare t c m o) (retaken_as f t c m o)
    retaken_same c m retake.Notified s = refl
    retaken_same c m retake.Interrupted s = refl
    retaken_same c m retake.Canceled s =
        let k = mark.Took (tid t) (object_named m) in
        next_same p other (tells k and_then ending bare t canceled_value) (tells k and_then ending f t canceled_value) (next.Ended canceled_value)
        (then_same p other (tells k) (ending bare t canceled_value) (tells k) (ending f t canceled_value) (λ u. refl) (ending_same p other f step t canceled_value)) s

    retakes_where_same : (can : Bool) (c : Call) (m : ℤ) (o : Retake) → GoSame p other (retakes_where bare t can c m o) (retakes_where f t can c m o)
    retakes_where_same true c m o s = retaken_same c m o s
    retakes_where_same false c m o s =
        let k = mark.Retakes (tid t) c in
        let b = blocks t c (awaits.Retaking m o) in
        let d = blocks t c (awaits.Retaking m o) in
        next_same p other (changes b and_then tells k) (changes d and_then tells k) next.Blocks
        (then_same p other (changes b) (tells k) (changes d) (tells k) (changes_same p other b d (blocked_same p other t (Some (record { call = c; awaits = awaits.Retaking m o })))) (λ u. refl)) s

    ends_await_same : (g : Change (Unit {0}) S H) (h : Change P S H) (c : Call) (m : ℤ) (o : Retake) → AreSame p other g h → GoSame p other (ends_await bare t g c m o) (ends_await f t h c m o)
    ends_await_same g h c m o same s =
        let x = g and stops_waiting t in
        let y = h and stops_waiting t in
        let u = (changes x s).state in
        finally_at p other (changes x) (retakes bare t c m o) (changes y) (retakes f t c m o) s
        (changes_same p other x y (and_same p other g (stops_waiting t) h (stops_waiting t) same (stops_same p other t)) s) (retakes_where_same (can_take u t m) c m o u)

    awaits_where_same : (asked noticed settled : Bool) (k : Call) (c m : ℤ) → GoSame p other (awaits_on_where bare t asked noticed settled k c m) (awaits_on_where f t asked noticed settled k c m)
    awaits_where_same true noticed settled k c m s =
        let a : Awaited = record { what = awaits.Notice c; ring = ring_given k } in
        let u = (takes_request t k s).state in
        finally_at p other (takes_request t k) (ends_await bare t (hands_on_seats t a) k m retake.Canceled) (takes_request t k) (ends_await f t (hands_on_seats t a) k m retake.Canceled) s
        (request_same p other t k s) (ends_await_same (hands_on_seats t a) (hands_on_seats t a) k m retake.Canceled (seats_same p other t a) u)
    awaits_where_same false true settled k c m s = ends_await_same (leaves_seat t (awaits.Notice c)) (leaves_seat t (awaits.Notice c)) k m retake.Notified (leaves_seat_same t (awaits.Notice c)) s
    awaits_where_same false false true k c m s = ends_await_same (leaves_seat t (awaits.Notice c)) (leaves_seat t (awaits.Notice c)) k m retake.Interrupted (leaves_seat_same t (awaits.Notice c)) s
    awaits_where_same false false false k c m s = refl

    awaits_on_same : (c m e : ℤ) (a : Awaits) → GoSame p other (awaits_on bare t c m e a) (awaits_on f t c m e a)
    unfolding may_be_canceled
    awaits_on_same c m e (awaits.Retaking n o) s = ends_await_same nothing nothing (call.CondAwait c m e) m o (λ k. refl) s
    awaits_on_same c m e a s = awaits_where_same (may_be_canceled s.control t) (is_noticed s t c) (has_settled s.control.events (extra_ring e)) (call.CondAwait c m e) c m s

    gone_on_in_same : (c : Call) (a : Awaits) (s : Bare S H) → ShowsSame other s.control.kernel → WaitLeft other (blocked_of s.control t) → gone_on_in f t c a (placed p other s) ≡ gone p other (gone_on_in bare t c a s)
    unfolding may_be_canceled
    gone_on_in_same (call.CondAwait c m e) a s shows left = awaits_on_same c m e a s
    gone_on_in_same c a s shows left = where_same_on (may_be_canceled s.control t) s shows left

    gone_on_by_same : (o : Option Blocked) (s : Bare S H) → ShowsSame other s.control.kernel → WaitLeft other (blocked_of s.control t) → gone_on_by f t o (placed p other s) ≡ gone p other (gone_on_by bare t o s)
    gone_on_by_same None s shows left = refl
    gone_on_by_same (Some b) s shows left = gone_on_in_same b.call b.awaits s shows left

    pub gone_on_same : (s : Bare S H) → ShowsSame other s.control.kernel → WaitLeft other (blocked_of s.control t) → gone_on f t (placed p other s) ≡ gone p other (gone_on bare t s)
    unfolding gone_on
    gone_on_same s shows left = gone_on_by_same (blocked_of s.control t) s shows left
