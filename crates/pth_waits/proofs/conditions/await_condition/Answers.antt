use Rattle.std.proofs.Common.{◌∙◌, Err, Option, ℕ, false, not, Ok, ap, refl, subst, sym, to_z-of_z, true}
use Rattle.pth_base.specs.declared.errno.Errno.TheVariants.{EBUSY, EINVAL}
use Rattle.pth_cond.specs.Conditions.{ConditionTable, is_initialised}
use Rattle.pth_lock.specs.Mutexes.{mutex_release_answer}
use Rattle.pth_model.specs.Store.{Store}
use Rattle.pth_model.specs.RingWaits.{extra_ring}
use Rattle.pth_world.proofs.Frames.{frame_then}
use Rattle.pth_world.specs.Frame.{Frame}
use Rattle.pth_world.specs.Numbering.{no_numbers}
use Rattle.pth_waits.proofs.NoticeWaits.{await_refused, await_waits, begin_by}
use Rattle.pth_waits.proofs.conditions.await_condition.Goals.{then-not-is_live-via-then-not-is_live, then-not-is_live-via-else-not-is_live+then-is_no_ring}
use Rattle.pth_waits.proofs.conditions.await_condition.Goals as goal

pub returns-then-not-is_live-clause-attempts : goal.returns-then-not-is_live-clause-attempts
returns-then-not-is_live-clause-attempts g c =
    let a = c.args in
    let ring = c.extra_ring-ring.ensures ∙ ap extra_ring (to_z-of_z c.ranges.e) in
    let live = rw (c.conditions.ensures, to_z-of_z c.ranges.c) at c.is_live.ensures.answer in
    await_refused a.w.now a.t.0 a.c a.m a.e EINVAL (λ s st.
    let read = ap (λ (y : ConditionTable). not (is_initialised y a.c)) st.control.conditions ∙ ap not (sym live) in
    elim c.then-not-is_live.branch [
      | then-not-is_live-via-then-not-is_live w ↦ begin_by s a.t.0 a.c a.m a.e true _ _ _ (read ∙ ap not w.if-not-is_live.true) refl refl refl
      | then-not-is_live-via-else-not-is_live+then-is_no_ring w ↦ begin_by s a.t.0 a.c a.m a.e false true _ _ (read ∙ ap not w.if-not-is_live.false) (sym ((rw ring at w.is_no_ring.ensures) s st) ∙ w.if-is_no_ring.true) refl refl
    ])

pub returns-in-Err-clause-attempts : goal.returns-in-Err-clause-attempts
returns-in-Err-clause-attempts g c =
    let a = c.args in
    let ring = c.extra_ring-ring.ensures ∙ ap extra_ring (to_z-of_z c.ranges.e) in
    let live = rw (c.conditions.ensures, to_z-of_z c.ranges.c) at c.is_live.ensures.answer in
    let answer = sym (rw (to_z-of_z c.ranges.m) at c.mutex_release_answer.ensures) ∙ c.in-Err.is in
    await_refused a.w.now a.t.0 a.c a.m a.e c.in-Err.errno (λ s st.
    let read = ap (λ (y : ConditionTable). not (is_initialised y a.c)) st.control.conditions ∙ ap not (sym live) in
    begin_by s a.t.0 a.c a.m a.e false false _ (Err c.in-Err.errno) (read ∙ ap not c.if-not-is_live.false) (sym ((rw ring at c.is_no_ring.ensures) s st) ∙ c.if-is_no_ring.false) (ap (λ (x : Store). mutex_release_answer x.mutexes a.t.0 a.m) st.store ∙ answer) refl)

pub returns-then-is_claimed_ring-clause-attempts : goal.returns-then-is_claimed_ring-clause-attempts
returns-then-is_claimed_ring-clause-attempts g c =
    let a = c.args in
    let ring = c.extra_ring-ring.ensures ∙ ap extra_ring (to_z-of_z c.ranges.e) in
    let live = rw (c.conditions.ensures, to_z-of_z c.ranges.c) at c.is_live.ensures.answer in
    let answer = sym (rw (to_z-of_z c.ranges.m) at c.mutex_release_answer.ensures) ∙ c.in_default.is in
    await_refused a.w.now a.t.0 a.c a.m a.e EBUSY (λ s st.
    let read = ap (λ (y : ConditionTable). not (is_initialised y a.c)) st.control.conditions ∙ ap not (sym live) in
    begin_by s a.t.0 a.c a.m a.e false false true (Ok tt) (read ∙ ap not c.if-not-is_live.false) (sym ((rw ring at c.is_no_ring.ensures) s st) ∙ c.if-is_no_ring.false) (ap (λ (x : Store). mutex_release_answer x.mutexes a.t.0 a.m) st.store ∙ answer) (sym ((rw ring at c.is_claimed_ring.ensures) s st) ∙ c.if-is_claimed_ring.true))

pub returns-clause-attempts : goal.returns-clause-attempts
returns-clause-attempts g c =
    let a = c.args in
    let ring = c.extra_ring-ring.ensures ∙ ap extra_ring (to_z-of_z c.ranges.e) in
    let live = rw (c.conditions.ensures, to_z-of_z c.ranges.c) at c.is_live.ensures.answer in
    let answer = sym (rw (to_z-of_z c.ranges.m) at c.mutex_release_answer.ensures) ∙ c.in_default.is in
    rw (to_z-of_z c.ranges.c) (await_waits a.w.now a.t.0 a.c a.m a.e c.take_seat.new.w c.claim_free.new.w (λ s st.
    let read = ap (λ (y : ConditionTable). not (is_initialised y a.c)) st.control.conditions ∙ ap not (sym live) in
    begin_by s a.t.0 a.c a.m a.e false false false (Ok tt) (read ∙ ap not c.if-not-is_live.false) (sym ((rw ring at c.is_no_ring.ensures) s st) ∙ c.if-is_no_ring.false) (ap (λ (x : Store). mutex_release_answer x.mutexes a.t.0 a.m) st.store ∙ answer) (sym ((rw ring at c.is_claimed_ring.ensures) s st) ∙ c.if-is_claimed_ring.false))
    (rw (to_z-of_z c.ranges.c) at c.in_ok-take_seat.ensures.shows) (rw ring at c.in_ok-claim_free.ensures.shows) (rw (to_z-of_z c.ranges.m) at c.in_ok-take_seat.ensures.store) c.claim_free.ensures.store)

pub returns-clause-frame : goal.returns-clause-frame
returns-clause-frame g c =
    let seated = c.in_ok-take_seat.ensures.frame in
    frame_then no_numbers c.args.w.now c.take_seat.new.w c.claim_free.new.w _ _ false seated (subst (λ (o : Option ℕ). Frame c.take_seat.new.w c.claim_free.new.w no_numbers o false) seated.runs c.claim_free.ensures.frame)
