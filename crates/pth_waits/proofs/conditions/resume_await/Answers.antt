use Rattle.std.proofs.Common.{◌∙◌, ap, ap₂, refl, sym, to_z-of_z}
use Rattle.pth_model.specs.RingWaits.{extra_ring, has_settled}
use Rattle.pth_ring.specs.Arena.{events_of}
use Rattle.pth_world.proofs.Frames.{still_frame}
use Rattle.pth_world.specs.Numbering.{no_numbers}
use Rattle.pth_waits.proofs.NoticeWaits.{on_goes, still_goes, waits_frame}
use Rattle.pth_waits.proofs.conditions.resume_await.Goals as goal

pub returns-then-may_be_canceled : goal.returns-then-may_be_canceled
returns-then-may_be_canceled g c =
    let f = g.P.Program.functions in
    let a = c.args in
    let t = a.t.0 in
    record {
      goes = on_goes f t a.c a.m a.e a.awaits c.in_default.not-Retaking a.w.now _ _ _ _ _ (rw (to_z-of_z c.ranges.c, to_z-of_z c.ranges.m, to_z-of_z c.ranges.e) at c.cancel_await.ensures.goes)
          (λ s st. rw (sym (c.may_be_canceled.ensures s.control st.control) ∙ c.if-may_be_canceled.true) refl);
      frame = c.cancel_await.ensures.frame;
    }

pub returns-then-is_noticed : goal.returns-then-is_noticed
returns-then-is_noticed g c =
    let f = g.P.Program.functions in
    let a = c.args in
    let t = a.t.0 in
    record {
      goes = on_goes f t a.c a.m a.e a.awaits c.in_default.not-Retaking a.w.now _ _ _ _ _ (rw (to_z-of_z c.ranges.c, to_z-of_z c.ranges.m, to_z-of_z c.ranges.e) at c.leave_await.ensures.goes)
          (λ s st. rw (sym (c.may_be_canceled.ensures s.control st.control) ∙ c.if-may_be_canceled.false, sym ((rw (to_z-of_z c.ranges.c) at c.is_noticed.ensures) s st) ∙ c.if-is_noticed.true) refl);
      frame = c.leave_await.ensures.frame;
    }

pub returns-then-has_settled : goal.returns-then-has_settled
returns-then-has_settled g c =
    let f = g.P.Program.functions in
    let a = c.args in
    let t = a.t.0 in
    record {
      goes = on_goes f t a.c a.m a.e a.awaits c.in_default.not-Retaking a.w.now _ _ _ _ _ (rw (to_z-of_z c.ranges.c, to_z-of_z c.ranges.m, to_z-of_z c.ranges.e) at c.leave_await-then-has_settled.ensures.goes)
          (λ s st. rw (
            sym (c.may_be_canceled.ensures s.control st.control) ∙ c.if-may_be_canceled.false,
            sym ((rw (to_z-of_z c.ranges.c) at c.is_noticed.ensures) s st) ∙ c.if-is_noticed.false,
            sym (c.has_settled.ensures ∙ ap₂ has_settled (ap events_of c.rings.ensures ∙ sym st.control.events) (c.extra_ring.ensures ∙ ap extra_ring (to_z-of_z c.ranges.e))) ∙ c.if-has_settled.true,
          ) refl);
      frame = c.leave_await-then-has_settled.ensures.frame;
    }

pub returns : goal.returns
returns g c =
    let f = g.P.Program.functions in
    let a = c.args in
    let t = a.t.0 in
    record {
      goes = on_goes f t a.c a.m a.e a.awaits c.in_default.not-Retaking a.w.now _ _ _ _ _
          (still_goes f t a.c a.m a.e a.w.now _ _ c.tell_wait.result c.tell_wait.ensures.next (rw (to_z-of_z c.ranges.c, to_z-of_z c.ranges.m, to_z-of_z c.ranges.e) at c.tell_wait.ensures.ok) c.tell_wait.ensures.err)
          (λ s st. rw (
            sym (c.may_be_canceled.ensures s.control st.control) ∙ c.if-may_be_canceled.false,
            sym ((rw (to_z-of_z c.ranges.c) at c.is_noticed.ensures) s st) ∙ c.if-is_noticed.false,
            sym (c.has_settled.ensures ∙ ap₂ has_settled (ap events_of c.rings.ensures ∙ sym st.control.events) (c.extra_ring.ensures ∙ ap extra_ring (to_z-of_z c.ranges.e))) ∙ c.if-has_settled.false,
          ) refl);
      frame = waits_frame a.w.now t c.tell_wait.result c.tell_wait.ensures.next (still_frame no_numbers a.w.now _ c.requires.runs c.requires.whole);
    }
