use Rattle.std.proofs.Common.{◌∙◌, ap, false, Option, ℕ, refl, subst, sym, to_z-of_z, true}
use Rattle.std.proofs.lemmas.Result.{err_from_is_err_and}
use Rattle.pth_base.proofs.Cuts.{cut_first}
use Rattle.pth_base.specs.declared.call.Call.TheVariants.{CondAwait}
use Rattle.pth_model.specs.declared.awaits.Awaits.TheVariants.{Notice}
use Rattle.pth_model.specs.declared.awaits.Retake.TheVariants.{Canceled}
use Rattle.pth_model.specs.Calls.{ends_await}
use Rattle.pth_model.specs.Cancellation.{takes_request}
use Rattle.pth_model.specs.Conditions.{hands_on_seats}
use Rattle.pth_model.specs.Resources.{told}
use Rattle.pth_model.specs.RingWaits.{extra_ring}
use Rattle.pth_model.specs.Transition.{nothing}
use Rattle.pth_world.proofs.Conditions.{seated_frame}
use Rattle.pth_world.proofs.Frames.{frame_then}
use Rattle.pth_world.specs.Frame.{Frame}
use Rattle.pth_world.specs.Leading.{StandsWhere}
use Rattle.pth_world.specs.Numbering.{no_numbers}
use Rattle.pth_world.specs.World.{WorldOf}
use Rattle.pth_end.proofs.Framing.{later_frame}
use Rattle.pth_waits.proofs.NoticeWaits.{changed_goes, finally_goes}
use Rattle.pth_waits.proofs.conditions.cancel_await.Goals as goal

pub returns-in_err-take_request-clause-goes : goal.returns-in_err-take_request-clause-goes
returns-in_err-take_request-clause-goes g c =
    let p = err_from_is_err_and c.from_residual.result c.from_residual.ensures.1 in
    rw p.1 (record { next = tt; leads = tt; cut = λ s st. cut_first _ _ _ _ ((rw (to_z-of_z c.ranges.c, to_z-of_z c.ranges.m, to_z-of_z c.ranges.e) at c.in_err-take_request.ensures.goes.cut) s st.0) })

pub returns-clause-goes : goal.returns-clause-goes
unfolding told
returns-clause-goes g c =
    let f = g.P.Program.functions in
    let t = c.args.t.0 in
    let k = CondAwait c.args.c c.args.m c.args.e in
    let ring = c.extra_ring.ensures ∙ ap extra_ring (to_z-of_z c.ranges.e) in
    let hands = hands_on_seats t (record { what = Notice c.args.c; ring = extra_ring c.args.e }) in
    let first = rw (to_z-of_z c.ranges.c, to_z-of_z c.ranges.m, to_z-of_z c.ranges.e) at c.in_ok-take_request.ensures.goes.leads in
    finally_goes (StandsWhere c.args.w.now t true) (StandsWhere c.take_request.new.w t true) (takes_request t k) (ends_await f t hands k c.args.m Canceled) _ _ _ _ _
    (λ s st. (((first s st.0).stands, st.1), (first s st.0).tells))
    (changed_goes t c.args.m c.args.c c.args.e f Canceled hands c.take_request.new.w c.hand_on_seats.new.w _ (ends_await f t nothing k c.args.m Canceled) (ends_await f t hands k c.args.m Canceled) _ _ _ (λ s. refl) (rw (to_z-of_z c.ranges.c, ring) at c.hand_on_seats.ensures.shows) (ap (λ (z : WorldOf _ _ _). z.store) c.hand_on_seats.ensures.same) (rw (to_z-of_z c.ranges.c, to_z-of_z c.ranges.m, to_z-of_z c.ranges.e) at c.end_await.ensures.goes))

pub returns-clause-frame : goal.returns-clause-frame
returns-clause-frame g c =
    let taken = c.take_request.ensures.frame in
    let handed = subst (λ (v : WorldOf _ _ _). Frame c.take_request.new.w v no_numbers c.take_request.new.w.scheduler.running false) (sym c.hand_on_seats.ensures.same) (seated_frame c.take_request.new.w c.hand_on_seats.new.w.conditions taken.whole) in
    let both = subst (λ (o : Option ℕ). Frame c.args.w.now c.hand_on_seats.new.w no_numbers o false) (taken.runs ∙ c.requires.runs) (frame_then no_numbers c.args.w.now c.take_request.new.w c.hand_on_seats.new.w _ _ false taken handed) in
    later_frame c.args.w.now c.hand_on_seats.new.w c.end_await.new.w c.args.t.0 c.end_await.result both c.end_await.ensures.frame
