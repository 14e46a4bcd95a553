use Rattle.std.proofs.Common.{refl, pos, SFits, w64, to_z-of_z, rules, arith}
use Rattle.std.proofs.lemmas.Result.{err_from_is_err_and}
use Rattle.pth_base.specs.declared.answer.Answer.TheVariants.{Int}
use Rattle.pth_base.specs.declared.call.Call.TheVariants.{Cancel}
use Rattle.pth_base.specs.declared.mark.Mark.TheVariants.{Answered}
use Rattle.pth_model.specs.Cancellation.{ends_or_asks}
use Rattle.pth_model.specs.Transition.{tells}
use Rattle.pth_end.proofs.Chains.{cut_one}
use Rattle.pth_calls.proofs.Canceling.{cancel_begun, cancel_refused, quiet_cancel}
use Rattle.pth_world.proofs.Frames.{frame_as, still_frame}
use Rattle.pth_end.proofs.Framing.{done_frame, quiet_goes, refused_goes}
use Rattle.pth_calls.proofs.Framing.{runs_if}
use Rattle.pth_world.specs.Numbering.{no_numbers}
use Rattle.pth_world.specs.Frame.{runs_after, yields_after}
use Rattle.pth_end.proofs.Keeping.{begun_goes_whole}
use Rattle.pth_calls.proofs.cancellation.cancel.Goals as goal

pub returns-in-Err-clause-goes : goal.returns-in-Err-clause-goes
returns-in-Err-clause-goes g c =
    let n : SFits w64 c.args.n = search rules in
    let why = simp to_z-of_z at c.in-Err.ensures.refused in
    refused_goes _ c.args.w.now c.args.t c.args.call.now c.in-Err.e _ _ c.done.result
    (λ s st. rw c.requires.call (cancel_refused g.P.Program.functions s c.args.t.0 c.args.n c.in-Err.e (why s st)))
    (rw c.requires.call refl)
    c.done.ensures.next c.done.ensures.ok c.done.ensures.err

pub returns-in_err-end_or_ask-clause-goes : goal.returns-in_err-end_or_ask-clause-goes
returns-in_err-end_or_ask-clause-goes g c =
    let f = g.P.Program.functions in
    let n : SFits w64 c.args.n = search rules in
    let names = simp to_z-of_z at c.in-Ok.ensures.names in
    let a = ends_or_asks f c.in-Ok.it.0.0 c.in-Ok.it.1 in
    let p = err_from_is_err_and c.from_residual.result c.from_residual.ensures.1 in
    rw p.1 (record {
      next = tt;
      leads = tt;
      cut = λ s st. rw (c.requires.call, cancel_begun f s c.args.t.0 c.args.n a (names s st)) (cut_one s a (tells (Answered c.args.t (Cancel c.args.n) (Int (pos 1)))) _ _ (c.in_err-end_or_ask.ensures.goes.cut s st));
    })

pub returns-clause-goes : goal.returns-clause-goes
returns-clause-goes g c =
    let f = g.P.Program.functions in
    let n : SFits w64 c.args.n = search rules in
    let names = simp to_z-of_z at c.in-Ok.ensures.names in
    let a = ends_or_asks f c.in-Ok.it.0.0 c.in-Ok.it.1 in
    quiet_goes _ c.args.w.now c.end_or_ask.new.w a (Answered c.args.t c.args.call.now (Int (pos 1))) (Int (pos 1)) _ _ _ c.done-2.result
    (λ s st. rw c.requires.call (cancel_begun f s c.args.t.0 c.args.n a (names s st)))
    c.in_ok-end_or_ask.ensures.goes.leads
    (rw c.requires.call (quiet_cancel c.args.t c.args.n (Int (pos 1))))
    c.done-2.ensures.next c.done-2.ensures.ok c.done-2.ensures.err

pub returns-in-Err-clause-frame : goal.returns-in-Err-clause-frame
returns-in-Err-clause-frame g c = done_frame c.args.w.now c.args.w.now c.args.t.0 c.done.result _ c.done.ensures.next (still_frame no_numbers c.args.w.now _ c.requires.runs c.requires.whole)

pub returns-clause-frame : goal.returns-clause-frame
returns-clause-frame g c =
    done_frame c.args.w.now c.end_or_ask.new.w c.args.t.0 c.done-2.result _ c.done-2.ensures.next
    (frame_as no_numbers no_numbers c.args.w.now c.end_or_ask.new.w _ _ (λ k. omega arith) (runs_if _ c.args.t.0 c.in-Ok.it.0.0 c.args.w.now.scheduler.running c.requires.runs c.in-Ok.ensures.other) c.in_ok-end_or_ask.ensures.frame)

pub returns-in-Err-clause-keeps : goal.returns-in-Err-clause-keeps
returns-in-Err-clause-keeps g c =
    begun_goes_whole g.P.Program.functions c.args.w.now c.args.w.now c.args.t.0 c.requires.whole c.requires.runs c.args.call.now no_numbers (runs_after c.args.t.0) yields_after _ _ c.done.result (returns-in-Err-clause-frame g c) (returns-in-Err-clause-goes g c)

pub returns-clause-keeps : goal.returns-clause-keeps
returns-clause-keeps g c =
    begun_goes_whole g.P.Program.functions c.args.w.now c.end_or_ask.new.w c.args.t.0 c.requires.whole c.requires.runs c.args.call.now no_numbers (runs_after c.args.t.0) yields_after _ _ c.done-2.result (returns-clause-frame g c) (returns-clause-goes g c)
