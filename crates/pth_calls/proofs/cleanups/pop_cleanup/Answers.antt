use Rattle.std.proofs.Common.{◌∙◌, refl, not, pos, sym, ap, SFits, w64, to_z-of_z, rules, Some, false}
use Rattle.std.proofs.lemmas.Result.{err_from_is_err_and}
use Rattle.pth_base.specs.declared.answer.Answer.TheVariants.{Int}
use Rattle.pth_base.specs.declared.call.Call.TheVariants.{CleanupPop}
use Rattle.pth_base.specs.declared.errno.Errno.TheVariants.{EINVAL}
use Rattle.pth_base.specs.declared.mark.Mark.TheVariants.{Answered}
use Rattle.pth_model.specs.Acts.{runs_handler}
use Rattle.pth_model.specs.Store.{Store}
use Rattle.pth_model.specs.Transition.{tells, where_so}
use Rattle.pth_numbered.specs.Operands.{is_zero}
use Rattle.pth_store.specs.Cleanups.{pop_answer}
use Rattle.pth_end.proofs.Chains.{cut_one}
use Rattle.pth_end.proofs.Framing.{done_frame, done_goes, refused_goes}
use Rattle.pth_calls.proofs.Storing.{pop_refused, pop_runs, popped_tells}
use Rattle.pth_world.proofs.Frames.{frame_then, still_frame}
use Rattle.pth_end.proofs.Handled.{handled_frame, stored_frame}
use Rattle.pth_world.specs.Numbering.{no_numbers}
use Rattle.pth_calls.proofs.cleanups.pop_cleanup.Goals as goal

pub returns-in_default-clause-goes : goal.returns-in_default-clause-goes
returns-in_default-clause-goes g c =
    let v : SFits w64 c.args.v = search rules in
    refused_goes _ c.args.w.now c.args.t c.args.call.now EINVAL _ _ c.done.result
    (λ s st. rw c.requires.call (pop_refused g.P.Program.functions s c.args.t.0 c.args.v (ap (λ (k : Store). pop_answer k.cleanups c.args.t.0) st.store ∙ sym c.cleanup_below.ensures.answer ∙ c.in_default.is)))
    (rw c.requires.call refl)
    c.done.ensures.next c.done.ensures.ok c.done.ensures.err

pub returns-in_err-run_popped-clause-goes : goal.returns-in_err-run_popped-clause-goes
returns-in_err-run_popped-clause-goes g c =
    let f = g.P.Program.functions in
    let v : SFits w64 c.args.v = search rules in
    let x : SFits w64 c.in-Some.arg = search rules in
    let ran = simp to_z-of_z at c.in_err-run_popped.ensures.goes.cut in
    let p = err_from_is_err_and c.from_residual.result c.from_residual.ensures.1 in
    rw p.1 (record {
      next = tt;
      leads = tt;
      cut = λ s st. (
          let some = ap (λ (k : Store). pop_answer k.cleanups c.args.t.0) st.store ∙ sym c.cleanup_below.ensures.answer ∙ c.in-Some.is in
          rw (c.requires.call, pop_runs f s c.args.t.0 c.args.v (c.in-Some.h, c.in-Some.arg) some)
          (cut_one s (where_so (not (is_zero c.args.v)) (runs_handler f c.args.t.0 c.in-Some.h c.in-Some.arg)) (tells (Answered c.args.t (CleanupPop c.args.v) (Int (pos 1)))) _ _ (ran s st)));
    })

pub returns-clause-goes : goal.returns-clause-goes
returns-clause-goes g c =
    let f = g.P.Program.functions in
    let v : SFits w64 c.args.v = search rules in
    let x : SFits w64 c.in-Some.arg = search rules in
    let ran = simp to_z-of_z at c.in_ok-run_popped.ensures.goes.leads in
    done_goes _ c.args.w.now c.run_popped.new.w c.pop_cleanup.new.self (where_so (not (is_zero c.args.v)) (runs_handler f c.args.t.0 c.in-Some.h c.in-Some.arg)) (Answered c.args.t c.args.call.now (Int (pos 1))) (Int (pos 1)) _ _ _ c.done-2.result
    (λ s st. rw c.requires.call (pop_runs f s c.args.t.0 c.args.v (c.in-Some.h, c.in-Some.arg) (ap (λ (k : Store). pop_answer k.cleanups c.args.t.0) st.store ∙ sym c.cleanup_below.ensures.answer ∙ c.in-Some.is)))
    ran
    (rw c.requires.call (popped_tells c.run_popped.new.w c.pop_cleanup.new.self c.args.t c.args.v c.pop_cleanup.ensures.changes))
    c.pop_cleanup.ensures.keeps.shows
    c.done-2.ensures.next c.done-2.ensures.ok c.done-2.ensures.err

pub returns-in_default-clause-frame : goal.returns-in_default-clause-frame
returns-in_default-clause-frame g c = done_frame c.args.w.now c.args.w.now c.args.t.0 c.done.result _ c.done.ensures.next (still_frame no_numbers c.args.w.now _ c.requires.runs c.requires.whole)

pub returns-clause-frame : goal.returns-clause-frame
returns-clause-frame g c =
    let t = c.args.t.0 in
    let ran = handled_frame c.args.w.now (Some t) c.requires.runs c.run_popped.new.w c.in_ok-run_popped.ensures.handled in
    let popped = stored_frame c.run_popped.new.w (Some t) ran.runs c.pop_cleanup.new.self ran.whole c.pop_cleanup.ensures.keeps in
    done_frame c.args.w.now c.pop_cleanup.new.self t c.done-2.result _ c.done-2.ensures.next (frame_then no_numbers c.args.w.now c.run_popped.new.w c.pop_cleanup.new.self (Some t) (Some t) false ran popped)
