use Rattle.std.proofs.Common.{SFits, w64, to_z-of_z, rules}
use Rattle.std.proofs.lemmas.Result.{err_from_is_err_and}
use Rattle.pth_base.specs.declared.mark.Mark.TheVariants.{Answered}
use Rattle.pth_model.specs.Cleanups.{once}
use Rattle.pth_model.specs.Row.{effect_of}
use Rattle.pth_end.proofs.Framing.{done_frame, quiet_goes}
use Rattle.pth_calls.proofs.Storing.{once_begun, once_cut, quiet_once}
use Rattle.pth_calls.proofs.once.once.Goals as goal

pub returns-in_err-answer-clause-goes : goal.returns-in_err-answer-clause-goes
returns-in_err-answer-clause-goes g c =
    let f = g.P.Program.functions in
    let o : SFits w64 c.args.o = search rules in
    let h : SFits w64 c.args.h = search rules in
    let v : SFits w64 c.args.v = search rules in
    let used = simp to_z-of_z at c.in_err-answer.ensures.goes.cut in
    let p = err_from_is_err_and c.from_residual.result c.from_residual.ensures.1 in
    rw p.1 (record {
      next = tt;
      leads = tt;
      cut = λ s st. rw c.requires.call (once_cut f s c.args.t.0 c.args.o c.args.h c.args.v (used s st));
    })

pub returns-clause-goes : goal.returns-clause-goes
returns-clause-goes g c =
    let f = g.P.Program.functions in
    let o : SFits w64 c.args.o = search rules in
    let h : SFits w64 c.args.h = search rules in
    let v : SFits w64 c.args.v = search rules in
    let used = simp to_z-of_z at c.in_ok-answer.ensures in
    let a = c.in_ok-answer.answer in
    quiet_goes _ c.args.w.now c.use_control.new.w (λ s. effect_of (once f s c.args.t.0 c.args.o c.args.h c.args.v).begin s) (Answered c.args.t c.args.call.now a) a _ _ _ c.done.result
    (λ s st. rw c.requires.call (once_begun f s c.args.t.0 c.args.o c.args.h c.args.v a (used.verdict s st)))
    used.goes.leads
    (rw c.requires.call (quiet_once c.args.t c.args.o c.args.h c.args.v a))
    c.done.ensures.next c.done.ensures.ok c.done.ensures.err

pub returns-clause-frame : goal.returns-clause-frame
returns-clause-frame g c = done_frame c.args.w.now c.use_control.new.w c.args.t.0 c.done.result _ c.done.ensures.next c.in_ok-answer.ensures.frame
