use Rattle.std.proofs.Common.{◌∙◌, Ok, pos, negsuc, sym, refl, rules}
use Rattle.std.proofs.lemmas.Result.{err_from_is_err_and}
use Rattle.pth_base.specs.declared.answer.Answer.TheVariants.{Int}
use Rattle.pth_base.specs.declared.mark.Mark.TheVariants.{Answered}
use Rattle.pth_world.proofs.Frames.{still_frame}
use Rattle.pth_end.proofs.Framing.{done_frame, said_goes}
use Rattle.pth_waits.proofs.Canceling.{point_ends, point_says, quiet_point}
use Rattle.pth_world.specs.Numbering.{no_numbers}
use Rattle.pth_model.specs.declared.next.Next.TheVariants.{Ended}
use Rattle.pth_world.specs.Frame.{runs_after, yields_after}
use Rattle.pth_end.proofs.Keeping.{begun_goes_whole}
use Rattle.pth_waits.proofs.cancellation.cancel_point.Goals as goal

pub returns-in_err-cancel_within-clause-goes : goal.returns-in_err-cancel_within-clause-goes
returns-in_err-cancel_within-clause-goes g c =
    let p = err_from_is_err_and c.from_residual.result c.from_residual.ensures.1 in
    rw p.1 (record {
      next = tt;
      leads = tt;
      cut = λ s st. rw (c.requires.call, point_ends g.P.Program.functions s c.args.t.0 (sym (c.is_asked.ensures s.control st.control) ∙ c.if-is_asked.true)) (c.in_err-cancel_within.ensures.goes.cut s st);
    })

pub returns-then-is_asked-clause-goes : goal.returns-then-is_asked-clause-goes
returns-then-is_asked-clause-goes g c = record {
  next = λ s st. rw (c.requires.call, point_ends g.P.Program.functions s c.args.t.0 (sym (c.is_asked.ensures s.control st.control) ∙ c.if-is_asked.true)) refl;
  leads = λ s st. rw (c.requires.call, point_ends g.P.Program.functions s c.args.t.0 (sym (c.is_asked.ensures s.control st.control) ∙ c.if-is_asked.true)) (c.in_ok-cancel_within.ensures.goes.leads s st);
  cut = tt;
}

pub returns-clause-goes : goal.returns-clause-goes
returns-clause-goes g c =
    said_goes _ c.args.w.now (Answered c.args.t c.args.call.now (Int (pos 1))) (Int (pos 1)) _ _ c.done.result
    (λ s st. rw c.requires.call (point_says g.P.Program.functions s c.args.t.0 (sym (c.is_asked.ensures s.control st.control) ∙ c.if-is_asked.false)))
    (rw c.requires.call (quiet_point c.args.t))
    c.done.ensures.next c.done.ensures.ok c.done.ensures.err

pub returns-clause-frame : goal.returns-clause-frame
returns-clause-frame g c = done_frame c.args.w.now c.args.w.now c.args.t.0 c.done.result _ c.done.ensures.next (still_frame no_numbers c.args.w.now _ c.requires.runs c.requires.whole)

pub returns-then-is_asked-clause-keeps : goal.returns-then-is_asked-clause-keeps
returns-then-is_asked-clause-keeps g c =
    begun_goes_whole g.P.Program.functions c.args.w.now c.cancel_within.new.w c.args.t.0 c.requires.whole c.requires.runs c.args.call.now no_numbers (runs_after c.args.t.0) yields_after _ _ (Ok (Ended (negsuc 0))) (search rules) (returns-then-is_asked-clause-goes g c)

pub returns-clause-keeps : goal.returns-clause-keeps
returns-clause-keeps g c =
    begun_goes_whole g.P.Program.functions c.args.w.now c.args.w.now c.args.t.0 c.requires.whole c.requires.runs c.args.call.now no_numbers (runs_after c.args.t.0) yields_after _ _ c.done.result (returns-clause-frame g c) (returns-clause-goes g c)
