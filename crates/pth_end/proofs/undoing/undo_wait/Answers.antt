use Rattle.std.proofs.Common.{◌∙◌, ap}
use Rattle.std.proofs.lemmas.Result.{err_from_is_err_and}
use Rattle.pth_world.proofs.Stores.{alive_known}
use Rattle.pth_world.specs.World.{WorldOf}
use Rattle.pth_end.proofs.WaitUndone.{cut_undoing, undone_frame, undone_leads}
use Rattle.pth_end.proofs.undoing.undo_wait.Goals as goal

pub returns-in_err-withdraw_awaited-clause-goes : goal.returns-in_err-withdraw_awaited-clause-goes
returns-in_err-withdraw_awaited-clause-goes g c =
    let p = err_from_is_err_and c.from_residual.result c.from_residual.ensures.1 in
    rw p.1 (record {
      leads = tt;
      cut = λ s st. cut_undoing c.args.t.0 c.awaited-awaited.result s _ _ (c.awaited-awaited.ensures.awaited s.control st.control) (c.in_err-withdraw_awaited.ensures.goes.cut s st);
    })

pub returns-clause-goes : goal.returns-clause-goes
returns-clause-goes g c = record {
  leads = λ s st.
      undone_leads c.withdraw_awaited.new.w c.hand_on_seats.new.w c.unblock.new.self c.args.t.0 c.awaited-awaited.result s _ _ (c.awaited-awaited.ensures.awaited s.control st.control) (c.in_ok-withdraw_awaited.ensures.goes.leads s st) c.hand_on_seats.ensures.shows c.unblock.ensures.shows
      (ap (λ (z : WorldOf _ _ _). z.store) c.unblock.ensures.same ∙ ap (λ (z : WorldOf _ _ _). z.store) c.hand_on_seats.ensures.same);
  cut = tt;
}

pub returns-clause-frame : goal.returns-clause-frame
returns-clause-frame g c = undone_frame c.args.w.now c.withdraw_awaited.new.w c.hand_on_seats.new.w c.unblock.new.self c.requires.whole c.withdraw_awaited.ensures.same c.hand_on_seats.ensures.same c.unblock.ensures.whole c.unblock.ensures.made c.unblock.ensures.same

pub returns-clause-records : goal.returns-clause-records
returns-clause-records g c = ap (λ (z : WorldOf _ _ _). z.threads.records) c.unblock.ensures.same ∙ ap (λ (z : WorldOf _ _ _). z.threads.records) c.hand_on_seats.ensures.same ∙ ap (λ (z : WorldOf _ _ _). z.threads.records) c.withdraw_awaited.ensures.same

pub unblock-requires-clause-known : goal.unblock-requires-clause-known
unblock-requires-clause-known g c = rw (ap (λ (z : WorldOf _ _ _). z.threads.records) c.hand_on_seats.ensures.same ∙ ap (λ (z : WorldOf _ _ _). z.threads.records) c.withdraw_awaited.ensures.same) (alive_known c.args.w.now.threads c.args.t.0 c.requires.alive)
