use Rattle.std.proofs.Common.{Some, false}
use Rattle.std.proofs.lemmas.Result.{on_ok_weaker, on_err_weaker}
use Rattle.pth_base.proofs.Cuts.{cut_none}
use Rattle.pth_base.specs.declared.mark.Mark.TheVariants.{Canceled}
use Rattle.pth_threads.specs.declared.entry.Change.TheVariants as change
use Rattle.pth_model.specs.Changes.{sets}
use Rattle.pth_model.specs.Transition.{controlled}
use Rattle.pth_world.proofs.Moves.{runner_alive}
use Rattle.pth_world.proofs.Stores.{alive_known}
use Rattle.pth_world.proofs.Telling.{quiet_leads}
use Rattle.pth_end.proofs.Canceling.{quiet_canceled, change_stands}
use Rattle.pth_end.proofs.cancellation.take_request.Goals as goal

pub set_field-requires-clause-known : goal.set_field-requires-clause-known
set_field-requires-clause-known g c = alive_known c.args.w.now.threads c.args.t.0 (runner_alive c.args.w.now c.args.t.0 c.requires.whole c.requires.runs)

pub returns-clause-goes : goal.returns-clause-goes
returns-clause-goes g c = record {
  leads = on_ok_weaker c.push.result (λ told s st.
      let ask = sets c.args.t.0 (change.Request false) in
      let asked = change_stands c.args.w.now c.set_field.new.self ask s (c.set_field.ensures.shows s.control st.control) c.set_field.ensures.store st in
      let first = quiet_leads c.set_field.new.self (controlled ask s) (Canceled c.args.t (Some c.args.call)) _ _ (quiet_canceled c.args.t (Some c.args.call)) asked told in
      record { stands = first.stands; tells = first.tells }) c.push.ensures.ok;
  cut = on_err_weaker c.push.result (λ same s st. cut_none _ _ _ same) c.push.ensures.err;
}

pub returns-clause-alive : goal.returns-clause-alive
returns-clause-alive g c = c.set_field.ensures.alive (runner_alive c.args.w.now c.args.t.0 c.requires.whole c.requires.runs)

pub returns-clause-frame : goal.returns-clause-frame
returns-clause-frame g c = c.set_field.ensures.frame
