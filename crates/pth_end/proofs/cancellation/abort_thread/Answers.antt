use Rattle.std.proofs.Common.{◌∙◌, false}
use Rattle.std.proofs.lemmas.Result.{on_ok_weaker}
use Rattle.pth_threads.specs.declared.entry.Change.TheVariants as change
use Rattle.pth_model.specs.Cancellation.{canceled_by_other}
use Rattle.pth_model.specs.Changes.{sets}
use Rattle.pth_model.specs.Transition.{changes, ◌and◌}
use Rattle.pth_world.proofs.Stores.{alive_known}
use Rattle.pth_world.specs.Shows.{StandsFor}
use Rattle.pth_end.proofs.Canceling.{change_leads, ends_then}
use Rattle.pth_end.proofs.Chains.{goes_then}
use Rattle.pth_end.proofs.cancellation.abort_thread.Goals as goal

pub set_field-requires-clause-known : goal.set_field-requires-clause-known
set_field-requires-clause-known g c = alive_known c.args.w.now.threads c.args.t.0 c.requires.alive

pub set_field-requires-2-clause-known : goal.set_field-requires-2-clause-known
set_field-requires-2-clause-known g c = alive_known c.set_field.new.self.threads c.args.t.0 (c.set_field.ensures.alive c.requires.alive)

pub cancel_from_outside-requires-clause-alive : goal.cancel_from_outside-requires-clause-alive
cancel_from_outside-requires-clause-alive g c = c.set_field-2.ensures.alive (c.set_field.ensures.alive c.requires.alive)

pub returns-clause-goes : goal.returns-clause-goes
returns-clause-goes g c =
    let both = sets c.args.t.0 (change.Joinable false) and sets c.args.t.0 (change.Cancel 3) in
    goes_then (StandsFor c.args.w.now) (changes both) (canceled_by_other g.P.Program.functions c.args.t.0) c.set_field-2.new.self c.cancel_from_outside.new.w _ _ _ c.cancel_from_outside.result
    (λ s st. change_leads c.args.w.now c.set_field-2.new.self both (λ k sh. c.set_field-2.ensures.shows _ (c.set_field.ensures.shows k sh)) (c.set_field-2.ensures.store ∙ c.set_field.ensures.store) s _ st) c.cancel_from_outside.ensures.goes

pub returns-clause-frame : goal.returns-clause-frame
returns-clause-frame g c = on_ok_weaker c.cancel_from_outside.result (λ ends.
    ends_then c.args.w.now c.set_field.new.self c.cancel_from_outside.new.w c.args.t.0 c.set_field.ensures.frame
    (ends_then c.set_field.new.self c.set_field-2.new.self c.cancel_from_outside.new.w c.args.t.0 c.set_field-2.ensures.frame ends)) c.cancel_from_outside.ensures.frame
