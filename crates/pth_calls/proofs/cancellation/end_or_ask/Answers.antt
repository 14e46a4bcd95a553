use Rattle.std.proofs.Common.{◌∙◌, sym, true}
use Rattle.pth_threads.specs.declared.entry.Change.TheVariants as change
use Rattle.pth_model.specs.Changes.{sets}
use Rattle.pth_world.proofs.Stores.{alive_known}
use Rattle.pth_end.proofs.Canceling.{change_leads}
use Rattle.pth_calls.proofs.cancellation.end_or_ask.Goals as goal

pub set_field-requires-clause-known : goal.set_field-requires-clause-known
set_field-requires-clause-known g c = alive_known c.args.w.now.threads c.args.t.0 c.requires.alive

pub returns-then-is_asynchronous-clause-goes : goal.returns-then-is_asynchronous-clause-goes
returns-then-is_asynchronous-clause-goes g c = rw (sym c.is_asynchronous.ensures ∙ c.if-is_asynchronous.true) c.cancel_from_outside.ensures.goes

pub returns-clause-goes : goal.returns-clause-goes
returns-clause-goes g c =
    rw (sym c.is_asynchronous.ensures ∙ c.if-is_asynchronous.false) (record {
      leads = λ s st. change_leads c.args.w.now c.set_field.new.self (sets c.args.t.0 (change.Request true)) c.set_field.ensures.shows c.set_field.ensures.store s _ st;
      cut = tt;
    })
