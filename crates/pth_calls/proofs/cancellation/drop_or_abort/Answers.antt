use Rattle.std.proofs.Common.{ap, refl}
use Rattle.pth_model.specs.Changes.{removes}
use Rattle.pth_world.proofs.Frames.{moved_frame}
use Rattle.pth_world.specs.Numbering.{no_numbers}
use Rattle.pth_world.specs.World.{WorldOf}
use Rattle.pth_end.proofs.Canceling.{change_leads}
use Rattle.pth_calls.proofs.cancellation.drop_or_abort.Goals as goal

pub returns-then-dead-clause-goes : goal.returns-then-dead-clause-goes
returns-then-dead-clause-goes g c =
    rw c.if-dead.true (record {
      leads = λ s st. change_leads c.args.w.now c.remove.new.self (removes c.args.t.0) c.remove.ensures.shows (ap (λ (z : WorldOf _ _ _). z.store) c.remove.ensures.moves.same) s _ st;
      cut = tt;
    })

pub returns-then-dead-clause-frame : goal.returns-then-dead-clause-frame
returns-then-dead-clause-frame g c = rw c.if-dead.true (moved_frame no_numbers c.args.w.now c.remove.new.self _ _ refl c.remove.ensures.moves)

pub returns-clause-goes : goal.returns-clause-goes
returns-clause-goes g c = rw c.if-dead.false c.abort_thread.ensures.goes

pub returns-clause-frame : goal.returns-clause-frame
returns-clause-frame g c = rw c.if-dead.false c.abort_thread.ensures.frame
