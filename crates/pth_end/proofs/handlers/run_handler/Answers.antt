use Rattle.std.proofs.Common.{SFits, w64, to_z-of_z, rules}
use Rattle.std.proofs.lemmas.Result.{on_ok_weaker}
use Rattle.pth_laws.proofs.Consistent.{consistent_handled}
use Rattle.pth_model.specs.Acts.{handled}
use Rattle.pth_world.specs.StateOf.{state_of}
use Rattle.pth_end.proofs.Wholes.{led_whole}
use Rattle.pth_end.proofs.handlers.run_handler.Goals as goal

pub returns-clause-goes : goal.returns-clause-goes
returns-clause-goes g c =
    let x : SFits w64 c.args.arg = search rules in
    simp to_z-of_z at c.make_acts.ensures.goes

pub returns-clause-keeps : goal.returns-clause-keeps
returns-clause-keeps g c =
    let f = g.P.Program.functions in
    let w = c.args.w.now in
    led_whole w c.make_acts.new.w (handled f c.args.t.0 c.args.h c.args.arg) _ _ c.make_acts.result c.requires.whole (on_ok_weaker c.make_acts.result (λ handled. handled.whole) c.make_acts.ensures.handled) (returns-clause-goes g c)
    (λ waits. consistent_handled f c.args.t.0 c.args.h c.args.arg (state_of w) waits)
