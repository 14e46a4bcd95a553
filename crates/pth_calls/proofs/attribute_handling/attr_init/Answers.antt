use Rattle.pth_world.proofs.Events.{on_ok}
use Rattle.pth_calls.proofs.Framing.{kept_objects_frame}
use Rattle.pth_calls.proofs.attribute_handling.attr_init.Goals as goal

pub returns-clause-frame : goal.returns-clause-frame
returns-clause-frame g c =
    let changes = rw c.attrs_mut.ensures.value at c.init.ensures.changes in
    let refused = rw c.attrs_mut.ensures.value at c.init.ensures.refused in
    kept_objects_frame c.args.w.now c.requires.whole c.init.new.self c.init.result (on_ok c.init.result changes (λ x. (x.made, x.top))) refused
