use Rattle.std.proofs.Common.{ap, arith}
use Rattle.pth_threads.specs.Attributes.{AttrsOf}
use Rattle.pth_world.proofs.SettingValues.{objects_frame}
use Rattle.pth_end.proofs.Handled.{if_answered}
use Rattle.pth_world.specs.Numbering.{Object, one_of}
use Rattle.pth_calls.proofs.attribute_handling.attr_new.Goals as goal

pub create-requires : goal.create-requires
create-requires g c = rw c.attrs_mut.ensures.value (let few = c.requires.few Object in omega arith)

pub returns-in-Ok-clause-frame : goal.returns-in-Ok-clause-frame
returns-in-Ok-clause-frame g c =
    let makes = rw c.attrs_mut.ensures.value at c.in-Ok.ensures.makes in
    let made = makes.made in
    objects_frame c.args.w.now c.create.new.self (one_of Object) c.requires.whole makes.top (omega arith)

pub returns-in-Err-clause-frame : goal.returns-in-Err-clause-frame
returns-in-Err-clause-frame g c =
    let refused = rw c.attrs_mut.ensures.value at c.in-Err.ensures.refused in
    let made = ap (λ (y : AttrsOf). y.objects.made) refused in
    if_answered c.refused.result (objects_frame c.args.w.now c.create.new.self (one_of Object) c.requires.whole (ap (λ (y : AttrsOf). y.top) refused) (omega arith))
