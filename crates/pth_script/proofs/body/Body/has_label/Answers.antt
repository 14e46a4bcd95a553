use Rattle.std.proofs.Common.{◌∙◌, ap, w64, int_cmp}
use Rattle.std.specs.BTreeMap.{get}
use Rattle.std.proofs.lemmas.Int.{to_z-of_z}
use Rattle.pth_script.proofs.BodyLabels.{looked_up}
use Rattle.pth_script.proofs.body.Body.has_label.Goals as goal

pub returns : goal.returns
returns c =
    let found = c.get.ensures.value ∙ ap (get int_cmp c.self.inside.places) (to_z-of_z w64 c.args.label c.ranges.label) in
    rw (← c.self.view_is) (c.is_some.ensures ∙ looked_up c.get.result c.self.inside.lines.items c.self.inside.places c.args.label c.self.invariant found)
