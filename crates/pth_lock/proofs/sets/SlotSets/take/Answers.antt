use Rattle.std.proofs.Common.{◌<◌, ◌∙◌, length, ap, arith}
use mathlib.Core.Path.{fun_ext}
use Rattle.pth_base.specs.Table.{put}
use Rattle.pth_lock.specs.Sets.{is_in_set}
use Rattle.pth_lock.proofs.Bits.{contains-zero}
use Rattle.pth_lock.proofs.Sweeps.{sets_set}
use Rattle.pth_lock.proofs.sets.SlotSets.take.Goals as goal

pub returns-clause-objects : goal.returns-clause-objects
returns-clause-objects c =
    let many = c.self.invariant in
    let low : c.args.s.0 < length c.self.inside.sets.items = omega (arith, c.requires) in
    rw (← c.self.view_is) (sets_set c.self.inside.sets.items c.args.s.0 0 low ∙ ap (put (is_in_set c.self.inside.sets.items) c.args.s.0) (fun_ext contains-zero))
