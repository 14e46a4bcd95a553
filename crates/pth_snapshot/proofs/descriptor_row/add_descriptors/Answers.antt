use Rattle.pth_snapshot.proofs.Rows.{no_lines, one_more}
use Rattle.pth_snapshot.proofs.descriptor_row.add_descriptors.Goals as goal

pub loop-f-init : goal.loop-f-init
loop-f-init c = no_lines c.args.out.now _

pub loop-f-preserved : goal.loop-f-preserved
loop-f-preserved c = one_more c.args.out.now c.loop-f.out c.add_descriptor.new.out _ c.loop-f.f c.loop-f.invariant c.in_ok-add_descriptor.ensures
