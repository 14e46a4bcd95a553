use Rattle.pth_snapshot.proofs.Rows.{no_lines, one_more}
use Rattle.pth_snapshot.proofs.mutex_row.add_mutexes.Goals as goal

pub loop-m-init : goal.loop-m-init
loop-m-init g c = no_lines c.args.out.now _

pub loop-m-preserved : goal.loop-m-preserved
loop-m-preserved g c = one_more c.args.out.now c.loop-m.out c.add_mutex.new.out _ c.loop-m.m c.loop-m.invariant c.in_ok-add_mutex.ensures
