use Rattle.std.proofs.Common.{arith}
use Rattle.pth_numbered.specs.Numbered.{count}
use Rattle.pth_numbered.proofs.numbered.Numbered.count.Goals as goal

pub overflow_cast-result : goal.overflow_cast-result
unfolding count
overflow_cast-result g c = omega (arith, c.self.invariant.few, c.self.invariant.most, c.len.ensures)

pub returns-clause-value : goal.returns-clause-value
unfolding count
returns-clause-value g c = rw (← c.self.view_is) c.len.ensures
