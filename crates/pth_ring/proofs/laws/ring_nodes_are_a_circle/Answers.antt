use Rattle.pth_ring.proofs.Neighbours.{node-next, node-alone, node-prev, node-none}
use Rattle.pth_ring.proofs.laws.ring_nodes_are_a_circle.Goals as goal

pub returns-clause-next : goal.returns-clause-next
returns-clause-next c = λ e n rest x k is. node-next x k e n rest is

pub returns-clause-alone : goal.returns-clause-alone
returns-clause-alone c = λ e x k is. node-alone x k e is

pub returns-clause-prev : goal.returns-clause-prev
returns-clause-prev c = λ e n x k h. node-prev x k e n h

pub returns-clause-none : goal.returns-clause-none
returns-clause-none c = λ e x k. node-none x k e
