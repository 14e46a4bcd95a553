use Rattle.pth_laws.proofs.Traffic.{as_sent, queue_left}
use Rattle.pth_laws.proofs.in_order.in_order_is_said.Goals as goal

pub returns-clause-waiting : goal.returns-clause-waiting
returns-clause-waiting c = queue_left

pub returns-clause-same : goal.returns-clause-same
returns-clause-same c = as_sent
