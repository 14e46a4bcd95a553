use Rattle.pth_laws.proofs.OutOfOrder.{got_once, oldest_first, same_value, none_lost, none_killed, all_counted}
use Rattle.pth_laws.proofs.in_order.in_order_refuses.Goals as goal

pub returns-clause-twice : goal.returns-clause-twice
returns-clause-twice c = got_once

pub returns-clause-younger : goal.returns-clause-younger
returns-clause-younger c = oldest_first

pub returns-clause-value : goal.returns-clause-value
returns-clause-value c = same_value

pub returns-clause-lost : goal.returns-clause-lost
returns-clause-lost c = none_lost

pub returns-clause-killed : goal.returns-clause-killed
returns-clause-killed c = none_killed

pub returns-clause-count : goal.returns-clause-count
returns-clause-count c = all_counted
