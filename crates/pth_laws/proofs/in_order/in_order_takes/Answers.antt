use Rattle.pth_laws.proofs.OutOfOrder.{replied_in_order, none_without_a_port, back_once, seven_puts_nothing, none_to_port_0, apart_below_zero}
use Rattle.pth_laws.proofs.in_order.in_order_takes.Goals as goal

pub returns-clause-request : goal.returns-clause-request
returns-clause-request c = replied_in_order

pub returns-clause-nowhere : goal.returns-clause-nowhere
returns-clause-nowhere c = none_without_a_port

pub returns-clause-once : goal.returns-clause-once
returns-clause-once c = back_once

pub returns-clause-seven : goal.returns-clause-seven
returns-clause-seven c = seven_puts_nothing

pub returns-clause-zero : goal.returns-clause-zero
returns-clause-zero c = none_to_port_0

pub returns-clause-below : goal.returns-clause-below
returns-clause-below c = apart_below_zero
