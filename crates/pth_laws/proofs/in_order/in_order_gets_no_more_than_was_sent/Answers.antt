use Rattle.pth_laws.proofs.Traffic.{got_as_sent}
use Rattle.pth_laws.proofs.in_order.in_order_gets_no_more_than_was_sent.Goals as goal

pub returns : goal.returns
returns c = got_as_sent
