use Rattle.pth_audit.proofs.Following.{starts}
use Rattle.pth_audit.proofs.endings.Endings.new.Goals as goal

pub returns : goal.returns
returns c = record {
  ended = c.new.ensures.ended;
  canceled = c.new.ensures.canceled;
  pending = c.new-2.ensures;
  keys = c.new-3.ensures.keys;
  ordered = c.new-3.ensures.ordered;
  values = c.new-3.ensures.values;
  block = λ t. starts t _ (c.new-4.ensures t);
}
